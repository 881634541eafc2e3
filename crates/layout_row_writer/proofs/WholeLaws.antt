-- A row written over a buffer of just its size, and that buffer as a part of another.
use mathlib.Core.Path.{◌≡◌, refl, sym, ap, ◌∙◌}
use mathlib.Core.List.{[], ◌∷◌, ◌++◌, append-nil, append_assoc}
use Prim.Native.Nat.{ℕ, zero, suc, ◌+◌, ◌-◌, ◌<◌, ◌≤◌}
use native.Mathlib.Nat.{le_of_suc-le-suc}
use native.Mathlib.Omega.{arith}
use lib.ListN.{length, take, drop, set, replicate, drop_of_length-le}
use lib.Seq.{sets, sets-eq, set-set, set_comm, drop-drop}
use Rattle.rules.specs.Bytes.{Bytes}
use Rattle.rules.specs.Preorder.{Deep}
use Rattle.rules.specs.Layout.{FlatRow, row_size, row_bytes}
use Rattle.rules.proofs.LayoutLaws.{length_row}
use Rattle.codec.specs.Laid.{Laid}
use Rattle.codec.proofs.Writers.{laid_then}
use Rattle.layout.specs.RowBytes.{row_of, row_start, row_end, RowLaid}
use Rattle.layout.proofs.RowLaws.{end_is}

-- ---- stores over others
-- a store before a run of them may come first
set_first : (a l : Bytes) (i j y : ℕ) → i < j → set (sets l j a) i y ≡ sets (set l i y) j a
set_first [] l i j y h = refl
set_first (x ∷ a) l i j y h =
    let apart : j ≡ i → ⊥ = λ e. omega arith in
    set_first a (set l j x) i (suc j) y (omega arith) ∙ ap (λ (s : Bytes). sets s (suc j) a) (set_comm l j i x y apart)

-- zeros, and bytes written over the first of them
over_zeros : (v l : Bytes) (i n : ℕ) → length v ≤ n → sets (sets l i (replicate n 0)) i v ≡ sets l i (v ++ replicate (n - length v) 0)
over_zeros [] l i n h = let e : n - 0 ≡ n = omega arith in rw e
over_zeros (y ∷ v) l i zero h = absurd (omega arith)
over_zeros (y ∷ v) l i (suc n) h =
    let e : suc n - suc (length v) ≡ n - length v = omega arith in
    let first : set (sets (set l i 0) (suc i) (replicate n 0)) i y ≡ sets (set l i y) (suc i) (replicate n 0) =
    set_first (replicate n 0) (set l i 0) i (suc i) y (omega arith) ∙ ap (λ (s : Bytes). sets s (suc i) (replicate n 0)) (set-set l i 0 y) in
    rw e (ap (λ (s : Bytes). sets s (suc i) v) first ∙ over_zeros v (set l i y) (suc i) n (le_of_suc-le-suc h))

-- bytes that fill a buffer
whole : (w l : Bytes) → length w ≡ length l → sets l 0 w ≡ w
whole w l e =
    let past : drop (0 + length w) l ≡ [] = drop_of_length-le l {i = 0 + length w} (omega arith) in
    sets-eq w l 0 (omega arith) ∙ ap (λ (s : Bytes). w ++ s) past ∙ append-nil w

-- a part that was lent comes back with the bytes w
part_stored : (l w : Bytes) (at : ℕ) → at + length w ≤ length l → take at l ++ (w ++ drop (length w) (drop at l)) ≡ sets l at w
part_stored l w at h =
    ap (λ (s : Bytes). take at l ++ (w ++ s)) (drop-drop (length w) at l)
    ∙ sym (sets-eq w l at h ∙ append_assoc (take at l) w (drop (at + length w) l))

-- bytes copied over the front of a buffer
pub front_laid : (w l s : Bytes) {n : ℕ} → n ≡ length w → n ≤ length l → s ≡ w → Laid w l 0 n (s ++ drop n l)
front_laid w l s {n} e h q =
    let z : 0 + length w ≡ n = omega (arith, e) in
    record { next = sym z; stored = ap (λ (x : Bytes). x ++ drop n l) q ∙ ap (λ (i : ℕ). w ++ drop i l) (sym z) ∙ sym (sets-eq w l 0 (omega (arith, e))) }

-- ---- a row
module _ (w sort depth index serial : ℕ) (value : Bytes) (small : length value ≤ w) where
  bytes_are : row_bytes w (row_of sort depth index serial value) ≡ (row_start sort depth index serial ++ (length value ∷ 0 ∷ [])) ++ (value ++ replicate (2 + w - length value) 0)
  unfolding row_start row_end
  bytes_are = ap (λ (l : Bytes). row_start sort depth index serial ++ l) (end_is w value small)

  -- the bytes before the value, zeros, and the value over the first of them, where that is the whole buffer
  pub row_whole : {row row₁ row₂ row₃ : Bytes} {r : ℕ} → length row ≡ row_size w → Laid (row_start sort depth index serial ++ (length value ∷ 0 ∷ [])) row 0 10 row₁
      → Laid (replicate (2 + w) 0) row₁ 10 r row₂ → row₃ ≡ sets row₂ 10 value → row₃ ≡ row_bytes w (row_of sort depth index serial value)
  row_whole {row} {row₁} {row₂} {row₃} size p q e =
      let x : Deep FlatRow = row_of sort depth index serial value in
      let back : Bytes = value ++ replicate (2 + w - length value) 0 in
      let behind : row₃ ≡ sets row₁ 10 back = e ∙ ap (λ (s : Bytes). sets s 10 value) q.stored ∙ over_zeros value row₁ 10 (2 + w) (omega arith) in
      let rest : Laid back row₁ 10 (10 + length back) row₃ = record { next = refl; stored = behind } in
      (laid_then p rest).stored ∙ ap (λ (s : Bytes). sets row 0 s) (sym bytes_are) ∙ whole (row_bytes w x) row (length_row w x ∙ sym size)

-- .. and that buffer is a part of another
pub row_lent : (w at : ℕ) (x : Deep FlatRow) (out ys : Bytes) → at + 12 + w ≤ length out → ys ≡ row_bytes w x
    → RowLaid w x out at (at + 12 + w) (take at out ++ (ys ++ drop (at + 12 + w - at) (drop at out)))
row_lent w at x out ys h e =
    let size : at + 12 + w - at ≡ length (row_bytes w x) = omega (arith, length_row w x) in
    record {
      laid = record { next = omega (arith, length_row w x); stored = rw (e, size) (part_stored out (row_bytes w x) at (omega (arith, length_row w x))) };
      next = omega arith;
    }
