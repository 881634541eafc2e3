-- The bytes of a row, written part by part.
use mathlib.Core.Path.{◌≡◌, refl, sym, ap, ap₂, ◌∙◌}
use mathlib.Core.List.{List, [], ◌∷◌, ◌++◌}
use Prim.Native.Nat.{ℕ, zero, suc, min, ◌+◌, ◌-◌, ◌*◌, ◌/◌, ◌%◌, ◌<◌, ◌≤◌}
use native.Mathlib.Nat.{le_of_suc-le-suc, add-mul-mod_self_left, add-mul-div_left, mul-suc}
use native.Mathlib.Numerals.{add-one, sub-one}
use native.Mathlib.Omega.{arith}
use lib.ListN.{length, take, drop, set, replicate, length-replicate, length-append, length-drop}
use lib.Seq.{sets, take_all, length-take-le}
use Rattle.rules.specs.Bytes.{Bytes}
use Rattle.rules.specs.Preorder.{Deep}
use Rattle.rules.specs.Layout.{le, field, FlatRow, row_size, row_bytes}
use Rattle.rules.specs.Decode.{read_row}
use Rattle.rules.proofs.LayoutLaws.{length_row}
use Rattle.codec.specs.Laid.{Laid}
use Rattle.codec.proofs.Writers.{sets_past, laid_then, laid_as}
use Rattle.layout.specs.RowBytes.{row_of, row_start, row_end, valued_row, reindexed_row, WholeRow, RowLaid}

-- ---- zero bytes
-- a loop that stores them up to the place n: what is left to store gives the same end
pub zeros_step : (out goal : List ℕ) (i n : ℕ) → i < n → sets out i (replicate (n - i) 0) ≡ goal → sets (set out i 0) (i + 1) (replicate (n - (i + 1)) 0) ≡ goal
zeros_step out goal i n h inv =
    let e : n - i ≡ suc (n - (i + 1)) = omega arith in
    rw add-one (rw (e, add-one) at inv)

-- .. and nothing is left where it, or the list, is at its end
pub zeros_laid : (out out' : List ℕ) (at n i : ℕ) → min (at + n) (length out') ≤ i
    → sets out' i (replicate (at + n - i) 0) ≡ sets out at (replicate (at + n - at) 0) → Laid (replicate n 0) out at (at + n) out'
zeros_laid out out' at n i h inv =
    let e : at + n - at ≡ n = omega arith in
    record { next = ap (λ (k : ℕ). at + k) (sym (length-replicate n 0)); stored = by (at + n - i) refl ∙ ap (λ (k : ℕ). sets out at (replicate k 0)) e }
  where
    by : (k : ℕ) → at + n - i ≡ k → out' ≡ sets out at (replicate (at + n - at) 0)
    by zero e = rw e at inv
    by (suc k) e = sym (sets_past (replicate (at + n - i) 0) out' i (omega arith)) ∙ inv

-- ---- products
-- one record more
pub size_more : (size n : ℕ) → (n ≡ 0 → ⊥) → size * n ≡ size + size * (n - 1)
size_more size zero h = absurd (h refl)
size_more size (suc n) h = rw sub-one (omega (arith, mul-suc size n))

-- ---- the start
le_cut : (k x y : ℕ) → le k (x / 256 + y) ≡ le k (x / 256) → le (suc k) (x + 256 * y) ≡ le (suc k) x
le_cut k x y e = ap₂ (λ (b : ℕ) (l : Bytes). b ∷ l) (add-mul-mod_self_left x 256 y) (ap (le k) (add-mul-div_left x y {y = 256} (omega arith)) ∙ e)

le_low : (n : ℕ) → le 4 n ≡ le 4 (n % 4294967296)
le_low n =
    let m : ℕ = n % 4294967296 in
    let q : ℕ = n / 4294967296 in
    let e : n ≡ m + 256 * (256 * (256 * (256 * q))) = omega arith in
    ap (le 4) e ∙ le_cut 3 m (256 * (256 * (256 * q))) (le_cut 2 (m / 256) (256 * (256 * q)) (le_cut 1 (m / 256 / 256) (256 * q) (le_cut 0 (m / 256 / 256 / 256) q refl)))

-- four bytes hold the low part of a serial
pub start_is : (sort depth index serial : ℕ) → row_start sort depth index serial ≡ (((sort ∷ []) ++ (depth ∷ [])) ++ le 2 index) ++ le 4 (serial % 4294967296)
unfolding row_start
start_is sort depth index serial = ap (λ (l : Bytes). sort ∷ depth ∷ le 2 index ++ l) (le_low serial)

-- ---- the end
fill_is : (w : ℕ) (v : Bytes) → length v ≤ w → field w v ++ (0 ∷ 0 ∷ []) ≡ v ++ replicate (2 + w - length v) 0
fill_is zero [] h = refl
fill_is zero (x ∷ v) h = absurd (omega arith)
fill_is (suc w) [] h = let e : 2 + suc w - 0 ≡ suc (2 + w - 0) = omega arith in rw e (ap (λ (l : Bytes). 0 ∷ l) (fill_is w [] (omega arith)))
fill_is (suc w) (x ∷ v) h = let e : 2 + suc w - suc (length v) ≡ 2 + w - length v = omega arith in rw e (ap (λ (l : Bytes). x ∷ l) (fill_is w v (le_of_suc-le-suc h)))

pub end_is : (w : ℕ) (v : Bytes) → length v ≤ w → row_end w v ≡ (((length v ∷ []) ++ (0 ∷ [])) ++ v) ++ replicate (2 + w - length v) 0
unfolding row_end
end_is w v h = ap (λ (l : Bytes). length v ∷ 0 ∷ l) (fill_is w v h)

-- ---- a row
pub after_start : (sort depth index serial : ℕ) {at r : ℕ} {out out' : Bytes} → Laid (row_start sort depth index serial) out at r out' → r ≡ at + 8
unfolding row_start
after_start sort depth index serial p = p.next

laid_row_lem : {w : ℕ} {x : Deep FlatRow} {out : Bytes} {at r : ℕ} {out' : Bytes} → Laid (row_bytes w x) out at r out' → RowLaid w x out at r out'
laid_row_lem {w} {x} p = record { laid = p; next = omega (arith, p.next, length_row w x) }

pub row_laid : {w sort depth index serial : ℕ} {value : Bytes} {at a r : ℕ} {out out₁ out' : Bytes} → Laid (row_start sort depth index serial) out at a out₁ → Laid (row_end w value) out₁ a r out'
    → RowLaid w (row_of sort depth index serial value) out at r out'
unfolding row_start row_end
row_laid {w} {sort} {depth} {index} {serial} {value} p q = laid_row_lem {w = w} {x = row_of sort depth index serial value} (laid_then p q)

-- ---- an old row
valued_bytes : (w index : ℕ) (value row : Bytes) → row_bytes w (read_row row) ≡ row → row_bytes w (valued_row index value row) ≡ ((take 2 row ++ le 2 index) ++ take 4 (drop 4 row)) ++ row_end w value
unfolding row_end
valued_bytes w index value row e = ap (λ (s : Bytes). ((take 2 s ++ le 2 index) ++ take 4 (drop 4 s)) ++ row_end w value) e

module _ {w : ℕ} {row : Bytes} (o : WholeRow w row) where
  pub row_length_lem : length row ≡ row_size w
  row_length_lem = ap length (sym o.written) ∙ length_row w (read_row row)

  pub after_index : {at r : ℕ} {out out' : Bytes} → (index : ℕ) → Laid (take 2 row ++ le 2 index) out at r out' → r ≡ at + 4
  after_index index p = omega (arith, p.next, length-append (take 2 row) (le 2 index), length-take-le 2 row (omega (arith, row_length_lem)))

  pub part_length : (k n : ℕ) → k + n ≤ row_size w → length (take n (drop k row)) ≡ n
  part_length k n h = length-take-le n (drop k row) (omega (arith, length-drop k row, row_length_lem))

  -- with its own index it is written whole
  pub kept_laid : (index : ℕ) {at r : ℕ} {out out' : Bytes} → (read_row row).row.index ≡ index → Laid row out at r out' → RowLaid w (reindexed_row index row) out at r out'
  kept_laid index e q = laid_row_lem {w = w} {x = reindexed_row index row} (laid_as (ap (λ (k : ℕ). row_bytes w (reindexed_row k row)) (sym e) ∙ o.written) q)

  module _ (index : ℕ) {at a : ℕ} {out out₁ : Bytes} (p : Laid (take 2 row ++ le 2 index) out at a out₁) where
    pub moved_laid : {r : ℕ} {out' : Bytes} → Laid (take (12 + w - 4) (drop 4 row)) out₁ a r out' → RowLaid w (reindexed_row index row) out at r out'
    moved_laid q = laid_row_lem {w = w} {x = reindexed_row index row} (laid_as bytes (laid_then p q))
      where
        bytes : row_bytes w (reindexed_row index row) ≡ (take 2 row ++ le 2 index) ++ take (12 + w - 4) (drop 4 row)
        bytes =
            ap (λ (s : Bytes). (take 2 s ++ le 2 index) ++ drop 4 s) o.written
            ∙ ap (λ (s : Bytes). (take 2 row ++ le 2 index) ++ s) (sym (take_all (12 + w - 4) (drop 4 row) (omega (arith, length-drop 4 row, row_length_lem))))

    pub valued_laid : (value : Bytes) {b r : ℕ} {out₂ out' : Bytes} → Laid (take 4 (drop 4 row)) out₁ a b out₂ → Laid (row_end w value) out₂ b r out'
        → RowLaid w (valued_row index value row) out at r out'
    valued_laid value q s = laid_row_lem {w = w} {x = valued_row index value row} (laid_as bytes (laid_then (laid_then p q) s))
      where
        bytes : row_bytes w (valued_row index value row) ≡ ((take 2 row ++ le 2 index) ++ take 4 (drop 4 row)) ++ row_end w value
        bytes = valued_bytes w index value row o.written
