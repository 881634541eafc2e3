-- The state after a row, by the row's sort; it fits again.
use Prim.Native.Nat.{ℕ, ◌+◌, ◌*◌, ◌≤◌}
use native.Mathlib.Omega.{arith}
use mathlib.Core.Path.{◌≡◌, refl, ap, ap₂, ◌∙◌}
use mathlib.Core.Bool.{Bool, true, false}
use lib.Dec.{eqb}
use lib.ListN.{length, set, length-set}
use lib.Seq.{get_or-set_same}
use borrow.Author.Tests.{eq-eqb, ne_eqb, eqb-true, eqb-false}
use Rattle.rules.specs.Bytes.{Bytes}
use Rattle.rules.specs.Preorder.{Deep}
use Rattle.rules.specs.Layout.{FlatRow}
use Rattle.rules.specs.Decode.{read_row}
use Rattle.row_state.specs.State.{StateFits, with_attribute, with_child, with_text, with_element, stepped_as, stepped, RoomFor}

-- ---- the state after a row, by its sort
module _ (s : Bytes) (x : Deep FlatRow) where
  pub stepped_element : x.row.sort ≡ 1 → stepped s x ≡ with_element s x.depth x.row.index
  unfolding stepped
  stepped_element h = ap (λ (b : Bool). stepped_as s x.depth x.row.index b (eqb x.row.sort 2)) (eq-eqb x.row.sort 1 h)

  pub stepped_attribute : x.row.sort ≡ 2 → stepped s x ≡ with_attribute s x.depth x.row.index
  unfolding stepped
  stepped_attribute h = ap₂ (stepped_as s x.depth x.row.index) (ne_eqb x.row.sort 1 (λ z. omega arith)) (eq-eqb x.row.sort 2 h)

  pub stepped_text : (x.row.sort ≡ 1 → ⊥) → (x.row.sort ≡ 2 → ⊥) → stepped s x ≡ with_text s x.depth x.row.index
  unfolding stepped
  stepped_text n m = ap₂ (stepped_as s x.depth x.row.index) (ne_eqb x.row.sort 1 n) (ne_eqb x.row.sort 2 m)

-- .. as the code reads it
module _ (s row : Bytes) {d i : ℕ} (ed : d ≡ (read_row row).depth) (ei : i ≡ (read_row row).row.index) {s' : Bytes} where
  pub took : (element attribute : Bool) → element ≡ eqb (read_row row).row.sort 1 → attribute ≡ eqb (read_row row).row.sort 2
      → s' ≡ stepped_as s d i element attribute → s' ≡ stepped s (read_row row)
  unfolding stepped
  took element attribute x y e = e ∙ (λ j. stepped_as s (ed j) (ei j) (x j) (y j))

-- it fits again
open_set : (t : Bytes) (k : ℕ) → length t ≡ 130 → k ≤ 64 → StateFits (set t 0 k)
open_set t k l h = record { long = length-set t 0 k ∙ l; low = rw (get_or-set_same t 0 k 0 (omega arith)) h }

pub stepped_fits : (s : Bytes) (x : Deep FlatRow) → length s ≡ 130 → RoomFor x → StateFits (stepped s x)
stepped_fits s x l room = by (eqb x.row.sort 1) refl (eqb x.row.sort 2) refl
  where
    by : (a : Bool) → eqb x.row.sort 1 ≡ a → (b : Bool) → eqb x.row.sort 2 ≡ b → StateFits (stepped s x)
    by true e b q =
        let h : x.row.sort ≡ 1 = eqb-true x.row.sort 1 e in
        rw (stepped_element s x h)
        (open_set (set (set (set (with_child s x.depth x.row.index) (2 * (x.depth + 1)) x.row.index) (2 * (x.depth + 1) + 1) 0) 1 1) (x.depth + 1)
        (simp length-set l) (omega (arith, room.element h)))
    by false e true q = rw (stepped_attribute s x (eqb-true x.row.sort 2 q)) (open_set (set s 1 (x.row.index + 2)) x.depth (simp length-set l) room.depth)
    by false e false q =
        rw (stepped_text s x (eqb-false x.row.sort 1 e) (eqb-false x.row.sort 2 q))
        (open_set (set (with_child s x.depth x.row.index) 1 0) x.depth (simp length-set l) room.depth)
