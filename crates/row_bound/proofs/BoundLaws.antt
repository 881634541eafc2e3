-- How many rows a walk adds: those of one filling at each place that may be filled.
use Prim.Native.Nat.{ℕ, zero, suc, ◌+◌, ◌-◌, ◌*◌, ◌≤◌}
use native.Mathlib.Nat.{zero-mul, mul-add, mul-le-mul}
use native.Mathlib.Omega.{arith}
use mathlib.Core.Path.{◌≡◌, refl, sym, ap, subst, ◌∙◌}
use mathlib.Core.Bool.{Bool, true, false}
use mathlib.Core.List.{List, [], ◌∷◌}
use lib.ListN.{length, length-append}
use lib.Dec.{eqb}
use Rattle.std.specs.Prelude.{Option, None, Some, IfSome}
use borrow.Author.Tests.{ne_eqb}
use Rattle.rules.specs.Bytes.{Bytes}
use Rattle.rules.specs.Preorder.{Deep}
use Rattle.rules.specs.Layout.{FlatRow, row_size}
use Rattle.rules.specs.Decode.{read_row, read_many}
use Rattle.rules.proofs.BooleanLaws.{Every, every_map, every_any}
use Rattle.layout.specs.declared.Form.{Form}
use Rattle.filling.specs.Parts.{index_form_in, values_in, members_read_at}
use Rattle.filling.proofs.DepthLaws.{length_filling}
use Rattle.row_writer.specs.Written.{is_new_row, new_in}
use Rattle.row_writer.proofs.WrittenLaws.{new_append}
use Rattle.row_writer.proofs.BlockLaws.{Old, each_old}
use Rattle.row_walk.specs.declared.Plan.{Plan}
use Rattle.row_walk.specs.declared.Open.{Open}
use Rattle.row_walk.specs.Walk.{matches, names_ground, kept_row, walked, at_first}
use Rattle.walk_writer.specs.Step.{plan_filling, WalkRows}
use Rattle.walk_writer.proofs.WalkLaws.{rows_old}
use Rattle.row_bound.specs.declared.Most.{Most}
use Rattle.row_bound.specs.Bound.{only_if, matching_in, places_in, counted_to, Adds, Bounds}
use Rattle.row_bound.proofs.WalkBound.{most_of, size_walked}
use Rattle.codec.proofs.Records.{length_many}

only_most : (b : Bool) (n : ℕ) → only_if b n ≤ n
only_most true n = omega arith
only_most false n = omega arith

only_times : (b : Bool) (n : ℕ) → only_if b n ≡ n * only_if b 1
only_times true n = omega arith
only_times false n = omega arith

-- at most all rows are new
new_one : (x : Deep FlatRow) → is_new_row x ≤ 1
new_one x = by (eqb x.row.serial 0)
  where
    by : (b : Bool) → elim b as (λ z. ℕ) [ true ↦ 1 | false ↦ 0 ] ≤ 1
    by true = omega arith
    by false = omega arith

pub new_few : (xs : List (Deep FlatRow)) → new_in xs ≤ length xs
new_few [] = omega arith
new_few (x ∷ xs) = omega (arith, new_one x, new_few xs)

new_kept : (p : Plan) (v : Bytes) (x : Deep FlatRow) → Old x → new_in (kept_row p v x ∷ []) ≤ 0
unfolding kept_row
new_kept p v x h = omega (arith, ap {B = ℕ} (λ (t : Bool). elim t as (λ z. ℕ) [ true ↦ 1 | false ↦ 0 ]) (ne_eqb x.row.serial 0 (λ e. omega (arith, h))))

-- ---- by a bound F of a filling's rows, and G of what may come at a place
module _ (p : Plan) (v : Bytes) (fill : ℕ → List (Deep FlatRow)) (F G : ℕ) (most : (d : ℕ) → length (fill d) ≤ F) (fills : only_if p.fills F ≤ G) where
  due_first : only_if (at_first p).due F ≤ G * only_if (names_ground p.above) 1
  due_first = by (names_ground p.above)
    where
      by : (g : Bool) → only_if (elim g as (λ z. Open) [ true ↦ record { taking = None; below = Some 0; due = p.fills } | false ↦ record { taking = None; below = None; due = false } ]).due F ≤ G * only_if g 1
      by true = omega (arith, fills)
      by false = omega arith

  most_new : (d : ℕ) → new_in (fill d) ≤ F
  most_new d = omega (arith, new_few (fill d), most d)

  most_rows : (xs : List (Deep FlatRow)) → most_of p v fill length refl length-append F G 1 most fills xs ≡ length xs + G * matching_in p.above xs
  unfolding most_of matching_in
  most_rows [] = omega arith
  most_rows (x ∷ xs) = omega (arith, only_times (matches p.above x.row) G, mul-add G (only_if (matches p.above x.row) 1) (matching_in p.above xs), most_rows xs)

  most_serials : (xs : List (Deep FlatRow)) → most_of p v fill new_in refl new_append F G 0 most_new fills xs ≡ G * matching_in p.above xs
  unfolding most_of matching_in
  most_serials [] = omega arith
  most_serials (x ∷ xs) = omega (arith, only_times (matches p.above x.row) G, mul-add G (only_if (matches p.above x.row) 1) (matching_in p.above xs), most_serials xs)

  module _ (xs : List (Deep FlatRow)) where
    walked_length : length (walked p v fill (at_first p) xs) ≤ length xs + G * places_in p.above xs
    walked_length =
        omega (
          arith,
          size_walked p v fill length refl length-append F G 1 most fills (at_first p) xs (every_map (λ x. Unit {0}) (λ x. length (kept_row p v x ∷ []) ≤ 1) xs (λ x u. omega arith) (every_any xs)),
          most_rows xs,
          due_first,
          mul-add G (matching_in p.above xs) (only_if (names_ground p.above) 1),
        )

    walked_new : Every Old xs → new_in (walked p v fill (at_first p) xs) ≤ G * places_in p.above xs
    walked_new old =
        omega (
          arith,
          size_walked p v fill new_in refl new_append F G 0 most_new fills (at_first p) xs (every_map Old (λ x. new_in (kept_row p v x ∷ []) ≤ 0) xs (new_kept p v) old),
          most_serials xs,
          due_first,
          mul-add G (matching_in p.above xs) (only_if (names_ground p.above) 1),
        )

    walked_adds : Every Old xs → {r : ℕ} → r ≤ 16785409 → (r ≤ 4096 → G * places_in p.above xs ≤ r) → Adds (walked p v fill (at_first p) xs) (length xs) r
    walked_adds old few e = record { few = few; rows = λ h. omega (arith, walked_length, e h); new = λ h. omega (arith, walked_new old, e h) }

-- a count that stopped past the ceiling is only of use where no place may be filled
counted_times : (F k r : ℕ) → r ≡ (4097 - (4097 - F)) * k → r ≤ 4096 → F * k ≤ r
counted_times F zero r e h = omega arith
counted_times F (suc k) r e h =
    let one : (4097 - (4097 - F)) * suc k ≡ (4097 - (4097 - F)) * k + (4097 - (4097 - F)) = omega arith in
    let few : 4097 - (4097 - F) ≡ F = omega (arith, one) in
    omega (arith, ap (λ (n : ℕ). n * suc k) few)

-- ---- the rows of a byte string
-- 4,097 rows at 4,097 places
pub product_few : {one k : ℕ} → one ≤ 4097 → k ≤ 4097 → one * k ≤ 16785409
product_few {one} {k} a b = mul-le-mul {n₁ = one} {m₁ = k} {n₂ = 4097} {m₂ = 4097} a b

module _ (F : Form) (s : Bytes) (count : ℕ) (p : Plan) (v : Bytes) (x : WalkRows F.width count s) where
  abbrev fill : ℕ → List (Deep FlatRow)
  fill d = plan_filling F p v d

  abbrev xs : List (Deep FlatRow)
  xs = read_many read_row (row_size F.width) count s

  same : (d : ℕ) → length (fill d) ≤ length (fill 0)
  same d = omega (arith, length_filling (index_form_in F) (λ j. values_in F j) (λ k e. members_read_at F.particles.now k e) p.filling v d 0)

  adds_count : {r : ℕ} → Adds (walked p v fill (at_first p) xs) (length xs) r → Adds (walked p v fill (at_first p) xs) count r
  adds_count y = let n : length xs ≡ count = length_many read_row (row_size F.width) count s in record { few = y.few; rows = λ h. omega (arith, y.rows h, n); new = y.new }

  old : Every Old xs
  old = each_old F.width count s (rows_old F.width count s x)

  -- a plan that fills nothing
  pub bounds_none : p.fills ≡ false → Bounds (walked p v fill (at_first p) xs) (fill 0) count (record { one = None; all = 0 })
  bounds_none e =
      let dry : only_if p.fills (length (fill 0)) ≤ 0 = omega (arith, ap (λ (b : Bool). only_if b (length (fill 0))) e) in
      record { adds = adds_count (walked_adds p v fill (length (fill 0)) 0 same dry xs old (omega arith) (λ h. omega arith)); one = tt }

  module _ {one : ℕ} (counted : one ≡ counted_to (fill 0)) where
    adds_times : {r : ℕ} → r ≤ 16785409 → r ≡ one * places_in p.above xs → Adds (walked p v fill (at_first p) xs) count r
    adds_times {r} few product =
        let all : only_if p.fills (length (fill 0)) ≤ length (fill 0) = only_most p.fills (length (fill 0)) in
        let is : r ≡ counted_to (fill 0) * places_in p.above xs = product ∙ ap (λ (m : ℕ). m * places_in p.above xs) counted in
        adds_count (walked_adds p v fill (length (fill 0)) (length (fill 0)) same all xs old few
        (λ h. counted_times (length (fill 0)) (places_in p.above xs) r is h))

    -- a filling of no rows
    pub bounds_empty : one ≡ 0 → Bounds (walked p v fill (at_first p) xs) (fill 0) count (record { one = None; all = 0 })
    bounds_empty e =
        record { adds = adds_times (omega arith) (sym (ap (λ (m : ℕ). m * places_in p.above xs) e ∙ zero-mul (places_in p.above xs))); one = tt }

    pub bounds_places : (one ≡ 0 → ⊥) → one ≤ 4097 → {k : ℕ} → (k ≡ places_in p.above xs) × (k ≤ 4097) → Bounds (walked p v fill (at_first p) xs) (fill 0) count (record { one = Some one; all = one * k })
    bounds_places some few (is, l) = record { adds = adds_times (product_few few l) (ap (λ (m : ℕ). one * m) is); one = (omega arith, counted) }

-- the number of rows of a filling, where it is given
pub one_of : {xs filled : List (Deep FlatRow)} {count k : ℕ} {m : Most} → m.one ≡ Some k → Bounds xs filled count m → (1 ≤ k) × (k ≡ counted_to filled)
one_of {filled = filled} e b = subst (λ (o : Option ℕ). IfSome o (λ k. (1 ≤ k) × (k ≡ counted_to filled))) e b.one
