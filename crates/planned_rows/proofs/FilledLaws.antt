-- The refusal of the store after a plan that fills: from the rows of one filling and the places that are counted.
use Prim.Native.Nat.{ℕ, zero, suc, ◌+◌, ◌-◌, ◌*◌, ◌<◌, ◌≤◌}
use native.Mathlib.Nat.{mul-le-mul, mul-le-mul_left}
use native.Mathlib.Omega.{arith}
use mathlib.Core.Path.{◌≡◌, refl, sym, ap, ap₂, subst, ◌∙◌}
use mathlib.Core.Bool.{Bool, true, false}
use mathlib.Core.List.{List}
use lib.Dec.{leb}
use lib.ListN.{length}
use borrow.Author.Tests.{leb-true, leb-false}
use Rattle.rules.specs.Bytes.{Bytes}
use Rattle.rules.specs.Preorder.{Deep}
use Rattle.rules.specs.Layout.{FlatRow, FlatStore}
use Rattle.rules.specs.Decode.{number_at}
use Rattle.rules.specs.Passing.{passes}
use Rattle.rules.proofs.BooleanLaws.{Every, every_map}
use Rattle.layout.specs.Bodies.{width_of, WidthIn, Number}
use Rattle.layout.specs.Fields.{next_at}
use Rattle.lookup.specs.Bodies.{bodies_of}
use Rattle.store_check.specs.Reading.{flat_index_form, entry_of}
use Rattle.row_writer.specs.declared.Cursor.{Cursor}
use Rattle.row_writer.specs.Written.{new_in, Written}
use Rattle.row_writer.proofs.BlockLaws.{Old}
use Rattle.filling.specs.declared.Filling.TheVariants.{Attribute}
use Rattle.filling.specs.Parts.{value_of}
use Rattle.filling.proofs.DepthLaws.{length_filling}
use Rattle.filling.proofs.NewLaws.{new_filling}
use Rattle.row_walk.specs.declared.Plan.{Plan}
use Rattle.row_walk.specs.Walk.{walked, at_first}
use Rattle.row_walk.specs.Refilled.{refilled}
use Rattle.walk_writer.proofs.SettledLaws.{walked_refilled}
use Rattle.row_bound.specs.Bound.{counted_to}
use Rattle.row_bound.proofs.BoundLaws.{new_few, product_few}
use Rattle.row_bound.proofs.PlaceLaws.{Times, times_walked}
use Rattle.store_laws.specs.Stores.{store_in}
use Rattle.planned_rows.specs.Planned.{members_at, fill_of, rows_after}
use Rattle.planned_rows.specs.Walking.{walk_from, Sized}
use Rattle.store_limits.specs.Limits.{limit_of}
use Rattle.store_laws.proofs.StoreLaws.{holds}
use Rattle.store_laws.proofs.RowBounds.{Bounded, rows_bounded}
use Rattle.store_limits.proofs.WithinLaws.{limit_ceiling}

-- ---- the walk that counts the places
-- one row in the place of each filling
abbrev pub one_row : Plan → Plan
one_row p = refilled p (Attribute 0)

pub sized_each : {p : Plan} → Sized p → Sized (one_row p)
sized_each s = record { moves = record { definitions = s.moves.definitions; attributes = s.moves.attributes }; filling = omega arith }

times_filling : (p : Plan) (v : Bytes) (f : FlatStore) (d : ℕ) → Times (length (fill_of p v f 0)) (fill_of p v f d) (fill_of (one_row p) v f d)
times_filling p v f d =
    let same = length_filling (flat_index_form f) (λ j. value_of (entry_of j f.attributes)) (λ k e. members_at f k e) p.filling v d 0 in
    let new = new_filling (flat_index_form f) (λ j. value_of (entry_of j f.attributes)) (λ k e. members_at f k e) p.filling v d in
    record { rows = omega (arith, same); new = omega (arith, same, new) }

-- the rows of a store that passes
pub stored_old : (bs : Bytes) → passes bs ≡ true → Every Old (bodies_of bs).rows
stored_old bs q =
    every_map Bounded Old (bodies_of bs).rows (λ x b. b.serial)
    (subst (λ (f : FlatStore). Every Bounded f.rows) (sym (holds bs q).bodies) (rows_bounded (store_in bs) (holds bs q).good))

pub times_after : (bs : Bytes) → passes bs ≡ true → (p : Plan) (v : Bytes)
    → Times (length (fill_of p v (bodies_of bs) 0)) (rows_after p v (bodies_of bs)) (rows_after (one_row p) v (bodies_of bs))
unfolding rows_after
times_after bs q p v =
    let unit : ℕ → List (Deep FlatRow) = fill_of (one_row p) v (bodies_of bs) in
    subst (λ (ys : List (Deep FlatRow)). Times (length (fill_of p v (bodies_of bs) 0)) (walked p v (fill_of p v (bodies_of bs)) (at_first p) (bodies_of bs).rows) ys)
    (sym (walked_refilled p (Attribute 0) v unit (at_first p) (bodies_of bs).rows))
    (times_walked p v (fill_of p v (bodies_of bs)) unit (length (fill_of p v (bodies_of bs) 0)) (times_filling p v (bodies_of bs)) (at_first p) (bodies_of bs).rows (stored_old bs q))

-- .. of a plan that is made so
pub sized_of : {p each : Plan} → each ≡ one_row p → Sized p → Sized each
sized_of e s = subst (λ (z : Plan). Sized z) (sym e) (sized_each s)

pub times_of : (bs : Bytes) → passes bs ≡ true → (p : Plan) (v : Bytes) {each : Plan} → each ≡ one_row p
    → Times (length (fill_of p v (bodies_of bs) 0)) (rows_after p v (bodies_of bs)) (rows_after each v (bodies_of bs))
times_of bs q p v e = subst (λ (z : Plan). Times (length (fill_of p v (bodies_of bs) 0)) (rows_after p v (bodies_of bs)) (rows_after z v (bodies_of bs))) (sym e) (times_after bs q p v)

-- ---- the numbers
-- of X rows M are new: F at each of P places, beside L - P others
module _ (w form room N F P L X M : ℕ) (few : P ≤ L) (rows : X + P ≡ L + F * P) (new : M ≡ F * P) where
  exact : {k : ℕ} → k ≡ F * P → limit_of w form (L - P + k) (N + k) room ≡ limit_of w form X (N + M) room
  exact {k} e = ap₂ (λ (n next : ℕ). limit_of w form n next room) (omega (arith, few, rows, e)) (omega (arith, new, e))

  -- .. where F was counted up to one past the ceiling
  pub limit_times : {one : ℕ} → one ≡ 4097 - (4097 - F) → limit_of w form (L - P + one * P) (N + one * P) room ≡ limit_of w form X (N + M) room
  limit_times {one} e = by (leb F 4097) refl
    where
      place : (k : ℕ) → P ≡ k → 4097 < F → limit_of w form (L - P + one * P) (N + one * P) room ≡ limit_of w form X (N + M) room
      place zero z l =
          let none : one * P ≡ one * 0 = ap (λ (n : ℕ). one * n) z in
          let none' : F * P ≡ F * 0 = ap (λ (n : ℕ). F * n) z in
          exact (omega (arith, none, none'))
      place (suc k) z l =
          let some : 1 ≤ P = omega (arith, z) in
          let many : one * 1 ≤ one * P = mul-le-mul_left one some in
          let many' : F * 1 ≤ F * P = mul-le-mul_left F some in
          sym (limit_ceiling w form (L - P + one * P) (N + one * P) room (omega (arith, many, e, l)))
          ∙ limit_ceiling w form X (N + M) room (omega (arith, many', rows, few, l))

      by : (b : Bool) → leb F 4097 ≡ b → limit_of w form (L - P + one * P) (N + one * P) room ≡ limit_of w form X (N + M) room
      by true q =
          let is : one ≡ F = omega (arith, e, leb-true F 4097 q) in
          exact (ap (λ (n : ℕ). n * P) is)
      by false q = place P refl (leb-false F 4097 q)

-- ---- w: the width of a store; xs: the rows after the plan; ys: those of the walk that counts the places
module _ {bs : Bytes} {w : ℕ} (v : WidthIn bs w) (form room : ℕ) (xs ys filled : List (Deep FlatRow)) (t : Times (length filled) xs ys) {one : ℕ} (counted : one ≡ counted_to filled)
    {wide at : ℕ} {out : Bytes} {r : Cursor} {out' : Bytes} (d : Written wide ys (walk_from at bs) out r out') where
  pub filled_past : 1 ≤ one → r.left ≡ 0 → 16 ≡ limit_of (width_of bs) form (length xs) (number_at next_at 4 bs + new_in xs) room
  filled_past some e =
      let more : 1 * new_in ys ≤ length filled * new_in ys = mul-le-mul {n₁ = 1} {m₁ = new_in ys} {n₂ = length filled} {m₂ = new_in ys} (omega (arith, counted, some)) (omega arith) in
      limit_ceiling (width_of bs) form (length xs) (number_at next_at 4 bs + new_in xs) room (omega (arith, d.left, e, t.rows, more))

  module _ (n : r.left ≡ 0 → ⊥) {next : ℕ} (m : Number (number_at next_at 4 bs) next) where
    pub places_are : r.serial ≡ next + new_in ys
    places_are = omega (arith, m.value, (d.fitted (omega (arith, d.left, n))).serial)

    pub places_within : r.serial - next ≤ 4097 - r.left
    places_within = omega (arith, places_are, d.left, n, new_few ys)

    pub new_small : one * (r.serial - next) ≤ 16785409
    new_small = product_few (omega (arith, counted)) (omega (arith, places_within))

    pub filled_counted : {k : ℕ} → k ≡ limit_of w form (4097 - r.left - (r.serial - next) + one * (r.serial - next)) (next + one * (r.serial - next)) room
        → k ≡ limit_of (width_of bs) form (length xs) (number_at next_at 4 bs + new_in xs) room
    filled_counted e =
        let places : r.serial - next ≡ new_in ys = omega (arith, places_are) in
        let rows : 4097 - r.left ≡ length ys = omega (arith, d.left, n) in
        e ∙ (λ i. limit_of (v.value i) form (rows i - places i + one * places i) (m.value i + one * places i) room)
        ∙ limit_times (width_of bs) form room (number_at next_at 4 bs) (length filled) (new_in ys) (length ys) (length xs) (new_in xs) (new_few ys) t.rows t.new counted
