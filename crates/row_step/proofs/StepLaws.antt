-- The tests of a step in the code's order, and what each of them says of it; the rows for which the state has room.
use Prim.Native.Nat.{ℕ, zero, suc, ◌+◌, ◌≤◌, ◌<◌}
use native.Mathlib.Omega.{arith}
use mathlib.Core.Path.{◌≡◌, refl, ap, sym, ◌∙◌}
use mathlib.Core.Bool.{Bool, true, false, ◌&&◌, false≢true}
use lib.Dec.{eqb, leb, ltb}
use borrow.Author.Tests.{le-leb, lt-leb, ltb-true, eq-eqb, eqb-true, eqb-false}
use Rattle.rules.specs.Bytes.{Bytes}
use Rattle.rules.specs.Layout.{FlatRow}
use Rattle.rules.specs.Decode.{read_row}
use Rattle.rules.proofs.Words.{and_split}
use Rattle.records.specs.Records.{row_fits, serial_fits}
use Rattle.records.proofs.RecordLaws.{row_parts}
use Rattle.next_row.specs.declared.Level.{Level}
use Rattle.next_row.specs.declared.Level.TheVariants.{Documents, Element, Nothing}
use Rattle.form_index.specs.Indices.{IndexForm}
use Rattle.next_row.specs.Judge.{attribute_may, row_may, may, judge}
use Rattle.row_state.specs.State.{open_elements, StateFits, level_at, stepped, RoomFor}
use Rattle.row_state.proofs.TakenLaws.{stepped_fits}
use Rattle.open_levels.specs.Open.{open_end}
use Rattle.row_step.specs.Steps.{Before, element_fits, may_step, StepMade}

-- ---- a row for which the state has room
-- a row that may come at a level has an index below 64: an element's definition and an attribute are in their tables,
-- and a text has index 0
module _ (f : IndexForm) (r : FlatRow) where
  attribute_in_lem : (i seen : ℕ) → attribute_may f i seen r ≡ true → r.index < f.attributes
  attribute_in_lem i zero e = absurd (false≢true e)
  attribute_in_lem i (suc a) e =
      let (from, e₁) = and_split (leb a r.index) _ e in
      let (known, e₂) = and_split (ltb r.index f.attributes) _ e₁ in
      ltb-true r.index f.attributes known

  attribute_low : (l : Level) → r.sort ≡ 2 → may f l r ≡ true → r.index < f.attributes
  attribute_low Documents q e = absurd (omega (arith, eqb-true r.sort 1 e))
  attribute_low (Element l) q e =
      let (known, e₁) = and_split (ltb l.index f.size) (row_may f (eqb r.sort 2) l r) e in
      attribute_in_lem l.index l.seen (rw (eq-eqb r.sort 2 q) at e₁)
  attribute_low Nothing q e = absurd (false≢true e)

pub room_for : (w : ℕ) (f : IndexForm) (l : Level) (row : Bytes) → f.size ≤ 64 → f.attributes ≤ 64 → (read_row row).depth ≤ 64
    → row_fits w row ≡ true → element_fits f.size (read_row row) ≡ true → (judge f).may l (read_row row).row ≡ true → RoomFor (read_row row)
room_for w f l row few some low fits element comes = by (eqb (read_row row).row.sort 1) refl (eqb (read_row row).row.sort 2) refl
  where
    fits_element : eqb (read_row row).row.sort 1 ≡ true → (ltb (read_row row).depth 64 && ltb (read_row row).row.index f.size) ≡ true
    fits_element e = sym (rw (e, element_fits)) ∙ element

    by : (x : Bool) → eqb (read_row row).row.sort 1 ≡ x → (y : Bool) → eqb (read_row row).row.sort 2 ≡ y → RoomFor (read_row row)
    by true e y q =
        let (shallow, known) = and_split (ltb (read_row row).depth 64) (ltb (read_row row).row.index f.size) (fits_element e) in
        record {
          index = omega (arith, ltb-true (read_row row).row.index f.size known);
          depth = low;
          element = λ z. ltb-true (read_row row).depth 64 shallow;
        }
    by false e true q =
        record {
          index = omega (arith, attribute_low f (read_row row).row l (eqb-true (read_row row).row.sort 2 q) comes);
          depth = low;
          element = λ z. absurd (eqb-false (read_row row).row.sort 1 e z);
        }
    by false e false q =
        let parts = row_parts w row fits in
        let text : (read_row row).row.sort ≡ 3 = omega (arith, parts.least, parts.most, eqb-false (read_row row).row.sort 1 e, eqb-false (read_row row).row.sort 2 q) in
        record {
          index = omega (arith, parts.text text);
          depth = low;
          element = λ z. absurd (eqb-false (read_row row).row.sort 1 e z);
        }

-- ---- the tests
none_deep : (fits ranged deep closes may : Bool) → deep ≡ false → false ≡ (fits && (ranged && (deep && (closes && may))))
none_deep true true deep closes may e = rw e
none_deep true false deep closes may e = refl
none_deep false ranged deep closes may e = refl

none_ranged : (fits ranged deep closes may : Bool) → ranged ≡ false → false ≡ (fits && (ranged && (deep && (closes && may))))
none_ranged true ranged deep closes may e = rw e
none_ranged false ranged deep closes may e = refl

none_closed : (fits ranged deep closes may : Bool) → closes ≡ false → false ≡ (fits && (ranged && (deep && (closes && may))))
none_closed true true true closes may e = rw e
none_closed true true false closes may e = refl
none_closed true false deep closes may e = refl
none_closed false ranged deep closes may e = refl

none_next : (fits ranged deep closes may : Bool) → (fits && may) ≡ false → false ≡ (fits && (ranged && (deep && (closes && may))))
none_next true true true true may e = sym e
none_next true true true false may e = refl
none_next true true false closes may e = refl
none_next true false deep closes may e = refl
none_next false ranged deep closes may e = refl

all_pass : (fits ranged deep closes may : Bool) → deep ≡ true → ranged ≡ true → closes ≡ true → (fits && may) ≡ true → true ≡ (fits && (ranged && (deep && (closes && may))))
all_pass true ranged deep closes may p q r e = rw (p, q, r) (sym e)
all_pass false ranged deep closes may p q r e = sym e

module _ (b : Before) (s row : Bytes) (fits : StateFits s) (d : ℕ) (ed : d ≡ (read_row row).depth) where
  abbrev ranged : Bool
  ranged = serial_fits b.next (read_row row).row.serial && element_fits b.form.size (read_row row)

  abbrev deep : Bool
  deep = leb (read_row row).depth (open_elements s)

  abbrev closes : Bool
  closes = open_end b.form s ((read_row row).depth + 1)

  abbrev comes : Bool
  comes = (judge b.form).may (level_at s (read_row row).depth) (read_row row).row

  refused : false ≡ may_step b s row → StepMade b s row false s
  refused e = record { is = e; state = λ z. absurd (false≢true z); fits = fits }

  -- no level of its depth is open
  pub step_deep : open_elements s < d → StepMade b s row false s
  unfolding may_step
  step_deep h = refused (none_deep (row_fits b.width row) ranged deep closes comes (lt-leb (read_row row).depth (open_elements s) (omega arith)))

  module _ {c : Bool} (ec : c ≡ ranged) where
    -- its serial is out of range, or an element does not fit
    pub step_ranges : c ≡ false → StepMade b s row false s
    unfolding may_step
    step_ranges q = refused (none_ranged (row_fits b.width row) ranged deep closes comes (sym ec ∙ q))

    module _ {k : Bool} (ek : k ≡ open_end b.form s (d + 1)) where
      closes_is : k ≡ closes
      closes_is = ek ∙ ap (λ (j : ℕ). open_end b.form s (j + 1)) ed

      -- a deeper level is owed something
      pub step_owes : k ≡ false → StepMade b s row false s
      unfolding may_step
      step_owes q = refused (none_closed (row_fits b.width row) ranged deep closes comes (sym closes_is ∙ q))

      module _ {l : Level} (el : l ≡ level_at s d) {r : Bool} (er : r ≡ (row_fits b.width row && (judge b.form).may l (read_row row).row)) where
        comes_is : r ≡ (row_fits b.width row && comes)
        comes_is = er ∙ ap (λ (x : Level). row_fits b.width row && (judge b.form).may x (read_row row).row) (el ∙ ap (level_at s) ed)

        -- it may not come next
        pub step_not : r ≡ false → StepMade b s row false s
        unfolding may_step
        step_not q = refused (none_next (row_fits b.width row) ranged deep closes comes (sym comes_is ∙ q))

        module _ (few : b.form.size ≤ 64) (some : b.form.attributes ≤ 64) (h : d ≤ open_elements s) (x : c ≡ true) (q : k ≡ true) (p : r ≡ true) where
          -- the state has room for a row that may come
          pub step_room : RoomFor (read_row row)
          step_room =
              let (fit, come) = and_split (row_fits b.width row) comes (sym comes_is ∙ p) in
              let (range, element) = and_split (serial_fits b.next (read_row row).row.serial) (element_fits b.form.size (read_row row)) (sym ec ∙ x) in
              room_for b.width b.form (level_at s (read_row row).depth) row few some (omega (arith, fits.low)) fit element come

          pub step_goes : {s' : Bytes} → s' ≡ stepped s (read_row row) → StepMade b s row true s'
          unfolding may_step
          step_goes {s'} e =
              record {
                is = all_pass (row_fits b.width row) ranged deep closes comes (le-leb (read_row row).depth (open_elements s) (omega arith)) (sym ec ∙ x) (sym closes_is ∙ q) (sym comes_is ∙ p);
                state = λ z. e;
                fits = rw e (stepped_fits s (read_row row) fits.long step_room);
              }
