-- What change 10 asks of the writer, and what it answers.
use Prim.Native.Nat.{ℕ, ◌-◌, ◌<◌, ◌≤◌}
use native.Mathlib.Omega.{arith}
use mathlib.Core.Path.{◌≡◌, refl, sym, ap, ◌∙◌, subst}
use mathlib.Core.Logic.{⊎_elim}
use mathlib.Core.Bool.{Bool, true, false, not, false≢true}
use mathlib.Core.Option.{Option, none}
use mathlib.Core.List.{[]}
use lib.ListN.{length, take}
use Rattle.rules.specs.Bytes.{Bytes}
use Rattle.rules.specs.Layout.{FlatStore, flat}
use Rattle.rules.specs.Decode.{definition_count, particle_count, attribute_count}
use Rattle.rules.specs.WellFormed.{is_value}
use Rattle.rules.specs.Passing.{passes}
use Rattle.rules.specs.Change.{destroy_attribute, Owned, after}
use Rattle.rules.specs.Refusal.{first, conditions, is_other}
use Rattle.rules.specs.Outcome.{Answers}
use Rattle.codec.specs.Laid.{Laid}
use Rattle.layout.specs.Bodies.{width_of, Number, most_form}
use Rattle.layout.proofs.LayoutLaws.{width_within}
use Rattle.lookup.specs.Bodies.{bodies_of}
use Rattle.row_walk.specs.declared.Plan.{Plan}
use Rattle.store_laws.specs.Stores.{store_in}
use Rattle.store_writer.specs.Writing.{limited}
use Rattle.planned_rows.specs.Planned.{planned_in}
use Rattle.store_laws.specs.Forms.{form_bytes, form_read, Forms}
use Rattle.planned_rows.specs.Walking.{Sized}
use Rattle.store_laws.proofs.StoreLaws.{Holds, holds}
use Rattle.store_writer.proofs.CallLaws.{answers_equal, passed}
use Rattle.store_laws.proofs.FormBytesLaws.{form_short}
use Rattle.store_laws.proofs.FormLaws.{FormOf, forms_of, within, good_bodies, counted_attributes}
use Rattle.store_writer.proofs.FormAnswers.{form_answers}
use Rattle.store_check.proofs.StoreFacts.{Whole, whole}
use Rattle.store_check.proofs.AttributeOwners.{unowned}
use Rattle.plans.specs.AttributeCalls.{owner_at, destroy_attribute_plan, attribute_dropped}
use Rattle.plans.proofs.FormsAfter.{dropped_form}
use Rattle.plans.proofs.AttributeCallsPlanned.{destroy_attribute_planned}
use Rattle.attribute_form.proofs.FormParts.{fits, front_laid}
use Rattle.attribute_form.proofs.CountLaws.{number_of_definitions, number_of_particles, number_of_attributes}
use Rattle.attribute_writer.specs.Attributes.{Droppable}
use Rattle.destroy_attribute_call.specs.Dropped.{dropped}
use Rattle.rules.proofs.WellFormedLaws.{none_value}
use Rattle.rules.proofs.Words.{below_or}
use Rattle.change_laws.proofs.Conditions.{none_holds}

-- ---- no condition holds
module _ (bs : Bytes) {b : Bool} {m : ℕ} (h : not b ≡ false) (e : b ≡ passes bs) where
  pub droppable : (a : ℕ) → m ≡ first (conditions (destroy_attribute a) (store_in bs)) → m ≡ 0 → Droppable bs a
  unfolding conditions
  droppable a f z =
      let (there, end) = none_holds (destroy_attribute a) (store_in bs) (sym f ∙ z) in
      let w : Whole bs = whole bs (passed bs h e) in
      let l : a < attribute_count bs =
      ⊎_elim (λ (x : a < attribute_count bs). x)
      (λ (x : attribute_count bs ≤ a). absurd (false≢true (sym there ∙ ap (λ (o : Option Owned). is_other o none) (unowned bs w a x))))
      (below_or a (attribute_count bs)) in
      record { passes = passed bs h e; inside = omega (arith, counted_attributes bs); small = omega (arith, w.few_attributes) }

module _ (bs : Bytes) (q : passes bs ≡ true) where
  pub destroy_leaves : (a : ℕ) → first (conditions (destroy_attribute a) (store_in bs)) ≡ 0 → flat (after (destroy_attribute a) (store_in bs)) ≡ dropped a [] (bodies_of bs)
  unfolding dropped
  destroy_leaves a e = let kept : Holds bs = holds bs q in destroy_attribute_planned (store_in bs) kept.good a [] e ∙ sym (ap (dropped a []) kept.bodies)

-- ---- the store that is left
module _ (bs : Bytes) (a : ℕ) (x : Droppable bs a) where
  stays : Holds bs
  stays = holds bs x.passes

  module _ {d p count r : ℕ} {q : Plan} {buffer left : Bytes} (cd : Number (definition_count bs) d) (cp : Number (particle_count bs) p)
      (ca : Number (attribute_count bs) count) (same : q ≡ destroy_attribute_plan (owner_at a (bodies_of bs).attributes) a)
      (long : length buffer ≡ most_form) (y : Laid (form_bytes (width_of bs) (attribute_dropped a (bodies_of bs))) buffer 0 r left) where
    without_bytes : {form : Bytes} → form ≡ form_bytes (width_of bs) (attribute_dropped a (bodies_of bs)) → FormOf (width_of bs) (attribute_dropped a (bodies_of bs)) form d p (count - 1)
    without_bytes e =
        dropped_form a (bodies_of bs) (good_bodies stays) (within stays) x.inside e (number_of_definitions bs cd) (number_of_particles bs cp)
        (omega (arith, number_of_attributes bs ca, x.inside))

    less_room : length (form_bytes (width_of bs) (attribute_dropped a (bodies_of bs))) ≤ most_form
    less_room = form_short (forms_of (without_bytes refl)) (width_within bs)

    pub dropped_fits : r ≤ length left
    dropped_fits = fits long less_room y

    pub dropped_long : r ≡ length (take r left)
    dropped_long = omega (arith, y.next, ap length (front_laid y (omega (arith, long, less_room))))

    without : FormOf (width_of bs) (attribute_dropped a (bodies_of bs)) (take r left) d p (count - 1)
    without = without_bytes (front_laid y (omega (arith, long, less_room)))

    pub dropped_asks : (passes bs ≡ true) × (is_value (width_of bs) [] ≡ true) × Sized q × Forms (width_of bs) (take r left) d p (count - 1)
    dropped_asks = (
      x.passes,
      none_value (width_of bs),
      subst Sized (sym same) (record { moves = record { definitions = record { more = omega arith }; attributes = record { more = omega arith } }; filling = tt }),
      forms_of without,
    )

    pub dropped_answers : (room : ℕ) {out : Bytes} {number len : ℕ} {end : Bytes}
        → Answers (limited room (planned_in (form_read (width_of bs) (take r left) d p (count - 1)) q [] (bodies_of bs))) out number len end
        → Answers (limited room (dropped a [] (bodies_of bs))) out number len end
    unfolding dropped
    dropped_answers room z =
        let f : FlatStore = bodies_of bs in
        answers_equal
        (ap (limited room) (ap (λ (s : Plan). planned_in (attribute_dropped a f) s [] f) (sym same)))
        (form_answers without q [] f room z)
