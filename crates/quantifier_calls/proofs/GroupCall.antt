-- What change 8 answers.
use Prim.Native.Nat.{ℕ, suc, ◌+◌, ◌<◌}
use native.Mathlib.Omega.{arith}
use mathlib.Core.Path.{◌≡◌, refl, sym, ap, ◌∙◌, subst}
use mathlib.Core.Bool.{false, ◌&&◌}
use mathlib.Core.List.{List}
use lib.ListN.{length}
use Rattle.rules.specs.declared.Quantifier.{Quantifier}
use Rattle.rules.specs.Bytes.{Bytes}
use Rattle.rules.specs.Model.{names, rename}
use Rattle.rules.specs.Quantifiers.{gains}
use Rattle.rules.specs.Place.{Context, Found as Spot, spine, before_place, rename_around}
use Rattle.rules.specs.Edit.{quantify}
use Rattle.rules.specs.Layout.{FlatStore, flat}
use Rattle.rules.specs.Decode.{quantifier_of}
use Rattle.rules.specs.Change.{change_group_quantifier, form_after}
use Rattle.rules.specs.Refusal.{first, conditions}
use Rattle.rules.specs.Outcome.{outcome, Answers}
use Rattle.model.specs.declared.place.Holder.{Holder}
use Rattle.model.specs.Members.{start_of}
use Rattle.model.specs.Positions.{offset, level}
use Rattle.lookup.specs.Bodies.{bodies_of}
use Rattle.filling.specs.declared.Filling.TheVariants.{Particles}
use Rattle.row_walk.specs.declared.Plan.{Plan}
use Rattle.model_writer.specs.declared.Edit.TheVariants.{Quantify}
use Rattle.store_laws.specs.Stores.{store_in}
use Rattle.store_writer.specs.Writing.{limited}
use Rattle.planned_rows.specs.Planned.{members_at, planned_in}
use Rattle.planned_rows.specs.Walking.{Sized}
use Rattle.store_laws.proofs.StoreLaws.{holds}
use Rattle.plans.specs.ModelCalls.{Marked, requantify_plan}
use Rattle.plans.proofs.GroupPlaces.{group_at_lem}
use Rattle.plans.proofs.ModelCallsPlanned.{change_group_quantifier_planned}
use Rattle.model_places.specs.Placing.{index_of_name, part_in, Placed}
use Rattle.model_places.proofs.PickLaws.{around}
use Rattle.place_marks.specs.Marking.{marks_at}
use Rattle.place_marks.proofs.MarkLaws.{group_marked}
use Rattle.model_form.specs.Editing.{start_in, form_edited}
use Rattle.model_form.proofs.OwnParts.{start_is, form_size}
use Rattle.model_edit.proofs.Fits.{same_found, bodies_hold}
use Rattle.quantifier_plans.specs.Quantifying.{group_span, Stands, group_plan}
use Rattle.quantifier_calls.proofs.Places.{spine_there, level_there, member_stands, group_number, group_quantifier, group_kind}
use Rattle.quantifier_calls.proofs.Fitting.{Group, group_picked}
use Rattle.quantifier_calls.proofs.Answering.{sized, same_edit, answered}

module _ {bs : Bytes} {o : ℕ} {p : List ℕ} (k : ℕ) (t : Bytes) (x : Group bs o p (quantify (quantifier_of k))) {h : Holder} {n : ℕ} (y : Placed bs o false p h n)
    {part : Bytes} (own : part ≡ part_in bs o) {new : Quantifier} (r : new ≡ quantifier_of k) where
  abbrev c : Context Bytes
  c = x.fits.found.context

  marks_there : Marked (store_in bs).form (before_place c) (names x.inner) (marks_at (group_span (part_in bs o) h n) n (part_in bs o))
  marks_there =
      let same : y.found ≡ x.fits.found = same_found x.fits y in
      subst (λ (w : Spot Bytes). Marked (store_in bs).form (before_place w.context) (names x.inner) (marks_at (group_span (part_in bs o) h n) n (part_in bs o))) same
      (group_marked x.fits.good x.fits.there y x.quantifier x.kind x.inner x.rest (ap (λ (w : Spot Bytes). w.picked) same ∙ x.is))

  abbrev planned : Plan
  planned =
      requantify_plan o (marks_at (group_span (part_in bs o) h n) n (part_in bs o)) false 0 (spine c && gains x.quantifier (quantifier_of k))
      (Particles x.kind (start_in bs o + n + 1) (h.depth + 1))

  group_plan_lem : group_plan (start_in bs o) o part h n new ≡ planned
  unfolding group_plan
  group_plan_lem =
      ap (λ (s : Bytes). group_plan (start_in bs o) o s h n new) own
      ∙ (λ i. requantify_plan o (marks_at (group_span (part_in bs o) h n) n (part_in bs o)) false 0 (spine_there x.fits y i && gains (group_quantifier x.fits y x.is i) (r i))
      (Particles (group_kind x.fits y x.is i) (start_in bs o + n + 1) (h.depth + 1)))

  pub group_sized : {q : Plan} → q ≡ group_plan (start_in bs o) o part h n new → Sized q
  group_sized e =
      let there : Stands (part_in bs o) h n = member_stands x.fits y _ x.is refl in
      subst Sized (sym (e ∙ group_plan_lem)) (sized o _ false 0 _ (Particles x.kind (start_in bs o + n + 1) (h.depth + 1))
      (group_number x.fits y x.is, omega (arith, there.inside, there.short, there.deep)))

  -- where the group's members are read
  members_there : members_at (flat (store_in bs)) (start_in bs o + n + 1) (h.depth + 1) ≡ rename (index_of_name bs) x.inner
  members_there =
      let inside : o < length (store_in bs).form = omega (arith, x.fits.there, form_size bs x.fits.good) in
      let a : Context ℕ = rename_around (index_of_name bs) c in
      let same : around y ≡ a = ap (λ (w : Spot Bytes). rename_around (index_of_name bs) w.context) (same_found x.fits y) in
      let start : start_of o (flat (store_in bs)).definitions ≡ start_in bs o =
      ap (λ (g : FlatStore). start_of o g.definitions) (sym (holds bs x.fits.good).bodies) ∙ sym (start_is bs x.fits.good o (omega (arith, x.fits.there))) in
      let first : start_of o (flat (store_in bs)).definitions + (offset a + 1) ≡ start_in bs o + n + 1 = omega (arith, start, y.stands, ap offset same) in
      let deep : suc (level 0 a) ≡ h.depth + 1 = omega (arith, level_there x.fits y, ap (level 0) same) in
      sym (λ i. members_at (flat (store_in bs)) (first i) (deep i)) ∙ group_at_lem (store_in bs) o inside (quantify (quantifier_of k)) p c x.quantifier x.kind x.inner x.rest (group_picked x)

  pub group_answers : (room : ℕ) {q : Plan} (m : ℕ) → q ≡ group_plan (start_in bs o) o part h n new → m ≡ first (conditions (change_group_quantifier o p k t) (store_in bs)) → m ≡ 0
      → {out : Bytes} {number len : ℕ} {left : Bytes} → Answers (limited room (planned_in (form_edited bs o (quantify new) h n) q t (bodies_of bs))) out number len left
      → Answers (outcome (change_group_quantifier o p k t) bs room) out number len left
  unfolding form_after
  group_answers room m w f e a =
      answered x.fits y r (change_group_quantifier o p k t) room t planned m (w ∙ group_plan_lem) f e
      (change_group_quantifier_planned (store_in bs) (holds bs x.fits.good).good o p c (form_edited bs o (quantify new) h n) k t x.quantifier x.kind x.inner x.rest
      (marks_at (group_span (part_in bs o) h n) n (part_in bs o))
      (start_in bs o + n + 1) (h.depth + 1) (sym f ∙ e) (group_picked x) (λ g. marks_there) (λ g. members_there)
      (bodies_hold x.fits (Quantify new) (same_edit x.fits y r) y (change_group_quantifier o p k t) refl))
      a
