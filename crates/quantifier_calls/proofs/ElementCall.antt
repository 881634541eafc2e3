-- What change 5 answers.
use Prim.Native.Nat.{ℕ}
use native.Mathlib.Omega.{arith}
use mathlib.Core.Path.{◌≡◌, refl, sym, ap, ◌∙◌, subst}
use mathlib.Core.Bool.{Bool, false, ◌&&◌}
use mathlib.Core.List.{List, [], ◌∷◌}
use Rattle.rules.specs.declared.Quantifier.{Quantifier}
use Rattle.rules.specs.Bytes.{Bytes}
use Rattle.rules.specs.Quantifiers.{gains, cuts}
use Rattle.rules.specs.Place.{Context, Found as Spot, spine, before_place}
use Rattle.rules.specs.Edit.{quantify}
use Rattle.rules.specs.Decode.{quantifier_of}
use Rattle.rules.specs.Change.{change_quantifier, form_after}
use Rattle.rules.specs.Refusal.{first, conditions}
use Rattle.rules.specs.Outcome.{outcome, Answers}
use Rattle.model.specs.declared.place.Holder.{Holder}
use Rattle.lookup.specs.Bodies.{bodies_of}
use Rattle.filling.specs.declared.Filling.TheVariants.{Definition}
use Rattle.row_walk.specs.declared.Plan.{Plan}
use Rattle.model_writer.specs.declared.Edit.TheVariants.{Quantify}
use Rattle.store_laws.specs.Stores.{store_in}
use Rattle.store_writer.specs.Writing.{limited}
use Rattle.planned_rows.specs.Planned.{planned_in}
use Rattle.planned_rows.specs.Walking.{Sized}
use Rattle.store_laws.proofs.StoreLaws.{holds}
use Rattle.plans.specs.ModelCalls.{Marked, requantify_plan}
use Rattle.plans.proofs.ModelCallsPlanned.{change_quantifier_planned}
use Rattle.store_laws.proofs.Encoded.{encoded}
use Rattle.model_places.specs.Placing.{index_of_name, part_in, Placed}
use Rattle.place_marks.specs.Marking.{marks_at}
use Rattle.place_marks.proofs.MarkLaws.{element_marked}
use Rattle.model_form.specs.Editing.{form_edited}
use Rattle.model_form.proofs.OwnParts.{form_size}
use Rattle.model_edit.proofs.Fits.{same_found, bodies_hold, Element, picked_at, index_there}
use Rattle.quantifier_plans.specs.Quantifying.{element_plan}
use Rattle.quantifier_calls.proofs.Places.{spine_there, element_quantifier}
use Rattle.quantifier_calls.proofs.Answering.{sized, same_edit, answered}
use Rattle.rules.proofs.DecodeLaws.{index_bound}

module _ {bs : Bytes} {o : ℕ} {p : List ℕ} (k : ℕ) (t : Bytes) (x : Element bs o p (quantify (quantifier_of k))) {h : Holder} {n : ℕ} (y : Placed bs o false p h n)
    {part : Bytes} (own : part ≡ part_in bs o) {new : Quantifier} (r : new ≡ quantifier_of k) where
  abbrev c : Context Bytes
  c = x.fits.found.context

  marks_there : Marked (store_in bs).form (before_place c) (x.name ∷ []) (marks_at 1 n (part_in bs o))
  marks_there =
      let same : y.found ≡ x.fits.found = same_found x.fits y in
      subst (λ (w : Spot Bytes). Marked (store_in bs).form (before_place w.context) (x.name ∷ []) (marks_at 1 n (part_in bs o))) same
      (element_marked x.fits.good x.fits.there y x.quantifier x.name x.rest (ap (λ (w : Spot Bytes). w.picked) same ∙ x.is))

  abbrev planned : Plan
  planned =
      requantify_plan o (marks_at 1 n (part_in bs o)) (spine c && cuts x.quantifier (quantifier_of k)) (index_of_name bs x.name) (spine c && gains x.quantifier (quantifier_of k))
      (Definition (index_of_name bs x.name))

  element_plan_lem : element_plan o part h n new ≡ planned
  unfolding element_plan
  element_plan_lem =
      ap (λ (s : Bytes). element_plan o s h n new) own
      ∙ (λ i. let q : Quantifier = element_quantifier x.fits y x.is i in
      let j : ℕ = index_there x y i in
      let b : Bool = spine_there x.fits y i in
      requantify_plan o (marks_at 1 n (part_in bs o)) (b && cuts q (r i)) j (b && gains q (r i)) (Definition j))

  pub element_sized : {q : Plan} → q ≡ element_plan o part h n new → Sized q
  element_sized e =
      subst Sized (sym (e ∙ element_plan_lem))
      (sized o _ _ _ _ (Definition (index_of_name bs x.name))
      (omega (arith, index_bound x.name (store_in bs).form, form_size bs x.fits.good, (encoded bs x.fits.good).definitions, (encoded bs x.fits.good).few_definitions)))

  pub element_answers : (room : ℕ) {q : Plan} (m : ℕ) → q ≡ element_plan o part h n new → m ≡ first (conditions (change_quantifier o p k t) (store_in bs)) → m ≡ 0
      → {out : Bytes} {number len : ℕ} {left : Bytes} → Answers (limited room (planned_in (form_edited bs o (quantify new) h n) q t (bodies_of bs))) out number len left
      → Answers (outcome (change_quantifier o p k t) bs room) out number len left
  unfolding form_after
  element_answers room m w f e a =
      answered x.fits y r (change_quantifier o p k t) room t planned m (w ∙ element_plan_lem) f e
      (change_quantifier_planned (store_in bs) (holds bs x.fits.good).good o p c (form_edited bs o (quantify new) h n) k t x.quantifier x.name x.rest
      (marks_at 1 n (part_in bs o)) (sym f ∙ e) (picked_at x) (λ g. marks_there)
      (bodies_hold x.fits (Quantify new) (same_edit x.fits y r) y (change_quantifier o p k t) refl))
      a
