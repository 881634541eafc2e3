-- What change 5 or 8 answers: an element where g is false, a group where it is true.
use Prim.Native.Nat.{ℕ}
use mathlib.Core.Path.{◌≡◌, refl, sym, subst}
use mathlib.Core.Bool.{Bool, true, false}
use mathlib.Core.List.{List}
use Rattle.rules.specs.declared.Quantifier.{Quantifier}
use Rattle.rules.specs.Bytes.{Bytes}
use Rattle.rules.specs.Decode.{quantifier_of}
use Rattle.rules.specs.Edit.{quantify}
use Rattle.rules.specs.Refusal.{first, conditions}
use Rattle.rules.specs.Outcome.{outcome, Answers}
use Rattle.model.specs.declared.place.Holder.{Holder}
use Rattle.lookup.specs.Bodies.{bodies_of}
use Rattle.row_walk.specs.declared.Plan.{Plan}
use Rattle.store_laws.specs.Stores.{store_in}
use Rattle.store_writer.specs.Writing.{limited}
use Rattle.planned_rows.specs.Planned.{planned_in}
use Rattle.planned_rows.specs.Walking.{Sized}
use Rattle.model_places.specs.Placing.{part_in, Placed}
use Rattle.model_form.specs.Editing.{start_in, form_edited}
use Rattle.quantifier_refusals.specs.Requantifying.{requantify}
use Rattle.quantifier_plans.specs.Quantifying.{Stands, new_plan}
use Rattle.quantifier_calls.proofs.Places.{member_stands}
use Rattle.quantifier_calls.proofs.Fitting.{Given, given_some, element_given, group_given}
use Rattle.quantifier_calls.proofs.ElementCall.{element_sized, element_answers}
use Rattle.quantifier_calls.proofs.GroupCall.{group_sized, group_answers}

module _ {bs : Bytes} {o : ℕ} {p : List ℕ} {k : ℕ} {t : Bytes} {h : Holder} {n : ℕ} (y : Placed bs o false p h n) {part : Bytes} (own : part ≡ part_in bs o) where
  pub given_stands : {g : Bool} → Given g bs o p k t → Stands part h n
  given_stands x = subst (λ (s : Bytes). Stands s h n) (sym own) (member_stands x.fits y x.fits.found.picked refl (given_some x))

  module _ {new : Quantifier} (r : new ≡ quantifier_of k) {q : Plan} where
    pub given_sized : (g : Bool) → Given g bs o p k t → q ≡ new_plan g (start_in bs o) o part h n new → Sized q
    given_sized false x w = element_sized k t (element_given x) y own r w
    given_sized true x w = group_sized k t (group_given x) y own r w

    pub given_answers : (g : Bool) → Given g bs o p k t → q ≡ new_plan g (start_in bs o) o part h n new
        → (room m : ℕ) → m ≡ first (conditions (requantify g o p k t) (store_in bs)) → m ≡ 0
        → {out : Bytes} {number len : ℕ} {left : Bytes} → Answers (limited room (planned_in (form_edited bs o (quantify new) h n) q t (bodies_of bs))) out number len left
        → Answers (outcome (requantify g o p k t) bs room) out number len left
    given_answers false x w room m f e a = element_answers k t (element_given x) y own r room m w f e a
    given_answers true x w room m f e a = group_answers k t (group_given x) y own r room m w f e a
