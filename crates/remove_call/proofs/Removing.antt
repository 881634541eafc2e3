-- What change 4 answers.
use Prim.Native.Nat.{ℕ, ◌*◌}
use native.Mathlib.Omega.{arith}
use mathlib.Core.Path.{◌≡◌, refl, sym, ap, ◌∙◌, subst}
use mathlib.Core.Bool.{true, false, false≢true}
use mathlib.Core.Option.{Option, none, some}
use mathlib.Core.List.{List, []}
use lib.ListN.{drop}
use Rattle.rules.specs.Bytes.{Bytes}
use Rattle.rules.specs.Model.{Members, done, el, group, is_done}
use Rattle.rules.specs.Place.{Found as Spot}
use Rattle.rules.specs.Edit.{remove}
use Rattle.rules.specs.Layout.{particle_size}
use Rattle.rules.specs.Decode.{read_particle}
use Rattle.rules.specs.Passing.{passes}
use Rattle.rules.specs.Change.{remove_element, form_after}
use Rattle.rules.specs.Refusal.{past_end, found_at, no_element_at, on_element, first, conditions}
use Rattle.rules.specs.Outcome.{outcome, Answers}
use Rattle.change_laws.proofs.EditConditions.{element_some}
use Rattle.change_laws.proofs.Conditions.{none_holds}
use Rattle.model.specs.declared.place.Holder.{Holder}
use Rattle.lookup.specs.Bodies.{bodies_of}
use Rattle.row_walk.specs.declared.Plan.{Plan}
use Rattle.model_writer.specs.PartAfter.{suits}
use Rattle.model_writer.specs.declared.Edit.TheVariants.{Remove}
use Rattle.store_laws.specs.Stores.{store_in}
use Rattle.store_writer.specs.Writing.{limited}
use Rattle.planned_rows.specs.Planned.{planned_in}
use Rattle.planned_rows.specs.Walking.{Sized}
use Rattle.store_laws.proofs.StoreLaws.{holds}
use Rattle.store_writer.proofs.CallLaws.{answers_equal}
use Rattle.plans.specs.ModelCalls.{remove_element_plan}
use Rattle.plans.proofs.ModelCallsPlanned.{remove_element_planned}
use Rattle.model_places.specs.Placing.{index_of_name, part_in, Placed}
use Rattle.model_places.proofs.PlaceLaws.{found_remove}
use Rattle.model_form.specs.Editing.{form_edited}
use Rattle.model_edit.proofs.Fits.{Fits, Element, picked_at, index_there, fits_at_lem, edited_answers, bodies_hold}

element_suits : (t : Members Bytes) → on_element true (λ q. false) t ≡ false → suits {A = Bytes} remove t ≡ true
element_suits done h = absurd (false≢true (sym h))
element_suits (el q x rest) h = refl
element_suits (group q k ms rest) h = absurd (false≢true (sym h))

module _ (bs : Bytes) (q : passes bs ≡ true) (o : ℕ) (p : List ℕ) where
  pub remove_fits : first (conditions (remove_element o p) (store_in bs)) ≡ 0 → Element bs o p remove
  unfolding conditions
  remove_fits e = let (index, (place, more)) = none_holds (remove_element o p) (store_in bs) e in by (found_at remove o p (store_in bs)) refl index place
    where
      by : (f : Option (Spot Bytes)) → found_at remove o p (store_in bs) ≡ f → past_end o (store_in bs).form ≡ false → no_element_at f ≡ false → Element bs o p remove
      by none at i h = absurd (false≢true (sym h))
      by (some f) at i h = there f.picked refl
        where
          all : Fits bs o p remove
          all = fits_at_lem bs q o p remove f (found_remove o p bs) i at (element_some f.picked h) (element_suits f.picked h)

          there : (t : Members Bytes) → f.picked ≡ t → Element bs o p remove
          there done e = absurd (false≢true (sym (element_some f.picked h) ∙ ap is_done e))
          there (el k n rest) e = record { fits = all; quantifier = k; name = n; rest = rest; is = e }
          there (group k j ms rest) e = absurd (false≢true (sym h ∙ ap (on_element true (λ z. false)) e))

pub removed_answers : {bs : Bytes} {o : ℕ} {p : List ℕ} (x : Element bs o p remove) {h : Holder} {n : ℕ} (y : Placed bs o false p h n) {part : Bytes} → part ≡ part_in bs o
    → (room : ℕ) {q : Plan} (m : ℕ)
    → q ≡ remove_element_plan o (read_particle (drop (particle_size * n) part)).row.index → m ≡ first (conditions (remove_element o p) (store_in bs)) → m ≡ 0
    → {out : Bytes} {number len : ℕ} {left : Bytes}
    → Answers (limited room (planned_in (form_edited bs o remove h n) q [] (bodies_of bs))) out number len left → Answers (outcome (remove_element o p) bs room) out number len left
unfolding form_after
removed_answers {bs} {o} {p} x {h} {n} y own room m w f e a =
    let there = ap (λ (s : Bytes). (read_particle (drop (particle_size * n) s)).row.index) own ∙ index_there x y in
    edited_answers x.fits Remove refl y (remove_element o p) room (remove_element_plan o (index_of_name bs x.name)) [] m f e
    (remove_element_planned (store_in bs) (holds bs x.fits.good).good o p x.fits.found.context (form_edited bs o remove h n) x.quantifier x.name x.rest [] (sym f ∙ e)
    (picked_at x) (bodies_hold x.fits Remove refl y (remove_element o p) refl))
    (answers_equal (ap (λ (y : Plan). limited room (planned_in (form_edited bs o remove h n) y [] (bodies_of bs))) (sym (w ∙ ap (remove_element_plan o) there))) a)

pub removing_sized : {q : Plan} (o i : ℕ) → q ≡ remove_element_plan o i → Sized q
removing_sized o i e = subst Sized (sym e) (record { moves = record { definitions = record { more = omega arith }; attributes = record { more = omega arith } }; filling = tt })
