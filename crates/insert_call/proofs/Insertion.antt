-- What change 3 answers.
use Prim.Native.Nat.{ℕ, ◌<◌, ◌≤◌}
use native.Mathlib.Omega.{arith}
use mathlib.Core.Path.{◌≡◌, refl, sym, ap, ap₂, ◌∙◌, subst}
use mathlib.Core.Bool.{Bool, true, false, not, ◌&&◌, false≢true}
use mathlib.Core.Option.{Option, none, some}
use mathlib.Core.List.{List}
use lib.ListN.{length}
use borrow.Author.Tests.{ltb-false, not-false}
use Rattle.rules.specs.declared.Quantifier.{Quantifier}
use Rattle.rules.specs.Bytes.{Bytes}
use Rattle.rules.specs.Model.{skips}
use Rattle.rules.specs.Place.{Found as Spot, spine}
use Rattle.rules.specs.Edit.{Edit, insert, place_of as placed}
use Rattle.rules.specs.Store.{Form, members}
use Rattle.rules.specs.Decode.{quantifier_of}
use Rattle.rules.specs.WellFormed.{is_value}
use Rattle.rules.specs.Passing.{passes}
use Rattle.rules.specs.Change.{insert_element, definition_at, name_at_index, form_after}
use Rattle.rules.specs.Refusal.{past_end, found_at, no_place, is_complex, first, conditions}
use Rattle.rules.specs.Outcome.{outcome, Answers}
use Rattle.rules.proofs.Words.{or_split}
use Rattle.change_laws.proofs.Conditions.{not_past, none_holds}
use Rattle.change_laws.proofs.EditConditions.{complex_content}
use Rattle.model.specs.declared.place.Holder.{Holder}
use Rattle.layout.specs.Bodies.{width_of}
use Rattle.lookup.specs.Bodies.{bodies_of}
use Rattle.row_walk.specs.declared.Plan.{Plan}
use Rattle.store_check.proofs.IndexLaws.{name_index}
use Rattle.model_writer.specs.PartAfter.{rename_edit}
use Rattle.model_writer.specs.declared.Edit.TheVariants.{Insert}
use Rattle.model_writer.specs.Writing.{edit_of}
use Rattle.store_laws.specs.Stores.{store_in}
use Rattle.store_writer.specs.Writing.{limited}
use Rattle.planned_rows.specs.Planned.{planned_in}
use Rattle.planned_rows.specs.Walking.{Sized}
use Rattle.store_laws.proofs.StoreLaws.{holds}
use Rattle.store_writer.proofs.CallLaws.{answers_equal}
use Rattle.plans.specs.ModelCalls.{insert_element_plan}
use Rattle.plans.proofs.ModelCallsPlanned.{insert_element_planned}
use Rattle.model_places.specs.Placing.{index_of_name, part_in, Placed}
use Rattle.store_check.proofs.StoreFacts.{value_given}
use Rattle.model_places.proofs.PlaceLaws.{found_insert}
use Rattle.place_marks.specs.Marking.{marks_at}
use Rattle.place_marks.proofs.MarkLaws.{gap_marked}
use Rattle.model_form.specs.Editing.{form_edited}
use Rattle.model_edit.proofs.Fits.{Fits, inside, edited_answers, bodies_hold}
use Rattle.model_reach.proofs.FormFacts.{reads}
use Rattle.model_reach.proofs.ModelLaws.{size}

-- where no condition holds, the edit fits
insert_fits : (bs : Bytes) → passes bs ≡ true → (o : ℕ) (p : List ℕ) (i k : ℕ) (t : Bytes) → first (conditions (insert_element o p i k t) (store_in bs)) ≡ 0
    → Fits bs o p (insert (quantifier_of k) (name_at_index i (store_in bs).form))
unfolding conditions
insert_fits bs q o p i k t e =
    let (text, (code, (index, (place, (kind, more))))) = none_holds (insert_element o p i k t) (store_in bs) e in
    by (found_at (insert (quantifier_of k) (name_at_index i (store_in bs).form)) o p (store_in bs)) refl (or_split (past_end o (store_in bs).form) (past_end i (store_in bs).form) index).0 place kind
  where
    by : (f : Option (Spot Bytes)) → found_at (insert (quantifier_of k) (name_at_index i (store_in bs).form)) o p (store_in bs) ≡ f → past_end o (store_in bs).form ≡ false → no_place f ≡ false
        → not (is_complex (definition_at o (store_in bs).form).content) ≡ false → Fits bs o p (insert (quantifier_of k) (name_at_index i (store_in bs).form))
    by none at l h c = absurd (false≢true (sym h))
    by (some f) at l h c =
        record {
          good = q;
          there = inside bs q o p l;
          found = f;
          content = complex_content (definition_at o (store_in bs).form).content (not-false (is_complex (definition_at o (store_in bs).form).content) c);
          at = at;
          by = sym (found_insert (quantifier_of k) (name_at_index i (store_in bs).form) o p bs) ∙ at;
          suits = refl;
        }

-- no condition holds: definition i with quantifier k goes to the place p
-- of definition o's model, its filling has the text t
pub record Insertion (bs : Bytes) (o : ℕ) (p : List ℕ) (i k : ℕ) (t : Bytes) : Type 0 where
  pub fits : Fits bs o p (insert (quantifier_of k) (name_at_index i (store_in bs).form))
  pub text : is_value (width_of bs) t ≡ true
  pub code : k ≤ 3
  pub known : i < length (store_in bs).form
  pub none : first (conditions (insert_element o p i k t) (store_in bs)) ≡ 0

pub insertion : (bs : Bytes) → passes bs ≡ true → (o : ℕ) (p : List ℕ) (i k : ℕ) (t : Bytes) → first (conditions (insert_element o p i k t) (store_in bs)) ≡ 0 → Insertion bs o p i k t
unfolding conditions
insertion bs q o p i k t e =
    let (text, (code, (index, more))) = none_holds (insert_element o p i k t) (store_in bs) e in
    record {
      fits = insert_fits bs q o p i k t e;
      text = value_given bs t text;
      code = ltb-false 3 k code;
      known = not_past i (store_in bs).form (or_split (past_end o (store_in bs).form) (past_end i (store_in bs).form) index).1;
      none = e;
    }

module _ {bs : Bytes} {o : ℕ} {p : List ℕ} {i k : ℕ} {t : Bytes} (x : Insertion bs o p i k t) where
  abbrev form : Form
  form = (store_in bs).form

  abbrev edit : Edit Bytes
  edit = insert (quantifier_of k) (name_at_index i form)

  pub known_low : i ≤ 256
  known_low = omega (arith, x.known, size bs (reads bs x.fits.good), (reads bs x.fits.good).whole.few_definitions)

  -- the edit of the code is that of the rules, by indices
  pub edit_same : {r : Quantifier} → r ≡ quantifier_of k → edit_of (Insert r i) ≡ rename_edit (index_of_name bs) edit
  edit_same e = ap₂ (λ (q : Quantifier) (j : ℕ). insert q j) e (sym (name_index form (reads bs x.fits.good).members.once i x.known))

  pub inserting_sized : {q : Plan} (marks : Bytes) (needs : Bool) → q ≡ insert_element_plan o marks i needs → Sized q
  inserting_sized marks needs e = subst Sized (sym e) (record { moves = record { definitions = record { more = omega arith }; attributes = record { more = omega arith } }; filling = known_low })

  -- r: the quantifier that the code read
  pub inserted_answers : {r : Quantifier} (e : r ≡ quantifier_of k) {h : Holder} {n : ℕ} (y : Placed bs o true p h n) {part : Bytes} → part ≡ part_in bs o → (room : ℕ) {q : Plan}
      → q ≡ insert_element_plan o (marks_at 0 n part) i (not (skips (quantifier_of k)) && h.spine) → {out : Bytes} {number len : ℕ} {left : Bytes}
      → Answers (limited room (planned_in (form_edited bs o (insert r i) h n) q t (bodies_of bs))) out number len left → Answers (outcome (insert_element o p i k t) bs room) out number len left
  unfolding form_after
  inserted_answers {r} e {h} {n} y {part} own room {q} w a =
      let needs : Bool = not (skips (quantifier_of k)) && spine y.found.context in
      let marks : Bytes = marks_at 0 n (part_in bs o) in
      let same : q ≡ insert_element_plan o marks i needs =
      w ∙ ap₂ (λ (s : Bytes) (b : Bool). insert_element_plan o (marks_at 0 n s) i (not (skips (quantifier_of k)) && b)) own y.spine in
      let at : placed edit p (members (definition_at o form)) ≡ some y.found = x.fits.at ∙ sym x.fits.by ∙ y.there in
      edited_answers x.fits (Insert r i) (edit_same e) y (insert_element o p i k t) room (insert_element_plan o marks i needs) t 0 (sym x.none) refl
      (insert_element_planned (store_in bs) (holds bs x.fits.good).good o p y.found.context (form_edited bs o (insert r i) h n) i k t y.found.picked marks x.none at
      (λ b. gap_marked x.fits.good x.fits.there y) (bodies_hold x.fits (Insert r i) (edit_same e) y (insert_element o p i k t) refl))
      (answers_equal (ap (λ (s : Plan). limited room (planned_in (form_edited bs o (insert r i) h n) s t (bodies_of bs))) (sym same)) a)
