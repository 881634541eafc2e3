-- What a change of a model answers that keeps all rows: changes 6 and 7.
use Prim.Native.Nat.{ℕ}
use native.Mathlib.Omega.{arith}
use mathlib.Core.Path.{◌≡◌, refl, sym, ap, ◌∙◌, subst}
use mathlib.Core.List.{List, []}
use Rattle.rules.specs.Bytes.{Bytes}
use Rattle.rules.specs.Edit.{Edit}
use Rattle.rules.specs.Preorder.{preorder}
use Rattle.rules.specs.Layout.{flat, indexed}
use Rattle.rules.specs.Lines.{lines}
use Rattle.rules.specs.Change.{Call, edit_at, edit_model, keeping, plan, form_after, docs_after, after}
use Rattle.rules.specs.Refusal.{first, conditions}
use Rattle.rules.specs.Outcome.{outcome, Answers}
use Rattle.model.specs.declared.place.Holder.{Holder}
use Rattle.lookup.specs.Bodies.{bodies_of}
use Rattle.row_walk.specs.declared.Plan.{Plan}
use Rattle.model_writer.specs.PartAfter.{rename_edit, inserts}
use Rattle.model_writer.specs.declared.Edit.{Edit as EditCode}
use Rattle.model_writer.specs.Writing.{edit_of}
use Rattle.store_laws.specs.Stores.{store_in}
use Rattle.store_writer.specs.Writing.{limited}
use Rattle.planned_rows.specs.Planned.{planned_in}
use Rattle.planned_rows.specs.Walking.{Sized}
use Rattle.store_laws.proofs.StoreLaws.{holds}
use Rattle.store_writer.proofs.CallLaws.{answers_equal}
use Rattle.plans.specs.CallPlans.{setting_plan}
use Rattle.plans.proofs.DocumentPlans.{set_value_does}
use Rattle.plans.proofs.FormPlanned.{flat_planned_in}
use Rattle.plans.proofs.TreeWalk.{apart, none_of, none_apart}
use Rattle.model_places.specs.Placing.{index_of_name, Placed}
use Rattle.model_form.specs.Editing.{form_edited}
use Rattle.model_edit.proofs.Fits.{Fits, bodies_hold, edited_answers}
use Rattle.model_writer.proofs.FormAfter.{rows_kept}

module _ {bs : Bytes} {o : ℕ} {p : List ℕ} {e : Edit Bytes} (x : Fits bs o p e) (E : EditCode) (same : edit_of E ≡ rename_edit (index_of_name bs) e) {h : Holder} {n : ℕ}
    (y : Placed bs o (inserts e) p h n) where
  kept_planned : (c : Call) → form_after c (store_in bs).form ≡ edit_model o p e (store_in bs).form → plan c (store_in bs).version (store_in bs).form (lines 0 (store_in bs).docs) ≡ keeping
      → flat (after c (store_in bs)) ≡ planned_in (form_edited bs o (edit_of E) h n) (setting_plan 0) [] (flat (store_in bs))
  kept_planned c w k =
      let rows = indexed (store_in bs).form [] (store_in bs).docs in
      flat_planned_in c (store_in bs) (setting_plan 0) [] (form_edited bs o (edit_of E) h n) (bodies_hold x E same y c w) (apart (none_apart _ rows (none_of _ (λ r. refl) rows)))
      (set_value_does (store_in bs) (holds bs x.good).good 0 [] c k
      ∙ sym (ap (λ z. preorder 0 (indexed z [] (docs_after c (store_in bs)))) w ∙ ap (preorder 0) (rows_kept (edit_at e p) o (store_in bs).form [] (docs_after c (store_in bs)))))

  pub kept_answers : (c : Call) (room : ℕ) {q : Plan} (m : ℕ) → q ≡ setting_plan 0 → m ≡ first (conditions c (store_in bs)) → m ≡ 0
      → form_after c (store_in bs).form ≡ edit_model o p e (store_in bs).form → plan c (store_in bs).version (store_in bs).form (lines 0 (store_in bs).docs) ≡ keeping
      → {out : Bytes} {number len : ℕ} {left : Bytes} → Answers (limited room (planned_in (form_edited bs o (edit_of E) h n) q [] (bodies_of bs))) out number len left
      → Answers (outcome c bs room) out number len left
  kept_answers c room m s w z g k a =
      edited_answers x E same y c room (setting_plan 0) [] m w z (kept_planned c g k)
      (answers_equal (ap (λ (y : Plan). limited room (planned_in (form_edited bs o (edit_of E) h n) y [] (bodies_of bs))) (sym s)) a)

pub keeping_sized : {q : Plan} → q ≡ setting_plan 0 → Sized q
keeping_sized e = subst Sized (sym e) (record { moves = record { definitions = record { more = omega arith }; attributes = record { more = omega arith } }; filling = tt })
