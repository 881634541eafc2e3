-- What the writer asks of change 11.
use Prim.Native.Nat.{ℕ, ◌≤◌}
use native.Mathlib.Omega.{arith}
use mathlib.Core.Path.{◌≡◌, refl, sym, ◌∙◌, subst}
use mathlib.Core.Bool.{Bool, false, not}
use Rattle.rules.specs.Bytes.{Bytes}
use Rattle.rules.specs.Passing.{passes}
use Rattle.rules.specs.Change.{add_document}
use Rattle.rules.specs.Refusal.{first, conditions}
use Rattle.change_laws.proofs.Conditions.{not_past, none_holds}
use Rattle.row_walk.specs.declared.Plan.{Plan}
use Rattle.store_laws.specs.Stores.{store_in}
use Rattle.planned_rows.specs.Walking.{Sized}
use Rattle.store_laws.proofs.StoreLaws.{Holds, holds}
use Rattle.store_writer.proofs.CallLaws.{passed}
use Rattle.store_check.proofs.StoreFacts.{value_given}
use Rattle.plans.specs.CallPlans.{add_document_plan}
use Rattle.call_laws.proofs.Calls.{good_few_definitions, unmoved_small, Asks}

module _ (bs : Bytes) {b : Bool} {m : ℕ} (h : not b ≡ false) (e : b ≡ passes bs) where
  pub add_document_asks : (i : ℕ) (t : Bytes) {q : Plan} → m ≡ first (conditions (add_document i t) (store_in bs)) → m ≡ 0 → q ≡ add_document_plan i → Asks bs t q
  unfolding conditions
  add_document_asks i t {q} f z same =
      let kept : Holds bs = holds bs (passed bs h e) in
      let (text, (index, end)) = none_holds (add_document i t) (store_in bs) (sym f ∙ z) in
      let i-few : i ≤ 256 = omega (arith, not_past i (store_in bs).form index, good_few_definitions (store_in bs) kept.good) in
      (passed bs h e, value_given bs t text, subst Sized (sym same) (record { moves = unmoved_small (add_document_plan i) refl refl; filling = i-few }))
