-- What the writer asks of change 12.
use Prim.Native.Nat.{ℕ, ◌≤◌}
use native.Mathlib.Omega.{arith}
use mathlib.Core.Path.{◌≡◌, refl, sym, ◌∙◌, subst}
use mathlib.Core.Bool.{Bool, true, false, not}
use Rattle.rules.specs.Bytes.{Bytes}
use Rattle.rules.specs.Passing.{passes}
use Rattle.rules.specs.Change.{add_element}
use Rattle.rules.specs.Refusal.{first, conditions, no_element}
use Rattle.change_laws.proofs.Conditions.{not_past, none_holds}
use Rattle.row_walk.specs.declared.Plan.{Plan}
use Rattle.store_laws.specs.Stores.{store_in}
use Rattle.planned_rows.specs.Walking.{Sized}
use Rattle.store_laws.proofs.StoreLaws.{Holds, holds}
use Rattle.store_writer.proofs.CallLaws.{passed}
use Rattle.store_check.proofs.StoreFacts.{value_given}
use Rattle.plans.specs.CallPlans.{child_serial, add_element_plan}
use Rattle.call_laws.proofs.Calls.{good_few_definitions, unmoved_small, Asks}

module _ (bs : Bytes) {b : Bool} {m : ℕ} (h : not b ≡ false) (e : b ≡ passes bs) where
  pub add_element_asks : (k j i : ℕ) (t : Bytes) {q : Plan} → m ≡ first (conditions (add_element k j i t) (store_in bs)) → m ≡ 0 → q ≡ add_element_plan k (child_serial k j (store_in bs)) i → Asks bs t q
  unfolding conditions
  add_element_asks k j i t {q} f z same =
      let kept : Holds bs = holds bs (passed bs h e) in
      let (text, (index, more)) = none_holds (add_element k j i t) (store_in bs) (sym f ∙ z) in
      let i-few : i ≤ 256 = omega (arith, not_past i (store_in bs).form index, good_few_definitions (store_in bs) kept.good) in
      (passed bs h e, value_given bs t text, subst Sized (sym same) (record { moves = unmoved_small (add_element_plan k (child_serial k j (store_in bs)) i) refl refl; filling = i-few }))

  -- the element is there
  pub add_element_there : (k j i : ℕ) (t : Bytes) → m ≡ first (conditions (add_element k j i t) (store_in bs)) → m ≡ 0 → (passes bs ≡ true) × (no_element k (store_in bs) ≡ false)
  unfolding conditions
  add_element_there k j i t f z =
      let (text, (index, (there, more))) = none_holds (add_element k j i t) (store_in bs) (sym f ∙ z) in
      (passed bs h e, there)
