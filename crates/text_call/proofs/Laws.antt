-- What the writer asks of change 16.
use Prim.Native.Nat.{ℕ}
use mathlib.Core.Path.{◌≡◌, refl, sym, ◌∙◌, subst}
use mathlib.Core.Bool.{Bool, true, false, not}
use Rattle.rules.specs.Bytes.{Bytes}
use Rattle.rules.specs.Passing.{passes}
use Rattle.rules.specs.Change.{set_text}
use Rattle.rules.specs.Refusal.{first, conditions, no_element}
use Rattle.change_laws.proofs.Conditions.{none_holds}
use Rattle.row_walk.specs.declared.Plan.{Plan}
use Rattle.store_laws.specs.Stores.{store_in}
use Rattle.planned_rows.specs.Walking.{Sized}
use Rattle.store_writer.proofs.CallLaws.{passed}
use Rattle.store_check.proofs.StoreFacts.{value_given}
use Rattle.plans.specs.CallPlans.{text_serial, set_text_plan}
use Rattle.call_laws.proofs.Calls.{unmoved_small, Asks}

module _ (bs : Bytes) {b : Bool} {m : ℕ} (h : not b ≡ false) (e : b ≡ passes bs) where
  pub set_text_asks : (k : ℕ) (t : Bytes) {q : Plan} → m ≡ first (conditions (set_text k t) (store_in bs)) → m ≡ 0 → q ≡ set_text_plan (text_serial k (store_in bs)) → Asks bs t q
  unfolding conditions
  set_text_asks k t {q} f z same =
      let (text, more) = none_holds (set_text k t) (store_in bs) (sym f ∙ z) in
      (passed bs h e, value_given bs t text, subst Sized (sym same) (record { moves = unmoved_small (set_text_plan (text_serial k (store_in bs))) refl refl; filling = tt }))

  -- the element is there
  pub set_text_there : (k : ℕ) (t : Bytes) → m ≡ first (conditions (set_text k t) (store_in bs)) → m ≡ 0 → (passes bs ≡ true) × (no_element k (store_in bs) ≡ false)
  unfolding conditions
  set_text_there k t f z =
      let (text, (there, more)) = none_holds (set_text k t) (store_in bs) (sym f ∙ z) in
      (passed bs h e, there)
