-- What the writer asks of change 14.
use Prim.Native.Nat.{ℕ, ◌≤◌, ◌<◌}
use native.Mathlib.Omega.{arith}
use mathlib.Core.Path.{◌≡◌, refl, sym, ap, ◌∙◌, subst}
use mathlib.Core.Bool.{Bool, true, false, not, false≢true}
use mathlib.Core.Option.{Option}
use mathlib.Core.Logic.{⊎_elim}
use lib.Dec.{eqb}
use Rattle.rules.specs.Bytes.{Bytes}
use Rattle.rules.specs.Passing.{passes}
use Rattle.rules.specs.Change.{set_attribute, Owned}
use Rattle.rules.specs.Decode.{attribute_count}
use Rattle.rules.specs.Lines.{element_with, find_row}
use Rattle.rules.specs.Refusal.{first, conditions, rows_of, is_other, unknown_attribute}
use Rattle.rules.proofs.Words.{below_or}
use Rattle.change_laws.proofs.Conditions.{none_holds}
use Rattle.filling.specs.declared.Filling.TheVariants.{Attribute}
use Rattle.row_walk.specs.declared.Which.TheVariants.{Serial}
use Rattle.row_walk.specs.declared.Later.TheVariants.{Past}
use Rattle.row_walk.specs.declared.Plan.{Plan}
use Rattle.store_laws.specs.Stores.{store_in}
use Rattle.planned_rows.specs.Walking.{Sized}
use Rattle.store_writer.proofs.CallLaws.{passed}
use Rattle.attribute_row_refusals.specs.Refused.{AttributeRefused}
use Rattle.store_check.proofs.StoreFacts.{value_given, Whole, whole}
use Rattle.store_check.proofs.AttributeOwners.{unowned}
use Rattle.plans.specs.CallPlans.{filling_plan, setting_plan, attribute_serial, set_attribute_plan}
use Rattle.call_laws.proofs.Calls.{unmoved_small, Asks}

-- an attribute that is known has a small index
attribute_few : (bs : Bytes) (k a : ℕ) → passes bs ≡ true → unknown_attribute k a (store_in bs) ≡ false → a < 65536
attribute_few bs k a q known =
    ⊎_elim (λ (l : a < attribute_count bs). omega (arith, w.few_attributes))
    (λ (l : attribute_count bs ≤ a). absurd
    (false≢true (sym known ∙ ap (λ (o : Option Owned). is_other o (find_row (element_with k) (rows_of (store_in bs)))) (unowned bs w a l))))
    (below_or a (attribute_count bs))
  where
    w : Whole bs
    w = whole bs q

set_sized : (k a m : ℕ) → a < 65536 → Sized (set_attribute_plan k a m)
set_sized k a m l = by (eqb m 0)
  where
    by : (t : Bool) → Sized (elim t [ true ↦ filling_plan (Serial k) (Past a) (Attribute a) | false ↦ setting_plan m ])
    by true = record { moves = unmoved_small (filling_plan (Serial k) (Past a) (Attribute a)) refl refl; filling = l }
    by false = record { moves = unmoved_small (setting_plan m) refl refl; filling = tt }

module _ (bs : Bytes) {b : Bool} {m : ℕ} (h : not b ≡ false) (e : b ≡ passes bs) where
  pub set_attribute_there : (k a : ℕ) (v : Bytes) → m ≡ first (conditions (set_attribute k a v) (store_in bs)) → m ≡ 0 → (passes bs ≡ true) × AttributeRefused k a (store_in bs) 0
  unfolding conditions
  set_attribute_there k a v f z =
      let (value, (known, (there, more))) = none_holds (set_attribute k a v) (store_in bs) (sym f ∙ z) in
      (passed bs h e, record { is = rw (known, there) })

  pub set_attribute_asks : (k a : ℕ) (v : Bytes) {q : Plan} → m ≡ first (conditions (set_attribute k a v) (store_in bs)) → m ≡ 0
      → q ≡ set_attribute_plan k a (attribute_serial k a (store_in bs)) → Asks bs v q
  unfolding conditions
  set_attribute_asks k a v {q} f z same =
      let (value, (known, more)) = none_holds (set_attribute k a v) (store_in bs) (sym f ∙ z) in
      (passed bs h e, value_given bs v value, subst Sized (sym same) (set_sized k a (attribute_serial k a (store_in bs)) (attribute_few bs k a (passed bs h e) known)))
