-- What a call answers whose change is a plan over the rows, and what the writer asks of the plan.
use Prim.Native.Nat.{ℕ, ◌≤◌}
use native.Mathlib.Omega.{arith}
use mathlib.Core.Path.{◌≡◌, refl, sym, ap, ◌∙◌, subst}
use mathlib.Core.Bool.{Bool, true, false, not}
use mathlib.Core.List.{[]}
use lib.ListN.{length, length-map}
use Rattle.rules.specs.Bytes.{Bytes}
use Rattle.rules.specs.Store.{Store}
use Rattle.rules.specs.Layout.{FlatStore, flat, flat_definition}
use Rattle.rules.specs.WellFormed.{is_value}
use Rattle.rules.specs.Passing.{good, passes}
use Rattle.rules.specs.Change.{Call, after}
use Rattle.rules.specs.Refusal.{first, conditions}
use Rattle.rules.specs.Outcome.{outcome, Answers}
use Rattle.rules.proofs.DecodeLaws.{good_parts}
use Rattle.layout.specs.Bodies.{width_of}
use Rattle.lookup.specs.Bodies.{bodies_of}
use Rattle.row_walk.specs.Step.{Planned}
use Rattle.row_walk.specs.declared.Which.{Which}
use Rattle.row_walk.specs.declared.Plan.{Plan}
use Rattle.store_laws.specs.Stores.{store_in}
use Rattle.store_writer.specs.Writing.{limited}
use Rattle.planned_rows.specs.Planned.{planned}
use Rattle.planned_rows.specs.Walking.{Sized}
use Rattle.store_laws.proofs.StoreLaws.{Holds, holds}
use Rattle.store_writer.proofs.CallLaws.{answers_equal, answers_written, passed}
use Rattle.plans.specs.CallPlans.{taking_plan}
use Rattle.rules.proofs.WellFormedLaws.{none_value}

-- ---- what a call answers; b is what the check gave, m the number of the first condition
module _ (c : Call) (bs : Bytes) (room : ℕ) (out : Bytes) where
  -- f: the bodies that are left
  pub made : {b : Bool} {m n l : ℕ} {left : Bytes} (f : FlatStore) → not b ≡ false → b ≡ passes bs → m ≡ first (conditions c (store_in bs)) → m ≡ 0
      → (passes bs ≡ true → first (conditions c (store_in bs)) ≡ 0 → flat (after c (store_in bs)) ≡ f)
      → Answers (limited room f) out n l left → Answers (outcome c bs room) out n l left
  made {m = m} f h e q z does a = answers_written c bs room (passed bs h e) m q z f (does (passed bs h e) (sym q ∙ z)) a

  -- p: the plan of the change, q: the one that the code made
  pub made_planned : {b : Bool} {m n l : ℕ} {left : Bytes} (p q : Plan) (v : Bytes) → not b ≡ false → b ≡ passes bs → m ≡ first (conditions c (store_in bs)) → m ≡ 0 → q ≡ p
      → (good (store_in bs) ≡ true → first (conditions c (store_in bs)) ≡ 0 → flat (after c (store_in bs)) ≡ planned p v (flat (store_in bs)))
      → Answers (limited room (planned q v (bodies_of bs))) out n l left → Answers (outcome c bs room) out n l left
  made_planned p q v h e f z same does a =
      let kept : Holds bs = holds bs (passed bs h e) in
      made (planned p v (flat (store_in bs))) h e f z (λ x y. does kept.good y)
      (answers_equal (ap (λ (x : FlatStore). limited room (planned p v x)) (sym kept.bodies) ∙ ap (λ (x : Plan). limited room (planned x v (bodies_of bs))) (sym same)) a)

-- ---- what the writer asks of a plan and its text
pub unmoved_small : (p : Plan) → p.definitions.more ≡ 0 → p.attributes.more ≡ 0 → Planned p
unmoved_small p d a = record { definitions = record { more = omega (arith, d) }; attributes = record { more = omega (arith, a) } }

pub good_few_definitions : (s : Store) → good s ≡ true → length s.form ≤ 64
good_few_definitions s g = omega (arith, length-map s.form (flat_definition s.form), (good_parts s g).definition_count)

abbrev pub Asks : Bytes → Bytes → Plan → Type 0
Asks bs v p = (passes bs ≡ true) × (is_value (width_of bs) v ≡ true) × Sized p

module _ (bs : Bytes) {b : Bool} {m : ℕ} (h : not b ≡ false) (e : b ≡ passes bs) where
  -- a call without a text: none is used
  pub takes_asks : (c : Call) (w : Which) (x : Which) {q : Plan} → m ≡ first (conditions c (store_in bs)) → m ≡ 0 → q ≡ taking_plan w x → Asks bs [] q
  takes_asks c w x f z same = (passed bs h e, none_value (width_of bs), subst Sized (sym same) (record { moves = unmoved_small (taking_plan w x) refl refl; filling = tt }))
