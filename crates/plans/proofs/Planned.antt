-- The store that a call leaves is the one after a plan that does on the
-- documents what the call does, where the form stays as it is.
use mathlib.Core.Path.{◌≡◌, refl, sym, ap, ◌∙◌, subst}
use mathlib.Core.List.{[]}
use Rattle.rules.specs.Bytes.{Bytes}
use Rattle.rules.specs.Store.{Form, Store}
use Rattle.rules.specs.Preorder.{preorder}
use Rattle.rules.specs.Layout.{indexed, flat}
use Rattle.rules.specs.Change.{Call, form_after, docs_after, after}
use Rattle.row_walk.specs.declared.Plan.{Plan}
use Rattle.planned_rows.specs.Planned.{fill_of, planned}
use Rattle.plans.specs.Trees.{documents_walk}
use Rattle.plans.specs.Bodies.{HoldsForm}
use Rattle.plans.proofs.TreeWalk.{Clear}
use Rattle.plans.proofs.FormPlanned.{flat_planned_in}
use Rattle.planned_rows.proofs.PlannedLaws.{planned_same}

pub flat_planned : (c : Call) (s : Store) (p : Plan) (v : Bytes) → form_after c s.form ≡ s.form → Clear p (indexed s.form [] s.docs)
    → documents_walk p v (fill_of p v (flat s)) (indexed s.form [] s.docs) ≡ preorder 0 (indexed s.form [] (docs_after c s)) → flat (after c s) ≡ planned p v (flat s)
flat_planned c s p v same clear e =
    flat_planned_in c s p v (flat s) (subst (HoldsForm (flat s)) (sym same) record { definitions = refl; particles = refl; attributes = refl }) clear
    (e ∙ ap (λ (form : Form). preorder 0 (indexed form [] (docs_after c s))) (sym same))
    ∙ planned_same p v (flat s)
