-- `form_table::lay_models` meets its contract: the invariant holds before the first definition (`lining_starts` of
-- TableLaws) and after each, whose entry is the model's line from `fill` and an empty set of attributes (`lining_on`).
-- The table keeps its length, so that each line is in range.
use Prim.Native.Nat.{ℕ}
use mathlib.Core.Path.{◌≡◌, refl, subst}
use native.Mathlib.Omega.{arith}
use Rattle.form_table.specs.Table.{Lined}
use Rattle.form_table.proofs.TableLaws.{lining_starts, lining_on}
use Rattle.form_table.proofs.lay_models.Goals as goal

pub loop-i-init : goal.loop-i-init
loop-i-init c = lining_starts c.args.form.now c.args.table.now

pub bounds-table-i : goal.bounds-table-i
bounds-table-i c =
    omega (arith, c.requires.0.definitions, c.loop-i.invariant.long, c.requires.1)

pub loop-i-preserved : goal.loop-i-preserved
loop-i-preserved c =
    lining_on c.args.form.now c.args.table.now _ _ c.loop-i.invariant c.requires.0.definitions c.requires.1
    (omega arith) _ _ c.model_part-part.ensures c.fill.ensures refl

pub returns : goal.returns
returns c =
    let all : c.loop-i.i ≡ c.args.form.now.definition_count = omega arith in
    subst (λ (i : ℕ). Lined c.args.form.now i c.loop-i.table) all c.loop-i.invariant.lined
