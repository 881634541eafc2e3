-- `definition_removal::put_rows_left` meets its contract: the rows that `walk_rows` writes by the plan `shifting` are
-- what `destroyed` leaves (`rows_laid` of LeftBytes); the walk may be made as the plan's numbers are small (`sized` of
-- KeptRows) and the empty text is a value (`none_value` of WellFormedLaws in `rules`).
use Rattle.layout.specs.Bodies.{width_of}
use Rattle.definition_removal.proofs.KeptRows.{sized}
use native.Mathlib.Omega.{arith}
use mathlib.Core.Path.{sym, subst}
use mathlib.Core.List.{[]}
use Rattle.row_walk.specs.declared.Plan.{Plan}
use Rattle.planned_rows.specs.Walking.{Sized}
use Rattle.definition_removal.proofs.LeftBytes.{rows_laid}
use Rattle.rules.proofs.WellFormedLaws.{none_value}
use Rattle.definition_removal.proofs.put_rows_left.Goals as goal

pub walk_rows-after-requires : goal.walk_rows-after-requires
walk_rows-after-requires c = (
  c.requires.0.good,
  none_value (width_of c.args.store.now),
  subst (λ (q : Plan). Sized q) (sym c.shifting-plan.ensures) (sized _ _ _),
  omega (arith, c.requires.1),
)

pub returns : goal.returns
returns c =
    let a = c.args in
    rows_laid a.store.now c.requires.0.good a.i c.requires.0.there [] c.attribute_range-own.ensures
    c.shifting-plan.ensures c.walk_rows-after.ensures
