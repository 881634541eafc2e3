-- `open_levels::levels_end` meets its contract: a level that is owed something makes the answer false (`every_fails` of
-- Numbers in `form_table`), any other leaves it to the levels after it (`every_more`),
-- and past the last it is true (`every_through`).
use native.Mathlib.Omega.{arith}
use Prim.Native.Nat.{◌+◌}
use mathlib.Core.Path.{sym, ◌∙◌}
use Rattle.form_table.proofs.Numbers.{every_stop, every_more, every_fails, every_through}
use Rattle.row_state.specs.State.{open_elements}
use Rattle.open_levels.specs.Open.{open_end}
use Rattle.open_levels.proofs.levels_end.Goals as goal

pub loop-k-init : goal.loop-k-init
loop-k-init c = every_stop _ c.args.keep c.args.keep (omega arith)

pub returns-then-not-level_ends : goal.returns-then-not-level_ends
unfolding open_end
returns-then-not-level_ends c =
    every_fails _ c.args.keep c.loop-k.k (open_elements c.args.state.now + 1) (omega arith) (omega arith)
    (sym c.level_ends.ensures ∙ c.if-not-level_ends.true)

pub loop-k-preserved : goal.loop-k-preserved
loop-k-preserved c =
    every_more _ c.args.keep c.loop-k.k c.loop-k.invariant (sym c.level_ends.ensures ∙ c.if-not-level_ends.false)

pub returns : goal.returns
unfolding open_end
returns c =
    every_through _ c.args.keep c.loop-k.k (open_elements c.args.state.now + 1) c.loop-k.invariant (omega arith) c.loop-k.auto.k-end
