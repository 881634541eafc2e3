-- `byte_check::part_passes` meets its contract: what `passes` answers of a byte keeps the invariant (`passes_on` of
-- TestLaws), and past the last byte `all` is the answer for all (`passes_end`).
use Rattle.std.proofs.Common.{refl, arith}
use Rattle.byte_check.proofs.TestLaws.{passes_on, passes_end}
use Rattle.byte_check.proofs.part_passes.Goals as goal

pub loop-x-init : goal.loop-x-init
loop-x-init g c = λ p t. refl

pub loop-x-preserved : goal.loop-x-preserved
loop-x-preserved g c =
    λ p t. passes_on p c.args.part.now c.loop-x.x-index c.loop-x.all (c.loop-x.invariant p t) (omega arith) (t _ _ c.passes-all.ensures)

pub returns : goal.returns
returns g c = λ p t. passes_end p c.args.part.now c.loop-x.x-index (c.loop-x.invariant p t) (omega arith)
