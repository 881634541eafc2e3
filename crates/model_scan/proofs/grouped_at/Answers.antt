-- `model_scan::grouped_at` meets its contract: each byte of the text keeps the invariant (`grouping_on` of ModelLaws);
-- the group's own `)` ends it with the mark after it (`grouping_closed`), and so does the end of the text
-- (`grouping_open`).
use Rattle.model_scan.proofs.ModelLaws.{grouping_start, grouping_on, grouping_closed, grouping_open}
use native.Mathlib.Omega.{arith}
use Rattle.model_scan.proofs.grouped_at.Goals as goal

pub loop-i-init : goal.loop-i-init
loop-i-init c = grouping_start _

pub returns-then-x-nest : goal.returns-then-x-nest
returns-then-x-nest c =
    grouping_closed c.args.text.now _ _ _ _ c.loop-i.invariant (omega arith) c.if-x-nest.true _ c.after.ensures _ _
    c.mark_code-mark.ensures c.members-count.ensures

pub counted-signs-requires : goal.counted-signs-requires
counted-signs-requires c =
    omega (arith, c.loop-i.invariant.few)

pub depth_after-nest-requires : goal.depth_after-nest-requires
depth_after-nest-requires c =
    omega (arith, c.loop-i.invariant.near)

pub loop-i-preserved : goal.loop-i-preserved
loop-i-preserved c =
    grouping_on c.args.text.now _ _ _ _ c.loop-i.invariant (omega arith) c.if-x-nest.false _ _ _ c.kind_after-kind.ensures
    c.counted-signs.ensures c.depth_after-nest.ensures

pub returns : goal.returns
returns c =
    grouping_open c.args.text.now _ _ _ _ c.loop-i.invariant (omega arith) _ c.members-count-2.ensures
