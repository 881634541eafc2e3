-- `model_scan::measure_model` meets its contract: each byte of the text keeps the invariant (`measuring_on` of
-- ModelLaws), and at its end nothing is left to measure (`measuring_done`).
use Rattle.model_scan.proofs.ModelLaws.{measuring_start, measuring_on, measuring_done}
use native.Mathlib.Omega.{arith}
use Rattle.model_scan.proofs.measure_model.Goals as goal

pub loop-x-init : goal.loop-x-init
loop-x-init c = measuring_start _

pub counted-count-requires : goal.counted-count-requires
counted-count-requires c =
    omega (arith, c.loop-x.invariant.few)

pub depth_after-depth-requires : goal.depth_after-depth-requires
depth_after-depth-requires c =
    omega (arith, c.loop-x.invariant.near)

pub loop-x-preserved : goal.loop-x-preserved
loop-x-preserved c =
    measuring_on c.args.text.now _ _ _ _ _ c.loop-x.invariant (omega arith) _ c.starts_here-starts.ensures _ _ _ c.counted-count.ensures
    c.depth_after-depth.ensures c.in_name-inside.ensures

pub returns : goal.returns
returns c =
    measuring_done c.args.text.now _ _ _ _ _ c.loop-x.invariant (omega arith)
