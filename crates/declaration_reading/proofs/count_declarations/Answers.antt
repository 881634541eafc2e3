-- `declaration_reading::count_declarations` meets its contract: with the counts of a line the invariant holds of the
-- others (`counting_on` of CountLaws); no count is more than the bytes of the text (`counting_room`). With no line left
-- the counts are those of all (`counting_done`).
use Rattle.declaration_reading.proofs.CountLaws.{counting_start, counting_room, counting_on, counting_done}
use native.Mathlib.Omega.{arith}
use Rattle.declaration_reading.proofs.count_declarations.Goals as goal

pub loop-line-init : goal.loop-line-init
loop-line-init c = rw c.into_iter-line-iterator.ensures.into_iter_gives (counting_start _)

pub overflow_add-definitions : goal.overflow_add-definitions
overflow_add-definitions c =
    let room = counting_room c.loop-line.invariant _ _ c.in-Some.ensures.steps c.count_line-counts.ensures in
    omega (arith, room.0)

pub overflow_add-particles : goal.overflow_add-particles
overflow_add-particles c =
    let room = counting_room c.loop-line.invariant _ _ c.in-Some.ensures.steps c.count_line-counts.ensures in
    omega (arith, room.1)

pub overflow_add-attributes : goal.overflow_add-attributes
overflow_add-attributes c =
    let room = counting_room c.loop-line.invariant _ _ c.in-Some.ensures.steps c.count_line-counts.ensures in
    omega (arith, room.2)

pub loop-line-preserved : goal.loop-line-preserved
loop-line-preserved c =
    counting_on c.loop-line.invariant _ _ c.in-Some.ensures.steps c.count_line-counts.ensures

pub returns : goal.returns
returns c = counting_done c.loop-line.invariant c.in-None.ensures.steps
