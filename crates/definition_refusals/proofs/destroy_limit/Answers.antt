-- `definition_refusals::destroy_limit` meets its contract: the counts that are left give the length of the store
-- without definition i, which is above the room (`short_room` of DestroyLimits) or not (`enough_room`).
use Rattle.definition_refusals.proofs.DestroyLimits.{short_room, enough_room}
use native.Mathlib.Omega.{arith}
use Rattle.definition_refusals.proofs.destroy_limit.Goals as goal

pub returns-then-through_rows-room : goal.returns-then-through_rows-room
returns-then-through_rows-room c =
    short_room c.args.store.now c.requires.good c.args.i c.requires.there _ _ c.particles_left-p.ensures
    c.attributes_left-a.ensures c.args.room c.width_in-w.ensures c.definition_count-d.ensures
    c.row_count-r.ensures c.through_rows.ensures (omega arith)

pub returns : goal.returns
returns c =
    enough_room c.args.store.now c.requires.good c.args.i c.requires.there _ _ c.particles_left-p.ensures
    c.attributes_left-a.ensures c.args.room c.width_in-w.ensures c.definition_count-d.ensures
    c.row_count-r.ensures c.through_rows.ensures (omega arith)
