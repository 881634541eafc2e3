-- `group_refusals::convert_at` meets its contract by a law of ConvertLaws for each return: `count` is 0 or more than
-- the members (`convert_few`), so many cannot be a group of the kind (`convert_unlike`), or neither (`convert_fine`).
use lib.ListN.{drop}
use Prim.Native.Nat.{◌*◌}
use Rattle.rules.specs.Layout.{particle_size}
use Rattle.group_refusals.proofs.ConvertLaws.{convert_few, convert_unlike, convert_fine}
use Rattle.group_refusals.proofs.convert_at.Goals as goal

pub returns-then-count-n : goal.returns-then-count-n
returns-then-count-n c =
    let a = c.args in
    convert_few a.h.kind a.kind a.count a.h.depth (drop (particle_size * a.p) a.part.now) c.particles_from.ensures
    c.count_members-n.ensures c.if-count-n.true

pub returns-then-unlike : goal.returns-then-unlike
returns-then-unlike c =
    let a = c.args in
    convert_unlike a.h.kind a.kind a.count a.h.depth (drop (particle_size * a.p) a.part.now) c.particles_from.ensures
    c.count_members-n.ensures c.if-count-n.false c.unlike.ensures c.if-unlike.true

pub returns : goal.returns
returns c =
    let a = c.args in
    convert_fine a.h.kind a.kind a.count a.h.depth (drop (particle_size * a.p) a.part.now) c.particles_from.ensures
    c.count_members-n.ensures c.if-count-n.false c.unlike.ensures c.if-unlike.false
