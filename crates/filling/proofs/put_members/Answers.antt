-- `filling::put_members` meets its contract: where `fills_nothing` is true the filling of the group is empty and
-- nothing is written (`group_empty`, `none_written` of FillingLaws), else it is the one that `put_group` writes
-- (`group_full`, `same_written`).
use Rattle.filling.specs.Fillings.{group_filled}
use Rattle.filling.specs.Parts.{members_read_at}
use Rattle.filling.proofs.FillingLaws.{none_written, same_written, group_empty, group_full}
use Rattle.filling.proofs.put_members.Goals as goal

pub returns-then-fills_nothing : goal.returns-then-fills_nothing
returns-then-fills_nothing c =
    let a = c.args in
    let filled = group_filled a.kind (members_read_at a.form.now.particles.now a.first a.d) in
    none_written a.form.now a.text.now a.h a.depth filled
    (group_empty a.form.now.particles.now _ a.first a.d c.particles_from-s.ensures a.kind _ c.fills_nothing.ensures c.if-fills_nothing.true)

pub returns : goal.returns
returns c =
    let a = c.args in
    let filled = group_filled a.kind (members_read_at a.form.now.particles.now a.first a.d) in
    same_written a.form.now a.text.now a.h a.depth filled _
    (group_full a.form.now.particles.now _ a.first a.d c.particles_from-s.ensures a.kind _ c.fills_nothing.ensures c.if-fills_nothing.false)
    c.put_group.ensures
