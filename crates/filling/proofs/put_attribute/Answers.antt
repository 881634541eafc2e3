-- `filling::put_attribute` meets its contract: `required_at` is the one row that is written where definition i needs
-- attribute j (`needed_written` of FillingLaws), and no row where it does not (`spare_written`).
use Rattle.filling.proofs.FillingLaws.{sort_written, spare_written, needed_written}
use Rattle.filling.proofs.put_attribute.Goals as goal

pub returns-then-needs : goal.returns-then-needs
returns-then-needs c =
    let a = c.args in
    needed_written a.form.now a.depth a.i a.j c.needs.ensures c.if-needs.true
    c.created_value-value.ensures.0 (sort_written c.from.ensures c.put_new.ensures)

pub returns-else-needs : goal.returns-else-needs
returns-else-needs c =
    let a = c.args in
    spare_written a.form.now a.depth a.i a.j c.needs.ensures c.if-needs.false
