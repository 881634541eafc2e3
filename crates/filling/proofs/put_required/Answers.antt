-- `filling::put_required` meets its contract: the invariant holds before the first attribute (`required_none` of
-- FillingLaws) and after each, by the contract of `put_attribute` (`required_on`); past the last it is the contract.
-- What is written leaves the room that `put_attribute` requires (`written_room` of WrittenLaws in `row_writer`).
use native.Mathlib.Omega.{arith}
use Rattle.row_writer.proofs.WrittenLaws.{written_room}
use Rattle.filling.proofs.FillingLaws.{required_none, required_on}
use Rattle.filling.proofs.put_required.Goals as goal

pub loop-j-init : goal.loop-j-init
loop-j-init c =
    let a = c.args in required_none a.form.now a.depth a.i

pub put_attribute-requires : goal.put_attribute-requires
put_attribute-requires c =
    let p = c.requires in (p.0, written_room c.loop-j.invariant p.1, omega (arith, c.loop-j-test.true), p.3)

pub loop-j-preserved : goal.loop-j-preserved
loop-j-preserved c =
    let a = c.args in required_on a.form.now a.depth a.i _ c.loop-j.invariant c.put_attribute.ensures
