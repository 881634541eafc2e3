-- `declaration_reading::put_owned` meets its contract: the line of a definition says no attribute (`owned_none` of
-- BodyLaws), any other one of the last definition before it (`owned_one`).
use Rattle.declaration_reading.proofs.BodyLaws.{owned_none, owned_one}
use native.Mathlib.Omega.{arith}
use Rattle.declaration_reading.proofs.put_owned.Goals as goal

pub returns-then-starts_with : goal.returns-then-starts_with
returns-then-starts_with c =
    let a = c.args in
    owned_none a.line.now _ c.starts_with.ensures a.w a.owners c.if-starts_with.true

pub overflow_cast-owner : goal.overflow_cast-owner
overflow_cast-owner c = omega (arith, c.minus-owner.ensures)

pub returns : goal.returns
returns c =
    let a = c.args in
    owned_one a.line.now _ c.starts_with.ensures a.w a.owners _ c.if-starts_with.false c.minus-owner.ensures
    c.put_attribute_line.ensures
