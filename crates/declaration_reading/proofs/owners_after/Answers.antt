-- `declaration_reading::owners_after` meets its contract: one more after the line of a definition (`owners_more`,
-- `owners_same` of BodyLaws).
use Rattle.declaration_reading.proofs.BodyLaws.{owners_more, owners_same}
use Rattle.declaration_reading.proofs.owners_after.Goals as goal

pub returns-then-starts_with : goal.returns-then-starts_with
returns-then-starts_with c =
    owners_more c.args.line.now _ c.starts_with.ensures _ c.if-starts_with.true

pub returns : goal.returns
returns c =
    owners_same c.args.line.now _ c.starts_with.ensures _ c.if-starts_with.false
