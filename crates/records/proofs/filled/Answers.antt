-- `records::filled` meets its contract: more used bytes than the field has do not fit (`filled_wide` of CodeLaws); else
-- the bytes tested for zeros are those of the field after the used ones (`filled_of`).
use mathlib.Core.Path.{sym}
use native.Mathlib.Omega.{arith}
use Rattle.records.proofs.CodeLaws.{filled_wide, filled_of}
use Rattle.records.proofs.filled.Goals as goal

pub returns-then-width-used : goal.returns-then-width-used
returns-then-width-used c =
    let a = c.args in
    sym (filled_wide a.rec.now a.at a.used a.width c.if-width-used.true)

pub returns : goal.returns
returns c =
    let a = c.args in
    filled_of a.rec.now a.at a.used a.width _ _ _ (omega arith) c.after.ensures c.first-field.ensures c.after-2.ensures c.zeros.ensures
