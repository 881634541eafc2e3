-- `declaration_reading::put_head` meets its contract: the version, the next serial and the table of contents, laid one
-- after the other (`head_laid` of FormLaws).
use Rattle.declaration_reading.proofs.FormLaws.{head_laid}
use Rattle.declaration_reading.proofs.put_head.Goals as goal

pub returns : goal.returns
returns c =
    let a = c.args in
    head_laid a.version a.w a.d a.p a.a c.put_u32-first.ensures c.put_u32-second.ensures c.put_contents.ensures
