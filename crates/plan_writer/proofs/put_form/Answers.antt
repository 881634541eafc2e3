-- `plan_writer::put_form` meets its contract: the header, then the form, are what is to be laid (`laid_then` of
-- Writers in `codec`); the header is no longer than its size, so that the form's place is in range (`headed_short` of
-- HeaderLaws in `layout`).
use native.Mathlib.Omega.{arith}
use Rattle.codec.proofs.Writers.{laid_then}
use Rattle.layout.proofs.HeaderLaws.{headed_short}
use Rattle.plan_writer.proofs.put_form.Goals as goal

pub put-requires : goal.put-requires
put-requires c =
    let a = c.args in
    omega (arith, c.put_header-at.ensures.next, headed_short a.w a.next a.d a.p a.a a.r a.store.now, c.requires.1.short)

pub returns : goal.returns
returns c =
    laid_then c.put_header-at.ensures c.put.ensures
