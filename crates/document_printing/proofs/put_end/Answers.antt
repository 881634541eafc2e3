-- `document_printing::put_end` meets its contract: the two cases of `opened` are the two clauses of `end_text`, the
-- byte that `put_u8` lays or no byte (`laid_none` of Writers).
use mathlib.Core.Path.{ap}
use Rattle.codec.proofs.Writers.{laid_as, laid_none}
use Rattle.document_printing.specs.Documents.{end_text}
use Rattle.document_printing.proofs.put_end.Goals as goal

pub returns-then-opened : goal.returns-then-opened
returns-then-opened c =
    laid_as (ap end_text c.if-opened.true) c.put_u8.ensures

pub returns : goal.returns
returns c = laid_as (ap end_text c.if-opened.false) laid_none
