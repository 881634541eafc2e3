-- `document_tokens::read_value` meets its contract: the value that is undone counts if it is short (`value_read` of
-- TellLaws); where none is undone there is none (`value_none`).
use Rattle.document_tokens.proofs.TellLaws.{value_none, value_read}
use Rattle.document_tokens.proofs.read_value.Goals as goal

pub returns-in_err-length : goal.returns-in_err-length
returns-in_err-length c = rw c.from_residual.ensures (value_none c.in_err-length.ensures)

pub returns : goal.returns
returns c = value_read c.requires c.in_ok-length.ensures c.then_some.ensures
