-- `document_tokens::text_token` meets its contract: what was read is the token (`text_told` of TellLaws), and its size
-- is not past the end of the text (`leading_short` of TokenLaws); else no `>` begins it (`text_other`), or it is no
-- value (`text_none`).
use mathlib.Core.Path.{ap}
use native.Mathlib.Omega.{arith}
use lib.ListN.{length, length-drop}
use Rattle.text_scan.specs.Scan.{no_tag}
use Rattle.document_tokens.proofs.TokenLaws.{leading_short}
use Rattle.document_tokens.proofs.TellLaws.{text_other, text_none, text_told}
use Rattle.document_tokens.proofs.text_token.Goals as goal

pub returns-then-byte-ne62 : goal.returns-then-byte-ne62
returns-then-byte-ne62 c = text_other c.args.w c.args.text.now c.args.value.now c.byte.ensures c.if-byte-ne62.true

pub returns-in_err-length : goal.returns-in_err-length
returns-in_err-length c =
    rw c.from_residual.ensures
    (text_none c.args.text.now c.after-rest.ensures c.length_before-n.ensures c.first.ensures c.in_err-length.ensures)

pub overflow_add-result : goal.overflow_add-result
overflow_add-result c =
    omega (arith, c.length_before-n.ensures, leading_short no_tag c.after-rest.result.now, ap length c.after-rest.ensures, length-drop 1 c.args.text.now)

pub returns : goal.returns
returns c =
    text_told c.args.text.now c.after-rest.ensures c.length_before-n.ensures c.first.ensures
    c.in_ok-length.ensures c.byte.ensures c.if-byte-ne62.false
