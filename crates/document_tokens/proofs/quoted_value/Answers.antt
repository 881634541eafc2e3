-- `document_tokens::quoted_value` meets its contract: what was read is the value in quotes (`quote_told` of TellLaws);
-- else it is not begun (`quote_unbegun`), not ended (`quote_open`), or no value (`quote_none`).
use mathlib.Core.Path.{refl, sym, ◌∙◌}
use Rattle.document_tokens.proofs.TellLaws.{quote_unbegun, quote_open, quote_none, quote_told}
use Rattle.document_tokens.proofs.quoted_value.Goals as goal

pub returns-then-not-starts_with : goal.returns-then-not-starts_with
returns-then-not-starts_with c =
    quote_unbegun c.args.text.now c.args.value.now (sym c.starts_with.ensures ∙ c.if-not-starts_with.true)

pub returns-then-byte-ne34 : goal.returns-then-byte-ne34
returns-then-byte-ne34 c =
    quote_open c.args.text.now c.after-rest.ensures c.length_before-raw.ensures refl c.args.value.now c.byte.ensures c.if-byte-ne34.true

pub returns-in_err-length : goal.returns-in_err-length
returns-in_err-length c =
    rw c.from_residual.ensures
    (quote_none c.args.text.now c.after-rest.ensures c.length_before-raw.ensures c.first.ensures c.in_err-length.ensures)

pub returns : goal.returns
returns c =
    quote_told c.args.text.now c.after-rest.ensures c.length_before-raw.ensures c.first.ensures
    c.in_ok-length.ensures c.byte.ensures c.if-byte-ne34.false (sym c.starts_with.ensures ∙ c.if-not-starts_with.false)
