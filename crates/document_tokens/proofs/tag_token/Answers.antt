-- `document_tokens::tag_token` meets its contract: the case split is on the first byte and whether the definition has a text
-- (`tag_attribute`, `tag_text`, `tag_ends` of ChoiceLaws).
use mathlib.Core.Path.{refl}
use Rattle.document_tokens.specs.Tokens.{declared_in}
use Rattle.document_tokens.proofs.TellLaws.{tells_as, tells_beside}
use Rattle.document_tokens.proofs.ChoiceLaws.{tag_attribute, tag_text, tag_ends}
use Rattle.document_tokens.proofs.tag_token.Goals as goal

pub returns-then-byte-eq32 : goal.returns-then-byte-eq32
returns-then-byte-eq32 c =
    let a = c.args in
    tells_as (tag_attribute (declared_in a.form.now) a.w a.o a.text.now c.byte.ensures c.if-byte-eq32.true) c.attribute_token.ensures

pub returns-then-has_text : goal.returns-then-has_text
returns-then-has_text c =
    let a = c.args in
    tells_as (tag_text (declared_in a.form.now) a.w a.o a.text.now c.byte.ensures c.if-byte-eq32.false c.has_text.ensures c.if-has_text.true)
    c.text_token.ensures

pub returns : goal.returns
returns c =
    let a = c.args in
    tells_as (tag_ends (declared_in a.form.now) a.w a.o a.text.now c.byte.ensures c.if-byte-eq32.false c.has_text.ensures c.if-has_text.false)
    (tells_beside _ a.value.now refl c.start_end_token.ensures)
