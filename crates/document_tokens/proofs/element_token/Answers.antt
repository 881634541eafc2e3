-- `document_tokens::element_token` meets its contract: what was read is the token (`element_told` of TellLaws), and its
-- size is not past the end of the text (`leading_short` of TokenLaws); else no `<` begins it (`element_other`), or no
-- definition has the name (`element_unplaced`).
use mathlib.Core.Path.{ap}
use native.Mathlib.Omega.{arith}
use lib.ListN.{length, length-drop}
use Rattle.rules.specs.WellFormed.{in_name}
use Rattle.document_tokens.proofs.TokenLaws.{leading_short}
use Rattle.document_tokens.proofs.TellLaws.{element_other, element_unplaced, element_told}
use Rattle.document_tokens.proofs.element_token.Goals as goal

pub returns-then-byte-ne60 : goal.returns-then-byte-ne60
returns-then-byte-ne60 c = element_other c.args.form.now c.args.text.now c.byte.ensures c.if-byte-ne60.true

pub definition_place-requires : goal.definition_place-requires
definition_place-requires c =
    let form = c.args.form.now in
    let room = c.requires in
    let count = c.definition_count-count.ensures.value in
    (omega (arith, room.definitions_few, count), omega (arith, room.definitions_there, count, ap length c.after-definitions.ensures, length-drop 40 form))

pub returns-in_err-index : goal.returns-in_err-index
returns-in_err-index c =
    rw c.from_residual.ensures
    (element_unplaced c.args.form.now c.args.text.now c.after-rest.ensures c.name_length-n.ensures c.first-name.ensures c.after-definitions.ensures
    c.definition_count-count.ensures.value c.byte.ensures c.if-byte-ne60.false c.in_err-index.ensures)

pub overflow_add-result : goal.overflow_add-result
overflow_add-result c =
    omega (arith, c.name_length-n.ensures, leading_short in_name c.after-rest.result.now, ap length c.after-rest.ensures, length-drop 1 c.args.text.now)

pub returns : goal.returns
returns c =
    element_told c.args.form.now c.args.text.now c.after-rest.ensures c.name_length-n.ensures c.first-name.ensures c.after-definitions.ensures
    c.definition_count-count.ensures.value c.byte.ensures c.if-byte-ne60.false c.in_ok-index.ensures
