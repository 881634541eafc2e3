-- `document_rows::nexts::step_child` meets its contract: the child with serial `skip` gives no name to step over
-- (`kept_none` of StepLaws), and any other gives its index (`kept_one`).
use mathlib.Core.Path.{sym, ◌∙◌}
use Rattle.rules.specs.Decode.{read_row}
use Rattle.document_rows.proofs.StepLaws.{as_word, stepped_none, kept_one, kept_none}
use Rattle.document_rows.proofs.nexts.step_child.Goals as goal

pub returns-then-row_serial-skip : goal.returns-then-row_serial-skip
returns-then-row_serial-skip c = as_word _ _ (kept_none (read_row c.args.row.now).row _ (sym c.row_serial.ensures ∙ c.if-row_serial-skip.true)) (stepped_none _ _)

pub returns : goal.returns
returns c =
    as_word _ _ (kept_one (read_row c.args.row.now).row _ _ (λ e. c.if-row_serial-skip.false (c.row_serial.ensures ∙ e)) c.row_index.ensures) c.step.ensures
