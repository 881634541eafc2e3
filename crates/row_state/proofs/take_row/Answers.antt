-- `row_state::take_row` meets its contract: each return is a case of `stepped`, by whether the row is an element's and
-- whether it is an attribute's (`took` of TakenLaws).
use mathlib.Core.Path.{refl, sym, ◌∙◌}
use mathlib.Core.Bool.{true, false}
use Rattle.row_state.proofs.TakenLaws.{took}
use Rattle.row_state.proofs.take_row.Goals as goal

pub returns-then-is_of : goal.returns-then-is_of
returns-then-is_of c =
    took c.args.state.now c.args.row.now c.row_depth-d.ensures c.row_index-index.ensures true _
    (sym c.if-is_of.true ∙ c.is_of.ensures) refl c.take_element.ensures

pub returns-then-is_of-2 : goal.returns-then-is_of-2
returns-then-is_of-2 c =
    took c.args.state.now c.args.row.now c.row_depth-d.ensures c.row_index-index.ensures false true
    (sym c.if-is_of.false ∙ c.is_of.ensures) (sym c.if-is_of-2.true ∙ c.is_of-2.ensures) c.take_attribute.ensures

pub returns : goal.returns
returns c =
    took c.args.state.now c.args.row.now c.row_depth-d.ensures c.row_index-index.ensures false false
    (sym c.if-is_of.false ∙ c.is_of.ensures) (sym c.if-is_of-2.false ∙ c.is_of-2.ensures) c.take_text.ensures
