-- `row_walk::numbers::is_plain_by_numbers` meets its contract: the plan says of the row what the numbers say of it, but
-- that it sets none; a row that is set does not stay as it is (`plain_numbers` of NumberLaws).
use mathlib.Core.Path.{refl, ap, ◌∙◌}
use Rattle.row_walk.specs.Lent.{every_if, later_if}
use Rattle.row_walk.proofs.NumberLaws.{plain_numbers}
use Rattle.row_walk.proofs.numbers.is_plain_by_numbers.Goals as goal

pub returns : goal.returns
returns c =
    let a = c.args in
    let takes = c.every_if-2.ensures ∙ ap every_if c.matches_number.ensures in
    let later = c.later_if.ensures ∙ ap later_if c.is_later_number.ensures in
    plain_numbers a.p.now a.marks.now a.o a.h _ c.every_if.ensures takes later refl refl refl refl _ c.is_plain.ensures
