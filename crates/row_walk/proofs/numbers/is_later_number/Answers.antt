-- `row_walk::numbers::is_later_number` meets its contract: in the arms 0, 1 and 2 the return is the clause of `is_later`
-- for that variant, and every other number is that of `Unmarked` (`later_unmarked` of NumberLaws), whose clause tests
-- the mark that `codec::byte` reads.
use native.Mathlib.Omega.{arith}
use Rattle.row_walk.proofs.NumberLaws.{later_unmarked}
use Rattle.row_walk.proofs.numbers.is_later_number.Goals as goal

pub returns-in_default : goal.returns-in_default
returns-in_default c =
    let a = c.args in
    rw (later_unmarked a.variant a.number (omega arith) (omega arith) (omega arith), c.byte.ensures, c.is-in_default.ensures)
