-- `row_walk::numbers::matches_number` meets its contract: in the arms 0 to 4 the return is the clause of `matches` for
-- that variant, and every other number is that of `Serial` (`which_serial` of NumberLaws).
use native.Mathlib.Omega.{arith}
use Rattle.row_walk.proofs.NumberLaws.{which_serial}
use Rattle.row_walk.proofs.numbers.matches_number.Goals as goal

pub returns-in_default : goal.returns-in_default
returns-in_default c =
    let a = c.args in
    rw (which_serial a.variant a.number (omega arith) (omega arith) (omega arith) (omega arith) (omega arith), c.is-in_default.ensures)
