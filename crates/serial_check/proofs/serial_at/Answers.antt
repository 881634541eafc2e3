-- `serial_check::serial_at` meets its contract: the contract of `layout::row_serial_at` is this one, with
-- `serial_at_row` unfolded.
use Rattle.serial_check.specs.Serials.{serial_at_row}
use Rattle.serial_check.proofs.serial_at.Goals as goal

pub returns : goal.returns
unfolding serial_at_row
returns c = c.row_serial_at.ensures
