-- `byte_check::is_reserved` meets its contract: fewer than three bytes are not reserved (`reserved_few` of NameLaws);
-- of three or more the tests of the first three are those of `reserved_name` (`reserved_by`).
use mathlib.Core.Path.{sym}
use native.Mathlib.Omega.{arith}
use Rattle.byte_check.proofs.NameLaws.{reserved_few, reserved_by}
use Rattle.byte_check.proofs.is_reserved.Goals as goal

pub returns-then-s-lt3 : goal.returns-then-s-lt3
returns-then-s-lt3 c =
    sym (reserved_few c.args.s.now (omega arith))

pub returns : goal.returns
returns c =
    reserved_by c.args.s.now (omega arith)
