-- `byte_check::in_name` meets its contract: a small letter may stand in a name (`small_in_name` of NameLaws); of other
-- bytes the return is `in_name` but for the answer of `starts_name`, which by its contract is `starts_name`.
use mathlib.Core.Path.{ap}
use mathlib.Core.Bool.{Bool, ◌&&◌, ◌||◌}
use lib.Dec.{eqb, leb}
use Rattle.byte_check.proofs.NameLaws.{small_in_name}
use Rattle.byte_check.proofs.in_name.Goals as goal

pub returns-then-x : goal.returns-then-x
returns-then-x c =
    small_in_name c.args.x c.if-x.true

pub returns : goal.returns
returns c =
    let x = c.args.x in
    ap (λ (t : Bool). t || (leb 48 x && leb x 57) || eqb x 45 || eqb x 46) c.starts_name.ensures
