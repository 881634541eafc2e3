-- `records::is_value` meets its contract: it is the definition of `is_value`, with what `all_printable` answers by its
-- contract.
use mathlib.Core.Path.{ap}
use mathlib.Core.Bool.{Bool, ◌&&◌}
use lib.Dec.{leb}
use lib.ListN.{length}
use Rattle.records.proofs.is_value.Goals as goal

pub returns : goal.returns
returns c =
    ap (λ (t : Bool). leb (length c.args.s.now) c.args.w && t) c.all_printable.ensures
