-- `codec::put_u32` meets its contract.
use Rattle.codec.proofs.Numbers.{le_four}
use Rattle.codec.proofs.Writers.{laid_as, laid_then}
use Rattle.codec.proofs.put_u32.Goals as goal

pub returns : goal.returns
returns c =
    laid_as (le_four c.args.x) (laid_then c.put_u16-next.ensures c.put_u16.ensures)
