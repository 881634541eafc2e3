-- `codec::put_u16` meets its contract.
use Rattle.codec.proofs.Writers.{laid_then}
use Rattle.codec.proofs.put_u16.Goals as goal

pub returns : goal.returns
returns c =
    laid_then c.put_u8-next.ensures c.put_u8.ensures
