-- `layout_writer::put_entry` meets its contract: the four bytes of the offset, then the four of the count, are the
-- entry (`laid_then` of Writers in `codec`).
use Rattle.codec.proofs.Writers.{laid_then}
use Rattle.layout_writer.proofs.put_entry.Goals as goal

pub returns : goal.returns
returns c =
    laid_then c.put_u32-next.ensures c.put_u32.ensures
