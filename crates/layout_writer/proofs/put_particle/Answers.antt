-- `layout_writer::put_particle` meets its contract: the four bytes, laid one after the other, are `particle_bytes`
-- (`laid_then` of Writers in `codec`).
use Rattle.codec.proofs.Writers.{laid_then}
use Rattle.layout_writer.proofs.put_particle.Goals as goal

pub returns : goal.returns
returns c =
    laid_then (laid_then (laid_then c.put_u8-a.ensures c.put_u8-b.ensures) c.put_u8-c.ensures) c.put_u8.ensures
