-- `model_writer::put_part` meets its contract: the head and then the tail are the bytes of the part after the edit
-- (`laid_then` of Writers, `part_bytes` of HeadWriting), and `Part` has what their writers require (`part_head`,
-- `part_tail`).
use native.Mathlib.Omega.{arith}
use Rattle.codec.proofs.Writers.{laid_as, laid_then}
use Rattle.model_writer.proofs.HeadWriting.{part_head, part_tail, part_bytes}
use Rattle.model_writer.proofs.put_part.Goals as goal

pub put_head-next-requires : goal.put_head-next-requires
put_head-next-requires c =
    part_head c.requires.0 c.requires.1

pub particles_from-requires : goal.particles_from-requires
particles_from-requires c =
    omega (arith, c.requires.0.inside, c.requires.1)

pub put_tail-requires : goal.put_tail-requires
put_tail-requires c =
    rw c.particles_from.ensures (part_tail c.requires.0 c.requires.1 c.put_head-next.ensures)

pub returns : goal.returns
returns c =
    laid_as (part_bytes c.requires.0) (laid_then c.put_head-next.ensures (rw c.particles_from.ensures at c.put_tail.ensures))
