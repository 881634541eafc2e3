-- `model_writer::put_grouped` meets its contract: the particle of the group and then the members, one deeper, are the
-- bytes after the edit (`laid_then` of Writers, `grouped_bytes` of TailWriting). All numbers that are written are bytes
-- (`grouped_index`, `grouped_depth`, `grouped_fits`).
use native.Mathlib.Omega.{arith}
use Rattle.codec.proofs.Writers.{laid_as, laid_then}
use Rattle.model_writer.proofs.TailWriting.{grouped_index, grouped_depth, grouped_fits, grouped_bytes}
use Rattle.model_writer.proofs.put_grouped.Goals as goal

pub overflow_cast-n : goal.overflow_cast-n
overflow_cast-n c =
    omega (arith, grouped_index c.requires)

pub overflow_cast-d : goal.overflow_cast-d
overflow_cast-d c =
    omega (arith, grouped_depth c.requires)

pub put_new_particle-next-requires : goal.put_new_particle-next-requires
put_new_particle-next-requires c =
    omega (arith, c.requires.room)

pub put_moved-requires : goal.put_moved-requires
put_moved-requires c =
    let p = c.requires in (p.whole, omega (arith, p.room, c.put_new_particle-next.ensures.next), grouped_fits p)

pub returns : goal.returns
returns c =
    laid_as (grouped_bytes c.requires)
    (laid_then c.put_new_particle-next.ensures
    c.put_moved.ensures)
