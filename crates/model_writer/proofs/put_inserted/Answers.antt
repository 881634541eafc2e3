-- `model_writer::put_inserted` meets its contract: the particle of the element and then `ys` are the bytes after the
-- edit (`laid_then` of Writers, `inserted_bytes` of TailWriting). Its index and its depth are bytes
-- (`inserted_index`, `inserted_depth`).
use native.Mathlib.Omega.{arith}
use Rattle.codec.proofs.Writers.{laid_as, laid_then}
use Rattle.model_writer.proofs.TailWriting.{inserted_index, inserted_depth, inserted_bytes}
use Rattle.model_writer.proofs.put_inserted.Goals as goal

pub overflow_cast-index : goal.overflow_cast-index
overflow_cast-index c =
    omega (arith, inserted_index c.requires)

pub overflow_cast-d : goal.overflow_cast-d
overflow_cast-d c =
    omega (arith, inserted_depth c.requires)

pub put_new_particle-next-requires : goal.put_new_particle-next-requires
put_new_particle-next-requires c =
    omega (arith, c.requires.room)

pub put-requires : goal.put-requires
put-requires c =
    omega (arith, c.requires.room, c.put_new_particle-next.ensures.next)

pub returns : goal.returns
returns c =
    laid_as (inserted_bytes c.requires)
    (laid_then c.put_new_particle-next.ensures
    c.put.ensures)
