-- `model_writer::put_requantified` meets its contract: without a particle nothing is written (`requantified_none` of
-- TailWriting). Else the first with the code of the quantifier and then the others are the bytes after the edit (`requantified_bytes` of TailWriting, `laid_then` of Writers).
use mathlib.Core.Path.{sym, ap}
use native.Mathlib.Omega.{arith}
use lib.ListN.{length, length-drop}
use Rattle.rules.specs.Bytes.{Bytes}
use Rattle.rules.specs.Layout.{particle_size}
use Rattle.codec.proofs.Writers.{laid_none, laid_as, laid_then}
use Rattle.model_writer.proofs.WritingLaws.{particle_same}
use Rattle.model_writer.proofs.TailWriting.{requantified_none, requantified_bytes}
use Rattle.model_writer.proofs.put_requantified.Goals as goal

pub returns-then-ys-lt-PARTICLE_SIZE : goal.returns-then-ys-lt-PARTICLE_SIZE
returns-then-ys-lt-PARTICLE_SIZE c =
    laid_as (requantified_none c.requires (omega arith)) laid_none

pub put_particle-next-requires : goal.put_particle-next-requires
put_particle-next-requires c =
    omega (arith, c.requires.room)

pub put-requires : goal.put-requires
put-requires c =
    omega (arith, c.requires.room, c.put_particle-next.ensures.next, ap (λ (s : Bytes). length s) c.particles_from.ensures, length-drop particle_size c.args.ys.now)

pub returns : goal.returns
returns c =
    laid_as (requantified_bytes c.requires (omega arith))
    (laid_then
    (laid_as
    (particle_same c.particle_sort.ensures c.from-code.ensures c.particle_index.ensures
    c.particle_depth.ensures)
    c.put_particle-next.ensures)
    (laid_as (sym c.particles_from.ensures) c.put.ensures))
