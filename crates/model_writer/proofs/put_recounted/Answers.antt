-- `model_writer::put_recounted` meets its contract: the four bytes that are written are those of the particle that is
-- read but for the index, which is `count_after` by the contract of `count_after` (`particle_same` of WritingLaws).
use mathlib.Core.Path.{ap, ◌∙◌}
use native.Mathlib.Omega.{arith}
use Rattle.codec.proofs.Writers.{laid_as}
use Rattle.model.specs.Members.{particles_of}
use Rattle.model_writer.specs.PartAfter.{count_after}
use Rattle.model_writer.specs.Writing.{edit_of}
use Rattle.model_writer.proofs.WritingLaws.{particle_same}
use Rattle.model_writer.proofs.put_recounted.Goals as goal

pub overflow_cast-count : goal.overflow_cast-count
overflow_cast-count c =
    omega (arith, c.requires.1, c.count_after-count.ensures, ap (count_after (edit_of c.args.edit) (particles_of c.args.ys.now)) c.particle_index.ensures)

pub returns : goal.returns
returns c =
    laid_as
    (particle_same c.particle_sort.ensures c.particle_quantifier.ensures
    (c.count_after-count.ensures
    ∙ ap (count_after (edit_of c.args.edit) (particles_of c.args.ys.now)) c.particle_index.ensures)
    c.particle_depth.ensures)
    c.put_particle.ensures
