-- `model_writer::put_shifted` meets its contract: the four bytes that are written are those of the particle that is
-- read but for the depth, which is `shift` by the contract of `shifted` (`particle_same` of WritingLaws).
use mathlib.Core.Path.{◌∙◌, ap}
use Prim.Native.Nat.{ℕ}
use Rattle.codec.proofs.Writers.{laid_as}
use Rattle.model_writer.specs.Writing.{shift}
use Rattle.model_writer.proofs.WritingLaws.{particle_same}
use Rattle.model_writer.proofs.put_shifted.Goals as goal

pub shifted-depth-requires : goal.shifted-depth-requires
shifted-depth-requires c =
    rw c.particle_depth.ensures c.requires.0

pub returns : goal.returns
returns c =
    laid_as
    (particle_same c.particle_sort.ensures c.particle_quantifier.ensures
    c.particle_index.ensures
    (c.shifted-depth.ensures ∙ ap (λ (n : ℕ). shift c.args.deeper n) c.particle_depth.ensures))
    c.put_particle.ensures
