-- `printing::model_end` meets its contract: the case split is on whether `from + n` is below the count: if so, the
-- particles are those up to there (`from_take` of FormLaws), else all that are left (`from_take_all`).
use mathlib.Core.Path.{◌≡◌, sym, ap, ◌∙◌}
use Prim.Native.Nat.{ℕ}
use native.Mathlib.Omega.{arith}
use Rattle.rules.specs.Layout.{particle_size}
use Rattle.rules.specs.Decode.{read_particle, particle_count}
use Rattle.printing_parts.specs.Parts.{from_particles, particles_from}
use Rattle.printing.proofs.FormLaws.{from_take, from_take_all}
use Rattle.printing.proofs.model_end.Goals as goal

pub returns-then-end-count : goal.returns-then-end-count
returns-then-end-count c =
    let a = c.args in
    let e : c.particle_count-count.result ≡ particle_count a.store.now = c.particle_count-count.ensures.value in
    record { taken = from_take read_particle particle_size (from_particles a.store.now) (particle_count a.store.now) a.from a.n (omega arith); upto = omega arith }

pub returns-else-end-count : goal.returns-else-end-count
returns-else-end-count c =
    let a = c.args in
    let e : c.particle_count-count.result ≡ particle_count a.store.now = c.particle_count-count.ensures.value in
    record {
      taken = from_take_all read_particle particle_size (from_particles a.store.now) (particle_count a.store.now) a.from a.n (omega arith)
          ∙ ap (λ (k : ℕ). particles_from a.store.now k a.from) (sym e);
      upto = omega arith;
    }
