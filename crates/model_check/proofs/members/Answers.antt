-- `model_check::members` meets its contract. The loop's invariant: `count` and the members from j on make up the
-- members from `from` on.
use Rattle.model_check.specs.Particles.{particle_record_at}
use mathlib.Core.Path.{◌≡◌}
use Prim.Native.Nat.{◌<◌}
use native.Mathlib.Omega.{arith}
use Rattle.model_check.proofs.Reading.{particles_from_lem, particles_end}
use Rattle.model_check.proofs.ModelLaws.{members_less, members_same, members_deeper, members_end}
use Rattle.model_check.proofs.members.Goals as goal
use Rattle.model_check.proofs.members.Goals.{then-depth-k-2, else-depth-k-2}

pub loop-j-init : goal.loop-j-init
loop-j-init c = (omega arith, omega arith)

pub returns-then-depth-k : goal.returns-then-depth-k
returns-then-depth-k c =
    let a = c.args in
    let j = c.loop-j.j in
    let h : (particle_record_at j a.parts.now).depth < a.k = omega arith in
    omega (arith, members_less a.k (particles_from_lem j a.m a.parts.now (omega arith)) h)

pub overflow_add-count : goal.overflow_add-count
overflow_add-count c = omega arith

pub loop-j-preserved : goal.loop-j-preserved
loop-j-preserved c =
    let a = c.args in
    let j = c.loop-j.j in
    let e = particles_from_lem j a.m a.parts.now (omega arith) in
    elim c.if-depth-k-2.branch [
      | then-depth-k-2 w ↦
          let h : (particle_record_at j a.parts.now).depth ≡ a.k = omega arith in
          (omega arith, omega (arith, members_same a.k e h))
      | else-depth-k-2 w ↦
          let h : a.k < (particle_record_at j a.parts.now).depth = omega arith in
          (omega arith, omega (arith, members_deeper a.k e h))
    ]

pub returns : goal.returns
returns c =
    let a = c.args in
    omega (arith, members_end a.k (particles_end c.loop-j.j a.m a.parts.now (omega arith)))
