-- The particles from a number on, read of the bytes of a store.
use Prim.Native.Nat.{ℕ, ◌/◌}
use native.Mathlib.Omega.{arith}
use mathlib.Core.Path.{◌≡◌, sym, ap, ◌∙◌}
use mathlib.Core.List.{List}
use lib.ListN.{length, drop}
use Rattle.rules.specs.Bytes.{Bytes}
use Rattle.rules.specs.Preorder.{Deep, build}
use Rattle.rules.specs.Layout.{particle_size, FlatParticle}
use Rattle.rules.specs.Decode.{read_many, read_particle, particle_count}
use Rattle.model.specs.Members.{index_members, particles_of, members_from}
use Rattle.model.proofs.MembersLaws.{particles_past}
use Rattle.model_check.specs.Particles.{particles_read}
use Rattle.store_check.proofs.StringChecks.{Headed, laid_in, same_particles}
use Rattle.lookup.specs.Bodies.{bodies_of}
use Rattle.layout.specs.Bodies.{width_of, particles_in}
use Rattle.filling.specs.Parts as bytes
use Rattle.planned_rows.specs.Planned.{members_at}

all_particles_lem : {bs : Bytes} → Headed bs → particles_of (particles_in bs) ≡ particles_read (particle_count bs) (particles_in bs)
unfolding particles_of particles_read
all_particles_lem {bs} h =
    let e : length (particles_in bs) / particle_size ≡ particle_count bs = omega (arith, (laid_in h).bodies.particle_body.whole) in
    ap (λ (k : ℕ). read_many read_particle particle_size k (particles_in bs)) e

pub members_at_lem : {bs : Bytes} → Headed bs → (k e : ℕ) → bytes.members_read_at (particles_in bs) k e ≡ members_at (bodies_of bs) k e
unfolding bytes.members_read_at members_at members_from bodies_of width_of
members_at_lem {bs} h k e =
    ap (λ (l : List (Deep FlatParticle)). index_members (build l e))
    (particles_past k (particles_in bs) ∙ ap (λ (l : List (Deep FlatParticle)). drop k l) (all_particles_lem h ∙ sym (same_particles h)))
