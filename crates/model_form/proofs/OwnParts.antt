-- The bodies of a store that passes, as the code reads them, and where a definition's particles stand in them.
use Prim.Native.Nat.{ℕ, zero, suc, ◌+◌, ◌*◌, ◌/◌, ◌<◌, ◌≤◌}
use native.Mathlib.Omega.{arith}
use mathlib.Core.Path.{◌≡◌, refl, sym, ap, ◌∙◌}
use mathlib.Core.Bool.{true}
use mathlib.Core.List.{List, [], ◌∷◌}
use lib.ListN.{length, drop, get_or, length-map, length-take}
use Rattle.rules.specs.Bytes.{Bytes}
use Rattle.rules.specs.Layout.{particle_size, FlatDefinition, FlatStore, definition_size, flat, flat_definition, particle_bytes, each}
use Rattle.rules.specs.Decode.{read_many, read_definition, read_particle, definition_count, particle_count}
use Rattle.rules.specs.Passing.{passes}
use Rattle.codec.proofs.Records.{many_at}
use Rattle.model.specs.Members.{particles_of, start_of}
use Rattle.form_check.specs.Bodies.{definitions}
use Rattle.model_check.specs.Particles.{particles_read}
use Rattle.form_index.specs.Reading.{particles_before, model_part}
use Rattle.store_check.specs.Reading.{no_flat_definition}
use Rattle.layout.specs.Bodies.{definitions_in, particles_in}
use Rattle.store_check.proofs.Parts.{before_is}
use Rattle.store_check.proofs.StringChecks.{Headed, laid_in, same_definitions, same_particles}
use Rattle.store_check.proofs.StoreFacts.{headed_of}
use Rattle.lookup.specs.Bodies.{bodies_of}
use Rattle.model_writer.specs.Spliced.{count_of}
use Rattle.model_writer.specs.Writing as writing
use Rattle.model_writer.proofs.WritingLaws.{whole}
use Rattle.store_laws.specs.Stores.{store_in}
use Rattle.store_laws.proofs.StoreLaws.{holds}
use Rattle.store_laws.proofs.Encoded.{Encoded, encoded}
use Rattle.model_places.specs.Placing.{part_in}
use Rattle.model_form.specs.Editing.{start_in, model_length}
use Rattle.model_writer.proofs.EditedStore.{own_inside as within_all}

pub own_length : (bs : Bytes) (o : ℕ) → length (part_in bs o) ≤ particle_size * model_length bs o
unfolding model_part
own_length bs o = omega (arith, length-take (particle_size * model_length bs o) (drop (particle_size * start_in bs o) (particles_in bs)))

count_at_lem : (o : ℕ) (ds : List FlatDefinition) → (get_or ds o no_flat_definition).particles ≡ count_of o ds
count_at_lem o [] = refl
count_at_lem zero (d ∷ ds) = refl
count_at_lem (suc o) (d ∷ ds) = count_at_lem o ds

module _ (bs : Bytes) (q : passes bs ≡ true) where
  headed : Headed bs
  headed = headed_of q

  pub particles_are : particles_of (particles_in bs) ≡ (bodies_of bs).particles
  unfolding particles_of particles_read bodies_of
  particles_are =
      let e : length (particles_in bs) / particle_size ≡ particle_count bs = omega (arith, (laid_in headed).bodies.particle_body.whole) in
      ap (λ (k : ℕ). read_many read_particle particle_size k (particles_in bs)) e ∙ sym (same_particles headed)

  pub parts_are : each particle_bytes (bodies_of bs).particles ≡ particles_in bs
  parts_are = ap (each particle_bytes) (sym particles_are) ∙ whole (particles_in bs) (omega (arith, (laid_in headed).bodies.particle_body.whole))

  definition_is : (i : ℕ) → i < definition_count bs → model_length bs i ≡ (get_or (bodies_of bs).definitions i no_flat_definition).particles
  unfolding definitions bodies_of
  definition_is i l =
      ap (λ (d : FlatDefinition). d.particles) (sym (many_at read_definition definition_size i (definition_count bs) (definitions_in bs) no_flat_definition l))
      ∙ ap (λ (ds : List FlatDefinition). (get_or ds i no_flat_definition).particles) (sym (same_definitions headed))

  pub start_is : (i : ℕ) → i ≤ definition_count bs → start_in bs i ≡ start_of i (bodies_of bs).definitions
  unfolding particles_before
  start_is i l =
      before_is (particles_before (definitions_in bs)) (λ i. model_length bs i) (definition_count bs) (bodies_of bs).definitions refl (λ i. refl) definition_is i l

  pub count_is : (i : ℕ) → i < definition_count bs → model_length bs i ≡ count_of i (bodies_of bs).definitions
  count_is i l = definition_is i l ∙ count_at_lem i (bodies_of bs).definitions

  pub own_is : (o : ℕ) → part_in bs o ≡ writing.particle_range (start_in bs o) (model_length bs o) (particles_in bs)
  unfolding model_part
  own_is o = refl

  abbrev x : Encoded bs (bodies_of bs)
  x = encoded bs q

  -- in range
  pub form_size : definition_count bs ≡ length (store_in bs).form
  form_size = x.definitions ∙ ap (λ (f : FlatStore). length f.definitions) (holds bs q).bodies ∙ length-map (store_in bs).form (flat_definition (store_in bs).form)

  pub own_inside : (o : ℕ) → o < definition_count bs → start_in bs o + model_length bs o ≤ particle_count bs
  own_inside o l =
      let f : bodies_of bs ≡ flat (store_in bs) = (holds bs q).bodies in
      omega (
        arith,
        start_is o (omega arith),
        count_is o l,
        ap (λ (z : FlatStore). start_of o z.definitions) f,
        ap (λ (z : FlatStore). count_of o z.definitions) f,
        x.particles,
        ap (λ (z : FlatStore). length z.particles) f,
        within_all (store_in bs).form o (store_in bs).form,
      )
