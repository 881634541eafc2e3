-- The part of the particle body that a definition has, in a store that passes: the particles of its model.
use Prim.Native.Nat.{ℕ, ◌+◌, ◌*◌, ◌/◌, ◌<◌, ◌≤◌}
use native.Mathlib.Omega.{arith}
use mathlib.Core.Path.{◌≡◌, sym, ap, ap₂, ◌∙◌, subst}
use mathlib.Core.Bool.{true}
use lib.ListN.{length, take, drop, get_or}
use Rattle.rules.specs.Bytes.{Bytes}
use Rattle.rules.specs.Model.{Members, rename}
use Rattle.rules.specs.Store.{Form, members}
use Rattle.rules.specs.Preorder.{build}
use Rattle.rules.specs.Layout.{particle_size, FlatDefinition, FlatStore, index_of}
use Rattle.rules.specs.Decode.{read_particle, read_many, read_members, unflat, definition_count}
use Rattle.rules.specs.Change.{definition_at}
use Rattle.rules.specs.Passing.{passes}
use Rattle.codec.proofs.Strings.{part_there}
use Rattle.model.specs.Members.{particles_of, start_of}
use Rattle.model.specs.Places.{Particles}
use Rattle.model.specs.Positions.{spread}
use Rattle.model.proofs.ParticleLaws.{particles_part}
use Rattle.model.proofs.PositionLaws.{spread_named}
use Rattle.form_check.specs.Bodies.{definitions, form_of_bodies}
use Rattle.model_check.specs.Particles.{particles_read}
use Rattle.form_check.proofs.Reading.{definitions_length}
use Rattle.form_index.specs.Reading.{model_part, by_index}
use Rattle.store_check.specs.Reading.{FieldsFit, part_at, no_flat_definition}
use Rattle.store_check.specs.Check.{FormPasses}
use Rattle.store_check.proofs.IndexLaws.{names_of}
use Rattle.store_check.proofs.ModelReads.{ModelRead}
use Rattle.store_check.proofs.FormReads.{form_size, form_apart, model_at_lem, members_at_lem}
use Rattle.store_check.proofs.Parts.{part_cut}
use Rattle.store_check.proofs.FormLaws.{Laid, fields_fit_lem}
use Rattle.store_check.proofs.IndexReads.{definition_in_lem, before_in_lem, room_in, index_agrees}
use Rattle.store_check.proofs.StringChecks.{Headed, laid_in, passes_in, same_form}
use Rattle.lookup.specs.Bodies.{bodies_of}
use Rattle.layout.specs.Bodies.{width_of, definitions_in, particles_in}
use Rattle.store_laws.specs.Stores.{store_in}
use Rattle.store_check.proofs.StoreFacts.{form_in, headed_of}

module _ {w n : ℕ} {defs : Bytes} {p : ℕ} {parts : Bytes} {a : ℕ} {attrs : Bytes} (laid : Laid w n defs p parts a attrs) (x : FormPasses w n defs p parts a attrs) where
  abbrev f : FlatStore
  f = form_of_bodies w n defs p parts a attrs

  fields : FieldsFit w f
  fields = fields_fit_lem laid x.definitions x.attributes

  all_particles_lem : particles_of parts ≡ particles_read p parts
  unfolding particles_of particles_read
  all_particles_lem = let e : length parts / particle_size ≡ p = omega (arith, laid.bodies.particle_body.whole) in ap (λ (k : ℕ). read_many read_particle particle_size k parts) e

  part_particles : (i : ℕ) → i < n → particles_of (model_part defs parts i) ≡ part_at i (definitions n defs) (particles_read p parts)
  unfolding model_part
  part_particles i l =
      let k : ℕ = (get_or (definitions n defs) i no_flat_definition).particles in
      let b : ℕ = start_of i (definitions n defs) in
      let fit : particle_size * b + particle_size * k ≤ length parts = omega (arith, room_in laid x i l, laid.bodies.particle_body.whole) in
      ap₂ (λ (u v : ℕ). particles_of (take (particle_size * u) (drop (particle_size * v) parts)))
      (ap (λ (d : FlatDefinition). d.particles) (definition_in_lem laid x i l)) (before_in_lem laid x i (omega arith))
      ∙ ap particles_of (sym (part_there (particle_size * b) (particle_size * k) parts fit))
      ∙ particles_part b k parts fit
      ∙ ap (λ (l : Particles). take k (drop b l)) all_particles_lem
      ∙ sym (part_cut i (definitions n defs) (particles_read p parts))

  own_in : (i : ℕ) → i < n → particles_of (model_part defs parts i) ≡ spread 0 (rename (λ m. index_of m (unflat f).form) (members (definition_at i (unflat f).form)))
  own_in i l =
      let h : i < length (unflat f).form = omega (arith, form_size f, definitions_length n defs) in
      let r : ModelRead (unflat f).form (form_apart w f fields x.bodies) (part_at i (definitions n defs) (particles_read p parts)) = model_at_lem w f fields x.bodies i h in
      part_particles i l
      ∙ sym r.back
      ∙ spread_named (unflat f).form 0 (read_members (names_of (unflat f).form) (build (part_at i (definitions n defs) (particles_read p parts)) 0))
      ∙ ap (λ (ms : Members Bytes). spread 0 (rename (λ m. index_of m (unflat f).form) ms)) (sym (members_at_lem w f fields x.bodies i h))

-- THE OWNER'S PART: the particles of its model, each name as its index
pub own_particles : (bs : Bytes) → passes bs ≡ true → (o : ℕ) → o < definition_count bs
    → particles_of (model_part (definitions_in bs) (particles_in bs) o) ≡ spread 0 (rename (λ m. index_of m (form_in bs)) (members (definition_at o (form_in bs))))
unfolding store_in bodies_of width_of
own_particles bs q o l =
    let d : Headed bs = headed_of q in
    let form = ((passes_in d (by_index bs) (λ x. index_agrees (laid_in d) x.passes _)).0 q).0 in
    subst (λ (z : Form). particles_of (model_part (definitions_in bs) (particles_in bs) o) ≡ spread 0 (rename (λ m. index_of m z) (members (definition_at o z)))) (sym (same_form d))
    (own_in (laid_in d) form.passes o l)
