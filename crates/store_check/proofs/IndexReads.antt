-- The form by index that the one pass over the rows reads off the bytes says what the form that is read says.
use Prim.Native.Nat.{ℕ, ◌+◌, ◌*◌, ◌/◌, ◌<◌, ◌≤◌}
use native.Mathlib.Omega.{arith}
use mathlib.Core.Path.{◌≡◌, refl, ap, ap₂, ◌∙◌, sym, subst}
use mathlib.Core.Bool.{true}
use mathlib.Core.List.{List, Memᴰ}
use lib.ListN.{length, take, drop, get_or, length-take, length-drop}
use Rattle.rules.specs.Bytes.{Bytes}
use Rattle.rules.specs.Model.{Members, names, rename, Distinct}
use Rattle.rules.specs.Preorder.{Deep, build}
use Rattle.rules.specs.Layout.{definition_size, particle_size, attribute_size, FlatDefinition, FlatParticle, FlatAttribute, FlatStore, all_attributes}
use Rattle.rules.specs.Decode.{name_at, read_definition, read_particle, read_attribute, read_many, sort_of, unflat}
use Rattle.rules.specs.Conforming.{must_be_present, allows}
use Rattle.codec.proofs.Strings.{part_there}
use Rattle.codec.proofs.Records.{many_at}
use Rattle.model.specs.Members.{index_members, particles_of, members_from, all_members, start_of}
use Rattle.form_check.specs.Bodies.{definitions, attributes, form_of_bodies}
use Rattle.model_check.specs.Particles.{particles_read}
use Rattle.form_check.proofs.Reading.{definitions_length, attributes_length, particles_part}
use Rattle.circle_check.specs.Members.{members_in}
use Rattle.circle_check.specs.Deep.{deep_index}
use Rattle.circle_check.proofs.RoundLaws.{deep_index_same}
use Rattle.circle_check.proofs.CircleLaws.{fit_acyclic}
use Rattle.form_index.specs.Reading.{definition_in, attribute_in, particles_before, model_part}
use Rattle.form_index.specs.Reading as bytes
use Rattle.store_check.specs.Reading.{FieldsFit, part_at, no_flat_definition, no_attribute, entry_of, form_at, Agrees}
use Rattle.store_check.specs.Check.{FormPasses}
use Rattle.store_check.proofs.IndexLaws.{names_of, distinct_unmap}
use Rattle.store_check.proofs.ModelReads.{ModelRead, read_names}
use Rattle.store_check.proofs.FormReads.{form_size, form_apart, model_at_lem}
use Rattle.store_check.proofs.FormGood.{form_agrees}
use Rattle.store_check.proofs.Parts.{before_within, before_is, part_cut}
use Rattle.store_check.proofs.FormLaws.{Laid, fields_fit_lem, before_all, members_are, members_indexed}

-- ---- models
-- of c particles after b others
part_members : (p : ℕ) (parts : Bytes) (b c : ℕ) → particle_size * p ≡ length parts → b + c ≤ p
    → all_members (take (particle_size * c) (drop (particle_size * b) parts)) ≡ index_members (build (take c (drop b (particles_read p parts))) 0)
unfolding members_from particles_of particles_read
part_members p parts b c whole l =
    ap (λ (k : ℕ). index_members (build (read_many read_particle particle_size k (take (particle_size * c) (drop (particle_size * b) parts))) 0)) count
    ∙ ap (λ (s : Bytes). index_members (build (read_many read_particle particle_size c s) 0)) (sym (part_there (particle_size * b) (particle_size * c) parts (omega arith)))
    ∙ ap (λ (ps : List (Deep FlatParticle)). index_members (build ps 0)) (particles_part b c p parts l whole)
  where
    count : length (take (particle_size * c) (drop (particle_size * b) parts)) / particle_size ≡ c
    count =
        let e : length (take (particle_size * c) (drop (particle_size * b) parts)) ≡ particle_size * c =
        omega (arith, length-take (particle_size * c) (drop (particle_size * b) parts), length-drop (particle_size * b) parts) in
        omega arith

module _ {w n : ℕ} {defs : Bytes} {p : ℕ} {parts : Bytes} {a : ℕ} {attrs : Bytes} (laid : Laid w n defs p parts a attrs) (x : FormPasses w n defs p parts a attrs) where
  abbrev f : FlatStore
  f = form_of_bodies w n defs p parts a attrs

  fields : FieldsFit w f
  fields = fields_fit_lem laid x.definitions x.attributes

  agrees : (version : ℕ) → Agrees version (form_at version f) (unflat f).form
  agrees version = form_agrees w f fields x.bodies version

  pub definition_in_lem : (i : ℕ) → i < n → definition_in defs i ≡ get_or (definitions n defs) i no_flat_definition
  unfolding definitions
  definition_in_lem i l = sym (many_at read_definition definition_size i n defs no_flat_definition l)

  pub attribute_in_lem : (j : ℕ) → j < a → attribute_in w attrs j ≡ entry_of j (attributes w a attrs)
  unfolding attributes
  attribute_in_lem j l = sym (many_at read_attribute (attribute_size w) j a attrs no_attribute l)

  pub before_in_lem : (i : ℕ) → i ≤ n → particles_before defs i ≡ start_of i (definitions n defs)
  unfolding particles_before
  before_in_lem = before_is (particles_before defs) (λ i. (definition_in defs i).particles) n (definitions n defs) refl (λ i. refl) (λ i l. ap (λ (d : FlatDefinition). d.particles) (definition_in_lem i l))

  pub room_in : (i : ℕ) → i < n → start_of i (definitions n defs) + (get_or (definitions n defs) i no_flat_definition).particles ≤ p
  room_in i l =
      let e : start_of (length (definitions n defs)) (definitions n defs) ≡ p =
      ap (λ (k : ℕ). start_of k (definitions n defs)) (definitions_length n defs) ∙ before_all laid x.definitions x.attributes x.bodies in
      omega (arith, before_within i (definitions n defs) (omega (arith, definitions_length n defs)))

  pub model_in_lem : (i : ℕ) → i < n → all_members (model_part defs parts i) ≡ index_members (build (part_at i (definitions n defs) (particles_read p parts)) 0)
  unfolding model_part
  model_in_lem i l =
      let c : (definition_in defs i).particles ≡ (get_or (definitions n defs) i no_flat_definition).particles = ap (λ (d : FlatDefinition). d.particles) (definition_in_lem i l) in
      let b : particles_before defs i ≡ start_of i (definitions n defs) = before_in_lem i (omega arith) in
      ap₂ (λ (k m : ℕ). all_members (take (particle_size * k) (drop (particle_size * m) parts))) c b
      ∙ part_members p parts (start_of i (definitions n defs)) (get_or (definitions n defs) i no_flat_definition).particles laid.bodies.particle_body.whole
      (room_in i l)
      ∙ ap (λ (ps : List (Deep FlatParticle)). index_members (build ps 0)) (sym (part_cut i (definitions n defs) (particles_read p parts)))

  form_count : length (unflat f).form ≡ n
  form_count = form_size f ∙ definitions_length n defs

  pub index_agrees : (version : ℕ) → Agrees version (bytes.index_form version w n defs parts attrs a) (unflat f).form
  index_agrees version =
      record {
        size = sym form_count;
        kind = λ i l. ap (λ (d : FlatDefinition). d.kind) (definition_in_lem i (omega (arith, form_count))) ∙ (agrees version).kind i l;
        model = λ i l. (agrees version).model i l ∙ ap (λ (m : Members ℕ). rename (λ j. name_at j (names_of (unflat f).form)) m) (sym (model_in_lem i (omega (arith, form_count))));
        in_range = λ i l j m. (agrees version).in_range i l j (subst (λ (z : Members ℕ). Memᴰ j (names z)) (model_in_lem i (omega (arith, form_count))) m);
        attributes = sym (attributes_length w a attrs) ∙ (agrees version).attributes;
        owner = λ j l. ap (λ (c : FlatAttribute). c.owner) (attribute_in_lem j (short j l)) ∙ (agrees version).owner j l;
        needed = λ j l. ap (λ (c : FlatAttribute). must_be_present version (sort_of c.sort)) (attribute_in_lem j (short j l)) ∙ (agrees version).needed j l;
        allows = λ j l v. ap (λ (c : FlatAttribute). allows (sort_of c.sort) c.value v) (attribute_in_lem j (short j l)) ∙ (agrees version).allows j l v;
      }
    where
      short : (j : ℕ) → j < length (all_attributes 0 (unflat f).form) → j < a
      short j l = omega (arith, (agrees version).attributes, attributes_length w a attrs)

  -- what the test of definition i's part says of its model
  read_in : (i : ℕ) → i < n → ModelRead (unflat f).form (form_apart w f fields x.bodies) (part_at i (definitions n defs) (particles_read p parts))
  read_in i l = model_at_lem w f fields x.bodies i (omega (arith, form_count))

  -- ---- no model names an element twice
  once_in : (i : ℕ) → i < n → Distinct (names (index_members (build (part_at i (definitions n defs) (particles_read p parts)) 0)))
  once_in i l =
      distinct_unmap (λ j. name_at j (names_of (unflat f).form)) (names (index_members (build (part_at i (definitions n defs) (particles_read p parts)) 0)))
      (subst (λ (ns : List Bytes). Distinct ns) (read_names (names_of (unflat f).form) (build (part_at i (definitions n defs) (particles_read p parts)) 0)) (read_in i l).once)

  pub index_once : (version i : ℕ) → i < n → Distinct (names ((bytes.index_form version w n defs parts attrs a).model i))
  index_once version i l = subst (λ (m : Members ℕ). Distinct (names m)) (sym (model_in_lem i l)) (once_in i l)

  -- ---- no chain of members is longer than the definitions are many
  pub index_deep : (version i : ℕ) → i < n → deep_index (λ k. names ((bytes.index_form version w n defs parts attrs a).model k)) n n i ≡ true
  index_deep version i l = deep_index_same (λ k. names (all_members (model_part defs parts k))) (members_in defs parts) n same n i ∙ deep i l
    where
      same : (k : ℕ) → k < n → names (all_members (model_part defs parts k)) ≡ members_in defs parts k
      same k g =
          ap (λ (m : Members ℕ). names m) (model_in_lem k g) ∙ (read_in k g).indices ∙ sym (members_are laid x.definitions x.attributes x.bodies k g)

      deep : (k : ℕ) → k < n → deep_index (members_in defs parts) n n k ≡ true
      deep = subst (λ (m : ℕ). (k : ℕ) → k < m → deep_index (members_in defs parts) m m k ≡ true) form_count
          ((fit_acyclic (members_indexed laid x.definitions x.attributes x.bodies)).1 x.circle)
