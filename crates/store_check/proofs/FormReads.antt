-- The bodies of a form that pass the tests: writing what is read gives them back, and each definition that is read has
-- the kind and the model that the bodies say by index.
use Prim.Native.Nat.{ℕ, zero, suc, ◌+◌, ◌<◌, ◌≤◌}
use native.Mathlib.Omega.{arith}
use mathlib.Core.Path.{◌≡◌, refl, ap, ap₂, ◌∙◌, sym}
use mathlib.Core.Logic.{◌⊎◌, inl, inr}
use mathlib.Core.Bool.{true}
use mathlib.Core.List.{List, [], ◌∷◌, ◌++◌, map}
use lib.Dec.{leb}
use lib.ListN.{length, take, drop, get_or, length-map, take-append-drop}
use lib.Seq.{length-take-le}
use borrow.Author.Tests.{leb-true}
use Rattle.rules.specs.Bytes.{Bytes, bytes}
use Rattle.rules.specs.Model.{rename, Distinct, distinct}
use Rattle.rules.specs.Store.{Definition, Form, members}
use Rattle.rules.specs.Preorder.{Deep, build}
use Rattle.rules.specs.Layout.{FlatDefinition, FlatParticle, FlatAttribute, FlatStore, kind_code, content_particles, flat_definition, all_particles, all_attributes}
use Rattle.rules.specs.Decode.{name_at, content_of, read_members, of_owner, read_form, flat_name, unflat}
use Rattle.rules.specs.WellFormed.{definition_name}
use Rattle.rules.specs.Change.{definition_at}
use Rattle.rules.proofs.Words.{and_split}
use Rattle.rules.proofs.BooleanLaws.{Every, every_map, none_nil}
use Rattle.rules.proofs.TestLaws.{distinct_test}
use Rattle.model.specs.Members.{index_members}
use Rattle.model.proofs.MembersLaws.{members_named}
use Rattle.form_check.specs.FormTests.{definitions_apart, models_fit, owners_rise, attributes_apart, bodies_fit}
use Rattle.model_check.specs.ModelTests.{model_fits}
use Rattle.store_check.specs.Reading.{DefinitionFits, AttributeFits, FieldsFit, part_at, no_flat_definition}
use Rattle.store_check.proofs.IndexLaws.{names_of}
use Rattle.store_check.proofs.ModelReads.{Fills, ModelRead, model_read, members_read, kind_back}
use Rattle.store_check.proofs.AttributeReads.{attributes_back}

-- ---- definition by definition
pub names_read : (ns : List Bytes) (o : ℕ) (ds : List FlatDefinition) (ps : List (Deep FlatParticle)) (cs : List FlatAttribute) → names_of (read_form ns o ds ps cs) ≡ map flat_name ds
names_read ns o [] ps cs = refl
names_read ns o (d ∷ ds) ps cs = ap (λ (z : List Bytes). d.name ∷ z) (names_read ns (suc o) ds (drop d.particles ps) cs)

pub every_nth : {A : Type 0} (P : A → Type 0) (x : A) (xs : List A) (i : ℕ) → i < length xs → Every P xs → P (get_or xs i x)
every_nth P x [] i l h = absurd (omega arith)
every_nth P x (y ∷ xs) zero l h = h.0
every_nth P x (y ∷ xs) (suc i) l h = every_nth P x xs i (omega arith) h.1

pub every_index : (P : Definition → Type 0) (form : Form) → ((i : ℕ) → i < length form → P (definition_at i form)) → Every P form
every_index P [] f = tt
every_index P (d ∷ form) f = (f 0 (omega arith), every_index P form (λ i l. f (suc i) (omega arith)))

-- definition i, as it is read
abbrev pub read_at : List Bytes → ℕ → ℕ → List FlatDefinition → List (Deep FlatParticle) → List FlatAttribute → Definition
read_at ns o i ds ps cs =
    record {
      name = (get_or ds i no_flat_definition).name;
      content = content_of (get_or ds i no_flat_definition).kind (read_members ns (build (part_at i ds ps) 0));
      attributes = of_owner (o + i) cs;
    }

pub definition_at_lem : (ns : List Bytes) (o i : ℕ) (ds : List FlatDefinition) (ps : List (Deep FlatParticle)) (cs : List FlatAttribute) → i < length ds
    → definition_at i (read_form ns o ds ps cs) ≡ read_at ns o i ds ps cs
definition_at_lem ns o i [] ps cs l = absurd (omega arith)
definition_at_lem ns o zero (d ∷ ds) ps cs l =
    ap (λ (k : ℕ). record { name = d.name; content = content_of d.kind (read_members ns (build (take d.particles ps) 0)); attributes = of_owner k cs }) (let e : o ≡ o + 0 = omega arith in e)
definition_at_lem ns o (suc i) (d ∷ ds) ps cs l =
    definition_at_lem ns (suc o) i ds (drop d.particles ps) cs (omega arith)
    ∙ ap (λ (k : ℕ). record {
      name = (get_or ds i no_flat_definition).name;
      content = content_of (get_or ds i no_flat_definition).kind (read_members ns (build (part_at i ds (drop d.particles ps)) 0));
      attributes = of_owner k cs;
    })
    (let e : suc o + i ≡ o + suc i = omega arith in e)

take_none : {A : Type 0} (k : ℕ) (xs : List A) → k ≡ 0 → take k xs ≡ []
take_none zero xs e = refl
take_none (suc k) xs e = absurd (omega arith)

fills : (d : FlatDefinition) (ps : List (Deep FlatParticle)) → DefinitionFits d → Fills d.kind (take d.particles ps)
fills d ps h = record { most = h.kind; filled = by h.part }
  where
    by : (d.kind ≡ 2) ⊎ (d.particles ≡ 0) → (d.kind ≡ 2) ⊎ (take d.particles ps ≡ [])
    by (inl e) = inl e
    by (inr e) = inr (take_none d.particles ps e)

-- the first part, and the others
record Parts (n : ℕ) (d : FlatDefinition) (ds : List FlatDefinition) (ps : List (Deep FlatParticle)) : Type 0 where
  size : d.particles ≤ length ps
  first : model_fits n (take d.particles ps) ≡ true
  others : models_fit n ds (drop d.particles ps) ≡ true

parts : (n : ℕ) (d : FlatDefinition) (ds : List FlatDefinition) (ps : List (Deep FlatParticle)) → models_fit n (d ∷ ds) ps ≡ true → Parts n d ds ps
unfolding models_fit
parts n d ds ps h =
    let (x, y) = and_split (leb d.particles (length ps)) _ h in
    let (u, v) = and_split (model_fits n (take d.particles ps)) (models_fit n ds (drop d.particles ps)) y in
    record { size = leb-true d.particles (length ps) x; first = u; others = v }

record PartFits (n kind : ℕ) (part : List (Deep FlatParticle)) : Type 0 where
  filled : Fills kind part
  model : model_fits n part ≡ true

part_at_lem : (n i : ℕ) (ds : List FlatDefinition) (ps : List (Deep FlatParticle)) → i < length ds → Every DefinitionFits ds → models_fit n ds ps ≡ true
    → PartFits n (get_or ds i no_flat_definition).kind (part_at i ds ps)
part_at_lem n i [] ps l h m = absurd (omega arith)
part_at_lem n zero (d ∷ ds) ps l h m = record { filled = fills d ps h.0; model = (parts n d ds ps m).first }
part_at_lem n (suc i) (d ∷ ds) ps l h m = part_at_lem n i ds (drop d.particles ps) (omega arith) h.1 (parts n d ds ps m).others

-- ---- writing what was read
module _ (form : Form) (apart : Distinct (names_of form)) where
  content_back : (k : ℕ) (part : List (Deep FlatParticle)) → Fills k part → ModelRead form apart part → content_particles form (content_of k (read_members (names_of form) (build part 0))) ≡ part
  content_back k part h m = by k h.filled
    where
      none : (k : ℕ) → part ≡ [] → content_particles form (content_of k (read_members (names_of form) (build part 0))) ≡ part
      none zero e = sym e
      none (suc zero) e = sym e
      none (suc (suc k)) e = m.back

      by : (k : ℕ) → (k ≡ 2) ⊎ (part ≡ []) → content_particles form (content_of k (read_members (names_of form) (build part 0))) ≡ part
      by k (inl e) = ap (λ (k : ℕ). content_particles form (content_of k (read_members (names_of form) (build part 0)))) e ∙ m.back
      by k (inr e) = none k e

  first_back : (d : FlatDefinition) (ds : List FlatDefinition) (ps : List (Deep FlatParticle)) → DefinitionFits d → models_fit (length form) (d ∷ ds) ps ≡ true
      → content_particles form (content_of d.kind (read_members (names_of form) (build (take d.particles ps) 0))) ≡ take d.particles ps
  first_back d ds ps h m = content_back d.kind (take d.particles ps) (fills d ps h) (model_read form apart (take d.particles ps) (parts (length form) d ds ps m).first)

  definitions_back : (o : ℕ) (ds : List FlatDefinition) (ps : List (Deep FlatParticle)) (cs : List FlatAttribute) → Every DefinitionFits ds
      → models_fit (length form) ds ps ≡ true → map (flat_definition form) (read_form (names_of form) o ds ps cs) ≡ ds
  definitions_back o [] ps cs h m = refl
  definitions_back o (d ∷ ds) ps cs h m =
      let x : Parts (length form) d ds ps = parts (length form) d ds ps m in
      λ i.
      record {
        name = d.name;
        kind = kind_back d.kind (read_members (names_of form) (build (take d.particles ps) 0)) h.0.kind i;
        particles = (ap length (first_back d ds ps h.0 m) ∙ length-take-le d.particles ps x.size) i;
      }
      ∷ definitions_back (suc o) ds (drop d.particles ps) cs h.1 x.others i

  particles_back : (o : ℕ) (ds : List FlatDefinition) (ps : List (Deep FlatParticle)) (cs : List FlatAttribute) → Every DefinitionFits ds
      → models_fit (length form) ds ps ≡ true → all_particles form (read_form (names_of form) o ds ps cs) ≡ ps
  unfolding models_fit
  particles_back o [] ps cs h m = sym (none_nil ps m)
  particles_back o (d ∷ ds) ps cs h m =
      ap₂ (λ (u v : List (Deep FlatParticle)). u ++ v) (first_back d ds ps h.0 m) (particles_back (suc o) ds (drop d.particles ps) cs h.1 (parts (length form) d ds ps m).others)
      ∙ take-append-drop d.particles ps

-- ---- the form of a flat store
pub record Bodies (f : FlatStore) : Type 0 where
  pub apart : Distinct (map flat_name f.definitions)
  pub models : models_fit (length f.definitions) f.definitions f.particles ≡ true
  pub rise : owners_rise 0 f.attributes ≡ true
  pub names : attributes_apart f.attributes ≡ true

pub bodies_of_lem : (f : FlatStore) → bodies_fit f ≡ true → Bodies f
unfolding bodies_fit definitions_apart
bodies_of_lem f h =
    let (x, h₁) = and_split (distinct bytes (map flat_name f.definitions)) _ h in
    let (y, h₂) = and_split (models_fit (length f.definitions) f.definitions f.particles) _ h₁ in
    let (z, v) = and_split (owners_rise 0 f.attributes) (attributes_apart f.attributes) h₂ in
    record { apart = (distinct_test bytes (map flat_name f.definitions)).0 x; models = y; rise = z; names = v }

abbrev pub form_of : FlatStore → Form
form_of f = (unflat f).form

pub form_names : (f : FlatStore) → names_of (form_of f) ≡ map flat_name f.definitions
form_names f = names_read (map flat_name f.definitions) 0 f.definitions f.particles f.attributes

pub form_size : (f : FlatStore) → length (form_of f) ≡ length f.definitions
form_size f = sym (length-map (form_of f) definition_name) ∙ ap (λ (z : List Bytes). length z) (form_names f) ∙ length-map f.definitions flat_name

module _ (w : ℕ) (f : FlatStore) (fit : FieldsFit w f) (bodies : bodies_fit f ≡ true) where
  again : form_of f ≡ read_form (names_of (form_of f)) 0 f.definitions f.particles f.attributes
  again = ap (λ (ns : List Bytes). read_form ns 0 f.definitions f.particles f.attributes) (sym (form_names f))

  pub form_apart : Distinct (names_of (form_of f))
  form_apart = rw (form_names f) (bodies_of_lem f bodies).apart

  models_fit_lem : models_fit (length (form_of f)) f.definitions f.particles ≡ true
  models_fit_lem = ap (λ (n : ℕ). models_fit n f.definitions f.particles) (form_size f) ∙ (bodies_of_lem f bodies).models

  -- writing what was read gives the three bodies back
  pub read_definitions : map (flat_definition (form_of f)) (form_of f) ≡ f.definitions
  read_definitions = ap (λ (z : Form). map (flat_definition (form_of f)) z) again ∙ definitions_back (form_of f) form_apart 0 f.definitions f.particles f.attributes fit.definitions models_fit_lem

  pub read_particles : all_particles (form_of f) (form_of f) ≡ f.particles
  read_particles = ap (λ (z : Form). all_particles (form_of f) z) again ∙ particles_back (form_of f) form_apart 0 f.definitions f.particles f.attributes fit.definitions models_fit_lem

  pub read_attributes : all_attributes 0 (form_of f) ≡ f.attributes
  read_attributes =
      attributes_back (map flat_name f.definitions) 0 f.definitions f.particles f.attributes f.attributes
      (every_map (AttributeFits w (length f.definitions)) (λ a. a.sort ≤ 2) f.attributes (λ a x. x.sort) fit.attributes)
      (every_map (AttributeFits w (length f.definitions)) (λ a. a.owner < 0 + length f.definitions) f.attributes (λ a x. omega arith)
      fit.attributes)
      (bodies_of_lem f bodies).rise (λ k l. refl)

  module _ (i : ℕ) (l : i < length (form_of f)) where
    short : i < length f.definitions
    short = omega (arith, form_size f)

    pub read_at_lem : definition_at i (form_of f) ≡ read_at (names_of (form_of f)) 0 i f.definitions f.particles f.attributes
    read_at_lem = ap (λ (z : Form). definition_at i z) again ∙ definition_at_lem (names_of (form_of f)) 0 i f.definitions f.particles f.attributes short

    fits : PartFits (length (form_of f)) (get_or f.definitions i no_flat_definition).kind (part_at i f.definitions f.particles)
    fits = part_at_lem (length (form_of f)) i f.definitions f.particles short fit.definitions models_fit_lem

    pub model_at_lem : ModelRead (form_of f) form_apart (part_at i f.definitions f.particles)
    model_at_lem = model_read (form_of f) form_apart (part_at i f.definitions f.particles) fits.model

    pub kind_at : kind_code (definition_at i (form_of f)).content ≡ (get_or f.definitions i no_flat_definition).kind
    kind_at = ap (λ (d : Definition). kind_code d.content) read_at_lem
        ∙ kind_back (get_or f.definitions i no_flat_definition).kind (read_members (names_of (form_of f)) (build (part_at i f.definitions f.particles) 0))
        fits.filled.most

    pub members_at_lem : members (definition_at i (form_of f)) ≡ read_members (names_of (form_of f)) (build (part_at i f.definitions f.particles) 0)
    members_at_lem = ap (λ (d : Definition). members d) read_at_lem
        ∙ members_read (names_of (form_of f)) (get_or f.definitions i no_flat_definition).kind (part_at i f.definitions f.particles) fits.filled

    -- the model is the one over indices, with names for the indices
    pub model_renamed : members (definition_at i (form_of f)) ≡ rename (λ j. name_at j (names_of (form_of f))) (index_members (build (part_at i f.definitions f.particles) 0))
    model_renamed = members_at_lem ∙ members_named (names_of (form_of f)) (build (part_at i f.definitions f.particles) 0)
