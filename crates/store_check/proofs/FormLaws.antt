-- The bodies of a form that fit record by record have fields that fit; where they fit together too, the heights fit
-- just where no definition reaches itself.
use Prim.Native.Nat.{ℕ, zero, suc, ◌+◌, ◌*◌, ◌<◌, ◌≤◌}
use native.Mathlib.Omega.{arith}
use mathlib.Core.Path.{◌≡◌, refl, ap, ◌∙◌, sym, subst}
use mathlib.Core.Logic.{◌↔◌, ◌⊎◌, inl, inr}
use mathlib.Core.Bool.{true}
use mathlib.Core.List.{List, [], ◌∷◌, Memᴰ}
use lib.Dec.{eqb, leb}
use lib.ListN.{length, take, drop, get_or}
use borrow.Author.Tests.{eqb-true}
use Rattle.rules.specs.Bytes.{Bytes, all, numbers}
use Rattle.rules.specs.Model.{names, distinct}
use Rattle.rules.specs.Store.{Forest, bare, tree}
use Rattle.rules.specs.Preorder.{Deep, build}
use Rattle.rules.specs.Layout.{definition_size, particle_size, attribute_size, FlatDefinition, FlatParticle, FlatAttribute, definition_bytes, attribute_bytes}
use Rattle.rules.specs.Decode.{read_definition, read_attribute, unflat}
use Rattle.rules.specs.WellFormed.{Reaches}
use Rattle.rules.proofs.Words.{and_split, or_cases}
use Rattle.rules.proofs.BooleanLaws.{Every, every_map, every_at}
use Rattle.rules.proofs.LayoutLaws.{Small}
use Rattle.rules.proofs.PreorderLaws.{rising}
use Rattle.codec.proofs.Records.{many_at}
use Rattle.records.specs.Records.{definition_fits, attribute_fits, each_fits}
use Rattle.records.proofs.RecordLaws.{FittingDefinition, definition_fields, FittingAttribute, attribute_fields, body_fields}
use Rattle.model.specs.Members.{index_members, start_of}
use Rattle.model_check.specs.ModelTests.{elements_in, shaped, model_fits}
use Rattle.form_check.specs.FormTests.{models_fit, bodies_fit}
use Rattle.form_check.specs.Bodies.{Bodies, definitions, attributes, form_of_bodies}
use Rattle.model_check.specs.Particles.{particles_read}
use Rattle.form_check.proofs.Reading.{definitions_length}
use Rattle.model_check.proofs.Reading.{particles_length}
use Rattle.std.specs.Prelude.{Result, IsOk}
use Rattle.circle_check.specs.Members.{count_at, start_at, members_in}
use Rattle.circle_check.specs.Deep.{Ranked}
use Rattle.circle_check.proofs.CircleLaws.{Indexed}
use Rattle.circle_check.proofs.ReadLaws.{Leaves, AllShaped, model_at, members_read, start_room, Within, Readable, form_read_lem, fit_read}
use Rattle.circle_check.proofs.ReadLaws as circle
use Rattle.store_check.specs.Reading.{DefinitionFits, AttributeFits, FieldsFit, part_at, no_flat_definition}
use Rattle.store_check.proofs.ModelReads.{Shaped, Single, Grouped, shaped_tree, ModelRead}
use Rattle.store_check.proofs.FormReads.{bodies_of_lem, form_size, form_apart, model_at_lem}
use Rattle.store_check.proofs.FormReads as reads
use Rattle.store_check.proofs.Parts.{before_is, models_whole}

-- ---- fields
pub definition_told : (d : FlatDefinition) → FittingDefinition d → DefinitionFits d
definition_told d x = record { name = x.name; kind = x.kind; part = by (or_cases (eqb d.kind 2) (eqb d.particles 0) x.none) }
  where
    by : (eqb d.kind 2 ≡ true) ⊎ (eqb d.particles 0 ≡ true) → (d.kind ≡ 2) ⊎ (d.particles ≡ 0)
    by (inl e) = inl (eqb-true d.kind 2 e)
    by (inr e) = inr (eqb-true d.particles 0 e)

pub attribute_told : (w n : ℕ) (c : FlatAttribute) → FittingAttribute w n c → AttributeFits w n c
attribute_told w n c x = record { owner = x.owner; name = x.name; sort = x.sort; value = x.value; fill = x.fill }

-- ---- the models
leaves_of : (n : ℕ) (t : Forest FlatParticle) → shaped n t ≡ true → Leaves t
leaves_of n bare h = tt
leaves_of n (tree p b t) h = let s : Shaped n p b t = shaped_tree n p b t h in (by s.particle, leaves_of n b s.below, leaves_of n t s.beside)
  where
    by : Single n p b ⊎ Grouped p b → p.sort ≡ 0 → b ≡ bare
    by (inl x) e = x.none
    by (inr x) e = absurd (omega (arith, x.sort))

part_shaped : (n : ℕ) (d : FlatDefinition) (ps : List (Deep FlatParticle)) → DefinitionFits d → model_fits n (take d.particles ps) ≡ true → circle.Shaped d (take d.particles ps)
unfolding model_fits
part_shaped n d ps x h =
    let part : List (Deep FlatParticle) = take d.particles ps in
    let (depths, h₁) = and_split (all (λ (p : Deep FlatParticle). leb p.depth 4) part) _ h in
    let (rises, h₂) = and_split (rising 0 part) _ h₁ in
    let (shape, once) = and_split (shaped n (build part 0)) (distinct numbers (elements_in part)) h₂ in
    record { rises = rises; leaves = leaves_of n (build part 0) shape; complex = by x.part }
  where
    by : (d.kind ≡ 2) ⊎ (d.particles ≡ 0) → d.kind < 2 → take d.particles ps ≡ []
    by (inl e) l = absurd (omega arith)
    by (inr e) l = ap (λ (k : ℕ). take k ps) e

all_shaped : (n : ℕ) (ds : List FlatDefinition) (ps : List (Deep FlatParticle)) → Every DefinitionFits ds → models_fit n ds ps ≡ true → AllShaped ds ps
unfolding models_fit
all_shaped n [] ps x h = tt
all_shaped n (d ∷ ds) ps x h =
    let (few, y) = and_split (leb d.particles (length ps)) _ h in
    let (u, v) = and_split (model_fits n (take d.particles ps)) (models_fit n ds (drop d.particles ps)) y in
    (part_shaped n d ps x.0 u, all_shaped n ds (drop d.particles ps) x.1 v)

model_is_part : (i : ℕ) (ds : List FlatDefinition) (ps : List (Deep FlatParticle)) → model_at i ds ps ≡ part_at i ds ps
unfolding model_at
model_is_part i [] ps = refl
model_is_part zero (d ∷ ds) ps = refl
model_is_part (suc i) (d ∷ ds) ps = model_is_part i ds (drop d.particles ps)

count_at_lem : (n : ℕ) (defs : Bytes) (i : ℕ) → i < n → count_at defs i ≡ (get_or (definitions n defs) i no_flat_definition).particles
unfolding definitions
count_at_lem n defs i l = ap (λ (d : FlatDefinition). d.particles) (sym (many_at read_definition definition_size i n defs no_flat_definition l))

-- ---- the bodies of a form
-- bodies of bytes
pub record Laid (w n : ℕ) (defs : Bytes) (p : ℕ) (parts : Bytes) (a : ℕ) (attrs : Bytes) : Type 0 where
  pub bodies : Bodies w n defs p parts a attrs
  pub definitions : Small defs
  pub attributes : Small attrs

module _ {w n : ℕ} {defs : Bytes} {p : ℕ} {parts : Bytes} {a : ℕ} {attrs : Bytes} (laid : Laid w n defs p parts a attrs) where
  module _ (d : each_fits definition_fits definition_size n defs ≡ true) (c : each_fits (attribute_fits w n) (attribute_size w) a attrs ≡ true) where
    pub fields_fit_lem : FieldsFit w (form_of_bodies w n defs p parts a attrs)
    unfolding definitions attributes
    fields_fit_lem =
        record {
          definitions = every_map FittingDefinition DefinitionFits (definitions n defs) definition_told
              (body_fields read_definition definition_bytes definition_fits definition_size FittingDefinition definition_fields n defs laid.definitions
              (omega (arith, laid.bodies.definition_body.whole)) d);
          attributes = subst (λ (m : ℕ). Every (AttributeFits w m) (attributes w a attrs)) (sym (definitions_length n defs))
              (every_map (FittingAttribute w n) (AttributeFits w n) (attributes w a attrs) (attribute_told w n)
              (body_fields read_attribute (attribute_bytes w) (attribute_fits w n) (attribute_size w) (FittingAttribute w n) (λ x s l. attribute_fields w n x) a
              attrs laid.attributes (omega (arith, laid.bodies.attribute_body.whole)) c));
        }

    module _ (b : bodies_fit (form_of_bodies w n defs p parts a attrs) ≡ true) where
      models : models_fit (length (definitions n defs)) (definitions n defs) (particles_read p parts) ≡ true
      models = (bodies_of_lem (form_of_bodies w n defs p parts a attrs) b).models

      -- the counts give the particles that are there
      pub before_all : start_of n (definitions n defs) ≡ p
      before_all = ap (λ (k : ℕ). start_of k (definitions n defs)) (sym (definitions_length n defs))
          ∙ models_whole (length (definitions n defs)) (definitions n defs) (particles_read p parts) models ∙ particles_length p parts

      start_all : start_at defs n ≤ p
      unfolding start_at
      start_all = omega (arith, before_is (start_at defs) (count_at defs) n (definitions n defs) refl (λ i. refl) (count_at_lem n defs) n (omega arith), before_all)

      long : particle_size * p ≤ length parts
      long = omega (arith, laid.bodies.particle_body.whole)

      readable : Readable defs parts n p
      unfolding definitions particles_read
      readable = record {
        few = start_all;
        long = long;
        once = (bodies_of_lem (form_of_bodies w n defs p parts a attrs) b).apart;
        shaped = all_shaped (length (definitions n defs)) (definitions n defs) (particles_read p parts) fields_fit_lem.definitions models;
      }

      -- the members of a definition are the elements of its part
      pub members_are : (i : ℕ) → i < n → members_in defs parts i ≡ elements_in (part_at i (definitions n defs) (particles_read p parts))
      unfolding definitions particles_read
      members_are i l =
          members_read defs parts n p start_all long i l ∙ ap elements_in (model_is_part i (definitions n defs) (particles_read p parts))

      within : Within n (members_in defs parts)
      within i l j m =
          let size : length (reads.form_of (form_of_bodies w n defs p parts a attrs)) ≡ n = form_size (form_of_bodies w n defs p parts a attrs) ∙ definitions_length n defs in
          let x : ModelRead (reads.form_of (form_of_bodies w n defs p parts a attrs)) (form_apart w (form_of_bodies w n defs p parts a attrs) fields_fit_lem b)
          (part_at i (definitions n defs) (particles_read p parts)) =
          model_at_lem w (form_of_bodies w n defs p parts a attrs) fields_fit_lem b i (omega arith) in
          omega (
            arith,
            every_at (λ k. k < length (reads.form_of (form_of_bodies w n defs p parts a attrs))) j (names (index_members (build (part_at i (definitions n defs) (particles_read p parts)) 0))) x.below
                (subst (λ (ks : List ℕ). Memᴰ j ks) (members_are i l ∙ sym x.indices) m),
          )

      -- the members that the bytes have are those of the form that is read
      pub members_indexed : Indexed (members_in defs parts) (unflat (form_of_bodies w n defs p parts a attrs)).form
      unfolding definitions particles_read
      members_indexed = form_read_lem readable (attributes w a attrs) within

      -- the part of a definition is there
      pub part_room : (i : ℕ) → i < n → start_at defs i + count_at defs i ≤ p
      part_room i l = omega (arith, start_room defs n i l, start_all)

      -- the heights fit just where no definition reaches itself
      pub circle_fit : {r : Result Bytes Bytes} → Ranked n (members_in defs parts) r → IsOk r ↔ ((x : Bytes) → Reaches (unflat (form_of_bodies w n defs p parts a attrs)).form x x → ⊥)
      unfolding definitions particles_read
      circle_fit {r} k = (λ e. ((fit_read readable (attributes w a attrs) k).0 e).1, λ f. (fit_read readable (attributes w a attrs) k).1 (within, f))
