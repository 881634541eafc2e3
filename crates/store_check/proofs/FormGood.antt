-- The form that is read from bodies that pass the tests is well-formed just where no definition reaches itself, and
-- says by name what the bodies say by index. The bodies of a store that passes pass the tests.
use Prim.Native.Nat.{ℕ, ◌<◌}
use native.Mathlib.Omega.{arith}
use mathlib.Core.Path.{◌≡◌, refl, ap, ◌∙◌, sym}
use mathlib.Core.Logic.{◌↔◌}
use mathlib.Core.Bool.{Bool, true, ◌&&◌}
use mathlib.Core.List.{List, [], ◌∷◌, map, Memᴰ}
use lib.Dec.{leb}
use lib.ListN.{length, take, drop, length-map, take-append-drop}
use Rattle.rules.specs.Bytes.{Bytes, bytes, all}
use Rattle.rules.specs.Model.{names, Distinct, distinct, Full}
use Rattle.rules.specs.Store.{Attribute, Definition, Form, Store, members}
use Rattle.rules.specs.Preorder.{Deep, build}
use Rattle.rules.specs.Layout.{value_width, FlatDefinition, FlatParticle, FlatAttribute, FlatStore, flat_definition, all_particles, all_attributes, flat}
use Rattle.rules.specs.Decode.{of_owner, flat_name, read_members, sort_of}
use Rattle.rules.specs.WellFormed.{attribute_name, stored_name, is_attribute_of, known, Reaches, GoodDefinition, well_formed, within_ceilings}
use Rattle.rules.specs.Conforming.{must_be_present, allows}
use Rattle.rules.specs.Passing.{good, Good}
use Rattle.rules.specs.Change.{definition_at}
use Rattle.rules.proofs.Words.{and_both, and_split}
use Rattle.rules.proofs.BooleanLaws.{Every, every_at, every_in, every_map, none_nil, all_append}
use Rattle.rules.proofs.TestLaws.{distinct_test}
use Rattle.rules.proofs.WellFormedLaws.{well_formed_lem, no_circle}
use Rattle.rules.proofs.PassingLaws.{good_is}
use Rattle.model.specs.Members.{index_members}
use Rattle.form_check.specs.FormTests.{definitions_apart, models_fit, bodies_fit}
use Rattle.model_check.specs.ModelTests.{model_fits}
use Rattle.store_check.specs.Reading.{DefinitionFits, FieldsFit, part_at, no_flat_definition, entry_of, form_at, Agrees}
use Rattle.store_check.proofs.IndexLaws.{names_of}
use Rattle.store_check.proofs.ModelReads.{ModelRead}
use Rattle.store_check.proofs.AttributeReads.{own_apart, own_good, all_rise, all_apart, all_fit}
use Rattle.store_check.proofs.ModelWrites.{ModelGood, models_written, definitions_written}
use Rattle.store_check.proofs.FormReads.{every_nth, every_index, form_of, form_size, form_apart, bodies_of_lem, read_at_lem, model_at_lem, kind_at, members_at_lem, model_renamed, read_attributes}

-- all that well-formed asks of a definition but that it does not reach itself
pub record GoodButCircle (w : ℕ) (form : Form) (d : Definition) : Type 0 where
  pub name : stored_name d.name ≡ true
  pub in_range : (m : Bytes) → Memᴰ m (names (members d)) → known form m ≡ true
  pub once : Distinct (names (members d))
  pub groups : Full (members d)
  pub attribute_names : Distinct (map attribute_name d.attributes)
  pub attributes : (a : Attribute) → Memᴰ a d.attributes → is_attribute_of w a ≡ true

module _ (w : ℕ) (f : FlatStore) (fit : FieldsFit w f) (bodies : bodies_fit f ≡ true) where
  good_at : (i : ℕ) → i < length (form_of f) → GoodButCircle w (form_of f) (definition_at i (form_of f))
  good_at i l =
      let m : ModelRead (form_of f) (form_apart w f fit bodies) (part_at i f.definitions f.particles) = model_at_lem w f fit bodies i l in
      let e : members (definition_at i (form_of f)) ≡ read_members (names_of (form_of f)) (build (part_at i f.definitions f.particles) 0) = members_at_lem w f fit bodies i l in
      let a : (definition_at i (form_of f)).attributes ≡ of_owner i f.attributes =
      ap (λ (d : Definition). d.attributes) (read_at_lem w f fit bodies i l) ∙ ap (λ (k : ℕ). of_owner k f.attributes) (omega arith) in
      record {
        name = ap (λ (d : Definition). stored_name d.name) (read_at_lem w f fit bodies i l)
            ∙ (every_nth DefinitionFits no_flat_definition f.definitions i (omega (arith, form_size f)) fit.definitions).name;
        in_range = λ n k. m.in_range n (rw e at k);
        once = rw e m.once;
        groups = rw e m.groups;
        attribute_names = rw a (own_apart i f.attributes (bodies_of_lem f bodies).names);
        attributes = λ x k. every_at (λ a. is_attribute_of w a ≡ true) x (of_owner i f.attributes) (own_good w (length f.definitions) i f.attributes fit.attributes) (rw a at k);
      }

  pub form_good_but : (d : Definition) → Memᴰ d (form_of f) → GoodButCircle w (form_of f) d
  form_good_but d = every_at (GoodButCircle w (form_of f)) d (form_of f) (every_index (GoodButCircle w (form_of f)) (form_of f) good_at)

  -- well-formed just where there is no circle
  pub form_good : (well_formed w (form_of f) ≡ true) ↔ ((n : Bytes) → Reaches (form_of f) n n → ⊥)
  form_good = (
    λ ok. no_circle w (form_of f) ok,
    λ free.
        (well_formed_lem w (form_of f)).1
        record {
          names = form_apart w f fit bodies;
          definitions = λ d m.
              let g : GoodButCircle w (form_of f) d = form_good_but d m in
              record {
                name = g.name;
                in_range = g.in_range;
                once = g.once;
                groups = g.groups;
                circle = free d.name;
                attribute_names = g.attribute_names;
                attributes = g.attributes;
              };
        },
  )

  -- the form says by name what the bodies say by index
  pub form_agrees : (version : ℕ) → Agrees version (form_at version f) (form_of f)
  form_agrees version =
      let e : all_attributes 0 (form_of f) ≡ f.attributes = read_attributes w f fit bodies in
      record {
        size = sym (form_size f);
        kind = λ i l. sym (kind_at w f fit bodies i l);
        model = λ i l. model_renamed w f fit bodies i l;
        in_range = λ i l j m. every_at (λ j. j < length (form_of f)) j (names (index_members (build (part_at i f.definitions f.particles) 0))) (model_at_lem w f fit bodies i l).below m;
        attributes = sym (ap (λ (z : List FlatAttribute). length z) e);
        owner = λ j l. sym (ap (λ (z : List FlatAttribute). (entry_of j z).owner) e);
        needed = λ j l. sym (ap (λ (z : List FlatAttribute). must_be_present version (sort_of (entry_of j z).sort)) e);
        allows = λ j l v. sym (ap (λ (z : List FlatAttribute). allows (sort_of (entry_of j z).sort) (entry_of j z).value v) e);
      }

-- ---- ceilings: the bodies' tests hold the depths, so that the counts are left
depths_fit : (n : ℕ) (ds : List FlatDefinition) (ps : List (Deep FlatParticle)) → models_fit n ds ps ≡ true → all (λ (p : Deep FlatParticle). leb p.depth 4) ps ≡ true
unfolding models_fit model_fits
depths_fit n [] ps h = rw (none_nil ps h)
depths_fit n (d ∷ ds) ps h =
    let (x, y) = and_split (leb d.particles (length ps)) _ h in
    let (u, v) = and_split (model_fits n (take d.particles ps)) (models_fit n ds (drop d.particles ps)) y in
    ap (all (λ (p : Deep FlatParticle). leb p.depth 4)) (sym (take-append-drop d.particles ps))
    ∙ all_append (λ (p : Deep FlatParticle). leb p.depth 4) (take d.particles ps) (drop d.particles ps)
    ∙ and_both
    (and_split (all (λ (p : Deep FlatParticle). leb p.depth 4) (take d.particles ps)) _ u).0 (depths_fit n ds (drop d.particles ps) v)

pub ceilings_counted : (f : FlatStore) → bodies_fit f ≡ true
    → within_ceilings f
    ≡ (leb (length f.definitions) 64 && (leb (length f.particles) 256 && (leb (length f.attributes) 64 && leb (length f.rows) 4096)))
ceilings_counted f h =
    ap (λ (t : Bool). leb (length f.definitions) 64 && (leb (length f.particles) 256 && (t && (leb (length f.attributes) 64 && leb (length f.rows) 4096))))
    (depths_fit (length f.definitions) f.definitions f.particles (bodies_of_lem f h).models)

-- ---- the bodies of a store that passes
flat_names : (form fs : Form) → map flat_name (map (flat_definition form) fs) ≡ names_of fs
flat_names form [] = refl
flat_names form (d ∷ fs) = ap (λ (z : List Bytes). d.name ∷ z) (flat_names form fs)

module _ (s : Store) (ok : good s ≡ true) where
  goods : Good s
  goods = (good_is s).0 ok

  each : Every (GoodDefinition (value_width s.version) s.form) s.form
  each = every_in (GoodDefinition (value_width s.version) s.form) s.form goods.form.definitions

  shallow : all (λ (p : Deep FlatParticle). leb p.depth 4) (all_particles s.form s.form) ≡ true
  shallow =
      let (a, b) = and_split (leb (length (flat s).definitions) 64) _ goods.ceilings in
      let (c, d) = and_split (leb (length (flat s).particles) 256) _ b in
      (and_split (all (λ (p : Deep FlatParticle). leb p.depth 4) (flat s).particles) _ d).0

  pub good_bodies : bodies_fit (flat s) ≡ true
  unfolding bodies_fit definitions_apart
  good_bodies =
      and_both (ap (distinct bytes) (flat_names s.form s.form) ∙ (distinct_test bytes (names_of s.form)).1 goods.form.names)
      (and_both
      (ap (λ (n : ℕ). models_fit n (flat s).definitions (flat s).particles) (length-map s.form (flat_definition s.form))
      ∙ models_written s.form s.form
      (every_map (GoodDefinition (value_width s.version) s.form) (λ d. ModelGood s.form (members d)) s.form
      (λ d g. record { in_range = g.in_range; once = g.once; groups = g.groups }) each)
      shallow)
      (and_both (all_rise 0 0 s.form (omega arith))
      (all_apart 0 s.form (every_map (GoodDefinition (value_width s.version) s.form) (λ d. Distinct (map attribute_name d.attributes)) s.form (λ d g. g.attribute_names) each))))

  pub good_fields : FieldsFit (value_width s.version) (flat s)
  good_fields =
      record {
        definitions = definitions_written s.form s.form (every_map (GoodDefinition (value_width s.version) s.form) (λ d. stored_name d.name ≡ true) s.form (λ d g. g.name) each);
        attributes = all_fit (value_width s.version) (length (flat s).definitions) 0 s.form (omega (arith, length-map s.form (flat_definition s.form)))
            (every_map (GoodDefinition (value_width s.version) s.form) (λ d. Every (λ a. is_attribute_of (value_width s.version) a ≡ true) d.attributes) s.form
            (λ d g. every_in (λ a. is_attribute_of (value_width s.version) a ≡ true) d.attributes g.attributes) each);
      }
