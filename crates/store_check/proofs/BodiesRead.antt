-- The form by index that is read off the bytes of a store that passes
-- is the form by index of its bodies, for all indices.
use Prim.Native.Nat.{ℕ, zero, suc, ◌*◌, ◌<◌, ◌≤◌}
use native.Mathlib.Nat.{mul-le-mul}
use native.Mathlib.Omega.{arith}
use mathlib.Core.Path.{◌≡◌, refl, ap, ◌∙◌, sym}
use mathlib.Core.Bool.{Bool, true, false}
use mathlib.Core.List.{List, [], ◌∷◌}
use lib.Dec.{ltb}
use lib.ListN.{length, take, drop, get_or, drop_of_length-le, get_or-eq_default}
use lib.Seq.{take-nil}
use borrow.Author.Tests.{ltb-true, ltb-false}
use Rattle.rules.specs.Bytes.{Bytes}
use Rattle.rules.specs.Preorder.{Deep, build}
use Rattle.rules.specs.Layout.{definition_size, particle_size, attribute_size, row_size, FlatDefinition, FlatParticle}
use Rattle.rules.specs.Decode.{number_at, read_row, read_many, read_definition, read_attribute, sort_of, row_count}
use Rattle.rules.specs.Conforming.{must_be_present, allows}
use Rattle.rules.specs.Passing.{passes}
use Rattle.model.specs.Members.{index_members, particles_of, members_from, all_members}
use Rattle.records.specs.Records.{row_fits, each_fits}
use Rattle.form_check.specs.Bodies.{definitions, attributes, form_of_bodies}
use Rattle.model_check.specs.Particles.{particles_read}
use Rattle.form_check.proofs.Reading.{definitions_length, attributes_length}
use Rattle.layout.specs.Bodies.{record_at, width_of, attributes_in, tree_rows_in}
use Rattle.form_index.specs.Reading.{definition_in, attribute_in, model_part, by_index}
use Rattle.form_index.specs.Reading as bytes
use Rattle.store_check.specs.Reading.{part_at, no_flat_definition, no_attribute, entry_of, form_at, flat_index_form}
use Rattle.store_check.specs.Check.{FormPasses, FormIn, RowsPass, SerialsIn}
use Rattle.store_check.proofs.FormLaws.{Laid}
use Rattle.store_check.proofs.IndexReads.{definition_in_lem, attribute_in_lem, model_in_lem, index_agrees}
use Rattle.store_check.proofs.StringChecks.{Headed, laid_in, same_definitions, same_particles, same_attributes, same_rows, passes_in}
use Rattle.store_check.proofs.StoreReads.{flat_of}
use Rattle.layout.specs.Fields.{version_at}

-- past the end of a body no byte is read
record_past : (size i n : ℕ) (s : Bytes) → size * n ≡ length s → n ≤ i → record_at size i s ≡ []
record_past size i n s e l =
    let k : size * n ≤ size * i = mul-le-mul {n₁ = size} {m₁ = n} {n₂ = size} {m₂ = i} (omega arith) l in
    ap (take size) (drop_of_length-le s {i = size * i} (omega arith)) ∙ take-nil size

part_past : (i : ℕ) (ds : List FlatDefinition) (ps : List (Deep FlatParticle)) → length ds ≤ i → part_at i ds ps ≡ []
part_past i [] ps h = refl
part_past zero (d ∷ ds) ps h = absurd (omega arith)
part_past (suc i) (d ∷ ds) ps h = part_past i ds (drop d.particles ps) (omega arith)

-- what holds below n and from n on
by_range : {P : ℕ → Type 0} (n : ℕ) → ((i : ℕ) → i < n → P i) → ((i : ℕ) → n ≤ i → P i) → (i : ℕ) → P i
by_range {P} n f g i = by (ltb i n) refl
  where
    by : (b : Bool) → ltb i n ≡ b → P i
    by true e = f i (ltb-true i n e)
    by false e = g i (ltb-false i n e)

module _ {w n : ℕ} {defs : Bytes} {p : ℕ} {parts : Bytes} {a : ℕ} {attrs : Bytes} (laid : Laid w n defs p parts a attrs) (x : FormPasses w n defs p parts a attrs) where
  definition_past : (i : ℕ) → n ≤ i → definition_in defs i ≡ no_flat_definition
  definition_past i l = ap read_definition (record_past definition_size i n defs laid.bodies.definition_body.whole l)

  definition_any : (i : ℕ) → definition_in defs i ≡ get_or (definitions n defs) i no_flat_definition
  definition_any = by_range n (definition_in_lem laid x) (λ i l. definition_past i l ∙ sym (get_or-eq_default (definitions n defs) no_flat_definition {n = i} (omega (arith, definitions_length n defs))))

  attribute_any : (j : ℕ) → attribute_in w attrs j ≡ entry_of j (attributes w a attrs)
  attribute_any =
      by_range a (attribute_in_lem laid x)
      (λ j l. ap read_attribute (record_past (attribute_size w) j a attrs laid.bodies.attribute_body.whole l)
      ∙ sym (get_or-eq_default (attributes w a attrs) no_attribute {n = j} (omega (arith, attributes_length w a attrs))))

  model_past : (i : ℕ) → n ≤ i → all_members (model_part defs parts i) ≡ index_members (build (part_at i (definitions n defs) (particles_read p parts)) 0)
  unfolding model_part members_from particles_of
  model_past i l =
      ap (λ (d : FlatDefinition). all_members (take (particle_size * d.particles) (drop (particle_size * bytes.particles_before defs i) parts))) (definition_past i l)
      ∙ sym (ap (λ (ps : List (Deep FlatParticle)). index_members (build ps 0)) (part_past i (definitions n defs) (particles_read p parts) (omega (arith, definitions_length n defs))))

  model_any : (i : ℕ) → all_members (model_part defs parts i) ≡ index_members (build (part_at i (definitions n defs) (particles_read p parts)) 0)
  model_any = by_range n (model_in_lem laid x) model_past

  index_is : (version : ℕ) → bytes.index_form version w n defs parts attrs a ≡ form_at version (form_of_bodies w n defs p parts a attrs)
  index_is version = λ i.
      record {
        size = sym (definitions_length n defs) i;
        kind = λ j. (definition_any j i).kind;
        model = λ j. model_any j i;
        attributes = sym (attributes_length w a attrs) i;
        owner = λ j. (attribute_any j i).owner;
        needed = λ j. must_be_present version (sort_of (attribute_any j i).sort);
        allows = λ j v. allows (sort_of (attribute_any j i).sort) (attribute_any j i).value v;
      }

-- ---- of a byte string that passes
module _ {bs : Bytes} (h : Headed bs) where
  told : passes bs ≡ true → FormIn bs × RowsPass (width_of bs) (by_index bs) (row_count bs) (tree_rows_in bs) × SerialsIn bs
  told = (passes_in h (by_index bs) (λ x. index_agrees (laid_in h) x.passes (number_at version_at 4 bs))).0

  pub form_in_lem : passes bs ≡ true → FormIn bs
  form_in_lem q = (told q).0

  -- each row by itself
  pub rows_fit_lem : passes bs ≡ true → each_fits (row_fits (width_of bs)) (row_size (width_of bs)) (row_count bs) (tree_rows_in bs) ≡ true
  rows_fit_lem q = (told q).1.fields

  pub read_form_lem : passes bs ≡ true → by_index bs ≡ flat_index_form (flat_of bs)
  read_form_lem q =
      index_is (laid_in h) (form_in_lem q).passes (number_at version_at 4 bs)
      ∙ (λ i. form_at (number_at version_at 4 bs) (record {
        version = 0;
        next = 0;
        definitions = sym (same_definitions h) i;
        particles = sym (same_particles h) i;
        attributes = sym (same_attributes h) i;
        rows = [];
      }))

  pub read_attribute_lem : passes bs ≡ true → (j : ℕ) → attribute_in (width_of bs) (attributes_in bs) j ≡ entry_of j (flat_of bs).attributes
  read_attribute_lem q j = attribute_any (laid_in h) (form_in_lem q).passes j ∙ ap (entry_of j) (sym (same_attributes h))

  pub read_rows_lem : read_many read_row (row_size (width_of bs)) (row_count bs) (tree_rows_in bs) ≡ (flat_of bs).rows
  read_rows_lem = sym (same_rows h)
