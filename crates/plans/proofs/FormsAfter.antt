-- The form after a change: its bytes are read back as it.
use Prim.Native.Nat.{ℕ, zero, suc, ◌+◌, ◌≤◌, ◌<◌}
use native.Mathlib.Omega.{arith}
use mathlib.Core.Path.{◌≡◌, refl, ap, sym, ◌∙◌}
use mathlib.Core.Bool.{true, ◌&&◌, and-true}
use mathlib.Core.List.{List, [], ◌∷◌, ◌++◌}
use lib.Dec.{leb}
use lib.ListN.{length, take, drop, length-append, length-take, length-drop}
use borrow.Author.Tests.{le-leb}
use Rattle.rules.specs.Bytes.{Bytes}
use Rattle.rules.specs.Layout.{FlatDefinition, FlatAttribute, FlatStore, definition_bytes, particle_bytes, attribute_bytes, each}
use Rattle.rules.specs.WellFormed.{is_name, is_value, within_ceilings}
use Rattle.rules.proofs.BooleanLaws.{Every, every_append, every_take, every_drop}
use Rattle.rules.proofs.LayoutLaws.{GoodFlatDefinition, GoodFlatAttribute, GoodFlat}
use Rattle.rules.proofs.DecodeLaws.{name_width_lem, value_width_lem}
use Rattle.model.specs.Members.{start_of}
use Rattle.model.specs.Places.{Particles}
use Rattle.model_writer.specs.Spliced.{count_of, counted, spliced, spliced_form}
use Rattle.store_laws.specs.Forms.{form_bytes, bare_form}
use Rattle.store_laws.proofs.FormBytesLaws.{Few, few_of, few_particles, few_attributes}
use Rattle.store_laws.proofs.FormLaws.{FormOf}
use Rattle.plans.specs.AttributeCalls.{attributes_replaced, attribute_added, attribute_dropped}

-- ---- 3 to 8: definition o with other particles
pub counted_length : (o n : ℕ) (ds : List FlatDefinition) → length (counted o n ds) ≡ length ds
counted_length o n [] = refl
counted_length zero n (d ∷ ds) = refl
counted_length (suc o) n (d ∷ ds) = ap suc (counted_length o n ds)

counted_good : (o n : ℕ) (ds : List FlatDefinition) → n < 65536 → Every GoodFlatDefinition ds → Every GoodFlatDefinition (counted o n ds)
counted_good o n [] h a = tt
counted_good zero n (d ∷ ds) h a = (record { name = a.0.name; particles = h }, a.1)
counted_good (suc o) n (d ∷ ds) h a = (a.0, counted_good o n ds h a.1)

module _ (o : ℕ) (part : Particles) (f : FlatStore) where
  pub spliced_bytes : (w : ℕ) → form_bytes w (spliced_form o part f)
      ≡ each definition_bytes (counted o (length part) f.definitions)
      ++ (each particle_bytes (spliced (start_of o f.definitions) (count_of o f.definitions) part f.particles)
      ++ each (attribute_bytes w) f.attributes)
  unfolding spliced_form
  spliced_bytes w = refl

  part_few : within_ceilings (bare_form (spliced_form o part f)) ≡ true → length part ≤ 256
  unfolding spliced_form
  part_few h =
      let at : ℕ = start_of o f.definitions in
      let rest : Particles = drop (at + count_of o f.definitions) f.particles in
      omega (arith, few_particles (few_of (bare_form (spliced_form o part f)) h), length-append (take at f.particles) (part ++ rest), length-append part rest)

  pub spliced_form_lem : {w : ℕ} → GoodFlat w f → within_ceilings (bare_form (spliced_form o part f)) ≡ true → {form : Bytes} {d p a : ℕ}
      → form ≡ form_bytes w (spliced_form o part f) → d ≡ length f.definitions → p ≡ length (spliced_form o part f).particles → a ≡ length f.attributes
      → FormOf w (spliced_form o part f) form d p a
  unfolding spliced_form
  spliced_form_lem g h e n m k =
      record {
        bytes = e;
        definition_count = n ∙ sym (counted_length o (length part) f.definitions);
        particle_count = m;
        attribute_count = k;
        definitions = counted_good o (length part) f.definitions (omega (arith, part_few h)) g.definitions;
        attributes = g.attributes;
        ceilings = h;
      }

-- ---- 9 and 10: other attributes
pub good_attribute : (w o : ℕ) (n : Bytes) (k : ℕ) (v : Bytes) → is_name n ≡ true → is_value w v ≡ true → GoodFlatAttribute w (record { owner = o; name = n; sort = k; value = v })
good_attribute w o n k v h e = record { name = name_width_lem n h; value = value_width_lem w v e }

-- the ceiling of a form that has other attributes
few_more : (f : FlatStore) (cs : List FlatAttribute) → within_ceilings f ≡ true → within_ceilings (bare_form (attributes_replaced cs f)) ≡ leb (length cs) 64
few_more f cs h = let x : Few f = few_of f h in λ i. x.definitions i && (x.particles i && (x.depths i && and-true (leb (length cs) 64) i))

module _ {w : ℕ} (i : ℕ) (f : FlatStore) (g : GoodFlat w f) (h : within_ceilings f ≡ true) where
  added_length : (c : FlatAttribute) → length (attribute_added i c f).attributes ≡ suc (length f.attributes)
  added_length c = omega (arith, length-append (take i f.attributes) (c ∷ drop i f.attributes), length-take i f.attributes, length-drop i f.attributes)

  pub added_ceiling : (c : FlatAttribute) → within_ceilings (bare_form (attribute_added i c f)) ≡ leb (suc (length f.attributes)) 64
  added_ceiling c = few_more f (attribute_added i c f).attributes h ∙ ap (λ (n : ℕ). leb n 64) (added_length c)

  pub added_form : (c : FlatAttribute) → GoodFlatAttribute w c → length f.attributes < 64 → {form : Bytes} {d p a : ℕ}
      → form ≡ form_bytes w (attribute_added i c f) → d ≡ length f.definitions → p ≡ length f.particles → a ≡ suc (length f.attributes)
      → FormOf w (attribute_added i c f) form d p a
  added_form c fine l e n m k =
      record {
        bytes = e;
        definition_count = n;
        particle_count = m;
        attribute_count = k ∙ sym (added_length c);
        definitions = g.definitions;
        attributes =
            every_append (GoodFlatAttribute w) (take i f.attributes) (c ∷ drop i f.attributes) (every_take (GoodFlatAttribute w) i f.attributes g.attributes)
            (fine, every_drop (GoodFlatAttribute w) i f.attributes g.attributes);
        ceilings = added_ceiling c ∙ le-leb (suc (length f.attributes)) 64 (omega arith);
      }

  dropped_length : i < length f.attributes → suc (length (attribute_dropped i f).attributes) ≡ length f.attributes
  dropped_length l = omega (arith, length-append (take i f.attributes) (drop (suc i) f.attributes), length-take i f.attributes, length-drop (suc i) f.attributes)

  pub dropped_form : i < length f.attributes → {form : Bytes} {d p a : ℕ} → form ≡ form_bytes w (attribute_dropped i f) → d ≡ length f.definitions
      → p ≡ length f.particles → suc a ≡ length f.attributes → FormOf w (attribute_dropped i f) form d p a
  dropped_form l e n m k =
      let many : length (attribute_dropped i f).attributes ≤ 64 = omega (arith, dropped_length l, few_attributes (few_of f h)) in
      record {
        bytes = e;
        definition_count = n;
        particle_count = m;
        attribute_count = omega (arith, dropped_length l);
        definitions = g.definitions;
        attributes =
            every_append (GoodFlatAttribute w) (take i f.attributes) (drop (suc i) f.attributes) (every_take (GoodFlatAttribute w) i f.attributes g.attributes)
            (every_drop (GoodFlatAttribute w) (suc i) f.attributes g.attributes);
        ceilings = few_more f (attribute_dropped i f).attributes h ∙ le-leb (length (attribute_dropped i f).attributes) 64 many;
      }
