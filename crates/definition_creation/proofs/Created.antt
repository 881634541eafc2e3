-- The bodies of a store after change 1.
use Prim.Native.Nat.{ℕ, zero, suc, ◌+◌, ◌≤◌}
use native.Mathlib.Omega.{arith}
use mathlib.Core.Path.{◌≡◌, refl, ap, ap₂, ◌∙◌}
use mathlib.Core.Bool.{Bool, true, false, false≢true}
use mathlib.Core.List.{List, [], ◌∷◌, ◌++◌, map, append-nil, Memᴰ, map-append}
use lib.Dec.{eqb}
use lib.ListN.{length}
use Rattle.rules.specs.Bytes.{Bytes, same, all}
use Rattle.rules.specs.Model.{done, names}
use Rattle.rules.specs.Store.{Definition, Form, Store, members, heads}
use Rattle.rules.specs.Preorder.{Deep}
use Rattle.rules.specs.Layout.{FlatDefinition, FlatParticle, FlatAttribute, FlatRow, index_of, attribute_index, content_particles, flat_definition, all_particles, own_attributes, all_attributes, flat}
use Rattle.rules.specs.Decode.{content_of}
use Rattle.rules.specs.WellFormed.{known, lookup}
use Rattle.rules.specs.Conforming.{fits_row}
use Rattle.rules.specs.Passing.{good}
use Rattle.rules.specs.Change.{create_definition, form_after, plan, after}
use Rattle.rules.proofs.BooleanLaws.{Every, every_map, all_in}
use Rattle.rules.proofs.DecodeLaws.{GoodParts, good_parts, good_known}
use Rattle.definition_writer.specs.Bodies.{new_definition, moved_row, moved_particle}
use Rattle.definition_creation.specs.Bodies.{created}
use Rattle.definition_writer.proofs.Kept.{after_kept_lem}
use Rattle.definition_writer.proofs.FittingRows.{element_known, others_bare, every_row_map, roots_elements}
use Rattle.definition_writer.proofs.Renumbered.{OkRow, moved_models, moved_definitions, moved_rows}

-- ---- nothing moves
abbrev pub stays : ℕ → ℕ
stays i = i

unmoved_particle : (x : Deep FlatParticle) → moved_particle stays x ≡ x
unfolding moved_particle
unmoved_particle x = by (eqb x.row.sort 0)
  where
    by : (b : Bool)
        → record {
          depth = x.depth;
          row = record { sort = x.row.sort; quantifier = x.row.quantifier; index = elim b as (λ z. ℕ) [ true ↦ x.row.index | false ↦ x.row.index ] };
        }
        ≡ x
    by true = refl
    by false = refl

unmoved_row : (x : Deep FlatRow) → moved_row stays stays x ≡ x
unfolding moved_row
unmoved_row x = by (eqb x.row.sort 1) (eqb x.row.sort 2)
  where
    by : (b c : Bool)
        → record {
          depth = x.depth;
          row = record {
            sort = x.row.sort;
            index = elim b as (λ z. ℕ) [ true ↦ x.row.index | false ↦ elim c as (λ z. ℕ) [ true ↦ x.row.index | false ↦ x.row.index ] ];
            serial = x.row.serial;
            value = x.row.value;
          };
        }
        ≡ x
    by true c = refl
    by false true = refl
    by false false = refl

map_same : {A : Type 0} (f : A → A) → ((x : A) → f x ≡ x) → (xs : List A) → map f xs ≡ xs
map_same f e [] = refl
map_same f e (x ∷ xs) = λ i. e x i ∷ map_same f e xs i

-- ---- indices of known names
index_old : (n : Bytes) (form more : Form) → known form n ≡ true → index_of n (form ++ more) ≡ index_of n form
index_old n [] more k = absurd (false≢true k)
index_old n (d ∷ form) more k = by (same n d.name) refl (index_old n form more)
  where
    by : (b : Bool) → same n d.name ≡ b → (known form n ≡ true → index_of n (form ++ more) ≡ index_of n form) → index_of n (d ∷ form ++ more) ≡ index_of n (d ∷ form)
    by true q f = rw (q, index_of) refl
    by false q f = rw (q, index_of) (ap suc (f (rw (q, lookup) at k)))

attribute_old : (o n : Bytes) (form more : Form) → known form o ≡ true → attribute_index o n (form ++ more) ≡ attribute_index o n form
attribute_old o n [] more k = absurd (false≢true k)
attribute_old o n (d ∷ form) more k = by (same o d.name) refl (attribute_old o n form more)
  where
    by : (b : Bool) → same o d.name ≡ b → (known form o ≡ true → attribute_index o n (form ++ more) ≡ attribute_index o n form)
        → attribute_index o n (d ∷ form ++ more) ≡ attribute_index o n (d ∷ form)
    by true q f = rw (q, attribute_index) refl
    by false q f = rw (q, attribute_index) (ap (λ (i : ℕ). length d.attributes + i) (f (rw (q, lookup) at k)))

-- ---- definitions that are appended
particles_more : (form ds : Form) (d : Definition) → content_particles form d.content ≡ [] → all_particles form (ds ++ d ∷ []) ≡ all_particles form ds
particles_more form [] d e = append-nil (content_particles form d.content) ∙ e
particles_more form (x ∷ ds) d e = ap (λ (l : List (Deep FlatParticle)). content_particles form x.content ++ l) (particles_more form ds d e)

attributes_more : (o : ℕ) (ds : Form) (d : Definition) → d.attributes ≡ [] → all_attributes o (ds ++ d ∷ []) ≡ all_attributes o ds
attributes_more o [] d e = rw e refl
attributes_more o (x ∷ ds) d e = ap (λ (l : List FlatAttribute). own_attributes o x.attributes ++ l) (attributes_more (suc o) ds d e)

-- ---- the change
module _ (n : Bytes) (k : ℕ) (low : k ≤ 2) where
  abbrev added : Definition
  added = record { name = n; content = content_of k done; attributes = [] }

  flat_added : (form : Form) → (content_particles form added.content ≡ []) × (flat_definition form added ≡ new_definition n k)
  flat_added form = by k low
    where
      by : (j : ℕ) → j ≤ 2 → (content_particles form (content_of j done) ≡ []) × (flat_definition form (record { name = n; content = content_of j done; attributes = [] }) ≡ new_definition n j)
      by zero h = (refl, refl)
      by (suc zero) h = (refl, refl)
      by (suc (suc zero)) h = (refl, refl)
      by (suc (suc (suc j))) h = absurd (omega arith)

  module _ (s : Store) (g : good s ≡ true) where
    abbrev form : Form
    form = s.form

    abbrev grown : Form
    grown = s.form ++ added ∷ []

    abbrev Ok : Bytes → Type 0
    Ok m = known form m ≡ true

    parts : GoodParts s
    parts = good_parts s g

    names_ok : Every (λ d. (m : Bytes) → Memᴰ m (names (members d)) → Ok m) form
    names_ok = every_map (λ d. all (known form) (names (members d)) ≡ true) (λ d. (m : Bytes) → Memᴰ m (names (members d)) → Ok m) form
        (λ d e m i. all_in (known form) m (names (members d)) e i) (good_known s g)

    elements : (m : Bytes) → Ok m → index_of m grown ≡ stays (index_of m form)
    elements m e = index_old m form (added ∷ []) e

    definitions_are : map (flat_definition grown) grown ≡ map (flat_definition form) form ++ new_definition n k ∷ []
    definitions_are =
        map-append (flat_definition grown) form (added ∷ [])
        ∙ ap₂ (λ (x : List FlatDefinition) (y : FlatDefinition). x ++ y ∷ []) (moved_definitions form grown stays Ok elements form names_ok) (flat_added grown).1

    particles_are : all_particles grown grown ≡ all_particles form form
    particles_are =
        particles_more grown form added (flat_added grown).0 ∙ moved_models form grown stays Ok elements form names_ok
        ∙ map_same (moved_particle stays) unmoved_particle (all_particles form form)

    rows_are : (flat (record { version = s.version; next = s.next; form = grown; docs = s.docs })).rows ≡ (flat s).rows
    rows_are =
        moved_rows form grown stays Ok elements stays (λ o m e. attribute_old o m form (added ∷ []) e) [] 0 s.docs (roots_elements (Ok []) (heads s.docs) parts.roots)
        (every_row_map (λ r below. fits_row s.version form r below ≡ true) (OkRow form grown stays Ok elements stays (λ o m e. attribute_old o m form (added ∷ []) e))
        (λ r below e. record { name = element_known s.version form r below e; nothing = others_bare s.version form r below e }) s.docs parts.rows)
        ∙ map_same (moved_row stays stays) unmoved_row (flat s).rows

    pub flat_created : flat (after (create_definition n k) s) ≡ created n k (flat s)
    unfolding created form_after plan
    flat_created =
        ap flat (after_kept_lem (create_definition n k) s g refl)
        ∙ (λ i.
        record {
          version = s.version;
          next = s.next;
          definitions = definitions_are i;
          particles = particles_are i;
          attributes = attributes_more 0 form added refl i;
          rows = rows_are i;
        })
