-- The bodies of a form and of documents under another form in which the names have other indices.
use Prim.Native.Nat.{ℕ, suc}
use mathlib.Core.Path.{◌≡◌, refl, sym, ap, ap₂, ◌∙◌}
use mathlib.Core.Bool.{false}
use mathlib.Core.List.Memᴰ
use mathlib.Core.List.{List, [], ◌∷◌, ◌++◌, map, Memᴰ, map-append}
use lib.ListN.{length, length-map}
use Rattle.rules.specs.declared.GroupKind.{GroupKind}
use Rattle.rules.specs.declared.GroupKind.TheVariants.{Sequence, Choice}
use Rattle.rules.specs.Bytes.{Bytes}
use Rattle.rules.specs.Model.{Members, done, el, group, names}
use Rattle.rules.specs.Store.{Content, empty, pcdata, complex, Definition, Form, RowSort, element, attribute, text, Row, Forest, bare, tree, model_of, members, heads}
use Rattle.rules.specs.Preorder.{Deep, preorder}
use Rattle.rules.specs.Layout.{FlatDefinition, FlatParticle, FlatRow, index_of, attribute_index, particles, content_particles, flat_definition, all_particles}
use Rattle.rules.specs.Layout.{row_code, row_index, indexed, quantifier_code, group_code, kind_code, how_many}
use Rattle.rules.specs.Conforming.{EveryRow, is_element}
use Rattle.rules.proofs.BooleanLaws.{Every, every_in}
use Rattle.definition_writer.specs.Bodies.{row_moved, moved_row, moved_particle}

-- g: how the definitions move, h: how the attributes do, of the names that are `Ok`
module _ (form form' : Form) (g : ℕ → ℕ) (Ok : Bytes → Type 0) (elements : (n : Bytes) → Ok n → index_of n form' ≡ g (index_of n form)) where
  -- ---- models
  moved_element : (d q i : ℕ)
      → moved_particle g (record { depth = d; row = record { sort = 0; quantifier = q; index = i } })
      ≡ record { depth = d; row = record { sort = 0; quantifier = q; index = g i } }
  unfolding moved_particle
  moved_element d q i = refl

  moved_group : (d q i : ℕ) (c : GroupKind)
      → moved_particle g (record { depth = d; row = record { sort = group_code c; quantifier = q; index = i } })
      ≡ record { depth = d; row = record { sort = group_code c; quantifier = q; index = i } }
  unfolding moved_particle
  moved_group d q i Sequence = refl
  moved_group d q i Choice = refl

  moved_particles : (d : ℕ) (ms : Members Bytes) → ((n : Bytes) → Memᴰ n (names ms) → Ok n) → preorder d (particles form' ms) ≡ map (moved_particle g) (preorder d (particles form ms))
  unfolding names
  moved_particles d done k = refl
  moved_particles d (el q n rest) k =
      ap₂ (λ (i : ℕ) (l : List (Deep FlatParticle)). record { depth = d; row = record { sort = 0; quantifier = quantifier_code q; index = i } } ∷ l)
      (elements n (k n (Memᴰ.head refl))) (moved_particles d rest (λ m j. k m (Memᴰ.tail j)))
      ∙ ap (λ (x : Deep FlatParticle). x ∷ map (moved_particle g) (preorder d (particles form rest))) (sym (moved_element d (quantifier_code q) (index_of n form)))
  moved_particles d (group q c ms rest) k =
      ap₂ (λ (x y : List (Deep FlatParticle)). record { depth = d; row = record { sort = group_code c; quantifier = quantifier_code q; index = how_many ms } } ∷ (x ++ y))
      (moved_particles (suc d) ms (λ m j. k m (Memᴰ.append_left (names rest) j)))
      (moved_particles d rest (λ m j. k m (Memᴰ.append_right (names ms) j)))
      ∙ ap₂ (λ (x : Deep FlatParticle) (l : List (Deep FlatParticle)). x ∷ l) (sym (moved_group d (quantifier_code q) (how_many ms) c))
      (sym (map-append (moved_particle g) (preorder (suc d) (particles form ms)) (preorder d (particles form rest))))

  abbrev NamesOk : Definition → Type 0
  NamesOk d = (n : Bytes) → Memᴰ n (names (members d)) → Ok n

  moved_content : (c : Content) → ((n : Bytes) → Memᴰ n (names (model_of c)) → Ok n) → content_particles form' c ≡ map (moved_particle g) (content_particles form c)
  moved_content empty k = refl
  moved_content pcdata k = refl
  moved_content (complex ms) k = moved_particles 0 ms k

  pub moved_models : (ds : Form) → Every NamesOk ds → all_particles form' ds ≡ map (moved_particle g) (all_particles form ds)
  moved_models [] k = refl
  moved_models (d ∷ ds) (k, l) =
      ap₂ (λ (x y : List (Deep FlatParticle)). x ++ y) (moved_content d.content k) (moved_models ds l)
      ∙ sym (map-append (moved_particle g) (content_particles form d.content) (all_particles form ds))

  moved_definition : (d : Definition) → NamesOk d → flat_definition form' d ≡ flat_definition form d
  moved_definition d k =
      ap (λ (n : ℕ). record { name = d.name; kind = kind_code d.content; particles = n })
      (ap length (moved_content d.content k) ∙ length-map (content_particles form d.content) (moved_particle g))

  pub moved_definitions : (ds : Form) → Every NamesOk ds → map (flat_definition form') ds ≡ map (flat_definition form) ds
  moved_definitions [] k = refl
  moved_definitions (d ∷ ds) (k, l) = ap₂ (λ (x : FlatDefinition) (y : List FlatDefinition). x ∷ y) (moved_definition d k) (moved_definitions ds l)

  -- ---- documents
  module _ (h : ℕ → ℕ) (attributes : (o n : Bytes) → Ok o → attribute_index o n form' ≡ h (attribute_index o n form)) where
    -- an element's name is Ok, and other rows hold nothing
    pub record OkRow (r : Row) (below : List Row) : Type 0 where
      pub name : r.sort ≡ element → Ok r.name
      pub nothing : is_element r.sort ≡ false → below ≡ []

    abbrev OkBelow : Bytes → List Row → Type 0
    OkBelow owner rows = Every (λ x. x.sort ≡ attribute → Ok owner) rows

    below_ok : (r : Row) (below : List Row) → OkRow r below → OkBelow r.name below
    below_ok r below x = by r.sort refl
      where
        none : below ≡ [] → OkBelow r.name below
        none e = rw e tt

        by : (s : RowSort) → r.sort ≡ s → OkBelow r.name below
        by element q = every_in (λ y. y.sort ≡ attribute → Ok r.name) below (λ y m e. x.name q)
        by attribute q = none (x.nothing (ap is_element q))
        by text q = none (x.nothing (ap is_element q))

    moved_index_lem : (owner : Bytes) (r : Row) → (r.sort ≡ element → Ok r.name) → (r.sort ≡ attribute → Ok owner) → row_index form' owner r ≡ row_moved g h (row_code r.sort) (row_index form owner r)
    moved_index_lem owner r e a = by r.sort refl
      where
        by : (s : RowSort) → r.sort ≡ s
            → elim s [ element ↦ index_of r.name form' | attribute ↦ attribute_index owner r.name form' | text ↦ 0 ]
            ≡ row_moved g h (row_code s) (elim s [ element ↦ index_of r.name form | attribute ↦ attribute_index owner r.name form | text ↦ 0 ])
        by element q = elements r.name (e q)
        by attribute q = attributes owner r.name (a q)
        by text q = refl

    pub moved_rows : (owner : Bytes) (d : ℕ) (f : Forest Row) → OkBelow owner (heads f) → EveryRow OkRow f → preorder d (indexed form' owner f) ≡ map (moved_row g h) (preorder d (indexed form owner f))
    unfolding moved_row
    moved_rows owner d bare k e = refl
    moved_rows owner d (tree r b t) (k, l) (x, y, z) =
        ap₂ (λ (i : ℕ) (w : List (Deep FlatRow)). record { depth = d; row = record { sort = row_code r.sort; index = i; serial = r.serial; value = r.value } } ∷ w)
        (moved_index_lem owner r x.name k)
        (ap₂ (λ (u v : List (Deep FlatRow)). u ++ v) (moved_rows r.name (suc d) b (below_ok r (heads b) x) y) (moved_rows owner d t l z)
        ∙ sym (map-append (moved_row g h) (preorder (suc d) (indexed form r.name b)) (preorder d (indexed form owner t))))
