-- An edit of one model leaves all names, attributes and indices, and of the particles those of the other definitions.
use Prim.Native.Nat.{ℕ, zero, suc, ◌+◌, ◌<◌}
use native.Mathlib.Omega.{arith}
use mathlib.Core.Path.{◌≡◌, refl, sym, ap, ap₂, ◌∙◌}
use mathlib.Core.Bool.{true, false}
use mathlib.Core.Option.{Option, some}
use mathlib.Core.List.{List, [], ◌∷◌, ◌++◌, map, append_assoc}
use lib.ListN.{length, take, drop}
use lib.Seq.{drop-append_seam, take-append-add, drop-append-add}
use Rattle.rules.specs.Bytes.{Bytes, same}
use Rattle.rules.specs.Model.{Members, done, el, group, rename}
use Rattle.rules.specs.Place.{Found}
use Rattle.rules.specs.Edit.{Edit, place_of, model_after}
use Rattle.rules.specs.Store.{Content, empty, pcdata, complex, Form, RowSort, element, attribute, text, Row, Forest, bare, tree, Store, members}
use Rattle.rules.specs.Preorder.{preorder}
use Rattle.rules.specs.Layout.{FlatDefinition, FlatAttribute, index_of, index_in, attribute_index, how_many, particles, content_particles, flat_definition}
use Rattle.rules.specs.Layout.{all_particles, own_attributes, all_attributes, indexed, flat, quantifier_code, group_code, kind_code, row_code}
use Rattle.rules.specs.Change.{definition_at, update, in_content, in_model, edit_found, edit_at, edit_model}
use Rattle.change_laws.proofs.FormLaws.{index_kept}
use Rattle.model.specs.Members.{start_of}
use Rattle.model.specs.Places.{Particles}
use Rattle.model.specs.Positions.{spread}
use Rattle.model.proofs.PositionLaws.{spread_named}
use Rattle.model_writer.specs.Spliced.{count_of, counted, spliced, spliced_form}

-- ---- attributes and their indices, whatever becomes of the model
module _ (u : Members Bytes → Members Bytes) where
  pub attribute_index_kept : (o : ℕ) (form : Form) (owner n : Bytes) → attribute_index owner n (update o (in_model u) form) ≡ attribute_index owner n form
  attribute_index_kept o [] owner n = refl
  attribute_index_kept zero (d ∷ ds) owner n = refl
  attribute_index_kept (suc o) (d ∷ ds) owner n =
      ap (λ (i : ℕ). elim (same owner d.name) as (λ z. ℕ) [ true ↦ index_in n d.attributes | false ↦ length d.attributes + i ]) (attribute_index_kept o ds owner n)

  pub attributes_kept : (o : ℕ) (form : Form) (i : ℕ) → all_attributes i (update o (in_model u) form) ≡ all_attributes i form
  attributes_kept o [] i = refl
  attributes_kept zero (d ∷ ds) i = refl
  attributes_kept (suc o) (d ∷ ds) i = ap (λ (l : List FlatAttribute). own_attributes i d.attributes ++ l) (attributes_kept o ds (suc i))

-- ---- where two forms have the same indices
module _ (form more : Form) (alike : (n : Bytes) → index_of n form ≡ index_of n more) where
  particles_alike : (ms : Members Bytes) → particles form ms ≡ particles more ms
  particles_alike done = refl
  particles_alike (el q n rest) = λ i. tree (record { sort = 0; quantifier = quantifier_code q; index = alike n i }) bare (particles_alike rest i)
  particles_alike (group q k ms rest) =
      λ i. tree (record { sort = group_code k; quantifier = quantifier_code q; index = how_many ms }) (particles_alike ms i) (particles_alike rest i)

  content_alike : (c : Content) → content_particles form c ≡ content_particles more c
  content_alike empty = refl
  content_alike pcdata = refl
  content_alike (complex ms) = ap (preorder 0) (particles_alike ms)

  pub all_alike : (ds : Form) → all_particles form ds ≡ all_particles more ds
  all_alike [] = refl
  all_alike (d ∷ ds) = ap₂ (λ (u v : Particles). u ++ v) (content_alike d.content) (all_alike ds)

  pub definitions_alike : (ds : Form) → map (flat_definition form) ds ≡ map (flat_definition more) ds
  definitions_alike [] = refl
  definitions_alike (d ∷ ds) =
      λ i. record { name = d.name; kind = kind_code d.content; particles = length (content_alike d.content i) } ∷ definitions_alike ds i

  rows_alike : ((owner n : Bytes) → attribute_index owner n form ≡ attribute_index owner n more) → (owner : Bytes) (f : Forest Row) → indexed form owner f ≡ indexed more owner f
  rows_alike at owner bare = refl
  rows_alike at owner (tree r b t) =
      λ i. tree (record { sort = row_code r.sort; index = index r.sort i; serial = r.serial; value = r.value }) (rows_alike at r.name b i) (rows_alike at owner t i)
    where
      index : (s : RowSort)
          → ◌≡◌ {A = ℕ}
          (elim s [ element ↦ index_of r.name form | attribute ↦ attribute_index owner r.name form | text ↦ 0 ])
          (elim s [ element ↦ index_of r.name more | attribute ↦ attribute_index owner r.name more | text ↦ 0 ])
      index element = alike r.name
      index attribute = at owner r.name
      index text = refl

pub rows_kept : (u : Members Bytes → Members Bytes) (o : ℕ) (form : Form) (owner : Bytes) (f : Forest Row) → indexed (update o (in_model u) form) owner f ≡ indexed form owner f
rows_kept u o form owner f = rows_alike (update o (in_model u) form) form (index_kept (in_model u) (λ d. refl) o form) (attribute_index_kept u o form) owner f

-- ---- one model changed: the particles of the others stay
module _ (form : Form) (u : Members Bytes → Members Bytes) where
  abbrev part : Members Bytes → Particles
  part ms = preorder 0 (particles form ms)

  definitions_counted : (o : ℕ) (ds : Form) (ms : Members Bytes) → (definition_at o ds).content ≡ complex ms
      → map (flat_definition form) (update o (in_model u) ds) ≡ counted o (length (part (u ms))) (map (flat_definition form) ds)
  definitions_counted o [] ms e = refl
  definitions_counted zero (d ∷ ds) ms e =
      (λ i. record { name = d.name; kind = kind_code (in_content u (e i)); particles = length (content_particles form (in_content u (e i))) } ∷ map (flat_definition form) ds)
      ∙ (λ i. record { name = d.name; kind = kind_code (sym e i); particles = length (part (u ms)) } ∷ map (flat_definition form) ds)
  definitions_counted (suc o) (d ∷ ds) ms e = ap (λ (l : List FlatDefinition). flat_definition form d ∷ l) (definitions_counted o ds ms e)

  particles_spliced : (o : ℕ) (ds : Form) (ms : Members Bytes) → o < length ds → (definition_at o ds).content ≡ complex ms
      → all_particles form (update o (in_model u) ds) ≡ spliced (start_of o (map (flat_definition form) ds)) (count_of o (map (flat_definition form) ds)) (part (u ms)) (all_particles form ds)
  particles_spliced o [] ms l e = absurd (omega arith)
  particles_spliced zero (d ∷ ds) ms l e =
      let own : Particles = content_particles form d.content in
      let z : 0 + length own ≡ length own = omega arith in
      ap (λ (c : Content). content_particles form (in_content u c) ++ all_particles form ds) e
      ∙ ap (λ (r : Particles). part (u ms) ++ r) (sym (ap (λ (n : ℕ). drop n (own ++ all_particles form ds)) z ∙ drop-append_seam own (all_particles form ds)))
  particles_spliced (suc o) (d ∷ ds) ms l e =
      let own : Particles = content_particles form d.content in
      let all : Particles = all_particles form ds in
      let a : ℕ = start_of o (map (flat_definition form) ds) in
      let n : ℕ = count_of o (map (flat_definition form) ds) in
      let z : length own + (a + n) ≡ length own + a + n = omega arith in
      ap (λ (r : Particles). own ++ r) (particles_spliced o ds ms (omega arith) e)
      ∙ sym (append_assoc own (take a all) (part (u ms) ++ drop (a + n) all))
      ∙ ap₂ (λ (x y : Particles). x ++ (part (u ms) ++ y)) (sym (take-append-add own all a)) (sym (drop-append-add own all (a + n)) ∙ ap (λ (k : ℕ). drop k (own ++ all)) z)

-- ---- the whole store
-- with another form
abbrev pub reformed : Form → Store → Store
reformed form s = record { version = s.version; next = s.next; form = form; docs = s.docs }

-- THE FORM AFTER AN EDIT: the bodies are as they were, but for the owner's part of the particles and how many those are
pub form_after_lem : (s : Store) (o : ℕ) (p : List ℕ) (e : Edit Bytes) (f : Found Bytes) → o < length s.form
    → (definition_at o s.form).content ≡ complex (members (definition_at o s.form)) → place_of e p (members (definition_at o s.form)) ≡ some f
    → flat (reformed (edit_model o p e s.form) s) ≡ spliced_form o (spread 0 (rename (λ n. index_of n s.form) (model_after e f))) (flat s)
unfolding spliced_form
form_after_lem s o p e f l c at =
    let form : Form = s.form in
    let new : Form = edit_model o p e form in
    let ms : Members Bytes = members (definition_at o form) in
    let named : Particles = spread 0 (rename (λ n. index_of n form) (model_after e f)) in
    let alike : (n : Bytes) → index_of n new ≡ index_of n form = index_kept (in_model (edit_at e p)) (λ d. refl) o form in
    let become : preorder 0 (particles form (edit_at e p ms)) ≡ named = ap (λ (x : Option (Found Bytes)). preorder 0 (particles form (edit_found e ms x))) at ∙ spread_named form 0 (model_after e f) in
    let ds : map (flat_definition new) new ≡ counted o (length named) (map (flat_definition form) form) =
    definitions_alike new form alike new ∙ definitions_counted form (edit_at e p) o form ms c ∙ ap (λ (x : Particles). counted o (length x) (map (flat_definition form) form)) become in
    let ps : all_particles new new ≡ spliced (start_of o (map (flat_definition form) form)) (count_of o (map (flat_definition form) form)) named (all_particles form form) =
    all_alike new form alike new
    ∙ particles_spliced form (edit_at e p) o form ms l c
    ∙ ap (λ (x : Particles). spliced (start_of o (map (flat_definition form) form)) (count_of o (map (flat_definition form) form)) x (all_particles form form)) become in
    λ i. record {
      version = s.version;
      next = s.next;
      definitions = ds i;
      particles = ps i;
      attributes = attributes_kept (edit_at e p) o form 0 i;
      rows = preorder 0 (rows_kept (edit_at e p) o form [] s.docs i);
    }
