-- Decoding undoes encoding on stores that pass, and encoding undoes decoding: a byte string passes if and only if it is
-- the encoding of a store that does. Such a store's rows are no deeper
-- than it has definitions, and its bytes are below 256.
use Prim.Native.Nat.{ℕ, suc, ◌+◌, ◌*◌, ◌≤◌, ◌<◌}
use native.Mathlib.Nat.{zero-add, suc-add}
use native.Mathlib.Omega.{arith}
use mathlib.Core.Path.{◌≡◌, refl, ap, ◌∙◌, sym}
use mathlib.Core.Logic.{◌↔◌}
use mathlib.Core.Bool.{Bool, true, false, ◌&&◌, not, false≢true}
use mathlib.Core.Option.{Option, none, some}
use mathlib.Core.List.{List, [], ◌∷◌, ◌++◌, map, append-nil}
use lib.Dec.{leb, ltb, lit<}
use lib.ListN.{length, length-append, length-map}
use lib.Seq.{take-append_seam, drop-append_seam}
use borrow.Author.Tests.{eq-eqb, ne_eqb, eqb-true, leb-true, ltb-true}
use Rattle.rules.specs.declared.Quantifier.{Quantifier}
use Rattle.rules.specs.declared.Quantifier.TheVariants.{None, Qmark, Star, Plus}
use Rattle.rules.specs.declared.GroupKind.TheVariants.{Sequence, Choice}
use Rattle.rules.specs.declared.AttributeSort.{AttributeSort}
use Rattle.rules.specs.declared.AttributeSort.TheVariants.{Implied, Required, Fixed}
use Rattle.rules.specs.Bytes.{Bytes, same, all, any, between, bytes, numbers, is_none, and_left, and_right, same_eq, same_refl}
use Rattle.rules.specs.Model.{Members, done, el, group, names, distinct, full}
use Rattle.rules.specs.Automaton.{accepts}
use Rattle.rules.specs.Store.{Content, empty, pcdata, complex, Attribute, Definition, Form, RowSort, element}
use Rattle.rules.specs.Store.{attribute, text, Row, Forest, bare, tree, Store, model_of, members, heads}
use Rattle.rules.specs.Preorder.{Deep, preorder, build}
use Rattle.rules.specs.Layout.{base_version, value_width, name_width, FlatParticle, FlatAttribute, header_size, definition_size, particle_size, attribute_size}
use Rattle.rules.specs.Layout.{row_size, index_of, index_in, attribute_index, quantifier_code, kind_code, sort_code, row_code, particles, content_particles}
use Rattle.rules.specs.Layout.{flat_definition, all_particles, own_attributes, all_attributes, row_index, indexed, flat, encode}
use Rattle.rules.specs.Decode.{version_in, read_flat, sized, name_at, quantifier_of, content_of, sort_of, row_sort_of, read_members, of_owner, read_form, row_name}
use Rattle.rules.specs.Decode.{read_rows, flat_name, flat_attribute_name, unflat, confirm, decode}
use Rattle.rules.specs.WellFormed.{starts_name, in_name, is_name, reserved_name, stored_name, given_name, is_value, highest_number, within_ceilings, definition_name, attribute_name, lookup}
use Rattle.rules.specs.WellFormed.{is_there, known, reaches_in, is_fill, is_attribute_of, good_definition, well_formed}
use Rattle.rules.specs.Conforming.{name_of, EveryRow, is_element, is_attribute, is_text, every_row, must_be_present, allows, strip, fits, fits_stripped, fits_definition, fits_row, conforming}
use Rattle.rules.specs.Passing.{known_version, laid_row, serials, good_serials, good, good_read, read_store, passes}
use Rattle.rules.proofs.Words.{or_left, or_right, and_split, and_both}
use Rattle.rules.proofs.Children.{Sound, sound}
use Rattle.rules.proofs.Sound.{sound_test}
use Rattle.rules.proofs.BooleanLaws.{Every, every_of, every_map, every_append, all_left, all_right, none_nil, guard_true, guard_some}
use Rattle.rules.proofs.PreorderLaws.{build_preorder}
use Rattle.rules.proofs.LayoutLaws.{unle_le, GoodFlatDefinition, GoodFlatAttribute, GoodFlatRow, GoodFlat, length_flat_bytes, sized_bytes, read_bytes}

-- ---- names by index
-- the name of a known definition is found under its index
name_index : (form : Form) (n : Bytes) → known form n ≡ true → name_at (index_of n form) (map definition_name form) ≡ n
name_index [] n h = absurd (false≢true h)
name_index (d ∷ ds) n h = by (same n d.name) refl (name_index ds n)
  where
    by : (c : Bool) → same n d.name ≡ c → (known ds n ≡ true → name_at (index_of n ds) (map definition_name ds) ≡ n) → name_at (index_of n (d ∷ ds)) (map definition_name (d ∷ ds)) ≡ n
    by true q k = rw (q, index_of) (sym (same_eq n d.name q))
    by false q k =
        let e : lookup n (d ∷ ds) ≡ lookup n ds = rw (q, lookup) in
        rw (q, index_of) (k (sym (ap is_there e) ∙ h))

-- ---- models
pub quantifier_code_lem : (q : Quantifier) → quantifier_of (quantifier_code q) ≡ q
quantifier_code_lem None = refl
quantifier_code_lem Qmark = refl
quantifier_code_lem Star = refl
quantifier_code_lem Plus = refl

module _ (form : Form) where
  read_members_lem : (ms : Members Bytes) → all (known form) (names ms) ≡ true → read_members (map definition_name form) (particles form ms) ≡ ms
  unfolding names
  read_members_lem done h = refl
  read_members_lem (el q n rest) h =
      λ i. el (quantifier_code_lem q i) (name_index form n (and_left (known form n) (all (known form) (names rest)) h) i) (read_members_lem rest (and_right (known form n) (all (known form) (names rest)) h) i)
  read_members_lem (group q Sequence ms rest) h =
      λ i. group (quantifier_code_lem q i) Sequence (read_members_lem ms (all_left (known form) (names ms) (names rest) h) i)
      (read_members_lem rest (all_right (known form) (names ms) (names rest) h) i)
  read_members_lem (group q Choice ms rest) h =
      λ i. group (quantifier_code_lem q i) Choice (read_members_lem ms (all_left (known form) (names ms) (names rest) h) i)
      (read_members_lem rest (all_right (known form) (names ms) (names rest) h) i)

  read_content : (c : Content) → all (known form) (names (model_of c)) ≡ true → content_of (kind_code c) (read_members (map definition_name form) (build (content_particles form c) 0)) ≡ c
  read_content empty h = refl
  read_content pcdata h = refl
  read_content (complex ms) h = ap complex (ap (read_members (map definition_name form)) (build_preorder (particles form ms)) ∙ read_members_lem ms h)

-- ---- rows
-- the attributes' names in the order of the table
abbrev pub attribute_names : Form → List Bytes
attribute_names form = map flat_attribute_name (all_attributes 0 form)

-- a row's name is found under its index, below an owner; every row's is
abbrev pub Found : Form → Bytes → Row → Type 0
Found form owner r = row_name (map definition_name form) (attribute_names form) r.sort (row_index form owner r) ≡ r.name

unfoldable pub FoundBelow : Form → Bytes → Forest Row → Type 0
FoundBelow form owner bare = Unit {0}
FoundBelow form owner (tree r b t) = Found form owner r × FoundBelow form r.name b × FoundBelow form owner t

pub row_code_lem : (s : RowSort) → row_sort_of (row_code s) ≡ s
row_code_lem element = refl
row_code_lem attribute = refl
row_code_lem text = refl

read_rows_lem : (form : Form) (owner : Bytes) (f : Forest Row) → FoundBelow form owner f → read_rows (map definition_name form) (attribute_names form) (indexed form owner f) ≡ f
unfolding FoundBelow
read_rows_lem form owner bare h = refl
read_rows_lem form owner (tree r b t) h = λ i. tree (row i) (read_rows_lem form r.name b h.1 i) (read_rows_lem form owner t h.2 i)
  where
    row : ◌≡◌ {A = Row} (record {
      serial = r.serial;
      sort = row_sort_of (row_code r.sort);
      name = row_name (map definition_name form) (attribute_names form) (row_sort_of (row_code r.sort)) (row_index form owner r);
      value = r.value;
    })
        r
    row = rw (row_code_lem r.sort) (λ i. record { serial = r.serial; sort = r.sort; name = h.0 i; value = r.value })

-- ---- attributes by owner
pub sort_code_lem : (s : AttributeSort) → sort_of (sort_code s) ≡ s
sort_code_lem Implied = refl
sort_code_lem Required = refl
sort_code_lem Fixed = refl

own_same : (o : ℕ) (xs : List Attribute) (ys : List FlatAttribute) → of_owner o (own_attributes o xs ++ ys) ≡ xs ++ of_owner o ys
own_same o [] ys = refl
own_same o (a ∷ xs) ys = rw (eq-eqb o o refl, of_owner) (λ i. record { name = a.name; sort = sort_code_lem a.sort i; value = a.value } ∷ own_same o xs ys i)

own_other : (k o : ℕ) (xs : List Attribute) (ys : List FlatAttribute) → (k ≡ o → ⊥) → of_owner k (own_attributes o xs ++ ys) ≡ of_owner k ys
own_other k o [] ys h = refl
own_other k o (a ∷ xs) ys h = rw (ne_eqb k o h, of_owner) (own_other k o xs ys h)

own_before : (k o : ℕ) (form : Form) → k < o → of_owner k (all_attributes o form) ≡ []
own_before k o [] h = refl
own_before k o (d ∷ ds) h = own_other k o d.attributes (all_attributes (suc o) ds) (λ e. omega arith) ∙ own_before k (suc o) ds (omega arith)

-- ---- the form
-- the names in the models of `fs` are names of definitions
abbrev pub NamesKnown : Form → Form → Type 0
NamesKnown form fs = Every (λ d. all (known form) (names (members d)) ≡ true) fs

-- `fs`: the definitions from o on; cs: the attributes of all, of which those of the owners from o on count here
read_form_lem : (form fs : Form) (o : ℕ) (cs : List FlatAttribute) → ((k : ℕ) → o ≤ k → of_owner k cs ≡ of_owner k (all_attributes o fs)) → NamesKnown form fs
    → read_form (map definition_name form) o (map (flat_definition form) fs) (all_particles form fs) cs ≡ fs
read_form_lem form [] o cs h g = refl
read_form_lem form (d ∷ fs) o cs h g =
    rw (take-append_seam (content_particles form d.content) (all_particles form fs), drop-append_seam (content_particles form d.content) (all_particles form fs))
    (λ i. record { name = d.name; content = read_content form d.content g.0 i; attributes = own i } ∷ read_form_lem form fs (suc o) cs later g.1 i)
  where
    own : of_owner o cs ≡ d.attributes
    own =
        h o (omega arith)
        ∙ own_same o d.attributes (all_attributes (suc o) fs)
        ∙ ap (λ (z : List Attribute). d.attributes ++ z) (own_before o (suc o) fs (omega arith))
        ∙ append-nil d.attributes

    later : (k : ℕ) → suc o ≤ k → of_owner k cs ≡ of_owner k (all_attributes (suc o) fs)
    later k l = h k (omega arith) ∙ own_other k o d.attributes (all_attributes (suc o) fs) (λ e. omega arith)

pub flat_names : (form fs : Form) → map flat_name (map (flat_definition form) fs) ≡ map definition_name fs
flat_names form [] = refl
flat_names form (d ∷ fs) = ap (λ (z : List Bytes). d.name ∷ z) (flat_names form fs)

-- indices and depths lose nothing where names are known and found
pub unflat_flat : (s : Store) → NamesKnown s.form s.form → FoundBelow s.form [] s.docs → unflat (flat s) ≡ s
unflat_flat s g n =
    rw (flat_names s.form s.form)
    (λ i.
    record {
      version = s.version;
      next = s.next;
      form = read_form_lem s.form s.form 0 (all_attributes 0 s.form) (λ k l. refl) g i;
      docs = (ap (read_rows (map definition_name s.form) (attribute_names s.form)) (build_preorder (indexed s.form [] s.docs)) ∙ read_rows_lem s.form [] s.docs n) i;
    })

-- ---- tests, row by row
every_row_lem : (p : Row → List Row → Bool) (f : Forest Row) → every_row p f ≡ true → EveryRow (λ r below. p r below ≡ true) f
every_row_lem p bare h = tt
every_row_lem p (tree r b t) h =
    let (x, y) = and_split (p r (heads b)) (every_row p b && every_row p t) h in
    let (u, v) = and_split (every_row p b) (every_row p t) y in
    (x, every_row_lem p b u, every_row_lem p t v)

-- ---- every row of a store that passes is found
-- one of the attributes has the name
abbrev owns : List Attribute → Bytes → Bool
owns table n = any (λ (a : Attribute). same n a.name) table

abbrev owns_at : Option Definition → Bytes → Bool
owns_at none n = false
owns_at (some d) n = owns d.attributes n

name_own : (o : ℕ) (table : List Attribute) (ys : List FlatAttribute) (n : Bytes) → owns table n ≡ true → name_at (index_in n table) (map flat_attribute_name (own_attributes o table ++ ys)) ≡ n
name_own o [] ys n h = absurd (false≢true h)
name_own o (a ∷ table) ys n h = by (same n a.name) refl (name_own o table ys n)
  where
    by : (c : Bool) → same n a.name ≡ c → (owns table n ≡ true → name_at (index_in n table) (map flat_attribute_name (own_attributes o table ++ ys)) ≡ n)
        → name_at (index_in n (a ∷ table)) (map flat_attribute_name (own_attributes o (a ∷ table) ++ ys)) ≡ n
    by true q k = rw (q, index_in) (sym (same_eq n a.name q))
    by false q k = rw (q, index_in) (k (rw q at h))

name_past : (o : ℕ) (xs : List Attribute) (ys : List FlatAttribute) (i : ℕ) → name_at (length xs + i) (map flat_attribute_name (own_attributes o xs ++ ys)) ≡ name_at i (map flat_attribute_name ys)
name_past o [] ys i = rw zero-add
name_past o (a ∷ xs) ys i = rw suc-add (name_past o xs ys i)

name_attribute : (form : Form) (o : ℕ) (owner n : Bytes) → owns_at (lookup owner form) n ≡ true → name_at (attribute_index owner n form) (map flat_attribute_name (all_attributes o form)) ≡ n
name_attribute [] o owner n h = absurd (false≢true h)
name_attribute (d ∷ ds) o owner n h = by (same owner d.name) refl (name_attribute ds (suc o) owner n)
  where
    by : (c : Bool) → same owner d.name ≡ c → (owns_at (lookup owner ds) n ≡ true → name_at (attribute_index owner n ds) (map flat_attribute_name (all_attributes (suc o) ds)) ≡ n)
        → name_at (attribute_index owner n (d ∷ ds)) (map flat_attribute_name (all_attributes o (d ∷ ds))) ≡ n
    by true q k = rw (q, attribute_index) (name_own o d.attributes (all_attributes (suc o) ds) n (rw (q, lookup) at h))
    by false q k = rw (q, attribute_index) (name_past o d.attributes (all_attributes (suc o) ds) (attribute_index owner n ds) ∙ k (rw (q, lookup) at h))

-- an attribute row has a name of the definition's
abbrev Owned : Option Definition → Row → Type 0
Owned o r = is_attribute r.sort ≡ true → owns_at o r.name ≡ true

text_not : (s : RowSort) → is_text s ≡ true → is_attribute s ≡ true → ⊥
text_not element e h = false≢true e
text_not attribute e h = false≢true e
text_not text e h = false≢true h

pub element_not : (s : RowSort) → is_element s ≡ true → is_attribute s ≡ true → ⊥
element_not element e h = false≢true h
element_not attribute e h = false≢true e
element_not text e h = false≢true e

fits_not : (c : Content) (rows : List Row) → fits c rows ≡ true → Every (λ r. is_attribute r.sort ≡ true → ⊥) rows
fits_not empty [] h = tt
fits_not empty (r ∷ rows) h = absurd (false≢true h)
fits_not pcdata [] h = absurd (false≢true h)
fits_not pcdata (r ∷ []) h = (text_not r.sort (and_left (is_text r.sort) true h), tt)
fits_not pcdata (r ∷ x ∷ rows) h = absurd (false≢true (and_right (is_text r.sort) false h))
fits_not (complex ms) rows h =
    every_map (λ r. is_element r.sort ≡ true) (λ r. is_attribute r.sort ≡ true → ⊥) rows (λ r e. element_not r.sort e)
    (every_of (λ (r : Row). is_element r.sort) rows (and_left (all (λ (r : Row). is_element r.sort) rows) (accepts bytes ms (map name_of rows)) h))

-- What holds of the attribute rows with names in the table, and of the rows that fit the content, holds of all rows.
module _ (version : ℕ) (P : Row → Type 0) (c : Content) (others : (rows : List Row) → fits c rows ≡ true → Every P rows) where
  pub strip_every : (table : List Attribute) (rows : List Row) → ((r : Row) → is_attribute r.sort ≡ true → owns table r.name ≡ true → P r)
      → fits_stripped c (strip version table rows) ≡ true → Every P rows
  unfolding strip
  strip_every [] rows own h = others rows h
  strip_every (a ∷ table) [] own h = tt
  strip_every (a ∷ table) (r ∷ rows) own h =
      by (is_attribute r.sort && same a.name r.name) refl (allows a.sort a.value r.value) refl (must_be_present version a.sort) refl (strip_every table rows later)
      (strip_every table (r ∷ rows) later)
    where
      later : (x : Row) → is_attribute x.sort ≡ true → owns table x.name ≡ true → P x
      later x e o = own x e (or_right (same x.name a.name) o)

      by : (t : Bool) → (is_attribute r.sort && same a.name r.name) ≡ t → (u : Bool) → allows a.sort a.value r.value ≡ u → (v : Bool) → must_be_present version a.sort ≡ v
          → (fits_stripped c (strip version table rows) ≡ true → Every P rows) → (fits_stripped c (strip version table (r ∷ rows)) ≡ true → Every P (r ∷ rows)) → Every P (r ∷ rows)
      by true q true p v m f g =
          let (k, e) = and_split (is_attribute r.sort) (same a.name r.name) q in
          (own r k (or_left (owns table r.name) (bytes.same← r.name a.name (sym (same_eq a.name r.name e)))), f (rw (q, strip, p) at h))
      by true q false p v m f g = absurd (false≢true (rw (q, strip, p) at h))
      by false q u p true m f g = absurd (false≢true (rw (q, strip, m) at h))
      by false q u p false m f g = g (rw (q, strip, m) at h)

below_owned : (version : ℕ) (form : Form) (r : Row) (below : List Row) → fits_row version form r below ≡ true → Every (Owned (lookup r.name form)) below
unfolding fits_row
below_owned version form r below h = by r.sort refl
  where
    at : (o : Option Definition) → fits_definition version o below ≡ true → Every (Owned o) below
    at none e = absurd (false≢true e)
    at (some d) e =
        strip_every version (Owned (some d)) d.content
        (λ rows f. every_map (λ r. is_attribute r.sort ≡ true → ⊥) (Owned (some d)) rows (λ r n a. absurd (n a)) (fits_not d.content rows f)) d.attributes below (λ r a o b. o) e

    no_rows : is_none below ≡ true → Every (Owned (lookup r.name form)) below
    no_rows e = rw (none_nil below e) tt

    by : (s : RowSort) → r.sort ≡ s → Every (Owned (lookup r.name form)) below
    by element q = at (lookup r.name form) (rw (q, fits_row) at h)
    by attribute q = no_rows (rw (q, fits_row) at h)
    by text q = no_rows (rw (q, fits_row) at h)

pub fits_known : (version : ℕ) (o : Option Definition) (below : List Row) → fits_definition version o below ≡ true → is_there o ≡ true
fits_known version none below e = e
fits_known version (some d) below e = refl

module _ (version w : ℕ) (form : Form) where
  row_found : (owner : Bytes) (r : Row) (below : List Row) → fits_row version form r below ≡ true → laid_row w r ≡ true → Owned (lookup owner form) r → Found form owner r
  unfolding fits_row
  row_found owner r below h l o = by r.sort refl
    where
      by : (s : RowSort) → r.sort ≡ s → Found form owner r
      by element q = rw q (name_index form r.name (fits_known version (lookup r.name form) below (rw (q, fits_row) at h)))
      by attribute q = rw q (name_attribute form 0 owner r.name (o (ap is_attribute q)))
      by text q = rw q (sym (none_nil r.name (and_right (is_value w r.value) (is_none r.name) (rw (q, laid_row) at l))))

  found_below : (owner : Bytes) (f : Forest Row) → EveryRow (λ r below. fits_row version form r below ≡ true) f → EveryRow (λ r below. laid_row w r ≡ true) f
      → Every (Owned (lookup owner form)) (heads f)
      → FoundBelow form owner f
  unfolding FoundBelow
  found_below owner bare h l o = tt
  found_below owner (tree r b t) h l o =
      (row_found owner r (heads b) h.0 l.0 o.0, found_below r.name b h.1 l.1 (below_owned version form r (heads b) h.0), found_below owner t h.2 l.2 o.1)

-- ---- all that the laws use of the versions: the number fits its field, and the length of a value fits a byte
pub version_bound : (v : ℕ) → known_version v ≡ true → v < 4294967296
version_bound v h = omega (arith, eqb-true v base_version h)

pub width_bound : (v : ℕ) → value_width v < 256
unfolding value_width
width_bound v = lit< tt

-- no version has a value of more than 96 bytes
pub width_most : (v : ℕ) → value_width v ≤ 96
unfolding value_width
width_most v = omega arith

-- ---- the parts of the test
-- what `good` says, apart from distinct names and serials
pub record GoodParts (s : Store) : Type 0 where
  pub version : known_version s.version ≡ true
  pub definition_count : length (flat s).definitions ≤ 64
  pub particle_count : length (flat s).particles ≤ 256
  pub particle_depths : Every (λ p. p.depth ≤ 4) (flat s).particles
  pub attribute_count : length (flat s).attributes ≤ 64
  pub row_count : length (flat s).rows ≤ 4096
  pub definitions : Every (λ d. good_definition (value_width s.version) s.form d ≡ true) s.form
  pub roots : Every (λ r. is_element r.sort ≡ true) (heads s.docs)
  pub rows : EveryRow (λ r below. fits_row s.version s.form r below ≡ true) s.docs
  pub values : EveryRow (λ r below. laid_row (value_width s.version) r ≡ true) s.docs
  pub serials : all (λ k. leb 1 k && ltb k s.next) (serials s.docs) ≡ true
  pub least : 1 ≤ s.next
  pub next : s.next ≤ highest_number

pub good_parts : (s : Store) → good s ≡ true → GoodParts s
unfolding good well_formed conforming good_serials
good_parts s h =
    let (version, h₁) = and_split (known_version s.version) _ h in
    let (ceilings, h₂) = and_split (within_ceilings (flat s)) _ h₁ in
    let (form, h₃) = and_split (well_formed (value_width s.version) s.form) _ h₂ in
    let (docs, h₄) = and_split (conforming s.version s.form s.docs) _ h₃ in
    let (values, numbered) = and_split (every_row (λ r below. laid_row (value_width s.version) r) s.docs) _ h₄ in
    let (c₀, c₁) = and_split (leb (length (flat s).definitions) 64) _ ceilings in
    let (c₂, c₃) = and_split (leb (length (flat s).particles) 256) _ c₁ in
    let (c₄, c₅) = and_split (all (λ p. leb p.depth 4) (flat s).particles) _ c₃ in
    let (c₆, c₇) = and_split (leb (length (flat s).attributes) 64) (leb (length (flat s).rows) 4096) c₅ in
    let (s₀, s₁) = and_split (distinct numbers (serials s.docs)) _ numbered in
    let (s₂, s₃) = and_split (all (λ k. leb 1 k && ltb k s.next) (serials s.docs)) _ s₁ in
    let (s₄, s₅) = and_split (leb 1 s.next) (leb s.next highest_number) s₃ in
    let (r₀, r₁) = and_split (all (λ (r : Row). is_element r.sort) (heads s.docs)) _ docs in
    record {
      version = version;
      definition_count = leb-true _ _ c₀;
      particle_count = leb-true _ _ c₂;
      particle_depths =
          every_map (λ (p : Deep FlatParticle). leb p.depth 4 ≡ true) (λ p. p.depth ≤ 4) (flat s).particles (λ p e. leb-true p.depth 4 e)
          (every_of (λ p. leb p.depth 4) (flat s).particles c₄);
      attribute_count = leb-true _ _ c₆;
      row_count = leb-true _ _ c₇;
      definitions = every_of (good_definition (value_width s.version) s.form) s.form (and_right (distinct bytes (map definition_name s.form)) _ form);
      roots = every_of (λ (r : Row). is_element r.sort) (heads s.docs) r₀;
      rows = every_row_lem (λ r below. fits_row s.version s.form r below) s.docs r₁;
      values = every_row_lem (λ r below. laid_row (value_width s.version) r) s.docs values;
      serials = s₂;
      least = leb-true _ _ s₄;
      next = leb-true _ _ s₅;
    }

-- what `good_definition` says, apart from distinct attribute names
pub record DefinitionParts (w : ℕ) (form : Form) (d : Definition) : Type 0 where
  pub name : is_name d.name ≡ true
  pub known : all (known form) (names (members d)) ≡ true
  pub model : Sound (members d)
  pub circle : not (reaches_in form d.name d.name) ≡ true
  pub attributes : Every (λ a. is_attribute_of w a ≡ true) d.attributes

-- ---- paper 02, W1: the check's test of a name is that of paper 01 still; a change takes the names that pass it and
-- are not reserved
stored_as_before : (n : Bytes) → stored_name n ≡ is_name n
stored_as_before n = refl

pub given_stored : (n : Bytes) → given_name n ≡ true → stored_name n ≡ true
given_stored n e = stored_as_before n ∙ (and_split (is_name n) (not (reserved_name n)) e).0

pub definition_parts : (w : ℕ) (form : Form) (d : Definition) → good_definition w form d ≡ true → DefinitionParts w form d
unfolding good_definition sound
definition_parts w form d h =
    let (name, h₁) = and_split (stored_name d.name) _ h in
    let (in_range, h₂) = and_split (all (known form) (names (members d))) _ h₁ in
    let (once, h₃) = and_split (distinct bytes (names (members d))) _ h₂ in
    let (groups, h₄) = and_split (full (members d)) _ h₃ in
    let (circle, h₅) = and_split (not (reaches_in form d.name d.name)) _ h₄ in
    let (different, attributes) = and_split (distinct bytes (map attribute_name d.attributes)) (all (is_attribute_of w) d.attributes) h₅ in
    record { name = name; known = in_range; model = (sound_test bytes (members d)).0 (and_both once groups); circle = circle; attributes = every_of (is_attribute_of w) d.attributes attributes }

-- ---- what a store that passes lays down fits the fields
pub name_width_lem : (n : Bytes) → is_name n ≡ true → length n ≤ name_width
name_width_lem [] h = absurd (false≢true h)
name_width_lem (x ∷ xs) h = leb-true (length (x ∷ xs)) name_width (and_right (starts_name x && all in_name xs) (leb (length (x ∷ xs)) name_width) h)

pub value_width_lem : (w : ℕ) (v : Bytes) → is_value w v ≡ true → length v ≤ w
value_width_lem w v h = leb-true (length v) w (and_left (leb (length v) w) (all (between 0x20 0x7E) v) h)

pub index_bound : (n : Bytes) (form : Form) → index_of n form ≤ length form
index_bound n [] = omega arith
index_bound n (d ∷ ds) = by (same n d.name) (index_bound n ds)
  where
    by : (c : Bool) → index_of n ds ≤ length ds → elim c [ true ↦ 0 | false ↦ suc (index_of n ds) ] ≤ suc (length ds)
    by true k = omega arith
    by false k = omega arith

pub own_bound : (n : Bytes) (cs : List Attribute) → index_in n cs ≤ length cs
own_bound n [] = omega arith
own_bound n (a ∷ cs) = by (same n a.name) (own_bound n cs)
  where
    by : (c : Bool) → index_in n cs ≤ length cs → elim c [ true ↦ 0 | false ↦ suc (index_in n cs) ] ≤ suc (length cs)
    by true k = omega arith
    by false k = omega arith

pub length_own : (o : ℕ) (cs : List Attribute) → length (own_attributes o cs) ≡ length cs
length_own o [] = refl
length_own o (a ∷ cs) = ap suc (length_own o cs)

pub attribute_bound : (owner n : Bytes) (o : ℕ) (form : Form) → attribute_index owner n form ≤ length (all_attributes o form)
attribute_bound owner n o [] = omega arith
attribute_bound owner n o (d ∷ ds) = by (same owner d.name) (attribute_bound owner n (suc o) ds) (own_bound n d.attributes)
  where
    size : length (all_attributes o (d ∷ ds)) ≡ length d.attributes + length (all_attributes (suc o) ds)
    size = length-append (own_attributes o d.attributes) (all_attributes (suc o) ds) ∙ ap (λ (k : ℕ). k + length (all_attributes (suc o) ds)) (length_own o d.attributes)

    by : (c : Bool) → attribute_index owner n ds ≤ length (all_attributes (suc o) ds) → index_in n d.attributes ≤ length d.attributes
        → elim c [ true ↦ index_in n d.attributes | false ↦ length d.attributes + attribute_index owner n ds ] ≤ length (all_attributes o (d ∷ ds))
    by true k l = omega (arith, size)
    by false k l = omega (arith, size)

good_definitions : (w : ℕ) (form fs : Form) → length (all_particles form fs) ≤ 256 → Every (DefinitionParts w form) fs → Every GoodFlatDefinition (map (flat_definition form) fs)
good_definitions w form [] h a = tt
good_definitions w form (d ∷ fs) h a =
    let e : length (content_particles form d.content ++ all_particles form fs) ≡ length (content_particles form d.content) + length (all_particles form fs) =
    length-append (content_particles form d.content) (all_particles form fs) in
    (record { name = name_width_lem d.name a.0.name; particles = omega arith }, good_definitions w form fs (omega arith) a.1)

own_good : (w o : ℕ) (cs : List Attribute) → Every (λ a. is_attribute_of w a ≡ true) cs → Every (GoodFlatAttribute w) (own_attributes o cs)
own_good w o [] a = tt
own_good w o (c ∷ cs) a =
    let (n, h) = and_split (stored_name c.name) _ a.0 in
    let (v, k) = and_split (is_value w c.value) (is_fill c.sort c.value) h in
    (record { name = name_width_lem c.name n; value = value_width_lem w c.value v }, own_good w o cs a.1)

good_attributes : (w : ℕ) (form : Form) (o : ℕ) (fs : Form) → Every (DefinitionParts w form) fs → Every (GoodFlatAttribute w) (all_attributes o fs)
good_attributes w form o [] a = tt
good_attributes w form o (d ∷ fs) a =
    every_append (GoodFlatAttribute w) (own_attributes o d.attributes) (all_attributes (suc o) fs) (own_good w o d.attributes a.0.attributes)
    (good_attributes w form (suc o) fs a.1)

pub laid_value : (w : ℕ) (r : Row) → laid_row w r ≡ true → length r.value ≤ w
laid_value w r h = by r.sort refl
  where
    by : (s : RowSort) → r.sort ≡ s → length r.value ≤ w
    by element q = let e : length r.value ≡ 0 = ap length (none_nil r.value (rw (q, laid_row) at h)) in omega arith
    by attribute q = value_width_lem w r.value (rw (q, laid_row) at h)
    by text q = value_width_lem w r.value (and_left (is_value w r.value) (is_none r.name) (rw (q, laid_row) at h))

module _ (w next : ℕ) (form : Form) (known-definitions : length form ≤ 64) (known-attributes : length (all_attributes 0 form) ≤ 64) (last : next ≤ highest_number) where
  row_bound : (owner : Bytes) (r : Row) → row_index form owner r < 65536
  row_bound owner r = by r.sort
    where
      by : (s : RowSort) → elim s [ element ↦ index_of r.name form | attribute ↦ attribute_index owner r.name form | text ↦ 0 ] < 65536
      by element = omega (arith, index_bound r.name form)
      by attribute = omega (arith, attribute_bound owner r.name 0 form)
      by text = omega arith

  good_rows : (owner : Bytes) (depth : ℕ) (f : Forest Row) → EveryRow (λ r below. laid_row w r ≡ true) f → all (λ k. leb 1 k && ltb k next) (serials f) ≡ true
      → Every (GoodFlatRow w) (preorder depth (indexed form owner f))
  good_rows owner depth bare h n = tt
  good_rows owner depth (tree r b t) h n =
      let (n₀, n₁) = and_split (leb 1 r.serial && ltb r.serial next) _ n in
      let small : r.serial < next = ltb-true r.serial next (and_right (leb 1 r.serial) (ltb r.serial next) n₀) in (
        record { index = row_bound owner r; serial = omega arith; value = laid_value w r h.0 },
        every_append (GoodFlatRow w) (preorder (suc depth) (indexed form r.name b)) (preorder depth (indexed form owner t))
            (good_rows r.name (suc depth) b h.1 (all_left (λ k. leb 1 k && ltb k next) (serials b) (serials t) n₁))
            (good_rows owner depth t h.2 (all_right (λ k. leb 1 k && ltb k next) (serials b) (serials t) n₁)),
      )

module _ (s : Store) (g : good s ≡ true) where
  parts : GoodParts s
  parts = good_parts s g

  pub every_definition : Every (DefinitionParts (value_width s.version) s.form) s.form
  every_definition =
      every_map (λ d. good_definition (value_width s.version) s.form d ≡ true) (DefinitionParts (value_width s.version) s.form) s.form
      (λ d e. definition_parts (value_width s.version) s.form d e) parts.definitions

  pub good_flat : GoodFlat (value_width s.version) (flat s)
  good_flat =
      let n : length (map (flat_definition s.form) s.form) ≡ length s.form = length-map s.form (flat_definition s.form) in
      let p : GoodParts s = parts in
      record {
        version = version_bound s.version p.version;
        next = omega arith;
        definition_count = omega arith;
        particle_count = omega arith;
        attribute_count = omega arith;
        row_count = omega arith;
        definitions = good_definitions (value_width s.version) s.form s.form p.particle_count every_definition;
        attributes = good_attributes (value_width s.version) s.form 0 s.form every_definition;
        rows = good_rows (value_width s.version) s.next s.form (omega arith) p.attribute_count p.next [] 0 s.docs p.values p.serials;
      }

  pub good_known : NamesKnown s.form s.form
  good_known = every_map (DefinitionParts (value_width s.version) s.form) (λ d. all (known s.form) (names (members d)) ≡ true) s.form (λ d e. e.known) every_definition

  pub good_found : FoundBelow s.form [] s.docs
  good_found =
      found_below s.version (value_width s.version) s.form [] s.docs parts.rows parts.values
      (every_map (λ r. is_element r.sort ≡ true) (Owned (lookup [] s.form)) (heads s.docs) (λ r e a. absurd (element_not r.sort e a)) parts.roots)

-- ---- the string
pub length_encode : (s : Store)
    → length (encode s)
    ≡ header_size
    + (definition_size * length (flat s).definitions
    + (particle_size * length (flat s).particles
    + (attribute_size (value_width s.version) * length (flat s).attributes + row_size (value_width s.version) * length (flat s).rows)))
length_encode s = length_flat_bytes (value_width s.version) (flat s)

-- `decode` with the version that it reads
abbrev decode_at : ℕ → Bytes → Option Store
decode_at version bs = elim (sized (value_width version) bs) [ true ↦ confirm bs (unflat (read_flat (value_width version) bs)) | false ↦ none ]

pub decode_encode : (s : Store) → good s ≡ true → decode (encode s) ≡ some s
unfolding confirm
decode_encode s g =
    ap (λ (v : ℕ). decode_at v (encode s)) (unle_le 4 s.version fine.version)
    ∙ guard_true (sized w (encode s)) (confirm (encode s) (unflat (read_flat w (encode s)))) (sized_bytes w (flat s) fine)
    ∙ ap (confirm (encode s)) (ap unflat (read_bytes w (flat s) fine) ∙ unflat_flat s (good_known s g) (good_found s g))
    ∙ guard_true (same (encode s) (encode s)) (some s) (same_refl (encode s))
  where
    w : ℕ
    w = value_width s.version

    fine : GoodFlat w (flat s)
    fine = good_flat s g

pub encode_decode : (bs : Bytes) (s : Store) → decode bs ≡ some s → encode s ≡ bs
unfolding confirm
encode_decode bs s h =
    let t : Store = unflat (read_flat (value_width (version_in bs)) bs) in
    let (z, c) = guard_some (sized (value_width (version_in bs)) bs) (confirm bs t) s h in
    let (e, p) = guard_some (same (encode t) bs) (some t) s c in
    let q : t ≡ s = cc in
    ap encode (sym q) ∙ same_eq (encode t) bs e

-- ---- the check
pub read_encode : (s : Store) → good s ≡ true → read_store (encode s) ≡ some s
read_encode s g = ap good_read (decode_encode s g) ∙ guard_true (good s) (some s) g

good_read_lem : (o : Option Store) (s : Store) → good_read o ≡ some s → (o ≡ some s) × (good s ≡ true)
good_read_lem none s h = let e : ◌≡◌ {A = ℕ} 0 1 = cc in absurd (omega arith)
good_read_lem (some t) s h =
    let (g, p) = guard_some (good t) (some t) s h in
    let q : t ≡ s = cc in
    (p, ap good (sym q) ∙ g)

pub read_good : (bs : Bytes) (s : Store) → read_store bs ≡ some s → (encode s ≡ bs) × (good s ≡ true)
read_good bs s h =
    let (d, g) = good_read_lem (decode bs) s h in
    (encode_decode bs s d, g)

pub passes_tests : (bs : Bytes) → (passes bs ≡ true) ↔ ((s : Store) × (encode s ≡ bs) × (good s ≡ true))
passes_tests bs = (λ h. from (read_store bs) refl h, λ t. ap passes (sym t.1) ∙ ap is_there (read_encode t.0 t.2))
  where
    from : (o : Option Store) → read_store bs ≡ o → is_there o ≡ true → (s : Store) × (encode s ≡ bs) × (good s ≡ true)
    from none q h = absurd (false≢true h)
    from (some s) q h = let (e, g) = read_good bs s q in (s, e, g)
