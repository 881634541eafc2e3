-- Every byte of a store that passes is below 256, and its rows are no deeper than it has definitions.
use Prim.Native.Nat.{ℕ, suc, ◌+◌, ◌≤◌, ◌<◌, zero}
use native.Mathlib.Omega.{arith}
use mathlib.Core.Path.{◌≡◌, refl, ap}
use mathlib.Core.Logic.{⊎_elim}
use mathlib.Core.Bool.{Bool, true, false, ◌&&◌, false≢true, ◌||◌}
use mathlib.Core.Option.{Option, none, some}
use mathlib.Core.List.Memᴰ
use mathlib.Core.List.{List, [], ◌∷◌, ◌++◌, map}
use lib.Dec.{leb, eqb, lit<}
use lib.ListN.{length, length-append, length-map}
use borrow.Author.Tests.{eqb-true, leb-true}
use Rattle.rules.specs.declared.Quantifier.{Quantifier}
use Rattle.rules.specs.declared.Quantifier.TheVariants.{None, Qmark, Star, Plus}
use Rattle.rules.specs.declared.GroupKind.{GroupKind}
use Rattle.rules.specs.declared.GroupKind.TheVariants.{Sequence, Choice}
use Rattle.rules.specs.declared.AttributeSort.{AttributeSort}
use Rattle.rules.specs.declared.AttributeSort.TheVariants.{Implied, Required, Fixed}
use Rattle.rules.specs.Bytes.{Bytes, same, all, between, bytes, is_none, and_left, and_right}
use Rattle.rules.specs.Model.{Members, done, el, group, names}
use Rattle.rules.specs.Language.{Conforms}
use Rattle.rules.specs.Automaton.{accepts}
use Rattle.rules.specs.Store.{Content, empty, pcdata, complex, Attribute, Definition, Form, RowSort, element}
use Rattle.rules.specs.Store.{attribute, text, Row, Forest, bare, tree, Store, model_of, members, heads}
use Rattle.rules.specs.Preorder.{Deep, preorder}
use Rattle.rules.specs.Layout.{value_width, name_width, FlatParticle, quantifier_code, kind_code, sort_code, row_code, particles, content_particles}
use Rattle.rules.specs.Layout.{flat_definition, all_particles, own_attributes, all_attributes, indexed, flat, encode, how_many, group_code, FlatRow}
use Rattle.rules.specs.WellFormed.{starts_name, in_name, is_name, stored_name, is_value, within_ceilings, lookup, known, is_fill, is_attribute_of, well_formed}
use Rattle.rules.specs.Conforming.{name_of, EveryRow, is_element, is_text, fits, fits_definition, fits_row}
use Rattle.rules.specs.Passing.{known_version, laid_row, good}
use Rattle.rules.proofs.Words.{and_split, or_cases}
use Rattle.rules.proofs.Children.{Sound}
use Rattle.rules.proofs.Correct.{accepts_conforms}
use Rattle.rules.proofs.Letters.{letters}
use Rattle.rules.proofs.Height.{deep}
use Rattle.rules.proofs.BooleanLaws.{Every, every_of, every_map, every_append, every_zip, every_in, all_in, none_nil}
use Rattle.rules.proofs.LayoutLaws.{Small, SmallDefinition, SmallParticle, SmallAttribute, SmallRow, SmallFlat, small_bytes}
use Rattle.rules.proofs.WellFormedLaws.{definition_deep}
use Rattle.rules.proofs.DecodeLaws.{DefinitionParts, GoodParts, good_parts, every_definition, element_not, fits_known, index_bound, laid_value}
use Rattle.rules.proofs.DecodeLaws.{name_width_lem, strip_every, value_width_lem, width_bound}

either_small : (a b : Bool) {x : ℕ} → (a ≡ true → x < 256) → (b ≡ true → x < 256) → (a || b) ≡ true → x < 256
either_small a b f g h = ⊎_elim f g (or_cases a b h)

between_small : (a b x : ℕ) → b < 256 → between a b x ≡ true → x < 256
between_small a b x l h = omega (arith, leb-true x b (and_right (leb a x) (leb x b) h))

equal_small : (x k : ℕ) → k < 256 → eqb x k ≡ true → x < 256
equal_small x k l h = omega (arith, eqb-true x k h)

start_small : (x : ℕ) → starts_name x ≡ true → x < 256
start_small x =
    either_small (between 65 90 x || between 97 122 x) (eqb x 95)
    (either_small (between 65 90 x) (between 97 122 x) (between_small 65 90 x (lit< tt)) (between_small 97 122 x (lit< tt))) (equal_small x 95 (lit< tt))

in_small : (x : ℕ) → in_name x ≡ true → x < 256
in_small x =
    either_small (starts_name x || between 48 57 x || eqb x 45) (eqb x 46)
    (either_small (starts_name x || between 48 57 x) (eqb x 45) (either_small (starts_name x) (between 48 57 x) (start_small x) (between_small 48 57 x (lit< tt))) (equal_small x 45 (lit< tt)))
    (equal_small x 46 (lit< tt))

name_small : (n : Bytes) → is_name n ≡ true → Small n
name_small [] h = absurd (false≢true h)
name_small (x ∷ xs) h =
    let (a, l) = and_split (starts_name x && all in_name xs) _ h in
    let (f, r) = and_split (starts_name x) (all in_name xs) a in
    record { small = (start_small x f, every_map (λ y. in_name y ≡ true) (λ y. y < 256) xs in_small (every_of in_name xs r)) }

value_small : (w : ℕ) (v : Bytes) → is_value w v ≡ true → Small v
value_small w v h =
    record {
      small = every_map (λ y. between 0x20 0x7E y ≡ true) (λ y. y < 256) v (λ y e. between_small 0x20 0x7E y (lit< tt) e)
          (every_of (between 0x20 0x7E) v (and_right (leb (length v) w) (all (between 0x20 0x7E) v) h));
    }

kind_small : (c : Content) → kind_code c < 256
kind_small empty = lit< tt
kind_small pcdata = lit< tt
kind_small (complex ms) = lit< tt

quantifier_small : (q : Quantifier) → quantifier_code q < 256
quantifier_small None = lit< tt
quantifier_small Qmark = lit< tt
quantifier_small Star = lit< tt
quantifier_small Plus = lit< tt

group_small : (k : GroupKind) → group_code k < 256
group_small Sequence = lit< tt
group_small Choice = lit< tt

sort_small : (s : AttributeSort) → sort_code s < 256
sort_small Implied = lit< tt
sort_small Required = lit< tt
sort_small Fixed = lit< tt

row_small : (s : RowSort) → row_code s < 256
row_small element = lit< tt
row_small attribute = lit< tt
row_small text = lit< tt

small_definitions : (w : ℕ) (form fs : Form) → Every (DefinitionParts w form) fs → Every SmallDefinition (map (flat_definition form) fs)
small_definitions w form [] a = tt
small_definitions w form (d ∷ fs) a =
    let l : length d.name ≤ name_width = name_width_lem d.name a.0.name in
    (record { length_name = omega arith; name = name_small d.name a.0.name; kind = kind_small d.content }, small_definitions w form fs a.1)

pub record LaidParticle (p : Deep FlatParticle) : Type 0 where
  pub sort : p.row.sort < 256
  pub quantifier : p.row.quantifier < 256
  pub index : p.row.index < 256

-- a group's members are particles as well, and so fewer than all
module _ (form : Form) (few : length form ≤ 64) where
  many_bound : (depth : ℕ) (ms : Members Bytes) → how_many ms ≤ length (preorder depth (particles form ms))
  many_bound depth done = omega arith
  many_bound depth (el q n rest) = omega (arith, many_bound depth rest)
  many_bound depth (group q k ms rest) = omega (arith, many_bound depth rest, length-append (preorder (suc depth) (particles form ms)) (preorder depth (particles form rest)))

  laid_members : (depth : ℕ) (ms : Members Bytes) → length (preorder depth (particles form ms)) ≤ 256 → Every LaidParticle (preorder depth (particles form ms))
  laid_members depth done h = tt
  laid_members depth (el q n rest) h = (record { sort = lit< tt; quantifier = quantifier_small q; index = omega (arith, index_bound n form) }, laid_members depth rest (omega arith))
  laid_members depth (group q k ms rest) h =
      let e : length (preorder (suc depth) (particles form ms) ++ preorder depth (particles form rest))
      ≡ length (preorder (suc depth) (particles form ms)) + length (preorder depth (particles form rest)) =
      length-append (preorder (suc depth) (particles form ms)) (preorder depth (particles form rest)) in (
        record { sort = group_small k; quantifier = quantifier_small q; index = omega (arith, many_bound (suc depth) ms) },
        every_append LaidParticle (preorder (suc depth) (particles form ms)) (preorder depth (particles form rest)) (laid_members (suc depth) ms (omega arith)) (laid_members depth rest (omega arith)),
      )

  laid_content : (c : Content) → length (content_particles form c) ≤ 256 → Every LaidParticle (content_particles form c)
  laid_content empty h = tt
  laid_content pcdata h = tt
  laid_content (complex ms) h = laid_members 0 ms h

  pub laid_particles : (fs : Form) → length (all_particles form fs) ≤ 256 → Every LaidParticle (all_particles form fs)
  laid_particles [] h = tt
  laid_particles (d ∷ fs) h =
      let e : length (content_particles form d.content ++ all_particles form fs)
      ≡ length (content_particles form d.content) + length (all_particles form fs) =
      length-append (content_particles form d.content) (all_particles form fs) in
      every_append LaidParticle (content_particles form d.content) (all_particles form fs) (laid_content d.content (omega arith)) (laid_particles fs (omega arith))

small_own : (w o : ℕ) (cs : List Attribute) → w < 256 → o < 256 → Every (λ a. is_attribute_of w a ≡ true) cs → Every SmallAttribute (own_attributes o cs)
small_own w o [] u l a = tt
small_own w o (c ∷ cs) u l a =
    let (n, h) = and_split (stored_name c.name) _ a.0 in
    let (v, k) = and_split (is_value w c.value) (is_fill c.sort c.value) h in
    let short : length c.name ≤ name_width = name_width_lem c.name n in
    let narrow : length c.value ≤ w = value_width_lem w c.value v in (
      record {
        owner = l;
        length_name = omega arith;
        name = name_small c.name n;
        sort = sort_small c.sort;
        length_value = omega arith;
        value = value_small w c.value v;
      },
      small_own w o cs u l a.1,
    )

small_attributes : (w : ℕ) (form : Form) (o : ℕ) (fs : Form) → w < 256 → o + length fs ≤ 64 → Every (DefinitionParts w form) fs → Every SmallAttribute (all_attributes o fs)
small_attributes w form o [] u l a = tt
small_attributes w form o (d ∷ fs) u l a =
    every_append SmallAttribute (own_attributes o d.attributes) (all_attributes (suc o) fs) (small_own w o d.attributes u (omega arith) a.0.attributes)
    (small_attributes w form (suc o) fs u (omega arith) a.1)

-- ---- how deep the rows stand
text_no_element : (s : RowSort) → is_text s ≡ true → is_element s ≡ true → ⊥
text_no_element element e h = false≢true e
text_no_element attribute e h = false≢true h
text_no_element text e h = false≢true h

-- below an element, chains of members end within h definitions
abbrev Within : ℕ → Form → Row → Type 0
Within h form r = is_element r.sort ≡ true → deep h form r.name ≡ true

abbrev Given : (Definition → Type 0) → Option Definition → Type 0
Given P none = Unit {0}
Given P (some d) = P d

lookup_given : (P : Definition → Type 0) (form : Form) (n : Bytes) → Every P form → Given P (lookup n form)
lookup_given P [] n a = tt
lookup_given P (d ∷ ds) n a = by (same n d.name) (lookup_given P ds n a.1)
  where
    by : (c : Bool) → Given P (lookup n ds) → Given P (elim c [ true ↦ some d | false ↦ lookup n ds ])
    by true k = a.0
    by false k = k

fits_within : (h : ℕ) (form : Form) (c : Content) → Sound (model_of c) → all (λ m. deep h form m) (names (model_of c)) ≡ true → (rows : List Row) → fits c rows ≡ true → Every (Within h form) rows
fits_within h form empty d a [] f = tt
fits_within h form empty d a (r ∷ rows) f = absurd (false≢true f)
fits_within h form pcdata d a [] f = absurd (false≢true f)
fits_within h form pcdata d a (r ∷ []) f = (λ e. absurd (text_no_element r.sort (and_left (is_text r.sort) true f) e), tt)
fits_within h form pcdata d a (r ∷ x ∷ rows) f = absurd (false≢true (and_right (is_text r.sort) false f))
fits_within h form (complex ms) d a rows f =
    let w : Conforms ms (map name_of rows) =
    (accepts_conforms bytes ms d.distinct (map name_of rows)).0
    (and_right (all (λ (r : Row). is_element r.sort) rows) (accepts bytes ms (map name_of rows)) f) in
    every_in (Within h form) rows (λ r m e. all_in (λ n. deep h form n) r.name (names ms) a ((letters Sequence ms).inside (map name_of rows) w r.name (Memᴰ.map name_of m)))

module _ (version : ℕ) (form : Form) (models : Every (λ d. Sound (members d)) form) where
  below_within : (h : ℕ) (r : Row) (below : List Row) → r.sort ≡ element → fits_row version form r below ≡ true → deep (suc h) form r.name ≡ true → Every (Within h form) below
  unfolding fits_row deep
  below_within h r below q f g = at (lookup r.name form) (lookup_given (λ d. Sound (members d)) form r.name models) (rw (q, fits_row) at f) g
    where
      at : (o : Option Definition) → Given (λ d. Sound (members d)) o → fits_definition version o below ≡ true
          → elim o [ none ↦ false | some d ↦ all (λ m. deep h form m) (names (members d)) ] ≡ true → Every (Within h form) below
      at none m e k = absurd (false≢true e)
      at (some d) m e k = strip_every version (Within h form) d.content (fits_within h form d.content m k) d.attributes below (λ x a o b. absurd (element_not x.sort b a)) e

  none_below : (P : Deep FlatRow → Type 0) (depth : ℕ) (owner : Bytes) (b : Forest Row) → is_none (heads b) ≡ true → Every P (preorder depth (indexed form owner b))
  none_below P depth owner bare e = tt
  none_below P depth owner (tree r b t) e = absurd (false≢true e)

  row_depths : (h depth : ℕ) (owner : Bytes) (f : Forest Row) → EveryRow (λ r below. fits_row version form r below ≡ true) f → Every (Within h form) (heads f)
      → Every (λ x. x.depth ≤ depth + h) (preorder depth (indexed form owner f))
  unfolding fits_row deep
  row_depths h depth owner bare e a = tt
  row_depths h depth owner (tree r b t) e a = (
    omega arith,
    every_append (λ x. x.depth ≤ depth + h) (preorder (suc depth) (indexed form r.name b)) (preorder depth (indexed form owner t))
        (by h r.sort refl a.0 (λ k. row_depths k (suc depth) r.name b e.1))
        (row_depths h depth owner t e.2 a.1),
  )
    where
      Goal : ℕ → Type 0
      Goal k = Every (λ x. x.depth ≤ depth + k) (preorder (suc depth) (indexed form r.name b))

      by : (k : ℕ) (s : RowSort) → r.sort ≡ s → Within k form r
          → ((j : ℕ) → Every (Within j form) (heads b) → Every (λ x. x.depth ≤ suc depth + j) (preorder (suc depth) (indexed form r.name b))) → Goal k
      by zero element q w i = absurd (false≢true (w (ap is_element q)))
      by (suc k) element q w i =
          every_map (λ x. x.depth ≤ suc depth + k) (λ x. x.depth ≤ depth + suc k) (preorder (suc depth) (indexed form r.name b)) (λ x l. omega arith)
          (i k (below_within k r (heads b) q e.0 (w (ap is_element q))))
      by k attribute q w i = none_below (λ x. x.depth ≤ depth + k) (suc depth) r.name b (rw (q, fits_row) at e.0)
      by k text q w i = none_below (λ x. x.depth ≤ depth + k) (suc depth) r.name b (rw (q, fits_row) at e.0)

-- ---- and so every byte is below 256
laid_small : (w : ℕ) (r : Row) → laid_row w r ≡ true → Small r.value
laid_small w r h = by r.sort refl
  where
    by : (s : RowSort) → r.sort ≡ s → Small r.value
    by element q = rw (none_nil r.value (rw (q, laid_row) at h)) (record { small = tt })
    by attribute q = value_small w r.value (rw (q, laid_row) at h)
    by text q = value_small w r.value (and_left (is_value w r.value) (is_none r.name) (rw (q, laid_row) at h))

record LaidRow (x : Deep FlatRow) : Type 0 where
  sort : x.row.sort < 256
  length_value : length x.row.value < 256
  value : Small x.row.value

laid_rows : (w : ℕ) (form : Form) (depth : ℕ) (owner : Bytes) (f : Forest Row) → w < 256 → EveryRow (λ r below. laid_row w r ≡ true) f → Every LaidRow (preorder depth (indexed form owner f))
laid_rows w form depth owner bare u a = tt
laid_rows w form depth owner (tree r b t) u a =
    let l : length r.value ≤ w = laid_value w r a.0 in (
      record { sort = row_small r.sort; length_value = omega arith; value = laid_small w r a.0 },
      every_append LaidRow (preorder (suc depth) (indexed form r.name b)) (preorder depth (indexed form owner t))
          (laid_rows w form (suc depth) r.name b u a.1) (laid_rows w form depth owner t u a.2),
    )

heads_known : (version : ℕ) (form : Form) (f : Forest Row) → EveryRow (λ r below. fits_row version form r below ≡ true) f
    → Every (λ r. is_element r.sort ≡ true → known form r.name ≡ true) (heads f)
unfolding fits_row
heads_known version form bare a = tt
heads_known version form (tree r b t) a = (by r.sort refl, heads_known version form t a.2)
  where
    by : (s : RowSort) → r.sort ≡ s → is_element r.sort ≡ true → known form r.name ≡ true
    by element q e = fits_known version (lookup r.name form) (heads b) (rw (q, fits_row) at a.0)
    by attribute q e = absurd (false≢true (rw q at e))
    by text q e = absurd (false≢true (rw q at e))

good_form : (s : Store) → good s ≡ true → well_formed (value_width s.version) s.form ≡ true
unfolding good
good_form s g =
    let (v, e) = and_split (known_version s.version) _ g in
    let (c, f) = and_split (within_ceilings (flat s)) _ e in
    (and_split (well_formed (value_width s.version) s.form) _ f).0

module _ (s : Store) (g : good s ≡ true) where
  pub good_deep : (n : Bytes) → known s.form n ≡ true → deep (length s.form) s.form n ≡ true
  good_deep = definition_deep (value_width s.version) s.form (good_form s g)

  -- a row is at most as deep as there are definitions
  pub good_depths : Every (λ x. x.depth ≤ length s.form) (flat s).rows
  good_depths =
      every_map (λ x. x.depth ≤ 0 + length s.form) (λ x. x.depth ≤ length s.form) (flat s).rows (λ x l. omega arith)
      (row_depths s.version s.form
      (every_map (DefinitionParts (value_width s.version) s.form) (λ d. Sound (members d)) s.form (λ d e. e.model) (every_definition s g))
      (length s.form) 0 [] s.docs (good_parts s g).rows
      (every_map (λ r. is_element r.sort ≡ true → known s.form r.name ≡ true) (Within (length s.form) s.form) (heads s.docs) (λ r f e. good_deep r.name (f e))
      (heads_known s.version s.form s.docs (good_parts s g).rows)))

  pub good_small : SmallFlat (flat s)
  good_small =
      let p : GoodParts s = good_parts s g in
      let n : length (map (flat_definition s.form) s.form) ≡ length s.form = length-map s.form (flat_definition s.form) in
      let few : length s.form ≤ 64 = omega arith in
      let narrow : value_width s.version < 256 = width_bound s.version in
      record {
        definitions = small_definitions (value_width s.version) s.form s.form (every_definition s g);
        particles = every_zip LaidParticle (λ x. x.depth ≤ 4) SmallParticle (flat s).particles
            (λ x a l. record { sort = a.sort; quantifier = a.quantifier; index = a.index; depth = omega arith })
            (laid_particles s.form few s.form p.particle_count) p.particle_depths;
        attributes = small_attributes (value_width s.version) s.form 0 s.form narrow (omega arith) (every_definition s g);
        rows = every_zip LaidRow (λ x. x.depth ≤ length s.form) SmallRow (flat s).rows
            (λ x a l. record { sort = a.sort; depth = omega arith; length_value = a.length_value; value = a.value })
            (laid_rows (value_width s.version) s.form 0 [] s.docs narrow p.values) good_depths;
      }

  pub encode_small : Small (encode s)
  encode_small = small_bytes (value_width s.version) (flat s) good_small
