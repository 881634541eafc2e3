-- The canonical form is well-formed, and the same rows conform to it: names stay, so everything that is said by names
-- does; models keep their language, by induction on members; fills change for REQUIRED alone, which allows every value.
use Prim.Native.Nat.{ℕ}
use mathlib.Core.Path.{◌≡◌, refl, sym, ap, ap₂, ◌∙◌, subst}
use mathlib.Core.Bool.{true, ◌&&◌}
use mathlib.Core.Option
use mathlib.Core.Option.{Option, none, some}
use mathlib.Core.List.Memᴰ
use mathlib.Core.List.{List, [], ◌∷◌, ◌++◌, map, Memᴰ, map-map, map-eq-nil_iff}
use lib.Dec.{leb}
use Rattle.rules.specs.declared.Quantifier.{Quantifier}
use Rattle.rules.specs.declared.GroupKind.{GroupKind}
use Rattle.rules.specs.declared.GroupKind.TheVariants.{Sequence}
use Rattle.rules.specs.declared.AttributeSort.{AttributeSort}
use Rattle.rules.specs.declared.AttributeSort.TheVariants.{Implied, Required, Fixed}
use Rattle.rules.specs.Bytes.{Bytes}
use Rattle.rules.specs.Model.{Members, done, el, group, names, Distinct, Some, Full}
use Rattle.rules.specs.Language.{Matches, Repeated}
use Rattle.rules.specs.Store.{Content, empty, pcdata, complex, Attribute, Definition, Form}
use Rattle.rules.specs.Store.{RowSort, element, attribute, text, Row, Forest, model_of}
use Rattle.rules.specs.WellFormed.{stored_name, is_value, is_fill, is_attribute_of, lookup, is_there, known, names_in, members_of, definition_name, attribute_name}
use Rattle.rules.specs.WellFormed.{Reaches, directly, through, GoodDefinition, WellFormed}
use Rattle.rules.specs.Conforming.{name_of, must_be_present, allows, AttributeRows, ContentRows, ElementRows, RowConforms, Conforming}
use Rattle.rules.proofs.Words.{and_split, and_both}
use Rattle.rules.proofs.BooleanLaws.{none_nil}
use Rattle.rules.proofs.Carry.{carry_repeated, unchanged, relaxes_same}
use Rattle.rules.proofs.Grouping.{Alike, alike_self, alike_sym, alike_then, alike_joined, joined_end}
use Rattle.change_laws.proofs.EditFillings.{every_two}
use Rattle.reading_rules.specs.Canonical.{canonical_kind, canonical_members, canonical_content, canonical_fill, canonical_attribute, canonical_definition}
use Rattle.reading_rules.proofs.Shapes.{lookup_canonical}

-- ---- models: the same names, the same language
names_members : (ms : Members Bytes) → names (canonical_members ms) ≡ names ms
unfolding names canonical_members
names_members done = refl
names_members (el q n rest) = ap (λ (z : List Bytes). n ∷ z) (names_members rest)
names_members (group q k ms rest) = ap₂ (λ (u v : List Bytes). u ++ v) (names_members ms) (names_members rest)

pub names_content : (c : Content) → names (model_of (canonical_content c)) ≡ names (model_of c)
names_content empty = refl
names_content pcdata = refl
names_content (complex done) = refl
names_content (complex (el q n rest)) = names_members (el q n rest)
names_content (complex (group q k ms rest)) = names_members (group q k ms rest)

some_members : (ms : Members Bytes) → Some ms → Some (canonical_members ms)
unfolding canonical_members
some_members done o = o
some_members (el q n rest) o = tt
some_members (group q k ms rest) o = tt

full_members : (ms : Members Bytes) → Full ms → Full (canonical_members ms)
unfolding Full canonical_members
full_members done f = tt
full_members (el q n rest) f = full_members rest f
full_members (group q k ms rest) (o, f, g) = (some_members ms o, full_members ms f, full_members rest g)

full_content : (c : Content) → Full (model_of c) → Full (model_of (canonical_content c))
full_content empty f = f
full_content pcdata f = f
full_content (complex done) f = f
full_content (complex (el q n rest)) f = full_members (el q n rest) f
full_content (complex (group q k ms rest)) f = full_members (group q k ms rest) f

-- one member is the same in a LIST and in a CHOICE
lone_kind : (j : GroupKind) (ms : Members Bytes) → Alike (Matches j (canonical_members ms)) (Matches (canonical_kind j ms) (canonical_members ms))
unfolding Matches canonical_members
lone_kind j done = alike_self _
lone_kind j (el q n done) = alike_then (joined_end j _) (alike_sym (joined_end Sequence _))
lone_kind j (el q n (el q' n' s)) = alike_self _
lone_kind j (el q n (group q' i ms s)) = alike_self _
lone_kind j (group q i ms done) = alike_then (joined_end j _) (alike_sym (joined_end Sequence _))
lone_kind j (group q i ms (el q' n' s)) = alike_self _
lone_kind j (group q i ms (group q' i' ms' s)) = alike_self _

-- repeating keeps likeness
repeated_alike : (q : Quantifier) {L M : List Bytes → Type 0} → Alike L M → Alike (Repeated q L) (Repeated q M)
repeated_alike q a = record { to = carry_repeated unchanged (relaxes_same q) a.to; from = carry_repeated unchanged (relaxes_same q) a.from }

-- the canonical members match the same words
pub members_alike : (k : GroupKind) (ms : Members Bytes) → Alike (Matches k ms) (Matches k (canonical_members ms))
unfolding Matches canonical_members
members_alike k done = alike_self _
members_alike k (el q n rest) = alike_joined k (alike_self _) (members_alike k rest)
members_alike k (group q j ms rest) = alike_joined k (repeated_alike q (alike_then (members_alike j ms) (lone_kind j ms))) (members_alike k rest)

-- ---- names
pub is_there_map : (o : Option Definition) → is_there (Option.map canonical_definition o) ≡ is_there o
is_there_map none = refl
is_there_map (some d) = refl

names_in_map : (o : Option Definition) → names_in (Option.map canonical_definition o) ≡ names_in o
names_in_map none = refl
names_in_map (some d) = names_content d.content

known_canonical : (form : Form) (n : Bytes) → known (map canonical_definition form) n ≡ known form n
known_canonical form n = ap is_there (lookup_canonical n form) ∙ is_there_map (lookup n form)

members_of_canonical : (n : Bytes) (form : Form) → members_of n (map canonical_definition form) ≡ members_of n form
members_of_canonical n form = ap names_in (lookup_canonical n form) ∙ names_in_map (lookup n form)

-- so there are no more circles than before
reaches_canonical : (form : Form) {n m : Bytes} → Reaches (map canonical_definition form) n m → Reaches form n m
reaches_canonical form (directly {n = n} {m = m} i) = directly (subst (λ (z : List Bytes). Memᴰ m z) (members_of_canonical n form) i)
reaches_canonical form (through {n = n} {m = m} i r) = through (subst (λ (z : List Bytes). Memᴰ m z) (members_of_canonical n form) i) (reaches_canonical form r)

attribute_names_lem : (table : List Attribute) → map attribute_name (map canonical_attribute table) ≡ map attribute_name table
attribute_names_lem table = map-map attribute_name canonical_attribute table

definition_names : (form : Form) → map definition_name (map canonical_definition form) ≡ map definition_name form
definition_names form = map-map definition_name canonical_definition form

-- ---- well-formed, where a value has room for the `-`
module _ (w : ℕ) (roomy : leb 1 w ≡ true) where
  fill_good : (k : AttributeSort) (v : Bytes) → (is_value w v && is_fill k v) ≡ true → (is_value w (canonical_fill k v) && is_fill k (canonical_fill k v)) ≡ true
  fill_good Implied v e = let (h, t) = and_split (is_value w v) (is_fill Implied v) e in subst (λ (z : Bytes). (is_value w z && true) ≡ true) (none_nil v t) (and_both h refl)
  fill_good Required v e = rw roomy
  fill_good Fixed v e = e

  attribute_good : (a : Attribute) → is_attribute_of w a ≡ true → is_attribute_of w (canonical_attribute a) ≡ true
  attribute_good a e =
      let (h, t) = and_split (stored_name a.name) (is_value w a.value && is_fill a.sort a.value) e in
      and_both h (fill_good a.sort a.value t)

  canonical_definition_lem : (form : Form) (d : Definition) → GoodDefinition w form d → GoodDefinition w (map canonical_definition form) (canonical_definition d)
  canonical_definition_lem form d g =
      record {
        name = g.name;
        in_range = λ m i. known_canonical form m ∙ g.in_range m (subst (λ (z : List Bytes). Memᴰ m z) (names_content d.content) i);
        once = subst (λ (z : List Bytes). Distinct z) (sym (names_content d.content)) g.once;
        groups = full_content d.content g.groups;
        circle = λ r. g.circle (reaches_canonical form r);
        attribute_names = subst (λ (z : List Bytes). Distinct z) (sym (attribute_names_lem d.attributes)) g.attribute_names;
        attributes = λ a i.
            let (b, j, e) = Memᴰ.of_map canonical_attribute d.attributes i in
            subst (λ (z : Attribute). is_attribute_of w z ≡ true) e (attribute_good b (g.attributes b j));
      }

  pub form_good : (form : Form) → WellFormed w form → WellFormed w (map canonical_definition form)
  form_good form g =
      record {
        names = subst (λ (z : List Bytes). Distinct z) (sym (definition_names form)) g.names;
        definitions = λ d i.
            let (b, j, e) = Memᴰ.of_map canonical_definition form i in
            subst (λ (z : Definition). GoodDefinition w (map canonical_definition form) z) e (canonical_definition_lem form b (g.definitions b j));
      }

-- ---- conforming
content_rows_lem : (c : Content) (rows : List Row) → ContentRows c rows → ContentRows (canonical_content c) rows
content_rows_lem empty rows x = x
content_rows_lem pcdata rows x = x
content_rows_lem (complex done) rows (q, l) = unfold Matches in (map-eq-nil_iff name_of).0 l
content_rows_lem (complex (el q n rest)) rows (o, l) = (o, (members_alike Sequence (el q n rest)).to.carry (map name_of rows) l)
content_rows_lem (complex (group q k ms rest)) rows (o, l) = (o, (members_alike Sequence (group q k ms rest)).to.carry (map name_of rows) l)

-- the values that an attribute allows do not depend on the fill of a REQUIRED one
allows_canonical : (k : AttributeSort) (fill v : Bytes) → allows k (canonical_fill k fill) v ≡ allows k fill v
allows_canonical Implied fill v = refl
allows_canonical Required fill v = refl
allows_canonical Fixed fill v = refl

attribute_rows : (version : ℕ) (table : List Attribute) (rows : List Row) → AttributeRows version table rows → AttributeRows version (map canonical_attribute table) rows
attribute_rows version table rows x =
    record {
      sorts = x.sorts;
      owned = rw (attribute_names_lem table) x.owned;
      present = λ a i.
          let (b, j, e) = Memᴰ.of_map canonical_attribute table i in
          subst (λ (z : Attribute). must_be_present version z.sort ≡ true → Memᴰ z.name (map name_of rows)) e (x.present b j);
      equal = λ a i.
          let (b, j, e) = Memᴰ.of_map canonical_attribute table i in
          subst (λ (z : Attribute). (r : Row) → Memᴰ r rows → r.name ≡ z.name → allows z.sort z.value r.value ≡ true) e
          (λ r m n. allows_canonical b.sort b.value r.value ∙ x.equal b j r m n);
    }

element_rows : (version : ℕ) (d : Definition) (below : List Row) → ElementRows version d below → ElementRows version (canonical_definition d) below
element_rows version d below x =
    record {
      front = x.front;
      back = x.back;
      split = x.split;
      attributes = attribute_rows version d.attributes x.front x.attributes;
      content = content_rows_lem d.content x.back x.content;
    }

row_conforms : (version : ℕ) (form : Form) (r : Row) (below : List Row) → RowConforms version form r below → RowConforms version (map canonical_definition form) r below
row_conforms version form r below = by r.sort
  where
    by : (k : RowSort) → elim k as (λ z. Type 0) [ element ↦ (d : Definition) × (lookup r.name form ≡ some d) × ElementRows version d below | attribute ↦ below ≡ [] | text ↦ below ≡ [] ]
        → elim k as (λ z. Type 0) [ element ↦ (d : Definition) × (lookup r.name (map canonical_definition form) ≡ some d) × ElementRows version d below | attribute ↦ below ≡ [] | text ↦ below ≡ [] ]
    by element (d, e, x) = (canonical_definition d, lookup_canonical r.name form ∙ ap (λ (o : Option Definition). Option.map canonical_definition o) e, element_rows version d below x)
    by attribute x = x
    by text x = x

pub conforming_form : (version : ℕ) (form : Form) (docs : Forest Row) → Conforming version form docs → Conforming version (map canonical_definition form) docs
conforming_form version form docs x =
    record { roots = x.roots; rows = every_two (RowConforms version form) (RowConforms version form) (RowConforms version (map canonical_definition form)) (λ r below y z. row_conforms version form r below y) docs x.rows x.rows }
