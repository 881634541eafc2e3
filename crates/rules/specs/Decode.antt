-- Reading a byte string back.
use Rattle.std.specs.Prelude.{ℕ, zero, suc, ◌+◌, ◌*◌, Bool, true, false, List, [], ◌∷◌, map, eqb, length, take, drop, get_or}
use Rattle.std.proofs.Math.Option.{Option, none, some}
use Rattle.rules.specs.declared.Quantifier.{Quantifier}
use Rattle.rules.specs.declared.Quantifier.TheVariants.{None, Qmark, Star, Plus}
use Rattle.rules.specs.declared.GroupKind.{GroupKind}
use Rattle.rules.specs.declared.GroupKind.TheVariants.{Sequence, Choice}
use Rattle.rules.specs.declared.AttributeSort.{AttributeSort}
use Rattle.rules.specs.declared.AttributeSort.TheVariants.{Implied, Required, Fixed}
use Rattle.rules.specs.Bytes.{Bytes, same}
use Rattle.rules.specs.Model.{Members, done, el, group}
use Rattle.rules.specs.Store.{Content, empty, pcdata, complex, Attribute, Form, RowSort, element}
use Rattle.rules.specs.Store.{attribute, text, Row, Forest, bare, tree, Store}
use Rattle.rules.specs.Preorder.{Deep, build}
use Rattle.rules.specs.Layout.{value_width, header_size, definition_size, particle_size, attribute_size, row_size, FlatDefinition, FlatParticle, FlatAttribute, FlatRow, FlatStore, encode}

-- ---- records
abbrev pub unle : Bytes → ℕ
unle [] = 0
unle (b ∷ bs) = b + 256 * unle bs

-- the number of k bytes at a place
abbrev pub number_at : ℕ → ℕ → Bytes → ℕ
number_at at k bs = unle (take k (drop at bs))

abbrev pub read_definition : Bytes → FlatDefinition
read_definition bs = record { name = take (get_or bs 0 0) (drop 1 bs); kind = get_or (drop 17 bs) 0 0; particles = number_at 1 2 (drop 17 bs) }

abbrev pub read_particle : Bytes → Deep FlatParticle
read_particle bs = record { depth = get_or bs 3 0; row = record { sort = get_or bs 0 0; quantifier = get_or bs 1 0; index = get_or bs 2 0 } }

abbrev pub read_attribute : Bytes → FlatAttribute
read_attribute bs = record { owner = get_or bs 0 0; name = take (get_or bs 1 0) (drop 2 bs); sort = get_or (drop 18 bs) 0 0; value = take (get_or (drop 18 bs) 1 0) (drop 2 (drop 18 bs)) }

abbrev pub read_row : Bytes → Deep FlatRow
read_row bs = record { depth = get_or bs 1 0; row = record { sort = get_or bs 0 0; index = number_at 2 2 bs; serial = number_at 4 4 bs; value = take (get_or bs 8 0) (drop 10 bs) } }

-- `count` records of `size` bytes each
abbrev pub read_many : {A : Type 0} → (Bytes → A) → ℕ → ℕ → Bytes → List A
read_many f size zero bs = []
read_many f size (suc count) bs = f (take size bs) ∷ read_many f size count (drop size bs)

-- ---- the string
-- 'Bytes 0–3 version', 'Bytes 4–7 the next serial'
abbrev pub version_in : Bytes → ℕ
version_in bs = number_at 0 4 bs

abbrev pub next_serial : Bytes → ℕ
next_serial bs = number_at 4 4 bs

-- the counts of the table of contents
abbrev pub definition_count : Bytes → ℕ
definition_count bs = number_at 12 4 bs

abbrev pub particle_count : Bytes → ℕ
particle_count bs = number_at 20 4 bs

abbrev pub attribute_count : Bytes → ℕ
attribute_count bs = number_at 28 4 bs

abbrev pub row_count : Bytes → ℕ
row_count bs = number_at 36 4 bs

abbrev pub read_bodies : ℕ → ℕ → ℕ → ℕ → ℕ → ℕ → ℕ → Bytes → FlatStore
read_bodies w version next d p a r bs =
    record {
      version = version;
      next = next;
      definitions = read_many read_definition definition_size d bs;
      particles = read_many read_particle particle_size p (drop (definition_size * d) bs);
      attributes = read_many read_attribute (attribute_size w) a (drop (particle_size * p) (drop (definition_size * d) bs));
      rows = read_many read_row (row_size w) r (drop (attribute_size w * a) (drop (particle_size * p) (drop (definition_size * d) bs)));
    }

abbrev pub read_flat : ℕ → Bytes → FlatStore
read_flat w bs = read_bodies w (version_in bs) (next_serial bs) (definition_count bs) (particle_count bs) (attribute_count bs) (row_count bs) (drop header_size bs)

-- the string is as long as its counts say
abbrev pub sized : ℕ → Bytes → Bool
sized w bs = eqb (length bs) (header_size + (definition_size * definition_count bs + (particle_size * particle_count bs + (attribute_size w * attribute_count bs + row_size w * row_count bs))))

-- ---- indices to names, preorder to trees, codes to what they stand for
abbrev pub name_at : ℕ → List Bytes → Bytes
name_at i [] = []
name_at zero (n ∷ ns) = n
name_at (suc i) (n ∷ ns) = name_at i ns

abbrev pub quantifier_of : ℕ → Quantifier
quantifier_of zero = None
quantifier_of (suc zero) = Qmark
quantifier_of (suc (suc zero)) = Star
quantifier_of (suc (suc (suc k))) = Plus

abbrev pub group_of : ℕ → GroupKind
group_of zero = Sequence
group_of (suc zero) = Sequence
group_of (suc (suc k)) = Choice

abbrev pub content_of : ℕ → Members Bytes → Content
content_of zero ms = empty
content_of (suc zero) ms = pcdata
content_of (suc (suc k)) ms = complex ms

abbrev pub sort_of : ℕ → AttributeSort
sort_of zero = Implied
sort_of (suc zero) = Required
sort_of (suc (suc k)) = Fixed

abbrev pub row_sort_of : ℕ → RowSort
row_sort_of zero = text
row_sort_of (suc zero) = element
row_sort_of (suc (suc zero)) = attribute
row_sort_of (suc (suc (suc k))) = text

abbrev pub member_of : List Bytes → FlatParticle → ℕ → Members Bytes → Members Bytes → Members Bytes
member_of ns p zero below rest = el (quantifier_of p.quantifier) (name_at p.index ns) rest
member_of ns p (suc k) below rest = group (quantifier_of p.quantifier) (group_of (suc k)) below rest

abbrev pub read_members : List Bytes → Forest FlatParticle → Members Bytes
read_members ns bare = done
read_members ns (tree p b t) = member_of ns p p.sort (read_members ns b) (read_members ns t)

abbrev pub of_owner : ℕ → List FlatAttribute → List Attribute
of_owner o [] = []
of_owner o (a ∷ cs) = elim (eqb o a.owner) [ true ↦ record { name = a.name; sort = sort_of a.sort; value = a.value } ∷ of_owner o cs | false ↦ of_owner o cs ]

abbrev pub read_form : List Bytes → ℕ → List FlatDefinition → List (Deep FlatParticle) → List FlatAttribute → Form
read_form ns o [] ps cs = []
read_form ns o (d ∷ ds) ps cs =
    record { name = d.name; content = content_of d.kind (read_members ns (build (take d.particles ps) 0)); attributes = of_owner o cs }
    ∷ read_form ns (suc o) ds (drop d.particles ps) cs

abbrev pub row_name : List Bytes → List Bytes → RowSort → ℕ → Bytes
row_name ns cs element i = name_at i ns
row_name ns cs attribute i = name_at i cs
row_name ns cs text i = []

abbrev pub read_rows : List Bytes → List Bytes → Forest FlatRow → Forest Row
read_rows ns cs bare = bare
read_rows ns cs (tree x b t) =
    tree (record { serial = x.serial; sort = row_sort_of x.sort; name = row_name ns cs (row_sort_of x.sort) x.index; value = x.value }) (read_rows ns cs b) (read_rows ns cs t)

abbrev pub flat_name : FlatDefinition → Bytes
flat_name d = d.name

abbrev pub flat_attribute_name : FlatAttribute → Bytes
flat_attribute_name a = a.name

abbrev pub unflat : FlatStore → Store
unflat f =
    record {
      version = f.version;
      next = f.next;
      form = read_form (map flat_name f.definitions) 0 f.definitions f.particles f.attributes;
      docs = read_rows (map flat_name f.definitions) (map flat_attribute_name f.attributes) (build f.rows 0);
    }

-- ---- a byte string is a store if it is what its reading is written as
unfoldable pub confirm : Bytes → Store → Option Store
confirm bs s = elim (same (encode s) bs) [ true ↦ some s | false ↦ none ]

abbrev pub decode : Bytes → Option Store
decode bs =
    let w : ℕ = value_width (version_in bs) in
    elim (sized w bs) [ true ↦ confirm bs (unflat (read_flat w bs)) | false ↦ none ]
