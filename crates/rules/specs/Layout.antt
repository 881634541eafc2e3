-- 'The store': the byte string. `w` is the width of a value field.
use Rattle.std.specs.Prelude.{ℕ, zero, suc, ◌+◌, ◌*◌, ◌/◌, ◌%◌, true, false, List, [], ◌∷◌, ◌++◌, map, length}
use Rattle.rules.specs.declared.Quantifier.{Quantifier}
use Rattle.rules.specs.declared.Quantifier.TheVariants.{None, Qmark, Star, Plus}
use Rattle.rules.specs.declared.GroupKind.{GroupKind}
use Rattle.rules.specs.declared.GroupKind.TheVariants.{Sequence, Choice}
use Rattle.rules.specs.declared.AttributeSort.{AttributeSort}
use Rattle.rules.specs.declared.AttributeSort.TheVariants.{Implied, Required, Fixed}
use Rattle.rules.specs.Bytes.{Bytes, same}
use Rattle.rules.specs.Model.{Members, done, el, group}
use Rattle.rules.specs.Store.{Content, empty, pcdata, complex, Attribute, Definition, Form, RowSort, element}
use Rattle.rules.specs.Store.{attribute, text, Row, Forest, bare, tree, Store}
use Rattle.rules.specs.Preorder.{Deep, preorder}

-- the version of a fresh store, and the width of a value by version
abbrev pub base_version : ℕ
base_version = 1

unfoldable pub value_width : ℕ → ℕ
value_width version = 32

abbrev pub name_width : ℕ
name_width = 16

-- ---- numbers and fields
-- k bytes, little-endian
abbrev pub le : ℕ → ℕ → Bytes
le zero n = []
le (suc k) n = n % 256 ∷ le k (n / 256)

-- k bytes, zero filled
abbrev pub field : ℕ → Bytes → Bytes
field zero v = []
field (suc k) [] = 0 ∷ field k []
field (suc k) (x ∷ xs) = x ∷ field k xs

-- ---- what the four bodies hold
pub record FlatDefinition : Type 0 where
  pub name : Bytes
  pub kind : ℕ
  pub particles : ℕ

pub record FlatParticle : Type 0 where
  pub sort : ℕ
  pub quantifier : ℕ
  pub index : ℕ

pub record FlatAttribute : Type 0 where
  pub owner : ℕ
  pub name : Bytes
  pub sort : ℕ
  pub value : Bytes

pub record FlatRow : Type 0 where
  pub sort : ℕ
  pub index : ℕ
  pub serial : ℕ
  pub value : Bytes

pub record FlatStore : Type 0 where
  pub version : ℕ
  pub next : ℕ
  pub definitions : List FlatDefinition
  pub particles : List (Deep FlatParticle)
  pub attributes : List FlatAttribute
  pub rows : List (Deep FlatRow)

-- ---- the four records
abbrev pub definition_size : ℕ
definition_size = 20

abbrev pub particle_size : ℕ
particle_size = 4

abbrev pub attribute_size : ℕ → ℕ
attribute_size w = 20 + w

abbrev pub row_size : ℕ → ℕ
row_size w = 12 + w

abbrev pub header_size : ℕ
header_size = 40

abbrev pub definition_bytes : FlatDefinition → Bytes
definition_bytes d = length d.name ∷ field name_width d.name ++ (d.kind ∷ le 2 d.particles)

abbrev pub particle_bytes : Deep FlatParticle → Bytes
particle_bytes p = p.row.sort ∷ p.row.quantifier ∷ p.row.index ∷ p.depth ∷ []

abbrev pub attribute_bytes : ℕ → FlatAttribute → Bytes
attribute_bytes w a = a.owner ∷ length a.name ∷ field name_width a.name ++ (a.sort ∷ length a.value ∷ field w a.value)

abbrev pub row_bytes : ℕ → Deep FlatRow → Bytes
row_bytes w r = r.row.sort ∷ r.depth ∷ le 2 r.row.index ++ (le 4 r.row.serial ++ (length r.row.value ∷ 0 ∷ field w r.row.value ++ (0 ∷ 0 ∷ [])))

abbrev pub each : {A : Type 0} → (A → Bytes) → List A → Bytes
each f [] = []
each f (x ∷ xs) = f x ++ each f xs

-- ---- the string: version, next serial, four entries of offset and count, the bodies
abbrev pub entry : ℕ → ℕ → Bytes
entry offset count = le 4 offset ++ le 4 count

abbrev pub flat_bytes : ℕ → FlatStore → Bytes
flat_bytes w s =
    let d : ℕ = length s.definitions in
    let p : ℕ = length s.particles in
    let a : ℕ = length s.attributes in
    let r : ℕ = length s.rows in
    let at_particles : ℕ = header_size + definition_size * d in
    let at_attributes : ℕ = at_particles + particle_size * p in
    let at_rows : ℕ = at_attributes + attribute_size w * a in
    le 4 s.version
    ++ (le 4 s.next
    ++ (entry header_size d
    ++ (entry at_particles p
    ++ (entry at_attributes a
    ++ (entry at_rows r
    ++ (each definition_bytes s.definitions
    ++ (each particle_bytes s.particles
    ++ (each (attribute_bytes w) s.attributes ++ each (row_bytes w) s.rows))))))))

-- ---- names to indices
abbrev pub index_of : Bytes → Form → ℕ
index_of n [] = 0
index_of n (d ∷ ds) = elim (same n d.name) [ true ↦ 0 | false ↦ suc (index_of n ds) ]

abbrev pub index_in : Bytes → List Attribute → ℕ
index_in n [] = 0
index_in n (a ∷ cs) = elim (same n a.name) [ true ↦ 0 | false ↦ suc (index_in n cs) ]

-- the index of the owner's attribute in the whole table
abbrev pub attribute_index : Bytes → Bytes → Form → ℕ
attribute_index owner n [] = 0
attribute_index owner n (d ∷ ds) = elim (same owner d.name) [ true ↦ index_in n d.attributes | false ↦ length d.attributes + attribute_index owner n ds ]

-- ---- codes
abbrev pub quantifier_code : Quantifier → ℕ
quantifier_code None = 0
quantifier_code Qmark = 1
quantifier_code Star = 2
quantifier_code Plus = 3

abbrev pub group_code : GroupKind → ℕ
group_code Sequence = 1
group_code Choice = 2

abbrev pub kind_code : Content → ℕ
kind_code empty = 0
kind_code pcdata = 1
kind_code (complex ms) = 2

abbrev pub sort_code : AttributeSort → ℕ
sort_code Implied = 0
sort_code Required = 1
sort_code Fixed = 2

abbrev pub row_code : RowSort → ℕ
row_code element = 1
row_code attribute = 2
row_code text = 3

-- ---- the bodies of a form and of documents
-- direct members
abbrev pub how_many : {A : Type 0} → Members A → ℕ
how_many done = 0
how_many (el q n rest) = suc (how_many rest)
how_many (group q k ms rest) = suc (how_many rest)

abbrev pub particles : Form → Members Bytes → Forest FlatParticle
particles form done = bare
particles form (el q n rest) = tree (record { sort = 0; quantifier = quantifier_code q; index = index_of n form }) bare (particles form rest)
particles form (group q k ms rest) = tree (record { sort = group_code k; quantifier = quantifier_code q; index = how_many ms }) (particles form ms) (particles form rest)

abbrev pub content_particles : Form → Content → List (Deep FlatParticle)
content_particles form empty = []
content_particles form pcdata = []
content_particles form (complex ms) = preorder 0 (particles form ms)

abbrev pub flat_definition : Form → Definition → FlatDefinition
flat_definition form d = record { name = d.name; kind = kind_code d.content; particles = length (content_particles form d.content) }

-- of the definitions `ds` of a form
abbrev pub all_particles : Form → Form → List (Deep FlatParticle)
all_particles form [] = []
all_particles form (d ∷ ds) = content_particles form d.content ++ all_particles form ds

abbrev pub own_attributes : ℕ → List Attribute → List FlatAttribute
own_attributes o [] = []
own_attributes o (a ∷ cs) = record { owner = o; name = a.name; sort = sort_code a.sort; value = a.value } ∷ own_attributes o cs

-- of definitions that are numbered from o on
abbrev pub all_attributes : ℕ → Form → List FlatAttribute
all_attributes o [] = []
all_attributes o (d ∷ ds) = own_attributes o d.attributes ++ all_attributes (suc o) ds

-- `owner`: the name of the element that the row is right below
abbrev pub row_index : Form → Bytes → Row → ℕ
row_index form owner r = elim r.sort [ element ↦ index_of r.name form | attribute ↦ attribute_index owner r.name form | text ↦ 0 ]

abbrev pub indexed : Form → Bytes → Forest Row → Forest FlatRow
indexed form owner bare = bare
indexed form owner (tree r b t) =
    tree (record { sort = row_code r.sort; index = row_index form owner r; serial = r.serial; value = r.value }) (indexed form r.name b) (indexed form owner t)

abbrev pub flat : Store → FlatStore
flat s =
    record {
      version = s.version;
      next = s.next;
      definitions = map (flat_definition s.form) s.form;
      particles = all_particles s.form s.form;
      attributes = all_attributes 0 s.form;
      rows = preorder 0 (indexed s.form [] s.docs);
    }

abbrev pub encode : Store → Bytes
encode s = flat_bytes (value_width s.version) (flat s)
