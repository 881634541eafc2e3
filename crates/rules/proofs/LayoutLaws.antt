-- Reading the bodies of a byte string undoes writing them, and how long each of them is, whatever the width of a value.
use Prim.Native.Nat.{ℕ, zero, suc, ◌+◌, ◌*◌, ◌/◌, ◌^◌, ◌≤◌, ◌<◌}
use native.Mathlib.Nat.{mod-lt, div-lt_iff_lt-mul, pow-suc, le_of_suc-le-suc, mul-suc, mul-zero}
use native.Mathlib.Omega.{arith}
use mathlib.Core.Path.{◌≡◌, refl, ap, ap₂, ◌∙◌, sym}
use mathlib.Core.Bool.{true}
use mathlib.Core.List.{List, [], ◌∷◌, ◌++◌, append_assoc, append-nil}
use lib.Dec.{lit<}
use lib.ListN.{length, take, drop, length-append}
use lib.Seq.{take_at, drop_at, take-nil, drop-nil, take-append-add, drop-append-add}
use borrow.Author.Tests.{eq-eqb}
use Rattle.rules.specs.Bytes.{Bytes}
use Rattle.rules.specs.Preorder.{Deep}
use Rattle.rules.specs.Layout.{le, field, name_width, FlatDefinition, FlatParticle, FlatAttribute, FlatRow, FlatStore, header_size, definition_size}
use Rattle.rules.specs.Layout.{particle_size, attribute_size, row_size, definition_bytes, particle_bytes, attribute_bytes, row_bytes, each, entry, flat_bytes}
use Rattle.rules.specs.Decode.{unle, read_definition, read_particle, read_attribute, read_row, read_many, read_bodies, read_flat, sized}
use Rattle.rules.proofs.BooleanLaws.{Every, every_map, every_append, every_any}

-- ---- numbers
pub length_le : (k n : ℕ) → length (le k n) ≡ k
length_le zero n = refl
length_le (suc k) n = ap suc (length_le k (n / 256))

pub unle_le : (k n : ℕ) → n < 256 ^ k → unle (le k n) ≡ n
unle_le zero n h = omega arith
unle_le (suc k) n h = omega (arith, unle_le k (n / 256) ((div-lt_iff_lt-mul {k = 256} {x = n} {y = 256 ^ k} (lit< tt)).1 (omega (arith, pow-suc 256 k))))

-- ---- fields
pub length_field : (w : ℕ) (v : Bytes) → length (field w v) ≡ w
length_field zero v = refl
length_field (suc w) [] = ap suc (length_field w [])
length_field (suc w) (x ∷ xs) = ap suc (length_field w xs)

pub take_field : (w : ℕ) (v rest : Bytes) → length v ≤ w → take (length v) (field w v ++ rest) ≡ v
take_field zero [] rest h = refl
take_field zero (x ∷ xs) rest h = absurd (omega arith)
take_field (suc w) [] rest h = refl
take_field (suc w) (x ∷ xs) rest h = ap (λ (z : Bytes). x ∷ z) (take_field w xs rest (le_of_suc-le-suc h))

take_all_field : (w : ℕ) (v : Bytes) → length v ≤ w → take (length v) (field w v) ≡ v
take_all_field w v h = ap (λ (z : Bytes). take (length v) z) (sym (append-nil (field w v))) ∙ take_field w v [] h

-- ---- the four records: their lengths, and what reads back
pub record GoodFlatDefinition (d : FlatDefinition) : Type 0 where
  pub name : length d.name ≤ name_width
  pub particles : d.particles < 65536

pub record GoodFlatAttribute (w : ℕ) (a : FlatAttribute) : Type 0 where
  pub name : length a.name ≤ name_width
  pub value : length a.value ≤ w

pub record GoodFlatRow (w : ℕ) (r : Deep FlatRow) : Type 0 where
  pub index : r.row.index < 65536
  pub serial : r.row.serial < 4294967296
  pub value : length r.row.value ≤ w

pub length_definition : (d : FlatDefinition) → length (definition_bytes d) ≡ definition_size
length_definition d = omega (arith, length-append (field 16 d.name) (d.kind ∷ le 2 d.particles), length_field 16 d.name)

pub length_particle : (p : Deep FlatParticle) → length (particle_bytes p) ≡ particle_size
length_particle p = refl

pub length_attribute : (w : ℕ) (a : FlatAttribute) → length (attribute_bytes w a) ≡ attribute_size w
length_attribute w a = omega (arith, length-append (field 16 a.name) (a.sort ∷ length a.value ∷ field w a.value), length_field w a.value, length_field 16 a.name)

pub length_row : (w : ℕ) (r : Deep FlatRow) → length (row_bytes w r) ≡ row_size w
length_row w r = omega (arith, length-append (field w r.row.value) (0 ∷ 0 ∷ []), length_field w r.row.value)

pub read_definition_lem : (d : FlatDefinition) → GoodFlatDefinition d → read_definition (definition_bytes d) ≡ d
read_definition_lem d g =
    rw (drop_at (field 16 d.name) (d.kind ∷ le 2 d.particles) 16 (length_field 16 d.name))
    (λ i. record { name = take_field 16 d.name (d.kind ∷ le 2 d.particles) g.name i; kind = d.kind; particles = unle_le 2 d.particles g.particles i })

pub read_attribute_lem : (w : ℕ) (a : FlatAttribute) → GoodFlatAttribute w a → read_attribute (attribute_bytes w a) ≡ a
read_attribute_lem w a g =
    rw (drop_at (field 16 a.name) (a.sort ∷ length a.value ∷ field w a.value) 16 (length_field 16 a.name))
    (λ i. record { owner = a.owner; name = take_field 16 a.name (a.sort ∷ length a.value ∷ field w a.value) g.name i; sort = a.sort; value = take_all_field w a.value g.value i })

pub read_row_lem : (w : ℕ) (r : Deep FlatRow) → GoodFlatRow w r → read_row (row_bytes w r) ≡ r
read_row_lem w r g = λ i.
    record {
      depth = r.depth;
      row = record {
        sort = r.row.sort;
        index = unle_le 2 r.row.index g.index i;
        serial = unle_le 4 r.row.serial g.serial i;
        value = take_field w r.row.value (0 ∷ 0 ∷ []) g.value i;
      };
    }

-- ---- a body
pub length_each : {A : Type 0} (g : A → Bytes) (n : ℕ) → ((x : A) → length (g x) ≡ n) → (xs : List A) → length (each g xs) ≡ n * length xs
length_each g n h [] = sym (mul-zero n)
length_each g n h (x ∷ xs) = omega (arith, length-append (g x) (each g xs), h x, length_each g n h xs, mul-suc n (length xs))

pub read_each : {A : Type 0} (f : Bytes → A) (g : A → Bytes) (n : ℕ) (Good : A → Type 0) → ((x : A) → length (g x) ≡ n) → ((x : A) → Good x → f (g x) ≡ x)
    → (xs : List A) (rest : Bytes) → Every Good xs
    → read_many f n (length xs) (each g xs ++ rest) ≡ xs
read_each f g n Good l h [] rest a = refl
read_each {A} f g n Good l h (x ∷ xs) rest a =
    rw (append_assoc (g x) (each g xs) rest, take_at (g x) (each g xs ++ rest) n (l x), drop_at (g x) (each g xs ++ rest) n (l x))
    (ap₂ (λ (y : A) (ys : List A). y ∷ ys) (h x a.0) (read_each f g n Good l h xs rest a.1))

-- ---- the whole string
-- what the fields of a byte string can hold
pub record GoodFlat (w : ℕ) (f : FlatStore) : Type 0 where
  pub version : f.version < 4294967296
  pub next : f.next < 4294967296
  pub definition_count : length f.definitions < 4294967296
  pub particle_count : length f.particles < 4294967296
  pub attribute_count : length f.attributes < 4294967296
  pub row_count : length f.rows < 4294967296
  pub definitions : Every GoodFlatDefinition f.definitions
  pub attributes : Every (GoodFlatAttribute w) f.attributes
  pub rows : Every (GoodFlatRow w) f.rows

-- the bodies, one after another
module _ (w : ℕ) (f : FlatStore) where
  abbrev row_body : Bytes
  row_body = each (row_bytes w) f.rows

  abbrev from_attributes : Bytes
  from_attributes = each (attribute_bytes w) f.attributes ++ row_body

  abbrev from_particles : Bytes
  from_particles = each particle_bytes f.particles ++ from_attributes

  abbrev bodies : Bytes
  bodies = each definition_bytes f.definitions ++ from_particles

  length_definitions : length (each definition_bytes f.definitions) ≡ definition_size * length f.definitions
  length_definitions = length_each definition_bytes definition_size length_definition f.definitions

  length_particles : length (each particle_bytes f.particles) ≡ particle_size * length f.particles
  length_particles = length_each particle_bytes particle_size length_particle f.particles

  length_attributes : length (each (attribute_bytes w) f.attributes) ≡ attribute_size w * length f.attributes
  length_attributes = length_each (attribute_bytes w) (attribute_size w) (length_attribute w) f.attributes

  length_rows : length row_body ≡ row_size w * length f.rows
  length_rows = length_each (row_bytes w) (row_size w) (length_row w) f.rows

  length_bodies : length bodies ≡ definition_size * length f.definitions + (particle_size * length f.particles + (attribute_size w * length f.attributes + row_size w * length f.rows))
  length_bodies =
      simp length-append
      (ap₂ ◌+◌ length_definitions (ap₂ ◌+◌ length_particles (ap₂ ◌+◌ length_attributes length_rows)))

  pub length_flat_bytes : length (flat_bytes w f)
      ≡ header_size
      + (definition_size * length f.definitions
      + (particle_size * length f.particles + (attribute_size w * length f.attributes + row_size w * length f.rows)))
  length_flat_bytes = omega (arith, length_bodies)

  module _ (g : GoodFlat w f) where
    read_bodies_lem : read_bodies w f.version f.next (length f.definitions) (length f.particles) (length f.attributes) (length f.rows) bodies ≡ f
    read_bodies_lem =
        rw (
          drop_at (each definition_bytes f.definitions) from_particles (definition_size * length f.definitions) length_definitions,
          drop_at (each particle_bytes f.particles) from_attributes (particle_size * length f.particles) length_particles,
          drop_at (each (attribute_bytes w) f.attributes) row_body (attribute_size w * length f.attributes) length_attributes,
        )
        (λ i.
        record {
          version = f.version;
          next = f.next;
          definitions = read_each read_definition definition_bytes definition_size GoodFlatDefinition length_definition read_definition_lem f.definitions from_particles g.definitions i;
          particles = read_each read_particle particle_bytes particle_size (λ p. Unit {0}) length_particle (λ p h. refl) f.particles from_attributes (every_any f.particles) i;
          attributes = read_each read_attribute (attribute_bytes w) (attribute_size w) (GoodFlatAttribute w) (length_attribute w) (read_attribute_lem w) f.attributes row_body g.attributes i;
          rows = (ap (λ (z : Bytes). read_many read_row (row_size w) (length f.rows) z) (sym (append-nil row_body))
              ∙ read_each read_row (row_bytes w) (row_size w) (GoodFlatRow w) (length_row w) (read_row_lem w) f.rows [] g.rows)
              i;
        })

    -- the length is what the counts say
    pub sized_bytes : sized w (flat_bytes w f) ≡ true
    sized_bytes =
        eq-eqb (length (flat_bytes w f)) _
        (length_flat_bytes
        ∙ sym
        (λ i.
        header_size
        + (definition_size * unle_le 4 (length f.definitions) g.definition_count i
        + (particle_size * unle_le 4 (length f.particles) g.particle_count i
        + (attribute_size w * unle_le 4 (length f.attributes) g.attribute_count i + row_size w * unle_le 4 (length f.rows) g.row_count i)))))

    -- reading undoes writing
    pub read_bytes : read_flat w (flat_bytes w f) ≡ f
    read_bytes =
        (λ i.
        read_bodies w (unle_le 4 f.version g.version i) (unle_le 4 f.next g.next i) (unle_le 4 (length f.definitions) g.definition_count i)
        (unle_le 4 (length f.particles) g.particle_count i)
        (unle_le 4 (length f.attributes) g.attribute_count i) (unle_le 4 (length f.rows) g.row_count i) bodies)
        ∙ read_bodies_lem

-- ---- numbers below 256
pub record Small (bs : Bytes) : Type 0 where
  pub small : Every (λ b. b < 256) bs

small_nil : Small []
small_nil = record { small = tt }

small_cons : {x : ℕ} {xs : Bytes} → x < 256 → Small xs → Small (x ∷ xs)
small_cons h a = record { small = (h, a.small) }

small_append : {xs ys : Bytes} → Small xs → Small ys → Small (xs ++ ys)
small_append {xs} {ys} a b = record { small = every_append (λ b. b < 256) xs ys a.small b.small }

small_le : (k n : ℕ) → Small (le k n)
small_le zero n = small_nil
small_le (suc k) n = small_cons (mod-lt n (lit< tt)) (small_le k (n / 256))

small_field : (w : ℕ) (v : Bytes) → Small v → Small (field w v)
small_field zero v a = small_nil
small_field (suc w) [] a = small_cons (lit< tt) (small_field w [] a)
small_field (suc w) (x ∷ xs) a = small_cons a.small.0 (small_field w xs (record { small = a.small.1 }))

small_each : {A : Type 0} (g : A → Bytes) (xs : List A) → Every (λ x. Small (g x)) xs → Small (each g xs)
small_each g [] a = small_nil
small_each g (x ∷ xs) a = small_append a.0 (small_each g xs a.1)

pub record SmallDefinition (d : FlatDefinition) : Type 0 where
  pub length_name : length d.name < 256
  pub name : Small d.name
  pub kind : d.kind < 256

pub record SmallParticle (p : Deep FlatParticle) : Type 0 where
  pub sort : p.row.sort < 256
  pub quantifier : p.row.quantifier < 256
  pub index : p.row.index < 256
  pub depth : p.depth < 256

pub record SmallAttribute (a : FlatAttribute) : Type 0 where
  pub owner : a.owner < 256
  pub length_name : length a.name < 256
  pub name : Small a.name
  pub sort : a.sort < 256
  pub length_value : length a.value < 256
  pub value : Small a.value

pub record SmallRow (r : Deep FlatRow) : Type 0 where
  pub sort : r.row.sort < 256
  pub depth : r.depth < 256
  pub length_value : length r.row.value < 256
  pub value : Small r.row.value

small_definition : (d : FlatDefinition) → SmallDefinition d → Small (definition_bytes d)
small_definition d h = small_cons h.length_name (small_append (small_field name_width d.name h.name) (small_cons h.kind (small_le 2 d.particles)))

small_particle : (p : Deep FlatParticle) → SmallParticle p → Small (particle_bytes p)
small_particle p h = small_cons h.sort (small_cons h.quantifier (small_cons h.index (small_cons h.depth small_nil)))

small_attribute : (w : ℕ) (a : FlatAttribute) → SmallAttribute a → Small (attribute_bytes w a)
small_attribute w a h =
    small_cons h.owner
    (small_cons h.length_name
    (small_append (small_field name_width a.name h.name) (small_cons h.sort (small_cons h.length_value (small_field w a.value h.value)))))

small_row : (w : ℕ) (r : Deep FlatRow) → SmallRow r → Small (row_bytes w r)
small_row w r h =
    small_cons h.sort
    (small_cons h.depth
    (small_append (small_le 2 r.row.index)
    (small_append (small_le 4 r.row.serial)
    (small_cons h.length_value (small_cons zero_small (small_append (small_field w r.row.value h.value) (small_cons zero_small (small_cons zero_small small_nil))))))))
  where
    zero_small : 0 < 256
    zero_small = lit< tt

-- what the fields of one byte, and those that hold bytes, hold
pub record SmallFlat (f : FlatStore) : Type 0 where
  pub definitions : Every SmallDefinition f.definitions
  pub particles : Every SmallParticle f.particles
  pub attributes : Every SmallAttribute f.attributes
  pub rows : Every SmallRow f.rows

pub small_bytes : (w : ℕ) (f : FlatStore) → SmallFlat f → Small (flat_bytes w f)
small_bytes w f h =
    small_append (small_le 4 f.version)
    (small_append (small_le 4 f.next)
    (small_append (small_entry header_size d)
    (small_append (small_entry (header_size + definition_size * d) p)
    (small_append (small_entry (header_size + definition_size * d + particle_size * p) a)
    (small_append (small_entry (header_size + definition_size * d + particle_size * p + attribute_size w * a) (length f.rows))
    (small_append (small_each definition_bytes f.definitions (every_map SmallDefinition (λ x. Small (definition_bytes x)) f.definitions small_definition h.definitions))
    (small_append (small_each particle_bytes f.particles (every_map SmallParticle (λ x. Small (particle_bytes x)) f.particles small_particle h.particles))
    (small_append (small_each (attribute_bytes w) f.attributes (every_map SmallAttribute (λ x. Small (attribute_bytes w x)) f.attributes (small_attribute w) h.attributes))
    (small_each (row_bytes w) f.rows (every_map SmallRow (λ x. Small (row_bytes w x)) f.rows (small_row w) h.rows))))))))))
  where
    d : ℕ
    d = length f.definitions

    p : ℕ
    p = length f.particles

    a : ℕ
    a = length f.attributes

    small_entry : (offset count : ℕ) → Small (entry offset count)
    small_entry offset count = small_append (small_le 4 offset) (small_le 4 count)

pub each_append : {A : Type 0} (f : A → Bytes) (a b : List A) → each f (a ++ b) ≡ each f a ++ each f b
each_append f [] b = refl
each_append f (x ∷ a) b = ap (λ (z : Bytes). f x ++ z) (each_append f a b) ∙ sym (append_assoc (f x) (each f a) (each f b))

-- records of one size, the first k of them and those after
module _ {A : Type 0} (f : A → Bytes) (size : ℕ) (long : (x : A) → length (f x) ≡ size) where
  one_more : (k : ℕ) (x : A) → size * suc k ≡ length (f x) + size * k
  one_more k x = omega (arith, mul-suc size k, long x)

  pub each_take : (k : ℕ) (xs : List A) → take (size * k) (each f xs) ≡ each f (take k xs)
  each_take zero xs = ap (λ (n : ℕ). take n (each f xs)) (mul-zero size)
  each_take (suc k) [] = take-nil (size * suc k)
  each_take (suc k) (x ∷ xs) =
      ap (λ (n : ℕ). take n (f x ++ each f xs)) (one_more k x) ∙ take-append-add (f x) (each f xs) (size * k) ∙ ap (λ (z : Bytes). f x ++ z) (each_take k xs)

  pub each_drop : (k : ℕ) (xs : List A) → drop (size * k) (each f xs) ≡ each f (drop k xs)
  each_drop zero xs = ap (λ (n : ℕ). drop n (each f xs)) (mul-zero size)
  each_drop (suc k) [] = drop-nil (size * suc k)
  each_drop (suc k) (x ∷ xs) = ap (λ (n : ℕ). drop n (f x ++ each f xs)) (one_more k x) ∙ drop-append-add (f x) (each f xs) (size * k) ∙ each_drop k xs
