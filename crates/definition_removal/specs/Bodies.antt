-- The bodies of a store without one of its definitions.
use Rattle.std.specs.Prelude.{ℕ, zero, suc, ◌+◌, ◌-◌, ◌<◌, ◌≤◌, ◌≡◌, Bool, true, false, ◌&&◌, List, [], ◌∷◌, ◌++◌, map, eqb, leb, ltb, length, take, drop}
use Rattle.rules.specs.Bytes.{Bytes}
use Rattle.rules.specs.Preorder.{Deep}
use Rattle.rules.specs.Layout.{FlatDefinition, FlatParticle, FlatAttribute, FlatRow, FlatStore}
use Rattle.rules.specs.Decode.{number_at, read_particle, read_attribute, definition_count}
use Rattle.rules.specs.Passing.{passes}
use Rattle.layout.specs.Bodies.{width_of}
use Rattle.layout.specs.RecordBytes.{indexed_bytes, owned_bytes}
use Rattle.layout.specs.Header.{headed}
use Rattle.lookup.specs.Bodies.{bodies_of}
use Rattle.definition_writer.specs.Bodies.{member_moved, moved_particle, moved_row}
use Rattle.layout.specs.Fields.{next_at}
use Rattle.std.specs.declared.ops.Range.{Range}

-- ---- what is left
-- `less` entries before number `from` go: the numbers from there on fall
abbrev pub lowered : ℕ → ℕ → ℕ → ℕ
lowered from less j = elim (leb from j) [ true ↦ j - less | false ↦ j ]

-- a list without n entries from number a on
unfoldable pub cut_out : {A : Type 0} → ℕ → ℕ → List A → List A
cut_out a n xs = take a xs ++ drop (a + n) xs

-- how many particles the first i definitions have
unfoldable pub particles_up_to : ℕ → List FlatDefinition → ℕ
particles_up_to zero ds = 0
particles_up_to (suc i) [] = 0
particles_up_to (suc i) (d ∷ ds) = d.particles + particles_up_to i ds

-- how many attributes the first i definitions have
abbrev pub one_below : ℕ → FlatAttribute → ℕ
one_below i a = elim (ltb a.owner i) [ true ↦ 1 | false ↦ 0 ]

unfoldable pub attributes_up_to : ℕ → List FlatAttribute → ℕ
attributes_up_to i [] = 0
attributes_up_to i (a ∷ cs) = one_below i a + attributes_up_to i cs

unfoldable pub moved_attribute : (ℕ → ℕ) → FlatAttribute → FlatAttribute
moved_attribute g a = record { owner = g a.owner; name = a.name; sort = a.sort; value = a.value }

unfoldable pub destroyed : ℕ → FlatStore → FlatStore
destroyed i f =
    let g : ℕ → ℕ = lowered (suc i) 1 in
    let p : ℕ = particles_up_to i f.definitions in
    let q : ℕ = particles_up_to (suc i) f.definitions in
    let a : ℕ = attributes_up_to i f.attributes in
    let b : ℕ = attributes_up_to (suc i) f.attributes in
    record {
      version = f.version;
      next = f.next;
      definitions = cut_out i 1 f.definitions;
      particles = map (moved_particle g) (cut_out p (q - p) f.particles);
      attributes = map (moved_attribute g) (cut_out a (b - a) f.attributes);
      rows = map (moved_row g (lowered b (b - a))) f.rows;
    }

-- a model has definition i; a document is one of it
abbrev pub is_member : ℕ → Deep FlatParticle → Bool
is_member i p = eqb p.row.sort 0 && eqb p.row.index i

abbrev pub is_root : ℕ → Deep FlatRow → Bool
is_root i r = eqb r.depth 0 && (eqb r.row.sort 1 && eqb r.row.index i)

-- ---- records written again
-- each of `count` records of `size` bytes, written as g of it
unfoldable pub each_record : (Bytes → Bytes) → ℕ → ℕ → Bytes → Bytes
each_record g size zero bs = []
each_record g size (suc count) bs = g (take size bs) ++ each_record g size count (drop size bs)

unfoldable pub particle_record : (ℕ → ℕ) → Bytes → Bytes
particle_record g rec = indexed_bytes (member_moved g (read_particle rec).row.sort (read_particle rec).row.index) rec

unfoldable pub attribute_record : (ℕ → ℕ) → Bytes → Bytes
attribute_record g rec = owned_bytes (g (read_attribute rec).owner) rec

-- r is the number `count`, which is at most `all`
pub record CountWithin (count all r : ℕ) : Type 0 where
  pub is : r ≡ count
  pub most : r ≤ all

-- the records of definition i in a body of `all`, where the first k definitions have P k of them
pub record Between (P : ℕ → ℕ) (i all : ℕ) (r : Range ℕ) : Type 0 where
  pub first : CountWithin (P i) all r.start
  pub past : CountWithin (P (suc i)) all r.end
  pub order : r.start ≤ r.end

-- definition i of a store that passes
pub record Defined (bs : Bytes) (i : ℕ) : Type 0 where
  pub good : passes bs ≡ true
  pub there : i < definition_count bs

-- the header of what is left
abbrev pub header_left : ℕ → Bytes → Bytes
header_left i bs =
    let f : FlatStore = destroyed i (bodies_of bs) in
    headed (width_of bs) (number_at next_at 4 bs) (length f.definitions) (length f.particles) (length f.attributes) (length f.rows) bs
