-- The bodies of a byte string and the records of a body, at a width of a value.
use Rattle.std.specs.Prelude.{ℕ, ◌+◌, ◌*◌, ◌<◌, ◌≡◌, take, drop}
use Rattle.rules.specs.Bytes.{Bytes}
use Rattle.rules.specs.Layout.{value_width, header_size, definition_size, particle_size, attribute_size, row_size}
use Rattle.rules.specs.Decode.{version_in, definition_count, particle_count, attribute_count, row_count}
use Rattle.layout.specs.declared.Shape.{Shape}
use Rattle.layout.specs.Fields.{row_value_at}

-- all that the code knows of a width: the length of a value fits a byte
abbrev pub Width : ℕ → Type 0
Width w = w < 256

-- n bytes from a place on, as far as the string goes
abbrev pub window_of : ℕ → ℕ → Bytes → Bytes
window_of at n s = take n (drop at s)

-- a product, far from the end of the numbers
pub record Product (size n r : ℕ) : Type 0 where
  pub value : r ≡ size * n
  pub small : r < 281474976710656

-- record number i of a body of records of one size
abbrev pub record_at : ℕ → ℕ → Bytes → Bytes
record_at size i s = window_of (size * i) size s

-- ---- the header
-- the width that a byte string's version says
unfoldable pub width_of : Bytes → ℕ
width_of bs = value_width (version_in bs)

-- r is that width
pub record WidthIn (bs : Bytes) (r : ℕ) : Type 0 where
  pub value : r ≡ width_of bs
  pub small : r < 256

-- r is the number n, which four bytes hold
pub record Number (n r : ℕ) : Type 0 where
  pub value : r ≡ n
  pub small : r < 4294967296

-- counts and width that fit their fields, whatever they were read from
pub record ShapeFits (s : Shape) : Type 0 where
  pub width : s.width < 256
  pub definitions : s.definitions < 4294967296
  pub particles : s.particles < 4294967296
  pub attributes : s.attributes < 4294967296
  pub rows : s.rows < 4294967296

-- what a byte string's header says, whether it passes or not
unfoldable pub shape_of : Bytes → Shape
shape_of bs =
    record {
      version = version_in bs;
      width = width_of bs;
      definitions = definition_count bs;
      particles = particle_count bs;
      attributes = attribute_count bs;
      rows = row_count bs;
    }

pub record ShapeOf (bs : Bytes) (s : Shape) : Type 0 where
  pub is : s ≡ shape_of bs
  pub sized : ShapeFits s

-- ---- where the bodies begin
unfoldable pub attributes_start : Shape → ℕ
attributes_start s = header_size + definition_size * s.definitions + particle_size * s.particles

unfoldable pub rows_start : Shape → ℕ
rows_start s = attributes_start s + attribute_size s.width * s.attributes

-- r is a place, far from the end of the numbers
pub record Place (at r : ℕ) : Type 0 where
  pub value : r ≡ at
  pub small : r < 562949953421312

-- the four bodies
unfoldable pub definition_body : Shape → Bytes → Bytes
definition_body s bs = window_of header_size (definition_size * s.definitions) bs

unfoldable pub particle_body : Shape → Bytes → Bytes
particle_body s bs = window_of (header_size + definition_size * s.definitions) (particle_size * s.particles) bs

unfoldable pub attribute_body : Shape → Bytes → Bytes
attribute_body s bs = window_of (attributes_start s) (attribute_size s.width * s.attributes) bs

unfoldable pub row_body : Shape → Bytes → Bytes
row_body s bs = window_of (rows_start s) (row_size s.width * s.rows) bs

-- the four bodies of a byte string, by what its own header says
abbrev pub definitions_in : Bytes → Bytes
definitions_in bs = definition_body (shape_of bs) bs

abbrev pub particles_in : Bytes → Bytes
particles_in bs = particle_body (shape_of bs) bs

abbrev pub attributes_in : Bytes → Bytes
attributes_in bs = attribute_body (shape_of bs) bs

abbrev pub tree_rows_in : Bytes → Bytes
tree_rows_in bs = row_body (shape_of bs) bs

-- the most bytes of the three bodies of a form: as many records as the ceilings allow, of the widest value of a version
abbrev pub most_form : ℕ
most_form = definition_size * 64 + particle_size * 256 + attribute_size 96 * 64

-- attribute number i of a byte string, at the width that its version says
unfoldable pub attribute_bytes_in : Bytes → ℕ → Bytes
attribute_bytes_in bs i =
    window_of
    (header_size + definition_size * definition_count bs + particle_size * particle_count bs + attribute_size (width_of bs) * i)
    (attribute_size (width_of bs))
    bs

-- r is where the value stands of a row that begins at `start`
pub record ValueAt (start r : ℕ) : Type 0 where
  pub value : r ≡ start + row_value_at
