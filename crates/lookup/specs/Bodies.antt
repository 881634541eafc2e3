-- The bodies that a byte string is read as, whether it passes or not, and its tree rows by their numbers.
use Rattle.std.specs.Prelude.{ℕ, ◌+◌, ◌-◌, ◌*◌, ◌<◌, ◌≡◌, List, drop}
use Rattle.rules.specs.Bytes.{Bytes}
use Rattle.rules.specs.Layout.{header_size, definition_size, particle_size, attribute_size, row_size, FlatStore, FlatRow}
use Rattle.layout.specs.Bodies.{width_of, WidthIn, record_at}
use Rattle.rules.specs.Decode.{read_many, definition_count, particle_count, attribute_count, read_flat, read_row}
use Rattle.rules.specs.Preorder.{Deep}

-- the records from number i on, of those up to number `end`
unfoldable pub records_from : {A : Type 0} → (Bytes → A) → ℕ → Bytes → ℕ → ℕ → List A
records_from f size body end i = read_many f size (end - i) (drop (size * i) body)

-- a byte string read at the width that its version says, whether it passes or not
unfoldable pub bodies_of : Bytes → FlatStore
bodies_of bs = read_flat (width_of bs) bs

-- where the tree rows begin
unfoldable pub rows_start_in : Bytes → ℕ
rows_start_in bs = header_size + definition_size * definition_count bs + particle_size * particle_count bs + attribute_size (width_of bs) * attribute_count bs

-- r is that place, which is far from the end of the numbers
pub record RowsBegin (bs : Bytes) (r : ℕ) : Type 0 where
  pub start : r ≡ rows_start_in bs
  pub small : r < 562949953421312

-- the bytes from the tree rows on, and of row number i
unfoldable pub from_rows : Bytes → Bytes
from_rows bs =
    drop (attribute_size (width_of bs) * attribute_count bs) (drop (particle_size * particle_count bs) (drop (definition_size * definition_count bs) (drop header_size bs)))

unfoldable pub row_part : Bytes → ℕ → Bytes
row_part bs i = record_at (row_size (width_of bs)) i (from_rows bs)

-- the width of a value in a byte string, and the bytes from its tree rows on
pub record RowsOf (bs : Bytes) (w : ℕ) (rows : Bytes) : Type 0 where
  pub width : WidthIn bs w
  pub body : rows ≡ from_rows bs

-- r is the place of row number i
pub record RowPlace (bs : Bytes) (i r : ℕ) : Type 0 where
  pub value : r ≡ rows_start_in bs + row_size (width_of bs) * i
  pub small : r < 1125899906842624

-- the rows of the bytes `rows` at a width of a value, from number i on, of those up to number `end`
abbrev pub rows_from : ℕ → Bytes → ℕ → ℕ → List (Deep FlatRow)
rows_from w rows end i = records_from read_row (row_size w) rows end i
