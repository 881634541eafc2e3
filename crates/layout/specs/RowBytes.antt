-- The bytes of a row in parts, and a row with other fields.
use Rattle.std.specs.Prelude.{ℕ, ◌+◌, ◌≡◌, [], ◌∷◌, ◌++◌, length}
use Rattle.rules.specs.Bytes.{Bytes}
use Rattle.rules.specs.Preorder.{Deep}
use Rattle.rules.specs.Layout.{le, field, FlatRow, row_size, row_bytes}
use Rattle.rules.specs.Decode.{read_row}
use Rattle.codec.specs.Laid.{Laid}

-- a row by its fields
abbrev pub row_of : ℕ → ℕ → ℕ → ℕ → Bytes → Deep FlatRow
row_of sort depth index serial value = record { depth = depth; row = record { sort = sort; index = index; serial = serial; value = value } }

-- the bytes before the value's length, and from it on
unfoldable pub row_start : ℕ → ℕ → ℕ → ℕ → Bytes
row_start sort depth index serial = sort ∷ depth ∷ le 2 index ++ le 4 serial

unfoldable pub row_end : ℕ → Bytes → Bytes
row_end w value = length value ∷ 0 ∷ field w value ++ (0 ∷ 0 ∷ [])

-- the row that is read, with another index and value
abbrev pub valued_row : ℕ → Bytes → Bytes → Deep FlatRow
valued_row index value row = row_of (read_row row).row.sort (read_row row).depth index (read_row row).row.serial value

-- .. with another index
abbrev pub reindexed_row : ℕ → Bytes → Deep FlatRow
reindexed_row index row = valued_row index (read_row row).row.value row

-- the bytes are those of the row that is read
pub record WholeRow (w : ℕ) (row : Bytes) : Type 0 where
  pub written : row_bytes w (read_row row) ≡ row

-- the row x was written over out from `at` on
pub record RowLaid (w : ℕ) (x : Deep FlatRow) (out : Bytes) (at r : ℕ) (out' : Bytes) : Type 0 where
  pub laid : Laid (row_bytes w x) out at r out'
  pub next : r ≡ at + row_size w
