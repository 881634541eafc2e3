-- The serials of tree rows: no two alike.
use Rattle.std.specs.Prelude.{ℕ, ◌<◌, ◌≡◌, List, map}
use Rattle.rules.specs.Bytes.{Bytes}
use Rattle.rules.specs.Preorder.{Deep}
use Rattle.rules.specs.Layout.{row_size, FlatRow}
use Rattle.rules.specs.Decode.{read_row, read_many}
use Rattle.layout.specs.Bodies.{record_at}

abbrev pub serial_of_deep : Deep FlatRow → ℕ
serial_of_deep r = r.row.serial

-- the serials of the first `count` rows of a body, at a width of a value
unfoldable pub serials_of : ℕ → ℕ → Bytes → List ℕ
serials_of w count rows = map serial_of_deep (read_many read_row (row_size w) count rows)

-- ---- by number
-- the serial of row number k, counted from 0, at a width of a value
unfoldable pub serial_at_row : ℕ → Bytes → ℕ → ℕ
serial_at_row w rows k = serial_of_deep (read_row (record_at (row_size w) k rows))

-- no two of the first n rows have one serial
pub record Apart (w : ℕ) (rows : Bytes) (n : ℕ) : Type 0 where
  pub apart : (i k : ℕ) → i < k → k < n → serial_at_row w rows i ≡ serial_at_row w rows k → ⊥
