-- The rows that are lent, by their numbers.
use Rattle.std.specs.Prelude.{ℕ, List}
use Rattle.rules.specs.Preorder.{Deep}
use Rattle.rules.specs.Layout.{row_size, FlatRow}
use Rattle.rules.specs.Decode.{read_row}
use Rattle.layout.specs.declared.rows.Rows.{Rows}
use Rattle.layout.specs.Bodies.{record_at}
use Rattle.lookup.specs.Bodies.{rows_from}

-- those from number i on
abbrev pub rows_coming : Rows → ℕ → List (Deep FlatRow)
rows_coming r i = rows_from r.width r.bytes.now r.count i

-- number i
abbrev pub row_there : Rows → ℕ → Deep FlatRow
row_there r i = read_row (record_at (row_size r.width) i r.bytes.now)
