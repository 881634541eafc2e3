-- The rows of a tree body that are lent, and what a byte string's header and body say of them.
use Rattle.std.specs.Prelude.{◌≡◌}
use Rattle.rules.specs.Bytes.{Bytes}
use Rattle.rules.specs.Decode.{row_count}
use Rattle.layout.specs.declared.rows.Rows.{Rows}
use Rattle.layout.specs.Bodies.{width_of, tree_rows_in}

-- the rows that a byte string says, whether it passes or not
pub record RowsIn (bs : Bytes) (r : Rows) : Type 0 where
  pub width : r.width ≡ width_of bs
  pub bytes : r.bytes.now ≡ tree_rows_in bs
  pub count : r.count ≡ row_count bs
