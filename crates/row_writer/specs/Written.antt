-- What a writer of rows leaves: where they all fit the rows with their serials,
-- one after the other; and always how many more may be written.
use Rattle.std.specs.Prelude.{ℕ, zero, suc, ◌+◌, ◌-◌, ◌*◌, ◌<◌, ◌≤◌, ◌≡◌, true, false, List, [], ◌∷◌, eqb, length, take, drop}
use Rattle.rules.specs.Bytes.{Bytes}
use Rattle.rules.specs.Preorder.{Deep}
use Rattle.rules.specs.Layout.{FlatRow, row_size, row_bytes, each}
use Rattle.rules.specs.Decode.{read_row}
use Rattle.codec.specs.Laid.{Laid}
use Rattle.layout.specs.RowBytes.{row_of}
use Rattle.row_writer.specs.declared.Cursor.{Cursor}

-- 'New rows get serials in document order': as `is_new_row`, `new_rows`, `given` and
-- `number` of the rules, on rows in a list; a new row has serial 0
abbrev pub is_new_row : Deep FlatRow → ℕ
is_new_row x = elim (eqb x.row.serial 0) [ true ↦ 1 | false ↦ 0 ]

abbrev pub new_in : List (Deep FlatRow) → ℕ
new_in [] = 0
new_in (x ∷ xs) = is_new_row x + new_in xs

abbrev pub with_serial : ℕ → Deep FlatRow → Deep FlatRow
with_serial n x =
    record { depth = x.depth; row = record { sort = x.row.sort; index = x.row.index; serial = elim (eqb x.row.serial 0) [ true ↦ n | false ↦ x.row.serial ]; value = x.row.value } }

abbrev pub numbered : ℕ → List (Deep FlatRow) → List (Deep FlatRow)
numbered n [] = []
numbered n (x ∷ xs) = with_serial n x ∷ numbered (n + is_new_row x) xs

-- the bytes of rows, the new ones with serials from n on
unfoldable pub rows_bytes : ℕ → ℕ → List (Deep FlatRow) → Bytes
rows_bytes w n xs = each (row_bytes w) (numbered n xs)

-- there is room in the numbers for all that may be written; a clause, and no ghost field of Cursor: it speaks of the
-- width too
pub record Room (w : ℕ) (c : Cursor) : Type 0 where
  pub places : c.at + row_size w * c.left < 4611686018427387904
  pub serials : c.serial + c.left < 4611686018427387904

-- the rows xs were written from the cursor c on, all of them
pub record Fitted (w : ℕ) (xs : List (Deep FlatRow)) (c : Cursor) (out : Bytes) (r : Cursor) (out' : Bytes) : Type 0 where
  pub serial : r.serial ≡ c.serial + new_in xs
  pub laid : Laid (rows_bytes w c.serial xs) out c.at r.at out'

-- A writer of the rows xs was handed the cursor c and left the cursor r. Where not all of them may be written, they are
-- counted and nothing is said of what was laid.
pub record Written (w : ℕ) (xs : List (Deep FlatRow)) (c : Cursor) (out : Bytes) (r : Cursor) (out' : Bytes) : Type 0 where
  pub left : r.left ≡ c.left - length xs
  pub fitted : length xs ≤ c.left → Fitted w xs c out r out'
  pub room : Room w c → Room w r
  pub long : length out' ≡ length out

-- ---- single rows
-- a new row has no serial yet
abbrev pub new_row : ℕ → ℕ → ℕ → Bytes → Deep FlatRow
new_row sort depth index value = row_of sort depth index 0 value

-- the bytes are those of a row that has a serial; a clause: rows are lent as bytes, of which there is no type
pub record OldRow (w : ℕ) (row : Bytes) : Type 0 where
  pub written : row_bytes w (read_row row) ≡ row
  pub old : 1 ≤ (read_row row).row.serial

-- count of them, one after the other
unfoldable pub OldRows : ℕ → ℕ → Bytes → Type 0
OldRows w zero bs = Unit
OldRows w (suc count) bs = OldRow w (take (row_size w) bs) × OldRows w count (drop (row_size w) bs)
