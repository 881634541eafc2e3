-- One step of the walk: what comes of a row, and what the walk asks of the store.
use Rattle.std.specs.Prelude.{ℕ, zero, suc, ◌*◌, ◌-◌, ◌<◌, ◌≤◌, ◌≡◌, true, false, ◌&&◌, List, [], ◌++◌, length, take, drop}
use Rattle.rules.specs.Bytes.{Bytes}
use Rattle.rules.specs.Preorder.{Deep}
use Rattle.rules.specs.Layout.{FlatRow, row_size}
use Rattle.rules.specs.Decode.{read_row, read_many}
use Rattle.layout.specs.Bodies.{Width}
use Rattle.layout.specs.declared.Form.{Form}
use Rattle.row_writer.specs.declared.Cursor.{Cursor}
use Rattle.row_writer.specs.Written.{Written, Room, OldRow}
use Rattle.filling.specs.declared.Filling.{Filling}
use Rattle.filling.specs.Parts.{fill_with, Indexed}
use Rattle.row_walk.specs.declared.Plan.{Plan}
use Rattle.row_walk.specs.declared.Open.{Open}
use Rattle.row_walk.specs.declared.Head.{Head}
use Rattle.row_walk.specs.Walk.{is_below_taken, closes, closed, owed, row_depth, emitted, next_open, walked}
use Rattle.row_walk.specs.Step.{row_of_head, Planned, Fair}
use Rattle.walk_writer.specs.declared.Run.{Run}

module _ (p : Plan) (v : Bytes) (fill : ℕ → List (Deep FlatRow)) where
  -- the rows that come of a row, and what is open after it
  unfoldable pub step_rows : Open → Deep FlatRow → List (Deep FlatRow)
  step_rows o x = elim (is_below_taken o x) [ true ↦ [] | false ↦ owed (closes o x && o.due) (fill (row_depth o)) ++ emitted p v fill (closed o x) x ]

  unfoldable pub step_open : Open → Deep FlatRow → Open
  step_open o x = elim (is_below_taken o x) [ true ↦ o | false ↦ next_open p v fill (closed o x) x ]

-- the rows xs were written, and o is open after them
pub record Came (w : ℕ) (xs : List (Deep FlatRow)) (o : Open) (c : Cursor) (out : Bytes) (r : Cursor) (opened : Open) (out' : Bytes) : Type 0 where
  pub written : Written w xs c out r out'
  pub opens : opened ≡ o

-- the filling of a plan at a depth
abbrev pub plan_filling : Form → Plan → Bytes → ℕ → List (Deep FlatRow)
plan_filling F p text d = fill_with F p.filling text d

-- a filling that may stand for another: at each depth it has the same rows
pub record Settled (F : Form) (text : Bytes) (what settled : Filling) : Type 0 where
  pub same : (d : ℕ) → fill_with F settled text d ≡ fill_with F what text d
  pub indexed : Indexed settled

-- ---- how large the numbers are that the walk meets
-- the form, the plan and the text of a call
pub record Ready (F : Form) (txt : Bytes) (p : Plan) : Type 0 where
  pub width : Width F.width
  pub definitions : F.definition_count ≤ 64
  pub attributes : F.attribute_count ≤ 64
  pub text : length txt ≤ F.width
  pub plan : Planned p
  pub filling : Indexed p.filling

-- how deep the open row stands; a clause, and no ghost field of Open: the functions of row_walk take every Open
pub record Near (o : Open) : Type 0 where
  pub below : row_depth o ≤ 81

-- the bytes of an old row; a store that passes has no row deeper than 64
pub record WalkRow (w : ℕ) (row : Bytes) : Type 0 where
  pub old : OldRow w row
  pub depth : (read_row row).depth ≤ 80
  pub index : (read_row row).row.index ≤ 1000

-- h is what was read of it
pub record Seen (w : ℕ) (h : Head) (row : Bytes) : Type 0 where
  pub is : row_of_head h (read_row row).row.value ≡ read_row row
  pub old : OldRow w row
  pub fair : Fair h

-- count rows, one after the other
unfoldable pub WalkRows : ℕ → ℕ → Bytes → Type 0
WalkRows w zero bs = Unit
WalkRows w (suc count) bs = WalkRow w (take (row_size w) bs) × WalkRows w count (drop (row_size w) bs)

-- ---- some rows
-- The first rows of `most`, with o open before them, stay as they are, whatever the value and the filling; and what is
-- open after them.
pub record PlainRows (w : ℕ) (p : Plan) (rows : Bytes) (most : ℕ) (o : Open) (r : Run) : Type 0 where
  pub few : r.count ≤ most
  pub near : Near r.opened
  pub same : (v : Bytes) (fill : ℕ → List (Deep FlatRow)) (xs : List (Deep FlatRow)) → walked p v fill o (read_many read_row (row_size w) r.count rows ++ xs)
      ≡ read_many read_row (row_size w) r.count rows ++ walked p v fill r.opened xs

-- before a row: once what comes of the m rows that are left is written, the whole is; they are rows of an old store,
-- and there is room for what may be written
pub record WalkOn (w : ℕ) (p : Plan) (v : Bytes) (fill : ℕ → List (Deep FlatRow)) (whole : List (Deep FlatRow)) (c : Cursor) (out : Bytes) (t : Bytes) (m : ℕ) (at : Cursor) (o : Open)
    (out' : Bytes) : Type 0 where
  pub goes : (r : Cursor) (out'' : Bytes) → Written w (walked p v fill o (read_many read_row (row_size w) m t)) at out' r out'' → Written w whole c out r out''
  pub near : Near o
  pub room : Room w at
  pub rows : WalkRows w m t
  pub size : row_size w * m ≤ length t
  pub long : length out' ≡ length out

-- what comes of the first rows of m was written, of at least one and of no more than may be written
pub record Advances (w : ℕ) (p : Plan) (v : Bytes) (fill : ℕ → List (Deep FlatRow)) (t : Bytes) (m : ℕ) (o : Open) (c : Cursor) (out : Bytes) (at : Cursor) (r : Run) (out' : Bytes) : Type 0 where
  pub further : 0 < r.count
  pub few : r.count ≤ m
  pub within : r.count ≤ c.left
  pub going : WalkOn w p v fill (walked p v fill o (read_many read_row (row_size w) m t)) c out (drop (row_size w * r.count) t) (m - r.count) at r.opened out'
