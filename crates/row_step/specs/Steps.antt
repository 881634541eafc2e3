-- The walk over the tree rows (paper 02, W3), a row at a time: what it reads before the tree body, the step that a row
-- makes from one state to the next, and the walk.
use Rattle.std.specs.Prelude.{ℕ, zero, suc, ◌+◌, ◌≡◌, Bool, true, false, ◌&&◌, eqb, leb, ltb, take, drop}
use Rattle.std.proofs.Math.Option.{Option, none, some}
use Rattle.rules.specs.Bytes.{Bytes}
use Rattle.rules.specs.Preorder.{Deep}
use Rattle.rules.specs.Layout.{row_size, FlatRow}
use Rattle.rules.specs.Decode.{read_row}
use Rattle.records.specs.Records.{row_fits, serial_fits}
use Rattle.layout.specs.declared.Form.{Form}
use Rattle.form_index.specs.Indices.{IndexForm}
use Rattle.form_index.specs.Reading.{index_form_of}
use Rattle.next_row.specs.Judge.{judge}
use Rattle.row_state.specs.State.{open_elements, StateFits, level_at, stepped}
use Rattle.open_levels.specs.Open.{open_end, end}

-- what the walk reads in the bytes before the tree body: the width of a value, the next serial, the form
pub record Before : Type 0 where
  pub width : ℕ
  pub next : ℕ
  pub form : IndexForm

-- .. where the form is lent
abbrev pub before_by : ℕ → Form → Before
before_by next f = record { width = f.width; next = next; form = index_form_of f }

-- ---- THE STEP
-- an element's definition is one of `size`, and fewer than 64 elements stand around it: no more can where no definition
-- reaches itself
abbrev pub element_fits : ℕ → Deep FlatRow → Bool
element_fits size x = elim (eqb x.row.sort 1) [ true ↦ ltb x.depth 64 && ltb x.row.index size | false ↦ true ]

-- a row's depth is that of an open level, the levels deeper than its own are owed nothing, and it may come next at its
-- own
abbrev pub comes_next : IndexForm → Bytes → Deep FlatRow → Bool
comes_next f s x = leb x.depth (open_elements s) && (open_end f s (x.depth + 1) && (judge f).may (level_at s x.depth) x.row)

-- a row may come: its fields fit, its serial is from 1 and below the next one, it fits as an element where it is
-- one, and it comes next
unfoldable pub may_step : Before → Bytes → Bytes → Bool
may_step b s row =
    row_fits b.width row
    && ((serial_fits b.next (read_row row).row.serial && element_fits b.form.size (read_row row)) && comes_next b.form s (read_row row))

-- the state after a row, or a refusal
abbrev pub row_step : Before → Bytes → Bytes → Option Bytes
row_step b s row = elim (may_step b s row) [ true ↦ some (stepped s (read_row row)) | false ↦ none ]

-- ---- THE WALK: the state after `count` rows, from a state or a refusal on
unfoldable pub walk : Before → ℕ → Bytes → Option Bytes → Option Bytes
walk b zero bs o = o
walk b (suc count) bs o = walk b count (drop (row_size b.width) bs) (elim o [ some s ↦ row_step b s (take (row_size b.width) bs) | none ↦ none ])

-- a refusal stays, and a state may be an end
abbrev pub state_ends : IndexForm → Option Bytes → Bool
state_ends f none = false
state_ends f (some s) = end f s

-- ---- what the code's step leaves: whether the row may come; the state after it, where it may; and the next step may
-- be made
pub record StepMade (b : Before) (s row : Bytes) (answer : Bool) (s' : Bytes) : Type 0 where
  pub is : answer ≡ may_step b s row
  pub state : answer ≡ true → s' ≡ stepped s (read_row row)
  pub fits : StateFits s'
