-- The walk by the bytes before the tree body, and what the code's walk over several rows leaves.
use Rattle.std.specs.Prelude.{ℕ, ◌≤◌, ◌≡◌, Bool, true, take}
use Rattle.std.proofs.Math.Option.{some}
use Rattle.rules.specs.Bytes.{Bytes}
use Rattle.rules.specs.Decode.{number_at, definition_count, attribute_count}
use Rattle.rules.specs.WellFormed.{is_there}
use Rattle.layout.specs.Fields.{next_at}
use Rattle.layout.specs.Bodies.{width_of, shape_of, rows_start}
use Rattle.form_index.specs.Reading.{by_index}
use Rattle.row_state.specs.State.{StateFits}
use Rattle.row_step.specs.Steps.{Before, walk}

-- the bytes before the tree body: the header, the definitions, the particles, the attributes
abbrev pub bytes_before : Bytes → Bytes
bytes_before bs = take (rows_start (shape_of bs)) bs

-- what the walk reads in them, with a next serial of its own
abbrev pub before_with : ℕ → Bytes → Before
before_with next bs = record { width = width_of bs; next = next; form = by_index bs }

-- .. with theirs
abbrev pub before_in : Bytes → Before
before_in bs = before_with (number_at next_at 4 bs) bs

-- .. for rows that are read from a text: their serials are counted from 1, and no more are taken than a store has
abbrev pub before_read : Bytes → Before
before_read bs = before_with 4097 bs

-- they have no more definitions and attributes than a store
pub record FewIn (bs : Bytes) : Type 0 where
  pub definitions : definition_count bs ≤ 64
  pub attributes : attribute_count bs ≤ 64

-- the answer: whether each of `count` rows may come; the state after them, where they may; and the walk may go on
pub record WalkMade (b : Before) (s : Bytes) (count : ℕ) (rows : Bytes) (answer : Bool) (s' : Bytes) : Type 0 where
  pub is : answer ≡ is_there (walk b count rows (some s))
  pub state : answer ≡ true → walk b count rows (some s) ≡ some s'
  pub fits : StateFits s'
