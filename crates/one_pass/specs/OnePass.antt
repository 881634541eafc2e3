-- Paper 02, W3: 'walk the tree rows once for layout and conformity together; only a test that compares rows' serials or
-- values with each other may walk apart. From the walk's state after any row, of at most 4,096 bytes, the bytes before
-- the tree body and the rows left give the whole walk's answer. The check gives its yes to the same strings as before.'
use Rattle.std.specs.Prelude.{ℕ, ◌+◌, ◌*◌, ◌<◌, ◌≡◌, ◌↔◌, true, false, length, get_or, drop}
use Rattle.std.proofs.Math.Option.{Option, none, some}
use Rattle.rules.specs.Bytes.{Bytes}
use Rattle.rules.specs.Layout.{row_size}
use Rattle.rules.specs.Decode.{row_count}
use Rattle.rules.specs.Passing.{passes}
use Rattle.layout.specs.Bodies.{width_of, tree_rows_in}
use Rattle.records.specs.Records.{header_fits}
use Rattle.row_state.specs.State.{start_state}
use Rattle.row_step.specs.Steps.{walk}
use Rattle.row_check.specs.Verdict.{answer_from}
use Rattle.row_check.specs.Walking.{bytes_before, before_in}
use Rattle.store_check.specs.Check.{FormIn, walk_answer, serials_differ}

-- every one is a byte
pub record AreBytes (s : Bytes) : Type 0 where
  pub each : (i : ℕ) → get_or s i 0 < 256

-- the walk's state after the first m rows; none where one of them may not come
abbrev pub state_after : Bytes → ℕ → Option Bytes
state_after bs m = walk (before_in (bytes_before bs)) m (tree_rows_in bs) (some start_state)

-- the rows left after them
abbrev pub rows_left : Bytes → ℕ → Bytes
rows_left bs m = drop (row_size (width_of bs) * m) (tree_rows_in bs)

pub record OnePass (bs : Bytes) : Type 0 where
  -- 'The check gives its yes to the same strings as before': a header that fits, a form that passes, the answer of the
  -- one walk over the rows, and, apart, that no two rows have one serial
  pub check : (passes bs ≡ true) ↔ ((header_fits (width_of bs) bs ≡ true) × FormIn bs × (walk_answer bs ≡ true) × (serials_differ bs ≡ true))
  -- 'the walk's state after any row, of at most 4,096 bytes': 130 bytes
  pub state : header_fits (width_of bs) bs ≡ true → (m : ℕ) (s : Bytes) → state_after bs m ≡ some s → (length s ≡ 130) × AreBytes s
  -- 'From [it], the bytes before the tree body and the rows left give the whole walk's answer.'
  pub resumes : (m n : ℕ) → m + n ≡ row_count bs → (s : Bytes) → state_after bs m ≡ some s → walk_answer bs ≡ answer_from (before_in (bytes_before bs)) s n (rows_left bs m)
  -- where there is none, a row that may not come has given it
  pub refused : (m n : ℕ) → m + n ≡ row_count bs → state_after bs m ≡ none → walk_answer bs ≡ false
