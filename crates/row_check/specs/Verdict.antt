-- The verdict of the one pass, and the rows that it judges, read at the width `w` of a value.
use Rattle.std.specs.Prelude.{ℕ, ◌<◌, ◌≤◌, ◌≡◌, Bool, true, List}
use Rattle.std.proofs.Math.Option.{some}
use Rattle.rules.specs.Bytes.{Bytes, all}
use Rattle.rules.specs.Model.{Distinct, names}
use Rattle.rules.specs.Preorder.{Deep}
use Rattle.rules.specs.Layout.{row_size, FlatRow}
use Rattle.rules.specs.Decode.{read_row, read_many}
use Rattle.records.specs.Records.{row_fits, serial_fits, each_fits}
use Rattle.circle_check.specs.Deep.{deep_index}
use Rattle.form_index.specs.Indices.{IndexForm, Documents}
use Rattle.row_state.specs.State.{start_state}
use Rattle.row_step.specs.Steps.{Before, walk, state_ends}

abbrev pub rows_read : ℕ → ℕ → Bytes → List (Deep FlatRow)
rows_read w count bs = read_many read_row (row_size w) count bs

abbrev pub fields_fit : ℕ → ℕ → Bytes → Bool
fields_fit w count bs = each_fits (row_fits w) (row_size w) count bs

-- THE ANSWER of the walk from a state on: a step for each of the `count` rows left, and the end
unfoldable pub answer_from : Before → Bytes → ℕ → Bytes → Bool
answer_from b s count rows = state_ends b.form (walk b count rows (some s))

-- THE VERDICT: the answer of the whole walk, from the start
unfoldable pub verdict : Before → ℕ → Bytes → Bool
verdict b count rows = answer_from b start_state count rows

-- ---- what the verdict says
-- a form within the ceilings, in which no model names an element twice and no chain of members is longer than its
-- definitions are many
pub record SoundForm (f : IndexForm) : Type 0 where
  pub definitions : f.size ≤ 64
  pub attributes : f.attributes ≤ 64
  pub once : (i : ℕ) → i < f.size → Distinct (names (f.model i))
  pub chains : (i : ℕ) → i < f.size → deep_index (λ k. names (f.model k)) f.size f.size i ≡ true

-- the fields of the rows fit, their serials are from 1 and below the next one, and they are those of documents that
-- conform
pub record RowsConform (b : Before) (count : ℕ) (rows : Bytes) : Type 0 where
  pub fields : fields_fit b.width count rows ≡ true
  pub serials : all (λ x. serial_fits b.next x.row.serial) (rows_read b.width count rows) ≡ true
  pub documents : Documents b.form (rows_read b.width count rows)
