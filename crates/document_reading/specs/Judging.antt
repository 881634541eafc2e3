-- The rows that the documents of a text say, judged.
use Rattle.std.specs.Prelude.{ℕ, ◌+◌, ◌≡◌, Bool, false, ◌&&◌, List, leb, length}
use Rattle.std.specs.Prelude as code
use Rattle.std.specs.Prelude.{is_some, IfSome}
use Rattle.std.proofs.Math.Option.{Option, none, some}
use Rattle.rules.specs.Bytes.{Bytes}
use Rattle.rules.specs.Preorder.{Deep}
use Rattle.rules.specs.Layout.{FlatRow, row_bytes, each}
use Rattle.layout.specs.Bodies.{width_of}
use Rattle.row_step.specs.Steps.{Before, walk, state_ends}
use Rattle.row_check.specs.Verdict.{verdict}
use Rattle.row_check.specs.Walking.{before_read}
use Rattle.document_row_writer.specs.Putting.{documents_in, rows_or}

-- the verdict on rows that come after m others, from a state on: with those they are no more than a store has, and each
-- may come
abbrev pub fit_from : Before → ℕ → Bytes → Option (List (Deep FlatRow)) → Bool
fit_from b m s none = false
fit_from b m s (some xs) = leb (m + length xs) 4096 && state_ends b.form (walk b (length xs) (each (row_bytes b.width) xs) (some s))

-- THE VERDICT on the rows of documents
abbrev pub rows_fit : Before → Option (List (Deep FlatRow)) → Bool
rows_fit b none = false
rows_fit b (some xs) = leb (length xs) 4096 && verdict b (length xs) (each (row_bytes b.width) xs)

-- the verdict: how many rows there are, if it is good
pub record Judges (b : Before) (rows : Option (List (Deep FlatRow))) (r : code.Option ℕ) : Type 0 where
  pub is : is_some r ≡ rows_fit b rows
  pub counts : IfSome r (λ n. n ≡ length (rows_or rows))

-- the rows of the documents `rest` by the form of the store `bs`
abbrev pub rows_behind : Bytes → Bytes → Option (List (Deep FlatRow))
rows_behind bs rest = documents_in (width_of bs) bs rest

-- the documents stand, and are so many rows
abbrev pub Stand : Bytes → Bytes → code.Option ℕ → Type 0
Stand bs rest r = Judges (before_read bs) (rows_behind bs rest) r
