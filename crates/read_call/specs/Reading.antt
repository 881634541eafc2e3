-- What the stages of the call hand on.
use Rattle.std.specs.Prelude.{ℕ, ◌≤◌, ◌≡◌, true, ◌&&◌, length, Option, is_some, IfSome}
use Rattle.rules.specs.Bytes.{Bytes}
use Rattle.rules.specs.WellFormed.{is_there}
use Rattle.rules.specs.Passing.{passes}
use Rattle.printing.specs.Texts.{text_of}
use Rattle.form_front.specs.Front.{front_stands}
use Rattle.document_row_writer.specs.Putting.{rows_or}
use Rattle.document_reading.specs.Judging.{rows_behind}
use Rattle.text_reading.specs.Stages.{joined_bytes}

-- a form that passes and is the front of a text: how long it is there
pub record Confirmed (bs txt : Bytes) (r : Option ℕ) : Type 0 where
  pub is : is_some r ≡ (passes bs && front_stands bs txt)
  pub size : IfSome r (λ n. n ≡ length (text_of bs))

-- the rows are there, n of them
pub record RowsThere (bs rest : Bytes) (n : ℕ) : Type 0 where
  pub there : is_there (rows_behind bs rest) ≡ true
  pub many : n ≡ length (rows_or (rows_behind bs rest))
  pub few : n ≤ 4096

-- the store of both
abbrev pub documents_stored : Bytes → Bytes → Bytes
documents_stored bs rest = joined_bytes bs (rows_or (rows_behind bs rest))
