-- A history of calls as a box makes them, the first of which is read_text: the text and the buffer that it was given,
-- what it handed back, and the store that the next call reads.
use Rattle.std.specs.Prelude.{ℕ, ◌≡◌, List, take}
use Rattle.rules.specs.Bytes.{Bytes}
use Rattle.rules.specs.Run.{Asked, Moment}
use Rattle.history.specs.Calls.{Made, history_of, OfTheBox}
use Rattle.reading_history.specs.ReadStart.{Demand3OfReading}
use Rattle.reading_rules.specs.Reading.{ReadPromise}

-- the call read_text, and what it handed back and left in the buffer
pub record MadeReading : Type 0 where
  pub text : Bytes
  pub out : Bytes
  pub number : ℕ
  pub len : ℕ
  pub left : Bytes

-- it keeps its promise
abbrev pub ReadingPromised : ℕ → MadeReading → Type 0
ReadingPromised version r = ReadPromise version r.text r.out r.number r.len r.left

-- the store that the next call reads: what was written; only a call that handed back 0 starts a history
abbrev pub store_read : MadeReading → Bytes
store_read r = take r.len r.left

-- what holds of the box after a reading and calls `ms` that came after it
pub record OfTheReading (version : ℕ) (r : MadeReading) (ms : List Made) (later : List Asked) : Type 0 where
  -- the start that the rules give for the text: its store is the one in the box
  pub from : Moment
  pub store : store_read r ≡ from.store
  -- the calls after it go on from there
  pub box : OfTheBox from ms later
  -- and Demand 3 counts the rows of the start as made by the reading
  pub demand : Demand3OfReading version r.text from (history_of ms) later
