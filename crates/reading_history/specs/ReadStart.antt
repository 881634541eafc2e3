-- W2: 'Histories may start from a store so read as well as from a fresh one; its rows then count as made by the
-- reading, and the book starts with the form, rows and next serial that these rules give for the text.' A reading
-- starts a history and does not continue one: what the box held before is forgotten, and no book goes on over it.
use Rattle.std.specs.Prelude.{ℕ, ◌+◌, ◌≤◌, ◌<◌, ◌≡◌, ◌↔◌, ◌⊎◌, length}
use mathlib.Core.List.{List, map, Memᴰ}
use Rattle.rules.specs.Bytes.{Bytes}
use Rattle.rules.specs.Store.{Store}
use Rattle.rules.specs.Layout.{encode}
use Rattle.rules.specs.Lines.{Line, lines}
use Rattle.rules.specs.Change.{number}
use Rattle.rules.specs.Book.{stands, Book}
use Rattle.rules.specs.Run.{Asked, Moment, start, run}
use Rattle.history.specs.History.{serials_in, MadeBy, TakenBy, SomeCall, Demand3}
use Rattle.reading_rules.specs.Canonical.{canonical_definition, unnumbered, canonical}
use Rattle.reading_rules.specs.Reading.{Prints}

-- The book of a text, told of a store that prints it: every store that does gives the same one. It reads no bytes.
abbrev pub read_book : Store → Book
read_book s =
    record {
      version = s.version;
      -- 'the next serial one more than the number of rows'
      next = 1 + length (lines 0 s.docs);
      -- 'definitions in order', 'fill `-` for REQUIRED', 'an empty COMPLEX read as EMPTY, and a one-member group read
      -- as LIST'
      form = map canonical_definition s.form;
      -- 'serials from 1 in document order': every row of the text is a line, none is taken
      entries = map (λ (l : Line). stands l) (lines 0 (number 1 (unnumbered s.docs)));
    }

-- 'Histories may start from a store so read': the store that reading builds for the text, and the text's book
pub record ReadStart (version : ℕ) (txt : Bytes) (from : Moment) : Type 0 where
  -- a store that passes and prints the text
  pub printer : Store
  pub prints : Prints version printer txt
  pub store : from.store ≡ encode (canonical printer)
  -- 'the book starts with the form, rows and next serial that these rules give for the text'
  pub book : from.book ≡ read_book printer

-- 'as well as from a fresh one'
abbrev pub HistoryStart : ℕ → Moment → Type 0
HistoryStart version from = (from ≡ start) ⊎ ((txt : Bytes) × ReadStart version txt from)

-- 'its rows then count as made by the reading'
abbrev pub MadeByReading : ℕ → Moment → Type 0
MadeByReading k from = Memᴰ k (serials_in from.store)

-- Demand 3 of a history that starts with a reading, and of any calls that come later
pub record Demand3OfReading (version : ℕ) (txt : Bytes) (from : Moment) (history later : List Asked) : Type 0 where
  pub begins : ReadStart version txt from
  -- the rows that the reading made: from serial 1 on, up to the next serial that the book starts with
  pub made : (k : ℕ) → MadeByReading k from ↔ ((1 ≤ k) × (k < from.book.next))
  -- 'A row is there exactly when' the reading or 'an accepted change made it and no later accepted one took it by the
  -- taking rule'
  pub there : (k : ℕ)
      → Memᴰ k (serials_in (run history from).store) ↔ ((MadeByReading k from ⊎ SomeCall (MadeBy k) history from) × (SomeCall (TakenBy k) history from → ⊥))
  -- and all else that Demand 3 says
  pub demand : Demand3 from history later
