-- Demand 3: one statement about every history, from any moment at which the store passes and the book says the same;
-- the fresh store with the empty book is one.
use Rattle.std.specs.Prelude.{ℕ, ◌+◌, ◌*◌, ◌≤◌, ◌<◌, ◌≡◌, true, false, ◌↔◌, ◌⊎◌, leb, length}
use Rattle.std.proofs.Math.Option.{Option, none, some}
use mathlib.Core.List.{List, [], ◌∷◌, ◌++◌, map, Memᴰ}
use Rattle.rules.specs.Bytes.{Bytes}
use Rattle.rules.specs.Model.{Distinct}
use Rattle.rules.specs.Store.{Form, Store}
use Rattle.rules.specs.Layout.{encode}
use Rattle.rules.specs.Decode.{version_in, next_serial}
use Rattle.rules.specs.Passing.{Passes, read_store}
use Rattle.rules.specs.Lines.{Line, lines}
use Rattle.rules.specs.Change.{Call, form_after, new_rows}
use Rattle.rules.specs.Outcome.{outcome}
use Rattle.rules.specs.Book.{Entry, stands, taken, Book, untaken}
use Rattle.rules.specs.Run.{Asked, is_accepted, Moment, step, run}
use Rattle.rules.specs.MadeTakenGiven.{NamedBy, IsTaken, value_after, MakesBelow, rows_made, lines_made}

-- ---- what a byte string holds
abbrev pub lines_in : Option Store → List Line
lines_in none = []
lines_in (some s) = lines 0 s.docs

-- the store's rows, each read as serial, sort, name, parent's serial and value, in document order
abbrev pub rows_in : Bytes → List Line
rows_in bs = lines_in (read_store bs)

abbrev pub form_of : Option Store → Form
form_of none = []
form_of (some s) = s.form

-- the store's form: definitions, models and attributes
abbrev pub form_in : Bytes → Form
form_in bs = form_of (read_store bs)

-- ---- serials
abbrev pub serial_of : Line → ℕ
serial_of l = l.row.serial

abbrev pub line_of : Entry → Line
line_of (stands l) = l
line_of (taken l) = l

-- the serials of lines, taken ones included
abbrev pub entry_serials : List Entry → List ℕ
entry_serials es = map (λ (e : Entry). serial_of (line_of e)) es

-- the serials of all rows ever made
abbrev pub ever_made : Book → List ℕ
ever_made b = entry_serials b.entries

-- the serials of the rows that were taken
abbrev pub taken_serials : List Entry → List ℕ
taken_serials [] = []
taken_serials (stands l ∷ es) = taken_serials es
taken_serials (taken l ∷ es) = serial_of l ∷ taken_serials es

-- the serials of the store's rows, in document order
abbrev pub serials_in : Bytes → List ℕ
serials_in bs = map serial_of (rows_in bs)

-- ---- a moment at which the store passes and the book says the same
pub record GoodMoment (m : Moment) : Type 0 where
  -- 'the DTD is well-formed and every finish list conforms to it'
  pub passing : Passes m.store
  -- 'No serial was given twice', taken rows counted
  pub once : Distinct (ever_made m.book)
  -- each was given: from 1, below the next serial
  pub below : (k : ℕ) → Memᴰ k (ever_made m.book) → (1 ≤ k) × (k < m.book.next)
  -- the book's next serial is the store's
  pub next : next_serial m.store ≡ m.book.next
  -- the book's form is the store's
  pub form : form_in m.store ≡ m.book.form
  -- the book's version is the store's
  pub version : version_in m.store ≡ m.book.version
  -- 'the store's rows, each read as serial, sort, name, parent's serial and value, are exactly the book's untaken
  -- lines, in the book's order'
  pub rows : rows_in m.store ≡ untaken m.book.entries

-- a moment with any store: its rows are the book's lines, none taken
abbrev pub book_of : Store → Book
book_of s = record { version = s.version; next = s.next; form = s.form; entries = map (λ (l : Line). stands l) (lines 0 s.docs) }

abbrev pub moment_of : Store → Moment
moment_of s = record { store = encode s; book = book_of s }

-- ---- from one moment to a later one
-- the same line, but for its value
pub record SameLine (a b : Line) : Type 0 where
  pub parent : a.parent ≡ b.parent
  pub serial : a.row.serial ≡ b.row.serial
  pub sort : a.row.sort ≡ b.row.sort
  pub name : a.row.name ≡ b.row.name

-- A later book has the lines of an earlier one in the same order, with new ones among them: a line that is not taken
-- may get another value or be taken, a taken one stays as it was.
pub data Keeps : List Entry → List Entry → Type 0 where
  none_left : Keeps [] []
  made : {es fs : List Entry} (e : Entry) → Keeps es fs → Keeps es (e ∷ fs)
  kept : {es fs : List Entry} (a b : Line) → SameLine a b → Keeps es fs → Keeps (stands a ∷ es) (stands b ∷ fs)
  took : {es fs : List Entry} (a b : Line) → SameLine a b → Keeps es fs → Keeps (stands a ∷ es) (taken b ∷ fs)
  gone : {es fs : List Entry} (l : Line) → Keeps es fs → Keeps (taken l ∷ es) (taken l ∷ fs)

-- k stands before l in the list
abbrev pub StandsBefore : ℕ → ℕ → List ℕ → Type 0
StandsBefore k l [] = ⊥
StandsBefore k l (j ∷ js) = ((k ≡ j) × Memᴰ l js) ⊎ StandsBefore k l js

-- two serials that are in both lists stand in the same order in both
abbrev pub SameOrder : List ℕ → List ℕ → Type 0
SameOrder ks ls =
    (k l : ℕ) → Memᴰ k ks → Memᴰ k ls → Memᴰ l ks → Memᴰ l ls → StandsBefore k l ks ↔ StandsBefore k l ls

-- ---- what an accepted call does to the book
-- the lines with serials from n on: those made since the next serial was n
unfoldable pub entries_from : ℕ → List Entry → List Entry
entries_from n [] = []
entries_from n (e ∷ es) = elim (leb n (serial_of (line_of e))) [ true ↦ e ∷ entries_from n es | false ↦ entries_from n es ]

-- the lines with serials below n
unfoldable pub entries_below : ℕ → List Entry → List Entry
entries_below n [] = []
entries_below n (e ∷ es) = elim (leb n (serial_of (line_of e))) [ true ↦ entries_below n es | false ↦ e ∷ entries_below n es ]

-- 'The rows it makes become lines, each with the next serial, which then rises by 1'
pub record Makes (c : Call) (b after : Book) : Type 0 where
  -- the serials of the rows below which it makes rows: exactly those that the rules name, each once
  pub parents : List ℕ
  pub each : (u : ℕ) → Memᴰ u parents ↔ MakesBelow c b.version b.form (untaken b.entries) u
  pub one : Distinct parents
  -- the new lines, with sort, name, parent and value, and the next serials in document order; none of them taken
  pub lines : entries_from b.next after.entries ≡ map (λ (l : Line). stands l) (lines_made (rows_made c b.version b.form) b.next parents)
  pub next : after.next ≡ b.next + new_rows (rows_made c b.version b.form) * length parents
  -- all other lines are those that the book had
  pub others : entry_serials (entries_below b.next after.entries) ≡ ever_made b

pub record ByTheRules (c : Call) (b after : Book) : Type 0 where
  -- 'An accepted one changes the form as said above'
  pub form : after.form ≡ form_after c b.form
  -- 'The taking rule marks lines taken': a line that stood is taken exactly when it, or a line above it, is one that
  -- the taking rule names
  pub takes : (l : Line) → Memᴰ l (untaken b.entries)
      → Memᴰ (serial_of l) (taken_serials after.entries) ↔ IsTaken (λ x. NamedBy c b.form (untaken b.entries) x) (untaken b.entries) l
  -- '14, and 16 at the text line, set a value. No other line changes.'
  pub gives : (l m : Line) → Memᴰ l (untaken b.entries) → Memᴰ m (untaken after.entries) → serial_of m ≡ serial_of l → m.row.value ≡ value_after c b.form l
  -- which lines come, and with which values
  pub makes : Makes c b after

-- ---- a whole history
-- the call is accepted at this moment
abbrev pub IsAccepted : Asked → Moment → Type 0
IsAccepted a m = is_accepted (outcome a.call m.store a.room) ≡ true

-- an accepted call made the row with serial k: its line is among those that came with the call
abbrev pub MadeBy : ℕ → Asked → Moment → Type 0
MadeBy k a m = IsAccepted a m × Memᴰ k (entry_serials (entries_from m.book.next (step a m).book.entries))

-- an accepted call took the row with serial k by the taking rule
abbrev pub TakenBy : ℕ → Asked → Moment → Type 0
TakenBy k a m =
    IsAccepted a m
    × ((l : Line) × Memᴰ l (untaken m.book.entries) × (serial_of l ≡ k) × IsTaken (λ x. NamedBy a.call m.book.form (untaken m.book.entries) x) (untaken m.book.entries) l)

-- some call of a history did it
unfoldable pub SomeCall : (Asked → Moment → Type 0) → List Asked → Moment → Type 0
SomeCall Did [] m = ⊥
SomeCall Did (a ∷ history) m = Did a m ⊎ SomeCall Did history (step a m)

-- the line with another value
abbrev pub with_value : Bytes → Line → Line
with_value v l = record { parent = l.parent; row = record { serial = l.row.serial; sort = l.row.sort; name = l.row.name; value = v } }

-- a line after a call: an accepted one may have given it a value
abbrev pub line_after : Asked → Moment → Line → Line
line_after a m l = elim (is_accepted (outcome a.call m.store a.room)) [ true ↦ with_value (value_after a.call m.book.form l) l | false ↦ l ]

-- a line after a history, with the last value that an accepted call gave it
unfoldable pub line_then : List Asked → Moment → Line → Line
line_then [] m l = l
line_then (a ∷ history) m l = line_then history (step a m) (line_after a m l)

-- ---- the statement, of a history from any moment, and of any calls that come later
pub record Demand3 (from : Moment) (history later : List Asked) : Type 0 where
  -- 'After it, the DTD is well-formed and every finish list conforms to it. No serial was given twice. .. the store's
  -- rows .. are exactly the book's untaken lines, in the book's order'
  pub now : GoodMoment (run history from)
  -- 'The next serial never falls'
  pub never_falls : next_serial (run history from).store ≤ next_serial (run (history ++ later) from).store
  -- 'A row is there exactly when an accepted change made it and no later accepted one took it by the taking rule'; at
  -- the start there may be rows, in the fresh store there are none
  pub there : (k : ℕ)
      → Memᴰ k (serials_in (run history from).store) ↔ ((Memᴰ k (serials_in from.store) ⊎ SomeCall (MadeBy k) history from) × (SomeCall (TakenBy k) history from → ⊥))
  -- 'It has the name and parent it was made with and the last value an accepted change gave it': the row at two
  -- moments; the line that it was made with is among `lines` of `makes`
  pub value : (l m : Line) → Memᴰ l (rows_in (run history from).store) → Memᴰ m (rows_in (run (history ++ later) from).store) → serial_of m ≡ serial_of l
      → m ≡ line_then later (run history from) l
  -- 'Two rows that are both there at two moments stand in the same order at both'
  pub order : SameOrder (serials_in (run history from).store) (serials_in (run (history ++ later) from).store)
  -- what an accepted call makes, takes and gives, in the book
  pub accepted : (a : Asked) → IsAccepted a (run history from) → ByTheRules a.call (run history from).book (step a (run history from)).book
  -- a refused call changes nothing
  pub refusal : (a : Asked) → is_accepted (outcome a.call (run history from).store a.room) ≡ false → step a (run history from) ≡ run history from
  -- the later book has each line again, in their order, with its serial, sort, name and parent, taken ones unchanged
  pub lines : Keeps (run history from).book.entries (run (history ++ later) from).book.entries
  -- a row is there exactly when the book has a line of it and has not marked it taken
  pub standing : (k : ℕ)
      → Memᴰ k (serials_in (run history from).store) ↔ (Memᴰ k (ever_made (run history from).book) × (Memᴰ k (taken_serials (run history from).book.entries) → ⊥))
