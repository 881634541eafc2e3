-- 'History': calls in any order, each reading the store that the last accepted one wrote; and its book.
use Rattle.std.specs.Prelude.{ℕ, Bool, true, false, List, [], ◌∷◌}
use Rattle.rules.specs.Bytes.{Bytes}
use Rattle.rules.specs.Store.{Store, bare}
use Rattle.rules.specs.Layout.{base_version, encode}
use Rattle.rules.specs.Change.{Call}
use Rattle.rules.specs.Outcome.{Outcome, refused, wrote, outcome}
use Rattle.rules.specs.Book.{Book, fresh_book, follow}

-- a call with the length of the buffer that it writes
pub record Asked : Type 0 where
  pub call : Call
  pub room : ℕ

-- 'A fresh store is 40 bytes, next serial 1, counts 0'
abbrev pub empty_store : Store
empty_store = record { version = base_version; next = 1; form = []; docs = bare }

abbrev pub fresh_store : Bytes
fresh_store = encode empty_store

-- the byte string that the next call reads
abbrev pub leaves : Outcome → Bytes → Bytes
leaves (refused n) bs = bs
leaves (wrote w) bs = w

abbrev pub is_accepted : Outcome → Bool
is_accepted (refused n) = false
is_accepted (wrote w) = true

-- 'A moment is the start or a call's end'
pub record Moment : Type 0 where
  pub store : Bytes
  pub book : Book

abbrev pub start : Moment
start = record { store = fresh_store; book = fresh_book }

-- one call: it reads the store that the last accepted one left, and the book is told whether it was accepted
unfoldable pub step : Asked → Moment → Moment
step a m =
    let o : Outcome = outcome a.call m.store a.room in
    record { store = leaves o m.store; book = follow (is_accepted o) a.call m.book }

-- 'History: calls of the sixteen changes in any order, refused ones included'
unfoldable pub run : List Asked → Moment → Moment
run [] m = m
run (a ∷ history) m = run history (step a m)
