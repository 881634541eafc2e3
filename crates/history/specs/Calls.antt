-- A history of calls as a box makes them: the buffer that each was given,
-- what it handed back, and the store that the next one reads.
use Rattle.std.specs.Prelude.{ℕ, ◌≡◌, true, false, List, [], ◌∷◌, map, eqb, length, take}
use Rattle.rules.specs.Bytes.{Bytes}
use Rattle.rules.specs.Change.{Call}
use Rattle.rules.specs.Outcome.{Promise}
use Rattle.rules.specs.Run.{Asked, Moment, run}
use Rattle.history.specs.History.{Demand3}

-- a call, the output buffer that it was given, and what it handed back and left there
pub record Made : Type 0 where
  pub call : Call
  pub out : Bytes
  pub number : ℕ
  pub len : ℕ
  pub left : Bytes

abbrev pub asked_of : Made → Asked
asked_of m = record { call = m.call; room = length m.out }

-- 'Each reads the store the last accepted one wrote': accepted is number 0, and the store is what was written
abbrev pub next : Made → Bytes → Bytes
next m bs = elim (eqb m.number 0) [ true ↦ take m.len m.left | false ↦ bs ]

unfoldable pub store_after : List Made → Bytes → Bytes
store_after [] bs = bs
store_after (m ∷ ms) bs = store_after ms (next m bs)

-- every call keeps its promise, the one of crates/formstore
unfoldable pub Promised : List Made → Bytes → Type 0
Promised [] bs = Unit {0}
Promised (m ∷ ms) bs = Promise m.call bs m.out m.number m.len m.left × Promised ms (next m bs)

abbrev pub history_of : List Made → List Asked
history_of ms = map asked_of ms

-- Demand 3 from a moment, and that it speaks of the store in the box
pub record OfTheBox (from : Moment) (ms : List Made) (later : List Asked) : Type 0 where
  -- the store that the calls leave is the one of the history
  pub store : store_after ms from.store ≡ (run (history_of ms) from).store
  pub demand : Demand3 from (history_of ms) later
