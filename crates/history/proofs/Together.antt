-- Rows and lines go together: a change of a store and of its book that keeps them saying the same, the lines in their
-- order, and no serial twice. The plan of a call is one; a change that is no plan gives its own.
use Prim.Native.Nat.{◌≤◌}
use native.Mathlib.Nat.{le_trans}
use Rattle.rules.specs.Store.{Store}
use Rattle.rules.specs.Passing.{GoodSerials}
use Rattle.rules.specs.Change.{Call, after}
use Rattle.rules.specs.Book.{Book, note}
use Rattle.history.specs.History.{Keeps}
use Rattle.history.proofs.Agreement.{Agree, agree_after, good_apart}
use Rattle.history.proofs.Stable.{Once, once_note, next_rises, keeps_note, keeps_trans}

pub record Together (s : Store) (b : Book) (s' : Store) (b' : Book) : Type 0 where
  -- the store and the book that are left say the same: version, next serial, form, rows
  pub agree : Agree s' b'
  -- no serial was given twice, taken rows counted
  pub once : Once b'
  -- the lines are there again, in their order
  pub lines : Keeps b.entries b'.entries
  -- the next serial does not fall
  pub next : b.next ≤ b'.next

-- one change after the other
pub together_then : {s t u : Store} {a b c : Book} → Together s a t b → Together t b u c → Together s a u c
together_then x y = record { agree = y.agree; once = y.once; lines = keeps_trans x.lines y.lines; next = le_trans x.next y.next }

-- the plan of a call
pub plan_together : (c : Call) (s : Store) (b : Book) → GoodSerials s.next s.docs → Agree s b → Once b → Together s b (after c s) (note c b)
plan_together c s b good g o = record { agree = agree_after c s b (good_apart s good) g; once = once_note c b o; lines = keeps_note c b; next = next_rises c b }
