-- A model's line of the table.
use Rattle.std.specs.Prelude.{◌≡◌, ◌&&◌, ℕ, suc, ◌<◌, ◌≤◌, ltb, get_or}
use Rattle.rules.specs.Model.{Members}
use Rattle.sets.specs.Sets.{has}
use Rattle.model.specs.Steps.{steps, finishes}
use Rattle.next_children.specs.declared.Line.{Line}

-- For each last child below n, and none (0: none, else 1 and its index):
-- those that may come next, and whether no child is owed.
pub record NextsLine (n : ℕ) (ms : Members ℕ) (l : Line) : Type 0 where
  pub next_is : (last y : ℕ) → last ≤ n → y < 64 → has (get_or l.after last 0) y ≡ steps ms last y
  pub ends_is : (x : ℕ) → x < n → has l.lasts x ≡ finishes ms (suc x)
  pub nothing_is : l.nothing ≡ finishes ms 0

-- the same of none and of the first x children alone, where the set of those among them after which no child is owed is
-- not in it yet
pub record LineLaid (ms : Members ℕ) (x lasts : ℕ) (l : Line) : Type 0 where
  pub next_is : (last y : ℕ) → last ≤ x → y < 64 → has (get_or l.after last 0) y ≡ steps ms last y
  pub ends_is : (last : ℕ) → last < 64 → has lasts last ≡ (ltb last x && finishes ms (suc last))
  pub nothing_is : l.nothing ≡ finishes ms 0
