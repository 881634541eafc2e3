-- An automaton for what stands below a row.
use Rattle.std.specs.Prelude.{Bool}

-- What may stand below a row: the state that it opens with, whether a row
-- may come next, the state after it, whether no more is owed.
pub record Automaton (A S : Type 0) : Type 0 where
  pub enter : A → S
  pub may : S → A → Bool
  pub next : S → A → S
  pub ends : S → Bool
