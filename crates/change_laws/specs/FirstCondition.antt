-- The number that a change is refused with.
use Rattle.std.specs.Prelude.{ℕ, ◌≡◌, List}
use Rattle.rules.specs.Refusal.{Condition, first}

-- n is the number of the first condition that holds, 0 if none does
pub record Gives (n : ℕ) (cs : List Condition) : Type 0 where
  pub is : n ≡ first cs
