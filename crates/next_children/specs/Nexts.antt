-- The facts of a model and a last child, with sets where the rules have the truth of one next child.
use Rattle.std.specs.Prelude.{◌≡◌, ℕ, ◌<◌}
use Rattle.rules.specs.declared.Facts.{Facts}
use Rattle.sets.specs.Sets.{has}
use Rattle.automaton.specs.declared.Nexts.{Nexts}

-- r says of each next child y below 64 what the facts f y say
pub record Told (r : Nexts ℕ) (f : ℕ → Facts) : Type 0 where
  pub nothing_is : (y : ℕ) → r.nothing ≡ (f y).nothing
  pub first_is : (y : ℕ) → y < 64 → has r.first y ≡ (f y).first
  pub last_is : (y : ℕ) → r.last ≡ (f y).last
  pub follow_is : (y : ℕ) → y < 64 → has r.follow y ≡ (f y).follow
