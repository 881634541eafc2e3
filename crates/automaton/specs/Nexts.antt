-- The facts of a part of a model and a last child, with a set of names where the rules have the truth of one name.
use Rattle.std.specs.Prelude.{ℕ, Bool}
use Rattle.rules.specs.declared.Facts.{Facts}
use Rattle.automaton.specs.declared.Nexts.{Nexts}

-- what r says of the name y, where `has` says which names a set has
abbrev pub told : {S : Type 0} → (S → ℕ → Bool) → Nexts S → ℕ → Facts
told has r y = record { nothing = r.nothing; first = has r.first y; last = r.last; follow = has r.follow y }
