use mathlib.Core.Path.{◌≡◌}
use lib.ListN.{drop}
use Rattle.rules.specs.Print.{escape}
use Rattle.escaping.proofs.is_plain.Given as goal

-- if the rest has no byte that is escaped, the whole has none
abbrev pub invariant-loop-x : goal.invariant-loop-x
invariant-loop-x l = escape (drop l.x-index l.value) ≡ drop l.x-index l.value → escape l.value ≡ l.value
