use Rattle.escaping.proofs.Laws.{Escaping}
use Rattle.escaping.proofs.put_escaped.Given as goal

-- once the rest of the value is written, escaped, all of it is
abbrev pub invariant-loop-x : goal.invariant-loop-x
invariant-loop-x l = Escaping l.value l.initial.out l.start l.out l.at l.x-index
