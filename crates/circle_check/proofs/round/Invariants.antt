use Rattle.circle_check.proofs.RoundLaws.{Rounding}
use Rattle.circle_check.proofs.round.Given as goal

-- The loop's invariant: the first i definitions have their heights after this round, the others none, and `start` is
-- the first particle of definition i.
abbrev pub invariant-loop-i : goal.invariant-loop-i
invariant-loop-i l = Rounding l.n l.defs l.parts l.h l.old l.new l.start l.i
