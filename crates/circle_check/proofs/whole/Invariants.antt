use Rattle.circle_check.proofs.RoundLaws.{Passed}
use Rattle.circle_check.proofs.whole.Given as goal

-- The loop's invariant: the first i definitions each have a height.
abbrev pub invariant-loop-i : goal.invariant-loop-i
invariant-loop-i l = Passed l.heights l.n l.i
