use Rattle.circle_check.specs.Members.{members_in}
use Rattle.circle_check.proofs.AvoidLaws.{Avoiding}
use Rattle.circle_check.proofs.heights_avoiding.Given as goal

-- The loop's invariant: after these rounds, for each h up to their number, a definition has a height of at most h if
-- and only if every chain of members from it, the target left out, ends within h; the target has none.
abbrev pub invariant-loop-rounds : goal.invariant-loop-rounds
invariant-loop-rounds l = Avoiding l.n (members_in l.defs l.parts) l.target l.of l.rounds
