use Rattle.circle_check.specs.Members.{members_in}
use Rattle.circle_check.proofs.RoundLaws.{Rounds}
use Rattle.circle_check.proofs.heights_of.Given as goal

-- The loop's invariant: after h rounds, for each k up to h, a definition has a height of at most k if and only if every
-- chain of members from it ends within k definitions.
abbrev pub invariant-loop-h : goal.invariant-loop-h
invariant-loop-h l = Rounds l.n (members_in l.defs l.parts) l.of l.h
