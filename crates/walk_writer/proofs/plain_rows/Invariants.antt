use Rattle.walk_writer.proofs.PlainLaws.{Staying}
use Rattle.walk_writer.proofs.plain_rows.Given as goal

-- if the first of the rows that are left stay as they are, so do those before them and these
abbrev pub invariant-loop-m : goal.invariant-loop-m
invariant-loop-m l = Staying l.w l.plan l.rows l.most l.initial.q l.t l.m l.q

abbrev pub decreases-loop-m : goal.decreases-loop-m
decreases-loop-m l = l.m
