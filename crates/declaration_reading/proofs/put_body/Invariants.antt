use Rattle.declaration_reading.proofs.BodyLaws.{Writing}
use Rattle.declaration_reading.proofs.put_body.Given as goal

-- once what is left is written, all is, and it can be written
abbrev pub invariant-loop-line : goal.invariant-loop-line
invariant-loop-line l = Writing l.body l.defs l.text l.initial.out l.start l.out l.at l.owners l.line-iterator.0.now
