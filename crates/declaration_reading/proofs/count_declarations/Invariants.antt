use Rattle.declaration_reading.proofs.CountLaws.{Counting}
use Rattle.declaration_reading.proofs.count_declarations.Given as goal

-- with what is left, the counts are those of the whole
abbrev pub invariant-loop-line : goal.invariant-loop-line
invariant-loop-line l = Counting l.text l.definitions l.particles l.attributes l.shallow l.line-iterator.0.now
