use Rattle.serial_check.specs.Trees.{Trees}
use Rattle.serial_check.proofs.serials_differ.Given as goal

-- the first k rows are in their trees
abbrev pub invariant-loop-k : goal.invariant-loop-k
invariant-loop-k l = Trees l.rows.width l.rows.bytes.now l.heads l.below l.k
