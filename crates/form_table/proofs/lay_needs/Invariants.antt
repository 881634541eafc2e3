use Rattle.form_table.proofs.TableLaws.{Needing}
use Rattle.form_table.proofs.lay_needs.Given as goal

-- the first j attributes stand in the sets of their owners, and the models' sets as they were
abbrev pub invariant-loop-j : goal.invariant-loop-j
invariant-loop-j l = Needing l.form l.j l.initial.table l.table
