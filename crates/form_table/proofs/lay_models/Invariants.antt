use Rattle.form_table.proofs.TableLaws.{Lining}
use Rattle.form_table.proofs.lay_models.Given as goal

-- the lines of the first i definitions are written
abbrev pub invariant-loop-i : goal.invariant-loop-i
invariant-loop-i l = Lining l.form l.i l.initial.table l.table
