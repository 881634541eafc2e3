use Rattle.row_writer.specs.Written.{Written}
use Rattle.filling.specs.Parts.{required_in}
use Rattle.filling.proofs.put_required.Given as goal

-- the attributes below j are written
abbrev pub invariant-loop-j : goal.invariant-loop-j
invariant-loop-j l = Written l.form.width (required_in l.form l.depth l.i l.j) l.initial.c l.initial.out l.c l.out
