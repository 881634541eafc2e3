use Rattle.declaration_scan.specs.Names.{written_names}
use Rattle.model_scan.proofs.PutLaws.{Putting}
use Rattle.model_scan.proofs.put_model.Given as goal

-- once the particles that are left are written, all are
abbrev pub invariant-loop-i : goal.invariant-loop-i
invariant-loop-i l = Putting (written_names l.n l.defs) l.text l.initial.out l.start l.out l.at l.depth l.inside l.i
