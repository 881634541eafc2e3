use Rattle.model_scan.proofs.ModelLaws.{Measuring}
use Rattle.model_scan.proofs.measure_model.Given as goal

-- with what is left, the measures are those of the whole
abbrev pub invariant-loop-x : goal.invariant-loop-x
invariant-loop-x l = Measuring l.text l.depth l.inside l.count l.shallow l.x-index
