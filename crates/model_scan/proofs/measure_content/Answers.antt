-- `model_scan::measure_content` meets its contract: content with a model has its particles (`measured_some` of
-- ContentLaws), any other has none (`measured_none`).
use Rattle.model_scan.proofs.ContentLaws.{is_model, no_model, measured_some, measured_none}
use Rattle.model_scan.proofs.measure_content.Goals as goal

pub returns-then-eq : goal.returns-then-eq
returns-then-eq c =
    measured_some c.args.content.now _ c.declared_kind.ensures _ (is_model _ c.eq.ensures c.if-eq.true) c.after.ensures c.measure_model.ensures

pub returns : goal.returns
returns c =
    measured_none c.args.content.now _ c.declared_kind.ensures (no_model _ c.eq.ensures c.if-eq.false)
