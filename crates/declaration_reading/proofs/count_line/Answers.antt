-- `declaration_reading::count_line` meets its contract: the line of an attribute says one (`counted_attribute` of
-- CountLaws), that of a definition one and its particles (`counted_definition`).
use Rattle.declaration_reading.proofs.CountLaws.{counted_attribute, counted_definition}
use Rattle.declaration_reading.proofs.count_line.Goals as goal

pub returns-then-not-starts_with : goal.returns-then-not-starts_with
returns-then-not-starts_with c =
    counted_attribute c.args.line.now _ c.starts_with.ensures c.if-not-starts_with.true

pub returns : goal.returns
returns c =
    counted_definition c.args.line.now _ c.starts_with.ensures c.if-not-starts_with.false _ c.after_declared.ensures
    _ _ c.measure_content-measured.ensures
