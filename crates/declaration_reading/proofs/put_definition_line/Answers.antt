-- `declaration_reading::put_definition_line` meets its contract: the line of a definition says its name, its kind and
-- the number of its particles (`defines_one` of BodyLaws), which are few (`defines_few`); any other line says none
-- (`defines_none`).
use mathlib.Core.Path.{◌∙◌}
use Rattle.declaration_reading.proofs.BodyLaws.{defines_none, defines_few, defines_one}
use native.Mathlib.Omega.{arith}
use Rattle.declaration_reading.proofs.put_definition_line.Goals as goal

pub returns-then-not-starts_with : goal.returns-then-not-starts_with
returns-then-not-starts_with c =
    defines_none c.args.line.now _ c.starts_with.ensures c.if-not-starts_with.true

pub overflow_cast-measured : goal.overflow_cast-measured
overflow_cast-measured c =
    let few =
    defines_few c.args.line.now _ c.starts_with.ensures c.if-not-starts_with.false _ c.after_declared-content.ensures
    c.measure_content-measured.ensures c.requires.0 in
    omega (arith, few)

pub put_definition-requires : goal.put_definition-requires
put_definition-requires c =
    (c.declared_name-name.ensures.short, c.requires.1)

pub returns : goal.returns
returns c =
    defines_one c.args.line.now _ c.starts_with.ensures c.if-not-starts_with.false _ c.after_declared-content.ensures
    c.declared_name-name.ensures (c.from-kind.ensures ∙ c.declared_kind.ensures) c.measure_content-measured.ensures
    c.put_definition.ensures
