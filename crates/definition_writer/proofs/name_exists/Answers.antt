-- `definition_writer::name_exists` meets its contract: if record i has the name (`record_named` of Naming), the answer
-- is true (`searching_hit` of Searching), else the records after it decide (`searching_start`, `searching_on`), and
-- past the last it is false (`searching_end`); the records are the store's (`definitions_named`).
use Prim.Native.Nat.{◌-◌}
use native.Mathlib.Omega.{arith}
use Rattle.rules.specs.Layout.{definition_size}
use Rattle.rules.specs.Decode.{read_definition}
use Rattle.lookup.proofs.Searching.{searching_start, searching_hit, searching_on, searching_end}
use Rattle.definition_writer.proofs.Naming.{has_name, definitions_named, record_named}
use Rattle.definition_writer.proofs.name_exists.Goals as goal

pub loop-i-init : goal.loop-i-init
loop-i-init c =
    searching_start read_definition definition_size (has_name c.args.name.now) _ _

pub definition_at-requires : goal.definition_at-requires
definition_at-requires c =
    omega (arith, c.definition_count-count.ensures.small)

pub returns-then-equal : goal.returns-then-equal
returns-then-equal c =
    let n = c.args.name.now in
    let l = c.loop-i in
    definitions_named c.args.store.now n c.definition_count-count.ensures c.definitions_of-defs.ensures
    (searching_hit read_definition definition_size (has_name n) _ _ l.i l.invariant (omega arith)
    (record_named n l.i _ c.definition_at.ensures c.definition_name.ensures c.equal.ensures) c.if-equal.true)

pub loop-i-preserved : goal.loop-i-preserved
loop-i-preserved c =
    let n = c.args.name.now in
    let l = c.loop-i in
    searching_on read_definition definition_size (has_name n) _ _ l.i l.invariant (omega arith)
    (record_named n l.i _ c.definition_at.ensures c.definition_name.ensures c.equal.ensures) c.if-equal.false

pub returns : goal.returns
returns c =
    let n = c.args.name.now in
    let l = c.loop-i in
    definitions_named c.args.store.now n c.definition_count-count.ensures c.definitions_of-defs.ensures
    (searching_end read_definition definition_size (has_name n) _ _ l.i l.invariant (omega arith))
