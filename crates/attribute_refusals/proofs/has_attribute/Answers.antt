-- `attribute_refusals::has_attribute` meets its contract: by the search of Searching in `lookup`: an attribute of the
-- owner with the name ends it with true (`searching_hit`), any other is passed (`searching_on`), and past the last it
-- is false (`searching_end`). What is read is the store's (`own_at`, `attributes_any` of AttributeLaws).
use Rattle.lookup.proofs.Searching.{searching_start, searching_hit, searching_on, searching_end}
use Rattle.attribute_refusals.proofs.AttributeLaws.{attributes_any, own_at}
use Rattle.attribute_refusals.specs.OwnAttributes.{own_named}
use Rattle.rules.specs.Layout.{attribute_size}
use Rattle.rules.specs.Decode.{read_attribute}
use native.Mathlib.Omega.{arith}
use Rattle.attribute_refusals.proofs.has_attribute.Goals as goal

pub loop-i-init : goal.loop-i-init
loop-i-init c =
    let a = c.args in
    (c.attribute_count-count.ensures.small, searching_start read_attribute (attribute_size c.width_in-w.result) (own_named a.owner a.name.now) c.attributes_of-attrs.result.now _)

pub attribute_at-requires : goal.attribute_at-requires
attribute_at-requires c =
    (c.width_in-w.ensures.small, omega (arith, c.loop-i.invariant.0))

pub returns-then-is_own : goal.returns-then-is_own
returns-then-is_own c =
    let a = c.args in
    attributes_any a.store.now a.name.now a.owner c.width_in-w.ensures c.attributes_of-attrs.ensures c.attribute_count-count.ensures
    (searching_hit read_attribute (attribute_size c.width_in-w.result) (own_named a.owner a.name.now) c.attributes_of-attrs.result.now _ _ c.loop-i.invariant.1 (omega arith)
    (own_at a.owner a.name.now c.is_own.ensures c.attribute_at.ensures) c.if-is_own.true)

pub loop-i-preserved : goal.loop-i-preserved
loop-i-preserved c =
    let a = c.args in (
      c.loop-i.invariant.0,
      searching_on read_attribute (attribute_size c.width_in-w.result) (own_named a.owner a.name.now) c.attributes_of-attrs.result.now _ _ c.loop-i.invariant.1 (omega arith)
          (own_at a.owner a.name.now c.is_own.ensures c.attribute_at.ensures) c.if-is_own.false,
    )

pub returns : goal.returns
returns c =
    let a = c.args in
    attributes_any a.store.now a.name.now a.owner c.width_in-w.ensures c.attributes_of-attrs.ensures c.attribute_count-count.ensures
    (searching_end read_attribute (attribute_size c.width_in-w.result) (own_named a.owner a.name.now) c.attributes_of-attrs.result.now _ _ c.loop-i.invariant.1 (omega arith))
