-- `definition_removal::put_attributes` meets its contract: the loop's invariant holds at first (`going_start` of Again)
-- and after each attribute (`going_on`), and where none is left all are written (`going_end`); the length of a record
-- is bounded (`attribute_short`), so that the places are in range.
use Rattle.definition_removal.proofs.Again.{going_start, going_on, going_end, attribute_short}
use Rattle.definition_removal.specs.Bodies.{lowered, attribute_record}
use Rattle.rules.specs.Layout.{attribute_size}
use lib.ListN.{length, drop, length-take}
use mathlib.Core.Path.{ap}
use native.Mathlib.Omega.{arith}
use Prim.Native.Nat.{suc, ◌*◌}
use Rattle.definition_removal.proofs.put_attributes.Goals as goal

pub loop-i-init : goal.loop-i-init
loop-i-init c =
    going_start (attribute_record (lowered (suc c.args.definition) 1)) (attribute_size c.args.w) c.args.body.now c.args.count

pub put_attribute-at-requires : goal.put_attribute-at-requires
put_attribute-at-requires c =
    let a = c.args in (
      c.requires.0,
      c.requires.1,
      omega (arith, ap length c.attribute_at.ensures, length-take (attribute_size a.w) (drop (attribute_size a.w * c.loop-i.i) a.body.now)),
      omega (arith, c.loop-i.invariant.small, c.requires),
    )

pub loop-i-preserved : goal.loop-i-preserved
loop-i-preserved c =
    let a = c.args in
    going_on (attribute_record (lowered (suc a.definition) 1)) (attribute_size a.w) a.body.now a.count c.loop-i.invariant _ (omega arith)
    c.attribute_at.ensures c.put_attribute-at.ensures
    (attribute_short (lowered (suc a.definition) 1) a.w _ c.requires.0
    (omega (arith, ap length c.attribute_at.ensures, length-take (attribute_size a.w) (drop (attribute_size a.w * c.loop-i.i) a.body.now))))

pub returns : goal.returns
returns c =
    let a = c.args in
    going_end (attribute_record (lowered (suc a.definition) 1)) (attribute_size a.w) a.body.now a.count c.loop-i.invariant (omega arith)
