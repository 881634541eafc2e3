-- `attribute_form::attributes_to` meets its contract: the invariant holds before the first attribute (`counting_start`
-- of CountLaws) and after each, by what `is_up_to` answers of it (`counting_on`); past the last, `sum` counts all
-- attributes of the store (`counting_end`).
use native.Mathlib.Omega.{arith}
use Rattle.attribute_form.proofs.CountLaws.{counting_start, counting_on, counting_end}
use Rattle.attribute_form.proofs.attributes_to.Goals as goal

pub loop-i-init : goal.loop-i-init
loop-i-init c =
    counting_start _ c.args.owner _ c.attribute_count-count.ensures.small

pub attribute_at-requires : goal.attribute_at-requires
attribute_at-requires c =
    (c.width_in-w.ensures.small, omega (arith, c.loop-i.invariant.bound))

pub overflow_add-sum : goal.overflow_add-sum
overflow_add-sum c =
    omega (arith, c.loop-i.invariant.small, c.loop-i.invariant.bound, c.is_up_to-sum.ensures.most)

pub loop-i-preserved : goal.loop-i-preserved
loop-i-preserved c =
    counting_on _ c.args.owner _ c.loop-i.invariant (omega arith) c.attribute_at.ensures c.is_up_to-sum.ensures

pub returns : goal.returns
returns c =
    counting_end _ c.args.owner _ c.loop-i.invariant c.args.store.now c.width_in-w.ensures c.attributes_of-attrs.ensures
    c.attribute_count-count.ensures (omega arith)
