-- `attribute_refusals::destroy_attribute_refusal` meets its contract: the one condition of `destroy_attribute` holds
-- where the index is not below the number of attributes, and only there (`destroy_6`, `destroy_0` of AttributeLaws).
use native.Mathlib.Omega.{arith}
use Rattle.store_check.proofs.StoreFacts.{whole}
use Rattle.attribute_refusals.proofs.AttributeLaws.{destroy_6, destroy_0}
use Rattle.attribute_refusals.proofs.destroy_attribute_refusal.Goals as goal

pub returns-then-attribute-attribute_count : goal.returns-then-attribute-attribute_count
returns-then-attribute-attribute_count c =
    (destroy_6 _ (whole _ c.requires) c.attribute_count.ensures c.args.attribute (omega arith)).is

pub returns : goal.returns
returns c =
    (destroy_0 _ (whole _ c.requires) c.attribute_count.ensures c.args.attribute (omega arith)).is
