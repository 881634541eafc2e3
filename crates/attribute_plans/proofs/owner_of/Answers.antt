-- `attribute_plans::owner_of` meets its contract: the attribute is one of the store's, as is required, so that
-- the record that is read is its own and the owner in it is `owner_at` (`owner_is` of CountLaws in `attribute_form`).
use mathlib.Core.Path.{refl}
use native.Mathlib.Omega.{arith}
use Rattle.attribute_form.proofs.CountLaws.{owner_is}
use Rattle.attribute_plans.proofs.owner_of.Goals as goal

pub attribute_owner_at-requires : goal.attribute_owner_at-requires
attribute_owner_at-requires c =
    (c.width_in-w.ensures.small, omega (arith, c.requires.1))

pub returns : goal.returns
returns c =
    owner_is c.args.store.now c.width_in-w.ensures c.attributes_of-attrs.ensures c.args.attribute c.requires.0
    refl c.attribute_owner_at.ensures
