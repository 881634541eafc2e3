-- `definition_refusals::create_limit` meets its contract: from 64 definitions on one more is too many (`at_ceiling` of
-- CreateLimits); below that the store grows by the size of a definition, for which there is no room (`no_room`) or
-- there is (`no_limit`).
use Rattle.definition_refusals.proofs.CreateLimits.{at_ceiling, no_room, no_limit}
use native.Mathlib.Omega.{arith}
use Rattle.definition_refusals.proofs.create_limit.Goals as goal

pub returns-then-definition_count-ge-MAX_DEFINITIONS : goal.returns-then-definition_count-ge-MAX_DEFINITIONS
returns-then-definition_count-ge-MAX_DEFINITIONS c =
    at_ceiling c.args.name.now c.args.kind c.args.store.now c.requires c.args.room
    (omega (arith, c.definition_count.ensures.value))

pub returns-then-store-definition_size : goal.returns-then-store-definition_size
returns-then-store-definition_size c =
    no_room c.args.name.now c.args.kind c.args.store.now c.requires c.args.room
    (omega (arith, c.definition_count.ensures.value)) (omega (arith, c.definition_size.ensures))

pub returns : goal.returns
returns c =
    no_limit c.args.name.now c.args.kind c.args.store.now c.requires c.args.room
    (omega (arith, c.definition_count.ensures.value)) (omega (arith, c.definition_size.ensures))
