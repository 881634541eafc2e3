-- `attribute_form::is_up_to` meets its contract: the case split is on the owner that is read: up to `owner` the
-- attribute counts 1 (`up_to` of CountLaws), above it 0 (`past_it`).
use native.Mathlib.Omega.{arith}
use Rattle.attribute_form.proofs.CountLaws.{up_to, past_it}
use Rattle.attribute_form.proofs.is_up_to.Goals as goal

pub returns-then-of-owner : goal.returns-then-of-owner
returns-then-of-owner c =
    up_to c.args.owner c.args.rec.now c.owner_byte-of.ensures (omega arith)

pub returns-else-of-owner : goal.returns-else-of-owner
returns-else-of-owner c =
    past_it c.args.owner c.args.rec.now c.owner_byte-of.ensures (omega arith)
