-- `model_form::own_after` meets its contract: the number of particles that is read is the length of the owner's model,
-- so the answer of `length_after` is its length after the edit (`after_in` of FormWriting).
use Rattle.model_form.proofs.FormWriting.{after_in}
use Rattle.model_form.proofs.own_after.Goals as goal

pub returns : goal.returns
returns c =
    after_in c.args.store.now c.args.owner c.definitions_of-definitions.ensures c.args.edit c.model_length.ensures.0
    c.length_after.ensures
