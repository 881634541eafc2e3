-- `model_reach::in_model` meets its contract: definition i stands in the model of o if and only if the part of the
-- model does not lack it (`in_model_is` of ModelLaws); the owner is bounded as a store that passes has at most 64
-- definitions (`reads` of FormFacts).
use native.Mathlib.Omega.{arith}
use Rattle.model_reach.proofs.FormFacts.{reads}
use Rattle.model_reach.proofs.ModelLaws.{in_model_is}
use Rattle.model_reach.proofs.in_model.Goals as goal

pub own_part-requires : goal.own_part-requires
own_part-requires c = omega (arith, c.requires.1, (reads c.args.store.now c.requires.0).whole.few_definitions)

pub returns : goal.returns
returns c =
    in_model_is _ (reads _ c.requires.0) c.requires.1 c.requires.2 c.own_part.ensures c.lacks.ensures
