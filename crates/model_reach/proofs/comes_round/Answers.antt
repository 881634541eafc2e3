-- `model_reach::comes_round` meets its contract: definition i has no height among those that avoid o if and only if it
-- is o or reaches it (`round_is` of ModelLaws); `heights_avoiding` may be called as a store that passes has at most 64
-- definitions (`reads` of FormFacts).
use native.Mathlib.Omega.{arith}
use Rattle.model_reach.proofs.FormFacts.{reads}
use Rattle.model_reach.proofs.ModelLaws.{round_is}
use Rattle.model_reach.proofs.comes_round.Goals as goal

pub heights_avoiding-heights-requires : goal.heights_avoiding-heights-requires
heights_avoiding-heights-requires c = (
  omega (arith, c.definition_count-n.ensures.value, (reads c.args.store.now c.requires.0).whole.few_definitions),
  omega (arith, c.definition_count-n.ensures.value, c.requires.1),
)

pub returns : goal.returns
returns c =
    round_is _ (reads _ c.requires.0) c.requires.1 c.requires.2 c.definition_count-n.ensures c.definitions_of-defs.ensures
    c.particles_of-parts.ensures c.heights_avoiding-heights.ensures c.byte.ensures
