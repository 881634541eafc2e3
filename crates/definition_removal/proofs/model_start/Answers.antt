-- `definition_removal::model_start` meets its contract: what `particles_before` counts in the store's definitions is
-- the number of particles of the first i, at most that of all (`model_starts` of Left); i is in range as there are at
-- most 64 definitions (`encoded` of Encoded in `store_laws`).
use Rattle.definition_removal.proofs.Left.{model_starts}
use Rattle.store_laws.proofs.Encoded.{encoded}
use native.Mathlib.Omega.{arith}
use Rattle.definition_removal.proofs.model_start.Goals as goal

pub particles_before-requires : goal.particles_before-requires
particles_before-requires c =
    let x = encoded c.args.store.now c.requires.0 in
    omega (arith, c.requires.1, x.definitions, x.few_definitions)

pub returns : goal.returns
returns c =
    model_starts c.args.store.now c.requires.0 c.args.i c.requires.1 c.definitions_of.ensures c.particles_before.ensures.0
