-- `definition_removal::put_definitions_left` meets its contract: the definitions before number i and those after it are
-- what `destroyed` leaves (`definitions_laid` of LeftBytes); counts and places are in range as there are at most 64
-- definitions (`definitions_short`; `encoded` of Encoded in `store_laws`).
use Rattle.definition_removal.proofs.LeftBytes.{definitions_laid, definitions_short}
use Rattle.store_laws.proofs.Encoded.{encoded}
use lib.ListN.{length, length-take, length-drop}
use mathlib.Core.Path.{ap}
use native.Mathlib.Omega.{arith}
use Rattle.rules.specs.Layout.{definition_size}
use Prim.Native.Nat.{◌+◌, ◌*◌}
use Rattle.definition_removal.proofs.put_definitions_left.Goals as goal

pub definitions_from-requires : goal.definitions_from-requires
definitions_from-requires c =
    let x = encoded c.args.store.now c.requires.0.good in
    omega (arith, c.requires.0.there, x.definitions, x.few_definitions)

pub put-requires : goal.put-requires
put-requires c =
    let a = c.args in
    omega (
      arith,
      c.requires.1,
      c.put-next.ensures.next,
      ap length c.definitions_to.ensures,
      length-take (definition_size * a.i) c.definitions_of-defs.result.now,
      ap length c.definitions_from.ensures,
      length-drop (definition_size * (a.i + 1)) c.definitions_of-defs.result.now,
      definitions_short a.store.now c.requires.0.good a.i c.requires.0.there c.definitions_of-defs.ensures,
    )

pub returns : goal.returns
returns c =
    definitions_laid c.args.store.now c.requires.0.good c.args.i c.requires.0.there c.definitions_of-defs.ensures
    c.definitions_to.ensures c.definitions_from.ensures c.put-next.ensures c.put.ensures
