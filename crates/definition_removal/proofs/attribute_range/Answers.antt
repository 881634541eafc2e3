-- `definition_removal::attribute_range` meets its contract: the two answers of `attribute_start` are the numbers of
-- attributes that the first i and the first i + 1 definitions have, the second no less (`between`, `attributes_step` of
-- Left); i + 1 is in range as there are at most 64 definitions (`encoded` of Encoded in `store_laws`).
use Rattle.definition_removal.proofs.Left.{between, attributes_step}
use Rattle.store_laws.proofs.Encoded.{encoded}
use Rattle.definition_removal.specs.Bodies.{attributes_up_to}
use Rattle.lookup.specs.Bodies.{bodies_of}
use Rattle.rules.specs.Decode.{attribute_count}
use native.Mathlib.Omega.{arith}
use Prim.Native.Nat.{ℕ}
use Rattle.definition_removal.proofs.attribute_range.Goals as goal

pub overflow_add-i : goal.overflow_add-i
overflow_add-i c =
    let x = encoded c.args.store.now c.requires.good in
    omega (arith, c.requires.there, x.definitions, x.few_definitions)

pub returns : goal.returns
returns c =
    let a = c.args in
    let xs = (bodies_of a.store.now).attributes in
    between (λ (k : ℕ). attributes_up_to k xs) a.i (attribute_count a.store.now) (attributes_step a.i xs)
    c.attribute_start.ensures c.attribute_start-2.ensures
