-- `model_form::all_after` meets its contract: the two counts that are read are the store's (`many_in` of FormWriting),
-- and the answer of `length_after` is the length of the model after the edit (`after_in`), at most one more than
-- before, so that the sum is in range (`few_more`).
use native.Mathlib.Omega.{arith}
use mathlib.Core.Path.{ap₂}
use Prim.Native.Nat.{ℕ, ◌+◌, ◌-◌}
use Rattle.model_form.proofs.FormWriting.{many_in, after_in, few_more}
use Rattle.model_form.proofs.all_after.Goals as goal

pub overflow_sub-result : goal.overflow_sub-result
overflow_sub-result c =
    omega (
      arith,
      many_in c.args.store.now c.args.owner c.definitions_of-definitions.ensures c.model_length-own.ensures.0,
      c.particle_count.ensures.value,
      c.requires.1,
    )

pub overflow_add-result : goal.overflow_add-result
overflow_add-result c =
    omega (arith, c.model_length-own.ensures.1, c.particle_count.ensures.small, few_more c.args.edit _ c.length_after.ensures)

pub returns : goal.returns
returns c =
    ap₂ (λ (u v : ℕ). u + v)
    (ap₂ (λ (u v : ℕ). u - v) c.particle_count.ensures.value
    (many_in c.args.store.now c.args.owner c.definitions_of-definitions.ensures c.model_length-own.ensures.0))
    (after_in c.args.store.now c.args.owner c.definitions_of-definitions.ensures c.args.edit c.model_length-own.ensures.0
    c.length_after.ensures)
