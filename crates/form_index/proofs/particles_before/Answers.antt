-- `form_index::particles_before` meets its contract: the invariant holds before the first definition (`summed_none` of
-- ReadingLaws) and after each, by the contract of `model_length` (`before_more`), and past the last it is the contract.
-- By the invariant `sum` is at most 4294967296 * j, so that it is in range.
use native.Mathlib.Omega.{arith}
use mathlib.Core.Path.{◌≡◌, ap, ◌∙◌}
use Rattle.form_index.specs.Reading.{particles_before}
use Rattle.form_index.proofs.ReadingLaws.{summed_none, before_more}
use Rattle.form_index.proofs.particles_before.Goals as goal

pub loop-j-init : goal.loop-j-init
loop-j-init c = summed_none c.args.defs.now

pub overflow_add-sum : goal.overflow_add-sum
overflow_add-sum c =
    omega (arith, c.requires, c.loop-j.invariant.small, c.model_length-sum.ensures.1)

pub loop-j-preserved : goal.loop-j-preserved
loop-j-preserved c =
    record {
      is = before_more c.args.defs.now _ _ _ c.loop-j.invariant.is c.model_length-sum.ensures.0;
      small = omega (arith, c.loop-j.invariant.small, c.model_length-sum.ensures.1);
    }

pub returns : goal.returns
returns c =
    let all : c.loop-j.j ≡ c.args.i = omega arith in
    (c.loop-j.invariant.is ∙ ap (particles_before c.args.defs.now) all, omega (arith, c.requires, c.loop-j.invariant.small))
