-- `model_form::length_after` meets its contract: each arm is the clause of `length_after` for its edit (`length_case`
-- of FormWriting); for `Remove` and `Flatten` that is n - 1, which is 0 where n is 0.
use native.Mathlib.Omega.{arith}
use Rattle.model_form.proofs.FormWriting.{length_case}
use Rattle.model_form.proofs.length_after.Goals as goal

pub returns-in-Insert : goal.returns-in-Insert
returns-in-Insert c =
    omega (arith, length_case c.args.n c.in-Insert.is)

pub returns-in-Remove : goal.returns-in-Remove
returns-in-Remove c =
    omega (arith, length_case c.args.n c.in-Remove.is, c.saturating_sub.ensures)

pub returns-in-Quantify : goal.returns-in-Quantify
returns-in-Quantify c =
    omega (arith, length_case c.args.n c.in-Quantify.is)

pub returns-in-Convert : goal.returns-in-Convert
returns-in-Convert c =
    omega (arith, length_case c.args.n c.in-Convert.is)

pub returns-in-Flatten : goal.returns-in-Flatten
returns-in-Flatten c =
    omega (arith, length_case c.args.n c.in-Flatten.is, c.saturating_sub-in-Flatten.ensures)
