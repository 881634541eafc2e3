-- `model_writer::count_after` meets its contract: in each case of the match the return is the clause of `count_after`
-- for the edit (`count_case` of HeadWriting), where the count of a group to be flattened is read from its particle
-- (`first_index`).
use mathlib.Core.Path.{sym, ap, ◌∙◌}
use Prim.Native.Nat.{ℕ, ◌+◌, ◌-◌}
use Rattle.model_writer.proofs.HeadWriting.{count_case, first_index}
use Rattle.model_writer.proofs.count_after.Goals as goal

pub returns-in-Insert : goal.returns-in-Insert
returns-in-Insert c =
    count_case _ c.args.n c.in-Insert.is

pub returns-in-Remove : goal.returns-in-Remove
returns-in-Remove c =
    c.saturating_sub.ensures ∙ count_case _ c.args.n c.in-Remove.is

pub returns-in-Quantify : goal.returns-in-Quantify
returns-in-Quantify c =
    count_case _ c.args.n c.in-Quantify.is

pub returns-in-Convert : goal.returns-in-Convert
returns-in-Convert c =
    c.saturating_sub-in-Convert.ensures ∙ count_case _ c.args.n c.in-Convert.is

pub returns-in-Flatten : goal.returns-in-Flatten
returns-in-Flatten c =
    c.saturating_sub-in-Flatten.ensures ∙ ap (λ (k : ℕ). c.args.n + k - 1) (c.particle_index.ensures ∙ sym (first_index c.args.ys.now c.requires.0))
    ∙ count_case _ c.args.n c.in-Flatten.is
