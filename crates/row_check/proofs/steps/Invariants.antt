use Prim.Native.Nat.{◌-◌}
use mathlib.Core.Path.{◌≡◌}
use mathlib.Core.Option.{some}
use lib.ListN.{length}
use Rattle.std.specs.Slice.Iter.{chunks_exact_rest, chunks_exact_size}
use Rattle.rules.specs.Layout.{row_size}
use Rattle.row_step.specs.Steps.{before_by, walk}
use Rattle.row_check.proofs.PassLaws.{StepsLeft}
use Rattle.row_check.proofs.steps.Given as goal

-- the walk over the rows that are left, from the state reached, is the whole walk
abbrev pub invariant-loop-row : goal.invariant-loop-row
invariant-loop-row l =
    (chunks_exact_size l.row-iterator ≡ row_size l.t.form.width)
    × StepsLeft (before_by l.next l.t.form) (walk (before_by l.next l.t.form) l.count l.rows (some l.initial.state)) l.state (chunks_exact_rest l.row-iterator) (l.count - length l.yielded)
