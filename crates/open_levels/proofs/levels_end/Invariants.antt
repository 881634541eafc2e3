use mathlib.Core.Path.{◌≡◌}
use mathlib.Core.Bool.{true}
use Rattle.form_index.specs.Reading.{index_form_of}
use Rattle.form_table.specs.Every.{every}
use Rattle.next_row.specs.Judge.{judge}
use Rattle.row_state.specs.State.{level_at}
use Rattle.open_levels.proofs.levels_end.Given as goal

-- the levels from keep on below k are owed nothing
abbrev pub invariant-loop-k : goal.invariant-loop-k
invariant-loop-k l = every (λ j. (judge (index_form_of l.t.form)).ends (level_at l.state j)) l.k l.keep ≡ true
