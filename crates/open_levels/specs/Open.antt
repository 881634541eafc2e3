-- The levels that are open in a state of the walk, and what they are owed.
use Rattle.std.specs.Prelude.{ℕ, ◌+◌, Bool}
use Rattle.rules.specs.Bytes.{Bytes}
use Rattle.form_index.specs.Indices.{IndexForm}
use Rattle.form_table.specs.Every.{every}
use Rattle.next_row.specs.Judge.{judge}
use Rattle.row_state.specs.State.{open_elements, level_at}

-- of the open levels those from a on are owed nothing
unfoldable pub open_end : IndexForm → Bytes → ℕ → Bool
open_end f s a = every (λ k. (judge f).ends (level_at s k)) (open_elements s + 1) a

-- THE END: no level that is open is owed anything
unfoldable pub end : IndexForm → Bytes → Bool
end f s = open_end f s 0
