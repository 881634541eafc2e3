-- The rows of trees, judged in one pass: an automaton for what stands
-- below a row, and a level for each row that is open.
use Rattle.std.specs.Prelude.{ℕ, suc, ◌≡◌, Bool, true, ◌&&◌, List, [], ◌∷◌, ltb, get_or, set}
use Rattle.rules.specs.Store.{Forest, bare, tree, heads}
use Rattle.rules.specs.Preorder.{Deep}
use Rattle.form_table.specs.Every.{every}
use Rattle.next_row.specs.Automaton.{Automaton}

module _ {A S : Type 0} (m : Automaton A S) where
  -- a whole list of rows, side by side
  unfoldable pub rows_run : S → List A → Bool
  rows_run s [] = m.ends s
  rows_run s (r ∷ rs) = m.may s r && rows_run (m.next s r) rs

  -- below every row stands what may
  unfoldable pub Fine : Forest A → Type 0
  Fine bare = Unit {0}
  Fine (tree r b t) = (rows_run (m.enter r) (heads b) ≡ true) × Fine b × Fine t

  module _ (none : S) where
    -- of the n open levels those from a on are owed nothing
    unfoldable pub levels_end : List S → ℕ → ℕ → Bool
    levels_end l n a = every (λ k. m.ends (get_or l k none)) n a

    -- the levels after a row of depth d
    abbrev pub opened : List S → ℕ → A → List S
    opened l d r = set (set l d (m.next (get_or l d none) r)) (suc d) (m.enter r)

    -- the rows from here on, with n levels open: each closes those deeper than its own
    unfoldable pub machine : List S → ℕ → List (Deep A) → Bool
    machine l n [] = levels_end l n 0
    machine l n (x ∷ xs) =
        ltb x.depth n && (levels_end l n (suc x.depth) && (m.may (get_or l x.depth none) x.row && machine (opened l x.depth x.row) (suc (suc x.depth)) xs))
