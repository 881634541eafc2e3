-- The walk over the rows, on trees: below each row, what is taken and where the filling comes.
use Rattle.std.specs.Prelude.{ℕ, suc, ◌≡◌, Bool, true, false, ◌&&◌, ◌||◌, not, List, ◌∷◌, ◌++◌}
use Rattle.rules.specs.Bytes.{Bytes}
use Rattle.rules.specs.Store.{Forest, bare, tree}
use Rattle.rules.specs.Preorder.{Deep}
use Rattle.rules.specs.Layout.{FlatRow}
use Rattle.row_walk.specs.declared.Plan.{Plan}
use Rattle.row_walk.specs.Walk.{matches, is_everything, names_ground, is_later, spared, kept_row, owed}

module _ (p : Plan) where
  -- a row is taken, and a filling comes right before it, below a row that is
  -- one of `above` or not, where a filling is due or not
  abbrev pub taken_at : Bool → Bool → FlatRow → Bool
  taken_at sel due r = ((is_everything p.above || sel) && matches p.takes r) && not (p.keeps && due)

  abbrev pub filled_at : Bool → FlatRow → Bool
  filled_at due r = due && (is_later p.marks p.later r && not (spared p r))

module _ (p : Plan) (v : Bytes) (fill : ℕ → List (Deep FlatRow)) where
  -- the rows at depth d below a row: it is one of `above` or not, and its filling is still to come or not
  unfoldable pub tree_walk : Bool → Bool → ℕ → Forest FlatRow → List (Deep FlatRow)
  tree_walk sel due d bare = owed due (fill d)
  tree_walk sel due d (tree r b t) =
      elim (taken_at p sel due r) [
        | true ↦ tree_walk sel due d t
        | false ↦
            owed (filled_at p due r) (fill d)
            ++ (kept_row p v (record { depth = d; row = r })
            ∷ (tree_walk (matches p.above r) (matches p.above r && p.fills) (suc d) b ++ tree_walk sel (due && not (is_later p.marks p.later r)) d t))
      ]

  -- the documents
  abbrev pub documents_walk : Forest FlatRow → List (Deep FlatRow)
  documents_walk f = tree_walk (names_ground p.above) (names_ground p.above && p.fills) 0 f

-- ---- no row of `above` stands below another
-- no row of a forest is one of them
abbrev pub NoneOf : (FlatRow → Bool) → Forest FlatRow → Type 0
NoneOf q bare = Unit {0}
NoneOf q (tree r b t) = (q r ≡ false) × NoneOf q b × NoneOf q t

abbrev pub NotNested : (FlatRow → Bool) → Forest FlatRow → Type 0
NotNested q bare = Unit {0}
NotNested q (tree r b t) = (q r ≡ true → NoneOf q b) × NotNested q b × NotNested q t
