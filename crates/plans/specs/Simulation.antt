-- A plan by indices beside a plan of the rules, row by row: what is due
-- may differ, as long as the rows that come are the same.
use Rattle.std.specs.Prelude.{ℕ, ◌≡◌, ◌⊎◌, Bool, true, false, ◌&&◌, not, List}
use Rattle.rules.specs.Bytes.{Bytes}
use Rattle.rules.specs.Store.{Form, Row, Forest, bare, tree}
use Rattle.rules.specs.Preorder.{Deep, preorder}
use Rattle.rules.specs.Layout.{FlatRow, row_index, indexed}
use Rattle.rules.specs.Change as change
use Rattle.change_laws.proofs.RowEdits.{revalued}
use Rattle.store_check.proofs.AttributeRows.{row_written}
use Rattle.row_walk.specs.declared.Plan.{Plan}
use Rattle.row_walk.specs.Walk.{matches, is_later, moved_index, value_set, owed}
use Rattle.plans.specs.Trees.{taken_at, filled_at}

-- form, new: the form before and after; q: of the rules; p with the
-- value v and the rows `fill d` of its filling: by indices
module _ (form new : Form) (q : change.Plan) (p : Plan) (v : Bytes) (fill : ℕ → List (Deep FlatRow)) where
  -- the filling of the rules below an element of a name, if it is due
  abbrev pub planted : Bool → Bytes → ℕ → List (Deep FlatRow)
  planted owes n d = owed owes (preorder d (indexed new n q.filling))

  -- both take row r below row u, which is one of `above` (sel) or not, where p has a filling due or not
  pub record Going (sel due : Bool) (u r : Row) : Type 0 where
    pub taken : q.takes u r ≡ true
    pub takes : taken_at p sel due (row_written form u.name r) ≡ true

  -- both keep row r below row u, which is w after the change, where q has a filling due (owes) or not
  pub record Staying (sel due owes : Bool) (w u r : Row) : Type 0 where
    pub taken : q.takes u r ≡ false
    pub takes : taken_at p sel due (row_written form u.name r) ≡ false
    pub filling : (d : ℕ) → owed (filled_at p due (row_written form u.name r)) (fill d) ≡ planted (owes && q.later w (revalued q r)) u.name d
    pub index : moved_index p (row_written form u.name r) ≡ row_index new u.name r
    pub value : value_set p v (row_written form u.name r) ≡ (revalued q r).value

  -- S: what is known of the rows from some row on, below a row u that is w after the change
  pub record Simulates (S : Bool → Bool → Bool → Row → Row → Forest Row → Type 0) : Type 0 where
    pub ends : (sel due owes : Bool) (w u : Row) → S sel due owes w u bare → (d : ℕ) → owed due (fill d) ≡ planted owes u.name d
    pub steps : (sel due owes : Bool) (w u r : Row) (b t : Forest Row) → S sel due owes w u (tree r b t)
        → (Going sel due u r × S sel due owes w u t)
        ⊎ (Staying sel due owes w u r
        × S (matches p.above (row_written form u.name r)) (matches p.above (row_written form u.name r) && p.fills) (q.fills (revalued q r)) (revalued q r) r b
        × S sel (due && not (is_later p.marks p.later (row_written form u.name r))) (owes && not (q.later w (revalued q r))) w u t)
