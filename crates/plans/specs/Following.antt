-- A plan by indices follows a plan of the rules: row by row, both take, fill, set and renumber the same.
use Rattle.std.specs.Prelude.{ℕ, ◌≡◌, Bool, true, false, ◌&&◌, ◌||◌, List, []}
use Rattle.rules.specs.Bytes.{Bytes}
use Rattle.rules.specs.Store.{Form, Row, Forest, bare, tree, Store}
use Rattle.rules.specs.Preorder.{Deep, preorder}
use Rattle.rules.specs.Layout.{FlatRow, row_index, indexed, flat}
use Rattle.rules.specs.Lines.{ground}
use Rattle.rules.specs.Change as change
use Rattle.change_laws.proofs.RowEdits.{revalued}
use Rattle.store_check.proofs.AttributeRows.{row_written}
use Rattle.row_walk.specs.declared.Plan.{Plan}
use Rattle.row_walk.specs.Walk.{matches, is_everything, names_ground, is_later, moved_index, value_set}
use Rattle.planned_rows.specs.Planned.{fill_of}
use Rattle.plans.specs.Trees.{documents_walk}

-- no row is kept or spared
pub record Plain (p : Plan) : Type 0 where
  pub keeps : p.keeps ≡ false
  pub spares : p.spares ≡ false

-- form, new: the form before and after; q: of the rules; p with the
-- value v and the rows `fill d` of its filling: by indices
module _ (form new : Form) (q : change.Plan) (p : Plan) (v : Bytes) (fill : ℕ → List (Deep FlatRow)) where
  -- below an element of this name the fillings are the same
  abbrev pub Fills : Bytes → Type 0
  Fills owner = (d : ℕ) → fill d ≡ preorder d (indexed new owner q.filling)

  -- at row r below row u, which is one of `above` (sel) or not, and which is w after the change
  pub record RowFollows (sel : Bool) (w u r : Row) : Type 0 where
    pub takes : ((is_everything p.above || sel) && matches p.takes (row_written form u.name r)) ≡ q.takes u r
    pub later : sel ≡ true → p.fills ≡ true → is_later p.marks p.later (row_written form u.name r) ≡ q.later w (revalued q r)
    pub index : moved_index p (row_written form u.name r) ≡ row_index new u.name r
    pub value : value_set p v (row_written form u.name r) ≡ (revalued q r).value
    pub fills : (matches p.above (row_written form u.name r) && p.fills) ≡ q.fills (revalued q r)
    pub filling : q.fills (revalued q r) ≡ true → Fills r.name

  abbrev pub Follows : Bool → Row → Row → Forest Row → Type 0
  Follows sel w u bare = Unit {0}
  Follows sel w u (tree r b t) = RowFollows sel w u r × Follows (matches p.above (row_written form u.name r)) (revalued q r) r b × Follows sel w u t

  pub record DocumentsFollow (docs : Forest Row) : Type 0 where
    pub fills : (names_ground p.above && p.fills) ≡ q.fills ground
    pub filling : q.fills ground ≡ true → Fills []
    pub rows : Follows (names_ground p.above) ground ground docs

-- a plan that leaves the form as it is, with the value v, does on the documents what the call c does
abbrev pub Does : change.Call → Store → Plan → Bytes → Type 0
Does c s p v = documents_walk p v (fill_of p v (flat s)) (indexed s.form [] s.docs) ≡ preorder 0 (indexed s.form [] (change.docs_after c s))
