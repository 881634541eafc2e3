-- A plan by indices follows a plan of the rules on the rows that are
-- kept: of a row that both take nothing more is asked.
use Rattle.std.specs.Prelude.{ℕ, ◌≡◌, ◌⊎◌, Bool, true, ◌&&◌, ◌||◌, List}
use Rattle.rules.specs.Bytes.{Bytes}
use Rattle.rules.specs.Store.{Form, Row, Forest, bare, tree}
use Rattle.rules.specs.Preorder.{Deep}
use Rattle.rules.specs.Layout.{FlatRow}
use Rattle.rules.specs.Change as change
use Rattle.change_laws.proofs.RowEdits.{revalued}
use Rattle.store_check.proofs.AttributeRows.{row_written}
use Rattle.row_walk.specs.declared.Plan.{Plan}
use Rattle.row_walk.specs.Walk.{matches, is_everything}
use Rattle.plans.specs.Following.{RowFollows}

-- every row of a forest below u, with the row right above it
abbrev pub EachBelow : (Row → Row → Type 0) → Row → Forest Row → Type 0
EachBelow P u bare = Unit {0}
EachBelow P u (tree r b t) = P u r × EachBelow P r b × EachBelow P u t

-- as in `Following`
module _ (form new : Form) (q : change.Plan) (p : Plan) (v : Bytes) (fill : ℕ → List (Deep FlatRow)) where
  pub record BothTake (sel : Bool) (u r : Row) : Type 0 where
    pub taken : q.takes u r ≡ true
    pub takes : ((is_everything p.above || sel) && matches p.takes (row_written form u.name r)) ≡ true

  abbrev pub FollowsKept : Bool → Row → Row → Forest Row → Type 0
  FollowsKept sel w u bare = Unit {0}
  FollowsKept sel w u (tree r b t) =
      (BothTake sel u r ⊎ (RowFollows form new q p v fill sel w u r × FollowsKept (matches p.above (row_written form u.name r)) (revalued q r) r b)) × FollowsKept sel w u t
