-- A plan by indices beside a plan of the rules: the walk over the
-- documents, written by indices, does what that plan does on them.
use Prim.Native.Nat.{ℕ, suc}
use mathlib.Core.Path.{◌≡◌, refl, sym, ap, ap₂, ◌∙◌}
use mathlib.Core.Logic.{◌⊎◌, inl, inr}
use mathlib.Core.Bool.{Bool, true, false, ◌&&◌, not}
use mathlib.Core.List.{List, [], ◌∷◌, ◌++◌}
use Rattle.rules.specs.Bytes.{Bytes}
use Rattle.rules.specs.Store.{Form, Row, Forest, bare, tree}
use Rattle.rules.specs.Preorder.{Deep, preorder}
use Rattle.rules.specs.Layout.{FlatRow, indexed}
use Rattle.rules.specs.Lines.{ground}
use Rattle.rules.specs.Change.{plant, prune, each_row, changed}
use Rattle.rules.specs.Change as change
use Rattle.change_laws.proofs.RowEdits.{revalued}
use Rattle.change_laws.proofs.Rowwise.{below, under, below_taken, below_here, below_past}
use Rattle.store_check.proofs.AttributeRows.{row_written}
use Rattle.row_walk.specs.declared.Plan.{Plan}
use Rattle.row_walk.specs.Walk.{matches, names_ground, is_later, kept_row, owed}
use Rattle.plans.specs.Trees.{taken_at, filled_at, tree_walk, documents_walk}
use Rattle.plans.specs.Simulation.{planted, Going, Staying, Simulates}
use Rattle.plans.proofs.Fillings.{preorder_beside, indexed_beside}

-- ---- the walk at one row
module _ (p : Plan) (v : Bytes) (fill : ℕ → List (Deep FlatRow)) (sel due : Bool) (d : ℕ) (x : FlatRow) (b t : Forest FlatRow) where
  pub walk_taken : taken_at p sel due x ≡ true → tree_walk p v fill sel due d (tree x b t) ≡ tree_walk p v fill sel due d t
  unfolding tree_walk
  walk_taken e = rw (e, tree_walk)

  walk_kept : taken_at p sel due x ≡ false
      → tree_walk p v fill sel due d (tree x b t)
      ≡ owed (filled_at p due x) (fill d)
      ++ (kept_row p v (record { depth = d; row = x })
      ∷ (tree_walk p v fill (matches p.above x) (matches p.above x && p.fills) (suc d) b ++ tree_walk p v fill sel (due && not (is_later p.marks p.later x)) d t))
  unfolding tree_walk
  walk_kept e = rw (e, tree_walk)

module _ (form new : Form) (q : change.Plan) (p : Plan) (v : Bytes) (fill : ℕ → List (Deep FlatRow)) where
  below_none : (w u : Row) (owes : Bool) (d : ℕ) → planted form new q p v fill owes u.name d ≡ preorder d (indexed new u.name (below q w owes u bare))
  unfolding plant prune each_row
  below_none w u true d = refl
  below_none w u false d = refl

  -- the rows that come of a row that is kept, with the filling before it if it is due there
  module _ (w u r : Row) (b t : Forest Row) (d : ℕ) (keep : q.takes u r ≡ false) where
    abbrev on_row : Bool → List (Deep FlatRow)
    on_row c = record { depth = d; row = row_written new u.name (revalued q r) } ∷ (preorder (suc d) (indexed new r.name (under q r b)) ++ preorder d (indexed new u.name (below q w c u t)))

    below_kept : (owes : Bool)
        → planted form new q p v fill (owes && q.later w (revalued q r)) u.name d ++ on_row (owes && not (q.later w (revalued q r)))
        ≡ preorder d (indexed new u.name (below q w owes u (tree r b t)))
    below_kept owes = by owes refl (q.later w (revalued q r)) refl
      where
        Goal : Type 0
        Goal = planted form new q p v fill (owes && q.later w (revalued q r)) u.name d ++ on_row (owes && not (q.later w (revalued q r)))
            ≡ preorder d (indexed new u.name (below q w owes u (tree r b t)))

        past : (owes && q.later w (revalued q r)) ≡ false → (owes && not (q.later w (revalued q r))) ≡ owes → Goal
        past e f =
            ap₂ (λ (a c : Bool). planted form new q p v fill a u.name d ++ on_row c) e f
            ∙ sym (ap (λ (z : Forest Row). preorder d (indexed new u.name z)) (below_past q w owes u r b t keep e))

        by : (o : Bool) → owes ≡ o → (l : Bool) → q.later w (revalued q r) ≡ l → Goal
        by true e true f =
            ap₂ (λ (a c : Bool). planted form new q p v fill a u.name d ++ on_row c) (ap₂ (λ (a c : Bool). a && c) e f) (ap₂ (λ (a c : Bool). a && not c) e f)
            ∙ sym (preorder_beside d (indexed new u.name q.filling) (indexed new u.name (tree (revalued q r) (under q r b) (below q w false u t))))
            ∙ sym (ap (preorder d) (indexed_beside new u.name q.filling (tree (revalued q r) (under q r b) (below q w false u t))))
            ∙ sym (ap (λ (z : Forest Row). preorder d (indexed new u.name z)) (below_here q w owes u r b t keep (ap₂ (λ (a c : Bool). a && c) e f)))
        by true e false f = past (ap₂ (λ (a c : Bool). a && c) e f) (ap₂ (λ (a c : Bool). a && not c) e f ∙ sym e)
        by false e l f = past (ap (λ (a : Bool). a && q.later w (revalued q r)) e) (ap (λ (a : Bool). a && not (q.later w (revalued q r))) e ∙ sym e)

  kept_row_lem : (sel due owes : Bool) (w u r : Row) (d : ℕ) → Staying form new q p v fill sel due owes w u r
      → kept_row p v (record { depth = d; row = row_written form u.name r }) ≡ record { depth = d; row = row_written new u.name (revalued q r) }
  unfolding kept_row
  kept_row_lem sel due owes w u r d h = λ i. record { depth = d; row = record { sort = (row_written form u.name r).sort; index = h.index i; serial = r.serial; value = h.value i } }

  module _ (S : Bool → Bool → Bool → Row → Row → Forest Row → Type 0) (sim : Simulates form new q p v fill S) where
    -- below a row u, which is w after the change
    pub walk_simulates : (sel due owes : Bool) (d : ℕ) (w u : Row) (f : Forest Row) → S sel due owes w u f
        → tree_walk p v fill sel due d (indexed form u.name f) ≡ preorder d (indexed new u.name (below q w owes u f))
    unfolding tree_walk
    walk_simulates sel due owes d w u bare k = sim.ends sel due owes w u k d ∙ below_none w u owes d
    walk_simulates sel due owes d w u (tree r b t) k = by (sim.steps sel due owes w u r b t k) (λ s a c m n i. walk_simulates s a c (suc d) m n b i) (λ s a c m n i. walk_simulates s a c d m n t i)
      where
        x : FlatRow
        x = row_written form u.name r

        m : Bool
        m = matches p.above x

        l : Bool
        l = is_later p.marks p.later x

        Inner : Type 0
        Inner = (s a c : Bool) (m n : Row) → S s a c m n b → tree_walk p v fill s a (suc d) (indexed form n.name b) ≡ preorder (suc d) (indexed new n.name (below q m c n b))

        Others : Type 0
        Others = (s a c : Bool) (m n : Row) → S s a c m n t → tree_walk p v fill s a d (indexed form n.name t) ≡ preorder d (indexed new n.name (below q m c n t))

        by : (Going form new q p v fill sel due u r × S sel due owes w u t)
            ⊎ (Staying form new q p v fill sel due owes w u r × S m (m && p.fills) (q.fills (revalued q r)) (revalued q r) r b × S sel (due && not l) (owes && not (q.later w (revalued q r))) w u t)
            → Inner → Others → tree_walk p v fill sel due d (indexed form u.name (tree r b t)) ≡ preorder d (indexed new u.name (below q w owes u (tree r b t)))
        by (inl (h, kt)) inner others =
            walk_taken p v fill sel due d x (indexed form r.name b) (indexed form u.name t) h.takes
            ∙ others sel due owes w u kt
            ∙ sym (ap (λ (z : Forest Row). preorder d (indexed new u.name z)) (below_taken q w owes u r b t h.taken))
        by (inr (h, kb, kt)) inner others =
            walk_kept p v fill sel due d x (indexed form r.name b) (indexed form u.name t) h.takes
            ∙ (λ i. h.filling d i
            ++ (kept_row_lem sel due owes w u r d h i
            ∷ (inner m (m && p.fills) (q.fills (revalued q r)) (revalued q r) r kb i
            ++ others sel (due && not l) (owes && not (q.later w (revalued q r))) w u kt i)))
            ∙ below_kept w u r b t d h.taken owes

    pub documents_simulate : (docs : Forest Row) → S (names_ground p.above) (names_ground p.above && p.fills) (q.fills ground) ground ground docs
        → documents_walk p v fill (indexed form [] docs) ≡ preorder 0 (indexed new [] (changed q docs))
    documents_simulate docs k = walk_simulates (names_ground p.above) (names_ground p.above && p.fills) (q.fills ground) 0 ground ground docs k
