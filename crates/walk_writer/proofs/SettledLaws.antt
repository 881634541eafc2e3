-- The walk with a filling that stands for that of the plan.
use Prim.Native.Nat.{ℕ}
use native.Mathlib.Omega.{arith}
use mathlib.Core.Path.{◌≡◌, refl, sym, ◌∙◌}
use mathlib.Core.Bool.{true, false, ◌&&◌}
use mathlib.Core.List.{List, [], ◌∷◌, ◌++◌}
use Rattle.rules.specs.Bytes.{Bytes}
use Rattle.rules.specs.Preorder.{Deep}
use Rattle.rules.specs.Layout.{FlatRow}
use Rattle.layout.specs.declared.Form.{Form}
use Rattle.row_writer.specs.declared.Cursor.{Cursor}
use Rattle.row_writer.specs.Written.{Written}
use Rattle.filling.specs.declared.Filling.{Filling}
use Rattle.filling.specs.declared.Filling.TheVariants.{Nothing}
use Rattle.filling.specs.Parts.{index_form_in, values_in, members_read_at, fill_with}
use Rattle.filling.proofs.DepthLaws.{filling_empty}
use Rattle.row_walk.specs.declared.Plan.{Plan}
use Rattle.row_walk.specs.declared.Open.{Open}
use Rattle.row_walk.specs.Walk.{kept_row, is_below_taken, closes, closed, owed, row_depth, emitted, next_open, walked, at_first}
use Rattle.row_walk.specs.Refilled.{refilled}
use Rattle.walk_writer.specs.Step.{plan_filling, Settled}

-- a filling of which no row was written where one might be has none
pub settled_nothing : {F : Form} {v : Bytes} (what : Filling) {w : ℕ} {out : Bytes} {r : Cursor} {out' : Bytes}
    → Written w (fill_with F what v 0) (record { at = 0; left = 1; serial = 0 }) out r out' → (r.left ≡ 0 → ⊥) → Settled F v what Nothing
settled_nothing {F} {v} what x n =
    record {
      same = filling_empty (index_form_in F) (λ j. values_in F j) (λ k e. members_read_at F.particles.now k e) what v 0 (omega (arith, x.left, n));
      indexed = tt;
    }

-- the walk sees no filling but the rows that it is given
module _ (p : Plan) (what : Filling) (v : Bytes) (fill : ℕ → List (Deep FlatRow)) where
  pub walked_refilled : (o : Open) (xs : List (Deep FlatRow)) → walked (refilled p what) v fill o xs ≡ walked p v fill o xs
  unfolding walked emitted next_open kept_row
  walked_refilled o [] = refl
  walked_refilled o (x ∷ xs) = λ i. elim (is_below_taken o x) [
    | true ↦ walked_refilled o xs i
    | false ↦ owed (closes o x && o.due) (fill (row_depth o)) ++ (emitted p v fill (closed o x) x ++ walked_refilled (next_open p v fill (closed o x) x) xs i)
  ]

module _ {F : Form} {v : Bytes} (p : Plan) {what : Filling} (s : Settled F v p.filling what) where
  pub walked_settled : (xs : List (Deep FlatRow)) → walked p v (plan_filling F p v) (at_first p) xs ≡ walked (refilled p what) v (fill_with F what v) (at_first (refilled p what)) xs
  walked_settled xs = sym (walked_refilled p what v (fill_with F what v) (at_first p) xs ∙ (λ i. walked p v (λ d. s.same d i) (at_first p) xs))
