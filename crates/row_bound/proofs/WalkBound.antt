-- What a walk adds at most, by any measure of rows that adds up: as much as a
-- filling for what is due, and for each row that a filling may come below.
use Prim.Native.Nat.{ℕ, suc, ◌+◌, ◌≤◌}
use native.Mathlib.Omega.{arith}
use mathlib.Core.Path.{◌≡◌, ap}
use mathlib.Core.Bool.{Bool, true, false, ◌&&◌, not}
use mathlib.Core.List.{List, [], ◌∷◌, ◌++◌}
use Rattle.std.specs.Prelude.{Option, None, Some}
use Rattle.rules.specs.Bytes.{Bytes}
use Rattle.rules.specs.Preorder.{Deep}
use Rattle.rules.specs.Layout.{FlatRow}
use Rattle.rules.proofs.BooleanLaws.{Every}
use Rattle.row_walk.specs.declared.Plan.{Plan}
use Rattle.row_walk.specs.declared.Open.{Open}
use Rattle.row_walk.specs.Walk.{matches, is_later, spared, kept_row, is_below_taken, closes, closed, is_below, is_taken, is_filled, after_taken, after_kept, owed, row_depth, emitted, next_open, walked}
use Rattle.walk_writer.specs.Step.{step_rows, step_open}
use Rattle.walk_writer.proofs.WalkLaws.{walked_cons, walked_none}
use Rattle.row_bound.specs.Bound.{only_if}

-- ---- what is due is due once
due_closed : (c d : Bool) (F : ℕ) (t b : Option ℕ)
    → only_if (c && d) F
    + only_if (elim c as (λ z. Open) [ true ↦ record { taking = None; below = None; due = false } | false ↦ record { taking = t; below = b; due = d } ]).due F
    ≤ only_if d F
due_closed true d F t b = omega arith
due_closed false d F t b = omega arith

due_filled : (d b l s : Bool) (F : ℕ) → only_if ((d && b) && (l && not s)) F + only_if (d && not (b && l)) F ≤ only_if d F
due_filled false b l s F = omega arith
due_filled true false l s F = omega arith
due_filled true true false s F = omega arith
due_filled true true true true F = omega arith
due_filled true true true false F = omega arith

due_first : (d b l : Bool) (F : ℕ) → only_if ((d && b) && l) F ≤ only_if d F
due_first false b l F = omega arith
due_first true false l F = omega arith
due_first true true false F = omega arith
due_first true true true F = omega arith

-- F: of a filling; G: below each row where one may come, which is F if the plan fills; each: of a row that is kept
module _ (p : Plan) (v : Bytes) (fill : ℕ → List (Deep FlatRow)) (size : List (Deep FlatRow) → ℕ) (none : size [] ≡ 0) (plus : (xs ys : List (Deep FlatRow)) → size (xs ++ ys) ≡ size xs + size ys)
    (F G each : ℕ) (most : (d : ℕ) → size (fill d) ≤ F) (fills : only_if p.fills F ≤ G) where
  unfoldable pub most_of : List (Deep FlatRow) → ℕ
  most_of [] = 0
  most_of (x ∷ xs) = (each + only_if (matches p.above x.row) G) + most_of xs

  size_owed : (b : Bool) (d : ℕ) → size (owed b (fill d)) ≤ only_if b F
  size_owed true d = most d
  size_owed false d = omega (arith, none)

  module _ (o : Open) (x : Deep FlatRow) where
    due_kept : only_if (is_filled p o x) F + only_if (after_kept p o x).due F ≤ only_if o.due F + only_if (matches p.above x.row) G
    due_kept = by (matches p.above x.row)
      where
        later : Bool
        later = is_later p.marks p.later x.row

        by : (m : Bool)
            → only_if (is_filled p o x) F
            + only_if (elim m as (λ z. Open) [
              | true ↦ record { taking = None; below = Some (suc x.depth); due = p.fills }
              | false ↦ record { taking = None; below = o.below; due = o.due && not (is_below o x && is_later p.marks p.later x.row) }
            ]).due
            F
            ≤ only_if o.due F + only_if m G
        by true = omega (arith, fills, due_first o.due (is_below o x) (is_later p.marks p.later x.row && not (spared p x.row)) F)
        by false = omega (arith, due_filled o.due (is_below o x) (is_later p.marks p.later x.row) (spared p x.row) F)

    module _ (one : size (kept_row p v x ∷ []) ≤ each) where
      size_emitted : size (emitted p v fill o x) + only_if (next_open p v fill o x).due F ≤ only_if o.due F + (each + only_if (matches p.above x.row) G)
      unfolding emitted next_open
      size_emitted = by (is_taken p o x)
        where
          by : (t : Bool)
              → size (elim t as (λ z. List (Deep FlatRow)) [ true ↦ [] | false ↦ owed (is_filled p o x) (fill x.depth) ++ kept_row p v x ∷ [] ])
              + only_if (elim t as (λ z. Open) [ true ↦ after_taken o x | false ↦ after_kept p o x ]).due F
              ≤ only_if o.due F + (each + only_if (matches p.above x.row) G)
          by true = omega (arith, none)
          by false = omega (arith, plus (owed (is_filled p o x) (fill x.depth)) (kept_row p v x ∷ []), size_owed (is_filled p o x) x.depth, one, due_kept)

  size_step : (o : Open) (x : Deep FlatRow) → size (kept_row p v x ∷ []) ≤ each
      → size (step_rows p v fill o x) + only_if (step_open p v fill o x).due F ≤ only_if o.due F + (each + only_if (matches p.above x.row) G)
  unfolding step_rows step_open
  size_step o x one = by (is_below_taken o x)
    where
      by : (g : Bool)
          → size (elim g as (λ z. List (Deep FlatRow)) [ true ↦ [] | false ↦ owed (closes o x && o.due) (fill (row_depth o)) ++ emitted p v fill (closed o x) x ])
          + only_if (elim g as (λ z. Open) [ true ↦ o | false ↦ next_open p v fill (closed o x) x ]).due F
          ≤ only_if o.due F + (each + only_if (matches p.above x.row) G)
      by true = omega (arith, none)
      by false =
          omega (
            arith,
            plus (owed (closes o x && o.due) (fill (row_depth o))) (emitted p v fill (closed o x) x),
            size_owed (closes o x && o.due) (row_depth o),
            due_closed (closes o x) o.due F None o.below,
            size_emitted (closed o x) x one,
          )

  pub size_walked : (o : Open) (xs : List (Deep FlatRow)) → Every (λ x. size (kept_row p v x ∷ []) ≤ each) xs → size (walked p v fill o xs) ≤ only_if o.due F + most_of xs
  unfolding most_of
  size_walked o [] h = omega (arith, ap size (walked_none p v fill o), size_owed o.due (row_depth o))
  size_walked o (x ∷ xs) h =
      omega (
        arith,
        ap size (walked_cons p v fill o x xs),
        plus (step_rows p v fill o x) (walked p v fill (step_open p v fill o x) xs),
        size_step o x h.0,
        size_walked (step_open p v fill o x) xs h.1,
      )
