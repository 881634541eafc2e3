-- The walk with a filling of one row counts the places: so many times the rows of another filling come of it.
use Prim.Native.Nat.{ℕ, ◌+◌, ◌*◌}
use native.Mathlib.Nat.{mul-add}
use native.Mathlib.Omega.{arith}
use mathlib.Core.Path.{◌≡◌, ap}
use mathlib.Core.Bool.{Bool, true, false, ◌&&◌}
use mathlib.Core.List.{List, [], ◌∷◌, ◌++◌}
use lib.ListN.{length, length-append}
use borrow.Author.Tests.{ne_eqb}
use Rattle.rules.specs.Bytes.{Bytes}
use Rattle.rules.specs.Preorder.{Deep}
use Rattle.rules.specs.Layout.{FlatRow}
use Rattle.rules.proofs.BooleanLaws.{Every}
use Rattle.row_writer.specs.Written.{new_in}
use Rattle.row_writer.proofs.WrittenLaws.{new_append}
use Rattle.row_writer.proofs.BlockLaws.{Old}
use Rattle.row_walk.specs.declared.Plan.{Plan}
use Rattle.row_walk.specs.declared.Open.{Open}
use Rattle.row_walk.specs.Walk.{kept_row, is_below_taken, closes, closed, is_taken, is_filled, owed, row_depth, emitted, next_open, walked}

-- for each new row of ys, xs has F new ones; the others are as many
pub record Times (F : ℕ) (xs ys : List (Deep FlatRow)) : Type 0 where
  pub rows : length xs + new_in ys ≡ length ys + F * new_in ys
  pub new : new_in xs ≡ F * new_in ys

module _ {F : ℕ} where
  times_none : Times F [] []
  times_none = record { rows = omega arith; new = omega arith }

  times_both : {xs ys xs' ys' : List (Deep FlatRow)} → Times F xs ys → Times F xs' ys' → Times F (xs ++ xs') (ys ++ ys')
  times_both {xs} {ys} {xs'} {ys'} a b =
      let product : F * (new_in ys + new_in ys') ≡ F * new_in ys + F * new_in ys' = mul-add F (new_in ys) (new_in ys') in
      let all : F * new_in (ys ++ ys') ≡ F * (new_in ys + new_in ys') = ap (λ (n : ℕ). F * n) (new_append ys ys') in
      record {
        rows = omega (arith, length-append xs xs', length-append ys ys', new_append ys ys', a.rows, b.rows, product, all);
        new = omega (arith, new_append xs xs', a.new, b.new, product, all);
      }

  -- a row that has a serial
  times_old : (x : Deep FlatRow) → Old x → Times F (x ∷ []) (x ∷ [])
  times_old x h =
      let none : new_in (x ∷ []) ≡ 0 =
      omega (arith, ap {B = ℕ} (λ (t : Bool). elim t as (λ z. ℕ) [ true ↦ 1 | false ↦ 0 ]) (ne_eqb x.row.serial 0 (λ e. omega (arith, h)))) in
      let product : F * new_in (x ∷ []) ≡ F * 0 = ap (λ (n : ℕ). F * n) none in
      record { rows = omega (arith, none, product); new = omega (arith, none, product) }

module _ (p : Plan) (v : Bytes) (fill unit : ℕ → List (Deep FlatRow)) (F : ℕ) (each : (d : ℕ) → Times F (fill d) (unit d)) where
  times_owed : (b : Bool) (d : ℕ) → Times F (owed b (fill d)) (owed b (unit d))
  times_owed true d = each d
  times_owed false d = times_none

  times_emitted : (o : Open) (x : Deep FlatRow) → Old x → Times F (emitted p v fill o x) (emitted p v unit o x)
  unfolding emitted kept_row
  times_emitted o x h = by (is_taken p o x)
    where
      by : (t : Bool)
          → Times F (elim t as (λ z. List (Deep FlatRow)) [ true ↦ [] | false ↦ owed (is_filled p o x) (fill x.depth) ++ kept_row p v x ∷ [] ])
          (elim t as (λ z. List (Deep FlatRow)) [ true ↦ [] | false ↦ owed (is_filled p o x) (unit x.depth) ++ kept_row p v x ∷ [] ])
      by true = times_none
      by false = times_both (times_owed (is_filled p o x) x.depth) (times_old (kept_row p v x) h)

  pub times_walked : (o : Open) (xs : List (Deep FlatRow)) → Every Old xs → Times F (walked p v fill o xs) (walked p v unit o xs)
  unfolding walked next_open
  times_walked o [] h = times_owed o.due (row_depth o)
  times_walked o (x ∷ xs) h = by (is_below_taken o x) (times_walked o xs h.1) (times_walked (next_open p v fill (closed o x) x) xs h.1)
    where
      by : (g : Bool) → Times F (walked p v fill o xs) (walked p v unit o xs)
          → Times F (walked p v fill (next_open p v fill (closed o x) x) xs) (walked p v unit (next_open p v unit (closed o x) x) xs)
          → Times F
          (elim g as (λ z. List (Deep FlatRow)) [
            | true ↦ walked p v fill o xs
            | false ↦ owed (closes o x && o.due) (fill (row_depth o)) ++ (emitted p v fill (closed o x) x ++ walked p v fill (next_open p v fill (closed o x) x) xs)
          ])
          (elim g as (λ z. List (Deep FlatRow)) [
            | true ↦ walked p v unit o xs
            | false ↦ owed (closes o x && o.due) (unit (row_depth o)) ++ (emitted p v unit (closed o x) x ++ walked p v unit (next_open p v unit (closed o x) x) xs)
          ])
      by true here on = here
      by false here on = times_both (times_owed (closes o x && o.due) (row_depth o)) (times_both (times_emitted (closed o x) x h.0) on)
