-- The walk of a plan that keeps all rows and moves their indices.
use Prim.Native.Nat.{ℕ, ◌-◌}
use native.Mathlib.Nat.{add-zero}
use native.Mathlib.Omega.{arith}
use mathlib.Core.Path.{◌≡◌, refl, ap, ap₂}
use mathlib.Core.Bool.{true, false}
use mathlib.Core.List.{List, [], ◌∷◌, map}
use lib.Dec.{eqb, leb}
use Rattle.rules.specs.Bytes.{Bytes}
use Rattle.rules.specs.Preorder.{Deep}
use Rattle.rules.specs.Layout.{FlatRow}
use Rattle.rules.proofs.BooleanLaws.{Every}
use Rattle.row_writer.proofs.BlockLaws.{Old}
use Rattle.row_walk.specs.declared.Plan.{Plan}
use Rattle.row_walk.specs.Walk.{shifted, kept_row}
use Rattle.planned_rows.specs.Walking.{Sized}
use Rattle.definition_writer.specs.Bodies.{moved_row}
use Rattle.definition_removal.specs.Bodies.{lowered}
use Rattle.definition_removal.specs.Shifting.{shifting}

module _ (definition from less : ℕ) where
  abbrev p : Plan
  p = shifting definition from less

  pub sized : Sized (shifting definition from less)
  sized = record { moves = record { definitions = record { more = omega arith }; attributes = record { more = omega arith } }; filling = tt }

  -- ---- a row that is kept
  shifted_low : (j least fall : ℕ) → shifted (record { from = least; more = 0; less = fall }) j ≡ lowered least fall j
  shifted_low j least fall = ap (λ (k : ℕ). elim (leb least j) as (λ z. ℕ) [ true ↦ k - fall | false ↦ j ]) (add-zero j)

  kept_moved : (v : Bytes) (x : Deep FlatRow) → kept_row p v x ≡ moved_row (lowered definition 1) (lowered from less) x
  unfolding kept_row moved_row
  kept_moved v x =
      ap (λ (k : ℕ). record { depth = x.depth; row = record { sort = x.row.sort; index = k; serial = x.row.serial; value = x.row.value } })
      (ap₂ (λ (a b : ℕ). elim (eqb x.row.sort 1) as (λ z. ℕ) [
        | true ↦ a
        | false ↦ elim (eqb x.row.sort 2) as (λ z. ℕ) [ true ↦ b | false ↦ x.row.index ]
      ])
      (shifted_low x.row.index definition 1) (shifted_low x.row.index from less))

  pub kept_rows : (v : Bytes) (xs : List (Deep FlatRow)) → map (kept_row p v) xs ≡ map (moved_row (lowered definition 1) (lowered from less)) xs
  kept_rows v [] = refl
  kept_rows v (x ∷ xs) = ap₂ (λ (y : Deep FlatRow) (l : List (Deep FlatRow)). y ∷ l) (kept_moved v x) (kept_rows v xs)

pub moved_old : (g h : ℕ → ℕ) (xs : List (Deep FlatRow)) → Every Old xs → Every Old (map (moved_row g h) xs)
unfolding moved_row
moved_old g h [] e = tt
moved_old g h (x ∷ xs) (a, e) = (a, moved_old g h xs e)
