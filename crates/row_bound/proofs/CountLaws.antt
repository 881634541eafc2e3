-- The rows that are some of them, counted by their numbers.
use Prim.Native.Nat.{ℕ, zero, suc, ◌+◌, ◌*◌, ◌≤◌}
use native.Mathlib.Omega.{arith}
use native.Mathlib.Nat.{mul-zero}
use mathlib.Core.Path.{◌≡◌, refl, sym, ap, subst, ◌∙◌}
use mathlib.Core.Bool.{Bool, true, false}
use mathlib.Core.List.{◌∷◌}
use lib.ListN.{length, drop}
use lib.Seq.{drop-drop}
use Rattle.std.specs.Prelude.{cond}
use Rattle.std.specs.List.{filter, range_with_len}
use Rattle.rules.specs.Bytes.{Bytes}
use Rattle.rules.specs.Preorder.{Deep}
use Rattle.rules.specs.Layout.{FlatRow, row_size}
use Rattle.rules.specs.Decode.{read_row, read_many}
use Rattle.layout.specs.Bodies.{record_at}
use Rattle.row_walk.specs.declared.Which.{Which}
use Rattle.row_walk.specs.declared.Head.{Head}
use Rattle.row_walk.specs.Walk.{matches}
use Rattle.row_walk.specs.Step.{row_of_head, valueless}
use Rattle.walk_writer.proofs.StepLaws.{matches_any}
use Rattle.row_bound.specs.Bound.{only_if, matching_in}

-- one row, by what is read of it
pub one_matches : (which : Which) (h : Head) (row : Bytes) → row_of_head h (read_row row).row.value ≡ read_row row → {b : Bool} → b ≡ matches which (valueless h).row
    → b ≡ matches which (read_row row).row
one_matches which h row is e = e ∙ sym (matches_any which h (read_row row).row.value) ∙ ap (λ (x : Deep FlatRow). matches which x.row) is

-- r of n rows are counted
record Counted (all n r : ℕ) : Type 0 where
  is : r ≡ all
  most : r ≤ n

module _ (w : ℕ) (which : Which) (rows : Bytes) where
  -- whether row i is one of them
  abbrev pub row_matches : ℕ → Bool
  row_matches i = matches which (read_row (record_at (row_size w) i rows)).row

  count_from : (n j : ℕ) → Counted (matching_in which (read_many read_row (row_size w) n (drop (row_size w * j) rows))) n (length (filter row_matches (range_with_len j n)))
  unfolding matching_in
  count_from zero j = record { is = refl; most = omega arith }
  count_from (suc n) j = by (count_from n (j + 1)) (row_matches j)
    where
      size : ℕ
      size = row_size w

      left : Bytes
      left = drop size (drop (size * j) rows)

      z : size * j + size ≡ size * (j + 1)
      z = omega arith

      later : drop (size * (j + 1)) rows ≡ left
      later = sym (drop-drop size (size * j) rows ∙ ap (λ (k : ℕ). drop k rows) z)

      Rest : Bytes → Type 0
      Rest s = Counted (matching_in which (read_many read_row size n s)) n (length (filter row_matches (range_with_len (j + 1) n)))

      by : Rest (drop (size * (j + 1)) rows) → (b : Bool)
          → Counted (only_if b 1 + matching_in which (read_many read_row size n left)) (suc n)
          (length (cond b (j ∷ filter row_matches (range_with_len (j + 1) n)) (filter row_matches (range_with_len (j + 1) n))))
      by h true = let k = subst Rest later h in record { is = omega (arith, k.is); most = omega (arith, k.most) }
      by h false = let k = subst Rest later h in record { is = omega (arith, k.is); most = omega (arith, k.most) }

  pub counted_all : (n r : ℕ) → n ≤ 4096 → r ≡ length (filter row_matches (range_with_len 0 n)) → (r ≡ matching_in which (read_many read_row (row_size w) n rows)) × (r ≤ 4096)
  counted_all n r few e =
      let h = subst (λ (k : ℕ). Counted (matching_in which (read_many read_row (row_size w) n (drop k rows))) n (length (filter row_matches (range_with_len 0 n))))
      (mul-zero (row_size w)) (count_from n 0) in
      (e ∙ h.is, omega (arith, e, h.most, few))
