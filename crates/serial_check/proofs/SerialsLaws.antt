-- No two of the rows have one serial just where the serials read of them are distinct, as the contract says.
use Prim.Native.Nat.{ℕ, zero, suc, ◌<◌}
use native.Mathlib.Omega.{arith}
use native.Mathlib.Nat.{not-suc-le-zero, le_of_suc-le-suc}
use mathlib.Core.Path.{◌≡◌, refl, ap, ◌∙◌, sym}
use mathlib.Core.Bool.{Bool, true, false}
use mathlib.Core.List.{List, [], ◌∷◌, Memᴰ}
use lib.ListN.{length, drop, get_or}
use Rattle.layout.proofs.LayoutLaws.{record_first, record_after}
use Rattle.rules.specs.Bytes.{Bytes, numbers}
use Rattle.rules.specs.Model.{Distinct, distinct}
use Rattle.rules.specs.Layout.{row_size}
use Rattle.rules.specs.Decode.{read_row}
use Rattle.rules.proofs.TestLaws.{distinct_test}
use Rattle.serial_check.specs.Serials.{serial_of_deep, serials_of, serial_at_row, Apart}

-- ---- the serials of a body, by number
serials_length : (w count : ℕ) (rows : Bytes) → length (serials_of w count rows) ≡ count
unfolding serials_of
serials_length w zero rows = refl
serials_length w (suc count) rows = ap suc (serials_length w count (drop (row_size w) rows))

serials_at : (w count : ℕ) (rows : Bytes) (k : ℕ) → k < count → get_or (serials_of w count rows) k 0 ≡ serial_at_row w rows k
unfolding serials_of serial_at_row
serials_at w zero rows k h = absurd (not-suc-le-zero h)
serials_at w (suc count) rows zero h = ap (λ (b : Bytes). serial_of_deep (read_row b)) (record_first (row_size w) rows)
serials_at w (suc count) rows (suc k) h = serials_at w count (drop (row_size w) rows) k (le_of_suc-le-suc h) ∙ ap (λ (b : Bytes). serial_of_deep (read_row b)) (record_after (row_size w) k rows)

-- ---- by number, and by membership
at_member_lem : (xs : List ℕ) (i : ℕ) → i < length xs → Memᴰ (get_or xs i 0) xs
at_member_lem [] i h = absurd (not-suc-le-zero h)
at_member_lem (x ∷ xs) zero h = Memᴰ.head refl
at_member_lem (x ∷ xs) (suc i) h = Memᴰ.tail (at_member_lem xs i (le_of_suc-le-suc h))

member_at_lem : {x : ℕ} {xs : List ℕ} → Memᴰ x xs → (i : ℕ) × (i < length xs) × (get_or xs i 0 ≡ x)
member_at_lem (Memᴰ.head e) = (0, omega arith, sym e)
member_at_lem (Memᴰ.tail m) = let (i, h, e) = member_at_lem m in (suc i, omega arith, e)

-- no two at different places are alike
abbrev Different : List ℕ → Type 0
Different xs = (i k : ℕ) → i < k → k < length xs → get_or xs i 0 ≡ get_or xs k 0 → ⊥

different_distinct : (xs : List ℕ) → Different xs → Distinct xs
different_distinct [] f = tt
different_distinct (x ∷ xs) f = (
  λ m. let (k, h, e) = member_at_lem m in f 0 (suc k) (omega arith) (omega arith) (sym e),
  different_distinct xs (λ i k h l e. f (suc i) (suc k) (omega arith) (omega arith) e),
)

distinct_different : (xs : List ℕ) → Distinct xs → Different xs
distinct_different [] d i k h l e = not-suc-le-zero l
distinct_different (x ∷ xs) (n, d) zero zero h l e = not-suc-le-zero h
distinct_different (x ∷ xs) (n, d) zero (suc k) h l e = n (rw e (at_member_lem xs k (le_of_suc-le-suc l)))
distinct_different (x ∷ xs) (n, d) (suc i) zero h l e = not-suc-le-zero h
distinct_different (x ∷ xs) (n, d) (suc i) (suc k) h l e = distinct_different xs d i k (le_of_suc-le-suc h) (le_of_suc-le-suc l) e

-- no two of the rows have one serial, and their serials are distinct
module _ (w : ℕ) (rows : Bytes) (count : ℕ) where
  apart→ : Apart w rows count → distinct numbers (serials_of w count rows) ≡ true
  apart→ s = (distinct_test numbers (serials_of w count rows)).1 (different_distinct (serials_of w count rows) different)
    where
      different : Different (serials_of w count rows)
      different i k h l e =
          let n : k < count = omega (arith, serials_length w count rows) in
          s.apart i k h n (sym (serials_at w count rows i (omega arith)) ∙ e ∙ serials_at w count rows k n)

  apart← : distinct numbers (serials_of w count rows) ≡ true → Apart w rows count
  apart← d = record { apart = apart (distinct_different (serials_of w count rows) ((distinct_test numbers (serials_of w count rows)).0 d)) }
    where
      apart : Different (serials_of w count rows) → (i k : ℕ) → i < k → k < count → serial_at_row w rows i ≡ serial_at_row w rows k → ⊥
      apart f i k h l e =
          f i k h (omega (arith, serials_length w count rows)) (serials_at w count rows i (omega arith) ∙ e ∙ sym (serials_at w count rows k l))

-- what the walk decides is the test
pub accepts : {w : ℕ} {rows : Bytes} {count : ℕ} → Apart w rows count → true ≡ distinct numbers (serials_of w count rows)
accepts {w} {rows} {count} a = sym (apart→ w rows count a)

pub refuses : {w : ℕ} {rows : Bytes} {count : ℕ} → (Apart w rows count → ⊥) → false ≡ distinct numbers (serials_of w count rows)
refuses {w} {rows} {count} n = by (distinct numbers (serials_of w count rows)) refl
  where
    by : (b : Bool) → distinct numbers (serials_of w count rows) ≡ b → false ≡ b
    by true e = absurd (n (apart← w rows count e))
    by false e = refl
