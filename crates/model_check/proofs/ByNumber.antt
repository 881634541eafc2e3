-- The entries of a list by their numbers: what is said of the numbers from i on is what is said of the entries there.
use Prim.Native.Nat.{ℕ, zero, suc, ◌+◌, ◌<◌}
use native.Mathlib.Omega.{arith}
use mathlib.Core.Path.{◌≡◌, refl, sym, ap, ap₂, ◌∙◌}
use mathlib.Core.Bool.{Bool, ◌&&◌, ◌||◌, not}
use mathlib.Core.List.{List, [], ◌∷◌}
use lib.ListN.{length, drop, drop_of_length-le}
use Rattle.std.specs.List.{list_any, range_with_len}
use Rattle.rules.specs.Bytes.{any}
use Rattle.model_check.specs.Particles.{apart}

-- `entry i` is entry i of `xs`
module _ {A : Type 0} (xs : List A) (entry : ℕ → A) (cell : (i : ℕ) → i < length xs → drop i xs ≡ entry i ∷ drop (i + 1) xs) where
  past : (i : ℕ) → i + 0 ≡ length xs → drop i xs ≡ []
  past i e = drop_of_length-le xs {i = i} (omega (arith, e))

  pub some_from : (test : A → Bool) (k i : ℕ) → i + k ≡ length xs → list_any (λ j. test (entry j)) (range_with_len i k) ≡ any test (drop i xs)
  some_from test zero i e = sym (ap (any test) (past i e))
  some_from test (suc k) i e =
      ap (λ (b : Bool). test (entry i) || b) (some_from test k (i + 1) (omega (arith, e))) ∙ sym (ap (any test) (cell i (omega (arith, e))))

  pub apart_from : (clash : A → A → Bool) (k i : ℕ) → i + k ≡ length xs → apart (λ (j l : ℕ). clash (entry j) (entry l)) (range_with_len i k) ≡ apart clash (drop i xs)
  unfolding apart
  apart_from clash zero i e = sym (ap (apart clash) (past i e))
  apart_from clash (suc k) i e =
      ap₂ (λ (b d : Bool). not b && d) (list_is (clash (entry i)) (range_with_len (i + 1) k) ∙ some_from (clash (entry i)) k (i + 1) (omega (arith, e))) (apart_from clash k (i + 1) (omega (arith, e)))
      ∙ sym (ap (apart clash) (cell i (omega (arith, e))))
    where
      list_is : (test : A → Bool) (js : List ℕ) → any (λ j. test (entry j)) js ≡ list_any (λ j. test (entry j)) js
      list_is test [] = refl
      list_is test (j ∷ js) = ap (λ (b : Bool). test (entry j) || b) (list_is test js)
