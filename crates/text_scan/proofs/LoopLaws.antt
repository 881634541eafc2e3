-- Words on texts as the library's methods find them: the front of bytes that pass a test, and a word at the front.
use Prim.Native.Nat.{ℕ, ◌+◌, ◌<◌}
use native.Mathlib.Omega.{arith}
use native.Mathlib.Numerals.{add-one}
use mathlib.Core.Path.{◌≡◌, refl, sym, ap, ◌∙◌}
use mathlib.Core.Bool.{Bool, true, false, ◌&&◌}
use mathlib.Core.List.{[], ◌∷◌}
use lib.Dec.{eqb}
use lib.ListN.{length, take, drop, get_or}
use lib.Seq.{drop-cons}
use Rattle.std.specs.Prelude.{Option, unwrap_or, MatchOption}
use Rattle.std.specs.List.{AllWithin, HoldsAt}
use Rattle.std.specs.Cmp.Lexicographic.{pointwise}
use Rattle.std.proofs.lemmas.Iterator.{index_from_first}
use Rattle.rules.specs.Bytes.{Bytes}
use Rattle.text_scan.specs.Scan.{starts_with, front_while}

-- a text from byte i on
pub text_rest : (txt : Bytes) (i : ℕ) → i < length txt → drop i txt ≡ get_or txt i 0 ∷ drop (i + 1) txt
text_rest txt i h = drop-cons txt i 0 h ∙ ap (λ (k : ℕ). get_or txt i 0 ∷ drop k txt) (sym (add-one i))

-- the front of bytes that pass a test is as long as the place of the first that does not
module _ (p : ℕ → Bool) where
  front_none : length (front_while p []) ≡ 0
  unfolding front_while
  front_none = refl

  front_hit : (x : ℕ) (xs : Bytes) → p x ≡ false → length (front_while p (x ∷ xs)) ≡ 0
  unfolding front_while
  front_hit x xs e = rw (e, front_while)

  front_miss : (x : ℕ) (xs : Bytes) → p x ≡ true → length (front_while p (x ∷ xs)) ≡ length (front_while p xs) + 1
  unfolding front_while
  front_miss x xs e = rw (e, front_while) (omega arith)

  pub front_first : (xs : Bytes) (r : Option ℕ)
      → MatchOption r (AllWithin (λ x. p x ≡ true) xs 0 (length xs)) (λ i. (i < length xs) × HoldsAt (λ x. p x ≡ false) xs i × AllWithin (λ x. p x ≡ true) xs 0 i)
      → length (front_while p xs) ≡ unwrap_or r (length xs)
  front_first = index_from_first (λ xs. length (front_while p xs)) (λ x. p x ≡ false) (λ x. p x ≡ true) front_none front_hit front_miss

-- the library's comparison of a word with as many bytes of the text
pub starts_front : (w txt : Bytes) → pointwise eqb w (take (length w) txt) ≡ starts_with w txt
unfolding starts_with
starts_front [] txt = refl
starts_front (x ∷ w) [] = refl
starts_front (x ∷ w) (y ∷ txt) = ap (λ (b : Bool). eqb x y && b) (starts_front w txt)
