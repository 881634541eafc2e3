-- A word that is one of L and then one of M, by its first letter; and facts on tests.
use Prim.Native.Nat.{ℕ, ◌<◌, ◌≤◌}
use mathlib.Core.Path.{◌≡◌, refl, sym, ap, ◌∙◌}
use mathlib.Core.Logic.{◌⊎◌, inl, inr}
use mathlib.Core.Bool.{Bool, true, false, not, ◌&&◌, ◌||◌}
use mathlib.Core.List.{List, [], ◌∷◌, cons≢nil, head-eq_of_cons-eq, tail-eq_of_cons-eq}
use lib.Dec.{ltb}
use borrow.Author.Tests.{ltb-true, ltb-false}
pub use mathlib.Core.Logic.{⊎_map as either}
pub use Rattle.std.proofs.lemmas.Bool.{and_parts as and_split, or_parts as or_split, or_from as or_both, and_right as and_off}
pub use Rattle.rules.specs.Bytes.{and_both}
use Rattle.rules.specs.Language.{Language, Then}

module _ {A : Type 0} {L M : Language A} where
  pub here : {w : List A} → L [] → M w → Then L M w
  here {w} l m = ([], w, refl, l, m)

  pub there : (y : A) {w : List A} → Then (λ u. L (y ∷ u)) M w → Then L M (y ∷ w)
  there y (u, v, e, l, m) = (y ∷ u, v, ap (λ (t : List A). y ∷ t) e, l, m)

  pub then_nil : Then L M [] → L [] × M []
  then_nil ([], v, e, l, m) = (l, rw e at m)
  then_nil (x ∷ u, v, e, l, m) = absurd (cons≢nil e)

  pub then_cons : (y : A) (w : List A) → Then L M (y ∷ w) → (L [] × M (y ∷ w)) ⊎ Then (λ u. L (y ∷ u)) M w
  then_cons y w ([], v, e, l, m) = inl (l, rw e at m)
  then_cons y w (x ∷ u, v, e, l, m) = inr (u, v, tail-eq_of_cons-eq e, rw (head-eq_of_cons-eq e) at l, m)

pub or_left : {a : Bool} (b : Bool) → a ≡ true → (a || b) ≡ true
or_left b e = rw e

pub or_right : (a : Bool) {b : Bool} → b ≡ true → (a || b) ≡ true
or_right true e = refl
or_right false e = e

pub or_cases : (a b : Bool) → (a || b) ≡ true → (a ≡ true) ⊎ (b ≡ true)
or_cases true b e = inl refl
or_cases false b e = inr e

pub and_held : (a b : Bool) → b ≡ true → (a && b) ≡ a
and_held true b e = e
and_held false b e = refl

-- a test that is another one
pub test_is : {a b c : Bool} → a ≡ b → a ≡ c → b ≡ c
test_is e h = sym e ∙ h

pub not_is : {a b c : Bool} → a ≡ b → not a ≡ c → not b ≡ c
not_is e h = ap not (sym e) ∙ h

-- two tests that hold in the same cases
pub same_truth : (a b : Bool) → (a ≡ true → b ≡ true) → (b ≡ true → a ≡ true) → a ≡ b
same_truth true b f g = sym (f refl)
same_truth false true f g = g refl
same_truth false false f g = refl

-- a number is below another one, or it is not
pub below_or : (a b : ℕ) → (a < b) ⊎ (b ≤ a)
below_or a b = by (ltb a b) refl
  where
    by : (c : Bool) → ltb a b ≡ c → (a < b) ⊎ (b ≤ a)
    by true q = inl (ltb-true a b q)
    by false q = inr (ltb-false a b q)
