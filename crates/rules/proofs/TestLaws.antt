-- What the tests on lists say, in terms of membership; a list of entries that
-- stand once is no longer than a list that has them all.
use Prim.Native.Nat.{suc, ◌≤◌}
use native.Mathlib.Omega.{arith}
use mathlib.Core.Path.{◌≡◌, refl, sym, ap, ◌∙◌}
use mathlib.Core.Logic.{◌⊎◌, inl, inr, ⊎_elim, ◌↔◌}
use mathlib.Core.Bool.{Bool, true, false, not, false≢true}
use mathlib.Core.List.Memᴰ
use mathlib.Core.List.{List, [], ◌∷◌, Memᴰ}
use lib.ListN.{length}
use Rattle.rules.specs.Bytes.{all, any}
use Rattle.rules.specs.Model.{Equality, Distinct, member, distinct}
use Rattle.rules.proofs.Words.{or_cases, and_both, and_split, either}
use Rattle.rules.proofs.BooleanLaws.{all_of, all_in, any_in}
use Rattle.rules.proofs.Letters.{member_in}

pub not_test : (b : Bool) → (not b ≡ true) ↔ (b ≡ true → ⊥)
not_test true = (λ e t. false≢true e, λ f. absurd (f refl))
not_test false = (λ e t. false≢true t, λ f. refl)

module _ {A : Type 0} (p : A → Bool) where
  pub all_test : (xs : List A) → (all p xs ≡ true) ↔ ((x : A) → Memᴰ x xs → p x ≡ true)
  all_test xs = (λ e x m. all_in p x xs e m, all_of p xs)

  any→ : (xs : List A) → any p xs ≡ true → (x : A) × Memᴰ x xs × (p x ≡ true)
  any→ [] e = absurd (false≢true e)
  any→ (y ∷ ys) e = by (any→ ys) (or_cases (p y) (any p ys) e)
    where
      by : (any p ys ≡ true → (x : A) × Memᴰ x ys × (p x ≡ true)) → (p y ≡ true) ⊎ (any p ys ≡ true) → (x : A) × Memᴰ x (y ∷ ys) × (p x ≡ true)
      by k (inl h) = (y, Memᴰ.head refl, h)
      by k (inr h) = let (x, m, q) = k h in (x, Memᴰ.tail m, q)

  pub any_test : (xs : List A) → (any p xs ≡ true) ↔ ((x : A) × Memᴰ x xs × (p x ≡ true))
  any_test xs = (any→ xs, λ (x, m, q). any_in p x xs m q)

module _ {A : Type 0} where
  -- a list without one of its entries
  cut : {y : A} {zs : List A} → Memᴰ y zs → (rest : List A) × (length zs ≡ suc (length rest)) × ((x : A) → Memᴰ x zs → (x ≡ y) ⊎ Memᴰ x rest)
  cut (Memᴰ.head {xs = xs} e) = (xs, refl, λ x m. either (λ q. q ∙ sym e) (λ k. k) (Memᴰ.cases_cons m))
  cut (Memᴰ.tail {x = z} m) =
      let (rest, l, f) = cut m in
      (z ∷ rest, ap suc l, λ x k. ⊎_elim (λ q. inr (Memᴰ.head q)) (λ j. either (λ q. q) (λ i. Memᴰ.tail i) (f x j)) (Memᴰ.cases_cons k))

  pub pigeonhole : (ys zs : List A) → Distinct ys → ((x : A) → Memᴰ x ys → Memᴰ x zs) → length ys ≤ length zs
  pigeonhole [] zs d f = omega arith
  pigeonhole (y ∷ ys) zs (n, d) f =
      let (rest, l, g) = cut (f y (Memᴰ.head refl)) in
      omega (arith, l, pigeonhole ys rest d (λ x m. ⊎_elim (λ q. absurd (n (Memᴰ.cast (sym q) m))) (λ k. k) (g x (f x (Memᴰ.tail m)))))

module _ {A : Type 0} (E : Equality A) where
  member→ : (x : A) (l : List A) → member E x l ≡ true → Memᴰ x l
  unfolding member
  member→ x [] e = absurd (false≢true e)
  member→ x (y ∷ l) e = by (E.same x y) refl (member→ x l)
    where
      by : (b : Bool) → E.same x y ≡ b → (member E x l ≡ true → Memᴰ x l) → Memᴰ x (y ∷ l)
      by true q f = Memᴰ.head (E.same→ x y q)
      by false q f = Memᴰ.tail (f (rw (q, member) at e))

  pub member_test : (x : A) (l : List A) → (member E x l ≡ true) ↔ Memᴰ x l
  member_test x l = (member→ x l, member_in E x l)

  pub distinct_test : (l : List A) → (distinct E l ≡ true) ↔ Distinct l
  unfolding distinct
  distinct_test [] = (λ e. tt, λ d. refl)
  distinct_test (x ∷ l) = (
    λ e. let (n, d) = and_split (not (member E x l)) (distinct E l) e in (λ m. (not_test (member E x l)).0 n (member_in E x l m), (distinct_test l).0 d),
    λ (n, d). and_both ((not_test (member E x l)).1 (λ e. n (member→ x l e))) ((distinct_test l).1 d),
  )
