-- Where two lists share their entries in one order, two entries of both stand in the same order in both.
use Prim.Native.Nat.{ℕ}
use mathlib.Core.Path.{◌≡◌, refl, sym, subst}
use mathlib.Core.Logic.{◌⊎◌, inl, inr, ⊎_elim}
use mathlib.Core.Bool.{Bool, true, false}
use mathlib.Core.List.Memᴰ
use mathlib.Core.List.{List, [], ◌∷◌, Memᴰ}
use Rattle.rules.specs.Bytes.{numbers}
use Rattle.rules.specs.Model.{member}
use Rattle.history.specs.History.{StandsBefore, SameOrder}
use Rattle.history.proofs.Stable.{shared, shared_take}

module _ (ks : List ℕ) where
  -- an entry is shared or passed
  taken_or_passed : (j : ℕ) (ls : List ℕ) → (shared ks (j ∷ ls) ≡ j ∷ shared ks ls) ⊎ (shared ks (j ∷ ls) ≡ shared ks ls)
  unfolding shared
  taken_or_passed j ls = by (member numbers j ks) refl
    where
      by : (c : Bool) → member numbers j ks ≡ c → (shared ks (j ∷ ls) ≡ j ∷ shared ks ls) ⊎ (shared ks (j ∷ ls) ≡ shared ks ls)
      by true q = inl (rw (q, shared))
      by false q = inr (rw (q, shared))

  in_shared : (l : ℕ) (ls : List ℕ) → Memᴰ l (shared ks ls) → Memᴰ l ls
  unfolding shared
  in_shared l [] i = i
  in_shared l (j ∷ ls) i =
      ⊎_elim (λ e. ⊎_elim (λ h. Memᴰ.head h) (λ t. Memᴰ.tail (in_shared l ls t)) (Memᴰ.cases_cons (subst (λ (z : List ℕ). Memᴰ l z) e i)))
      (λ e. Memᴰ.tail (in_shared l ls (subst (λ (z : List ℕ). Memᴰ l z) e i))) (taken_or_passed j ls)

  shared_in : (l : ℕ) (ls : List ℕ) → Memᴰ l ks → Memᴰ l ls → Memᴰ l (shared ks ls)
  shared_in l [] h x'' = elim x'' [ ]
  shared_in l (j ∷ ls) h (Memᴰ.head e) =
      subst (λ (z : List ℕ). Memᴰ l z) (sym (shared_take j ks ls (subst (λ (z : ℕ). Memᴰ z ks) e h))) (Memᴰ.head e)
  shared_in l (j ∷ ls) h (Memᴰ.tail i) =
      ⊎_elim (λ e. subst (λ (z : List ℕ). Memᴰ l z) (sym e) (Memᴰ.tail (shared_in l ls h i))) (λ e. subst (λ (z : List ℕ). Memᴰ l z) (sym e) (shared_in l ls h i)) (taken_or_passed j ls)

  before_shared : (k l : ℕ) (ls : List ℕ) → StandsBefore k l (shared ks ls) → StandsBefore k l ls
  unfolding shared
  before_shared k l [] b = b
  before_shared k l (j ∷ ls) b =
      ⊎_elim (λ e. ⊎_elim (λ (q, i). inl (q, in_shared l ls i)) (λ t. inr (before_shared k l ls t)) (subst (λ (z : List ℕ). StandsBefore k l z) e b))
      (λ e. inr (before_shared k l ls (subst (λ (z : List ℕ). StandsBefore k l z) e b))) (taken_or_passed j ls)

  shared_before : (k l : ℕ) (ls : List ℕ) → Memᴰ k ks → Memᴰ l ks → StandsBefore k l ls → StandsBefore k l (shared ks ls)
  shared_before k l [] h g b = absurd b
  shared_before k l (j ∷ ls) h g (inl (q, i)) =
      subst (λ (z : List ℕ). StandsBefore k l z) (sym (shared_take j ks ls (subst (λ (z : ℕ). Memᴰ z ks) q h))) (inl (q, shared_in l ls g i))
  shared_before k l (j ∷ ls) h g (inr b) =
      ⊎_elim (λ e. subst (λ (z : List ℕ). StandsBefore k l z) (sym e) (inr (shared_before k l ls h g b))) (λ e. subst (λ (z : List ℕ). StandsBefore k l z) (sym e) (shared_before k l ls h g b))
      (taken_or_passed j ls)

-- k and l stand in the same order in both
pub order_then : (ks ls : List ℕ) → shared ls ks ≡ shared ks ls → SameOrder ks ls
order_then ks ls e k l kk kl lk ll = (
  λ b. before_shared ks k l ls (subst (λ (z : List ℕ). StandsBefore k l z) e (shared_before ls k l ks kl ll b)),
  λ b. before_shared ls k l ks (subst (λ (z : List ℕ). StandsBefore k l z) (sym e) (shared_before ks k l ls kk lk b)),
)
