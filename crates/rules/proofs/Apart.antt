-- Names that stand once: a name at a place stands nowhere else.
use mathlib.Core.Path.{◌≡◌, refl, sym, ap, ◌∙◌}
use mathlib.Core.Bool.{Bool, true, false}
use mathlib.Core.List.Memᴰ
use mathlib.Core.List.{List, ◌∷◌, ◌++◌, append_assoc, Memᴰ, append-nil}
use Rattle.rules.specs.Model.{Members, names, Distinct, Equality}
use Rattle.rules.specs.Place.{Context, here, past, over, into, plug, before_place, after_place}
use Rattle.rules.proofs.Correct.{distinct_right, distinct_apart}

module _ {A : Type 0} where
  pub names_plug : (c : Context A) (t : Members A) → names (plug c t) ≡ before_place c ++ (names t ++ after_place c)
  unfolding names plug before_place after_place
  names_plug here t = sym (append-nil (names t))
  names_plug (past q n c) t = ap (λ (z : List A). n ∷ z) (names_plug c t)
  names_plug (over q k ms c) t = ap (λ (z : List A). names ms ++ z) (names_plug c t) ∙ sym (append_assoc (names ms) (before_place c) (names t ++ after_place c))
  names_plug (into q k c rest) t = rw (names_plug c t) (simp append_assoc)

  -- a name that stands at the place and nowhere else
  pub record Only (x : A) (c : Context A) (t : Members A) : Type 0 where
    pub left : Memᴰ x (before_place c) → ⊥
    pub mid : Memᴰ x (names t) → ⊥
    pub right : Memᴰ x (after_place c) → ⊥

  only_list : (x : A) (a b d : List A) → Distinct (a ++ (x ∷ (b ++ d))) → (Memᴰ x a → ⊥) × (Memᴰ x b → ⊥) × (Memᴰ x d → ⊥)
  only_list x a b d e = (
    λ m. distinct_apart a (x ∷ (b ++ d)) e x m (Memᴰ.head refl),
    λ m. (distinct_right a (x ∷ (b ++ d)) e).0 (Memᴰ.append_left d m),
    λ m. (distinct_right a (x ∷ (b ++ d)) e).0 (Memᴰ.append_right b m),
  )

  pub only : (x : A) (c : Context A) (t t' : Members A) → names t' ≡ x ∷ names t → Distinct (names (plug c t')) → Only x c t
  only x c t t' f d =
      let (l, m, r) = only_list x (before_place c) (names t) (after_place c) (rw (names_plug c t', f) at d) in
      record { left = l; mid = m; right = r }

  pub differs : (E : Equality A) (x y : A) → (x ≡ y → ⊥) → E.same x y ≡ false
  differs E x y f = by (E.same x y) refl
    where
      by : (b : Bool) → E.same x y ≡ b → E.same x y ≡ false
      by true e = absurd (f (E.same→ x y e))
      by false e = e
