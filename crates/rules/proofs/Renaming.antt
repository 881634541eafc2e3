-- Names for indices: the one-pass test says the same.
use mathlib.Core.Path.{◌≡◌, refl, ap, ap₂}
use mathlib.Core.Bool.{Bool, ◌&&◌}
use mathlib.Core.List.Memᴰ
use mathlib.Core.List.{List, [], ◌∷◌, map, Memᴰ}
use Rattle.rules.specs.declared.GroupKind.{GroupKind}
use Rattle.rules.specs.declared.GroupKind.TheVariants.{Sequence}
use Rattle.rules.specs.Model.{Members, done, el, group, names, Equality, rename}
use Rattle.rules.specs.declared.Facts.{Facts}
use Rattle.rules.specs.Automaton.{facts, continues, accepts}
use Rattle.rules.proofs.RenamingPlaces.{nothing_rename}

module _ {A B : Type 0} (E : Equality A) (F : Equality B) (f : A → B) (P : A → Type 0)
    (same : (x y : A) → P x → P y → F.same (f x) (f y) ≡ E.same x y) where
  rename_facts : (k : GroupKind) (ms : Members A) → ((n : A) → Memᴰ n (names ms) → P n) → (x y : A) → P x → P y → facts F k (rename f ms) (f x) (f y) ≡ facts E k ms x y
  unfolding facts rename names
  rename_facts k done p x y a b = refl
  rename_facts k (el q n rest) p x y a b = rw (same y n b (p n (Memᴰ.head refl)), same x n a (p n (Memᴰ.head refl)), rename_facts k rest (λ m i. p m (Memᴰ.tail i)) x y a b)
  rename_facts k (group q j ms rest) p x y a b =
      rw (rename_facts j ms (λ m i. p m (Memᴰ.append_left (names rest) i)) x y a b, rename_facts k rest (λ m i. p m (Memᴰ.append_right (names ms) i)) x y a b)

  module _ (ms : Members A) (p : (n : A) → Memᴰ n (names ms) → P n) where
    rename_continues : (x : A) (w : List A) → P x → ((n : A) → Memᴰ n w → P n) → continues F (rename f ms) (f x) (map f w) ≡ continues E ms x w
    unfolding continues
    rename_continues x [] a b = ap (λ (z : Facts). z.last) (rename_facts Sequence ms p x x a a)
    rename_continues x (y ∷ w) a b =
        ap₂ (λ (i j : Bool). i && j) (ap (λ (z : Facts). z.follow) (rename_facts Sequence ms p x y a (b y (Memᴰ.head refl))))
        (rename_continues y w (b y (Memᴰ.head refl)) (λ n i. b n (Memᴰ.tail i)))

    pub rename_accepts : (w : List A) → ((n : A) → Memᴰ n w → P n) → accepts F (rename f ms) (map f w) ≡ accepts E ms w
    unfolding accepts
    rename_accepts [] b = nothing_rename f Sequence ms
    rename_accepts (y ∷ w) b =
        ap₂ (λ (i j : Bool). i && j) (ap (λ (z : Facts). z.first) (rename_facts Sequence ms p y y (b y (Memᴰ.head refl)) (b y (Memᴰ.head refl))))
        (rename_continues y w (b y (Memᴰ.head refl)) (λ n i. b n (Memᴰ.tail i)))
