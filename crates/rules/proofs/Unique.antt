-- The split of a word at a place on the spine is the only one; the test of the check in place of the language.
use mathlib.Core.Path.{◌≡◌, refl, sym, ◌∙◌}
use mathlib.Core.Bool.{true}
use mathlib.Core.List.{List, [], ◌∷◌, ◌++◌, Memᴰ}
use mathlib.Core.List.{head-eq_of_cons-eq, tail-eq_of_cons-eq}
use Rattle.rules.specs.Model.{Members, names, Distinct, Equality}
use Rattle.rules.specs.Language.{Conforms}
use Rattle.rules.specs.Automaton.{accepts}
use Rattle.rules.specs.Place.{Context, before_place}
use Rattle.rules.proofs.Spine.{Split, later}
use Rattle.rules.proofs.Correct.{accepts_conforms}

module _ {A : Type 0} (S : A → Type 0) where
  -- a first part inside S, a second outside: no other parts are
  parts : (u v a b : List A) → ((y : A) → Memᴰ y u → S y) → ((y : A) → Memᴰ y v → S y → ⊥) → ((y : A) → Memᴰ y a → S y) → ((y : A) → Memᴰ y b → S y → ⊥)
      → u ++ v ≡ a ++ b → (u ≡ a) × (v ≡ b)
  parts [] v [] b f g h i e = (refl, e)
  parts [] v (y ∷ a) b f g h i e = absurd (g y (rw e (Memᴰ.head refl)) (h y (Memᴰ.head refl)))
  parts (x ∷ u) v [] b f g h i e = absurd (i x (rw (← e) (Memᴰ.head refl)) (f x (Memᴰ.head refl)))
  parts (x ∷ u) v (y ∷ a) b f g h i e =
      let (p, q) = parts u v a b (λ z m. f z (Memᴰ.tail m)) g (λ z m. h z (Memᴰ.tail m)) i (tail-eq_of_cons-eq e) in
      (cc (head-eq_of_cons-eq e, p), q)

module _ {A : Type 0} (c : Context A) (t : Members A) (w : List A) (p r : Split c t w) where
  rest_of : (s : Split c t w) → (y : A) → Memᴰ y (s.mid ++ s.right) → Memᴰ y (before_place c) → ⊥
  rest_of s = later c t w s s.mid s.right s.mid_in s.right_in

  pub split_unique : (p.left ≡ r.left) × (p.mid ≡ r.mid) × (p.right ≡ r.right)
  split_unique =
      let (a, b) = parts (λ y. Memᴰ y (before_place c)) p.left (p.mid ++ p.right) r.left (r.mid ++ r.right) p.left_in (rest_of p) r.left_in
      (rest_of r) (p.whole ∙ sym r.whole) in
      let (d, e) = parts (λ y. Memᴰ y (names t)) p.mid p.right r.mid r.right p.mid_in (λ y m i. p.apart_right y i (p.right_in y m))
      r.mid_in (λ y m i. r.apart_right y i (r.right_in y m)) b in
      (a, d, e)

-- what takes the words of one model to words of another does so for the test
pub accepts_carried : {A : Type 0} (E : Equality A) (ms ns : Members A) → Distinct (names ms) → Distinct (names ns) → (w v : List A)
    → (Conforms ms w → Conforms ns v) → accepts E ms w ≡ true → accepts E ns v ≡ true
accepts_carried E ms ns d e w v f a = (accepts_conforms E ns e v).1 (f ((accepts_conforms E ms d w).0 a))
