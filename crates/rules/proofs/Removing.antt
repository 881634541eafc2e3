-- Change 4: a word without the name is a word of the model without the element.
use Prim.Native.Nat.{ℕ, zero, suc, ◌≤◌}
use native.Mathlib.Omega.{arith}
use mathlib.Core.Path.{◌≡◌, refl, sym, ap, ◌∙◌}
use mathlib.Core.Logic.{◌⊎◌, inl, inr, ⊎_elim}
use mathlib.Core.Bool.{Bool, true, false, ◌||◌, false≢true}
use mathlib.Core.List.Memᴰ
use mathlib.Core.List.{List, [], ◌∷◌, ◌++◌, Memᴰ}
use Rattle.rules.specs.declared.Quantifier.{Quantifier}
use Rattle.rules.specs.declared.Quantifier.TheVariants.{None, Qmark, Star, Plus}
use Rattle.rules.specs.declared.GroupKind.{GroupKind}
use Rattle.rules.specs.declared.GroupKind.TheVariants.{Sequence, Choice}
use Rattle.rules.specs.Model.{Members, el, names, Distinct, Equality, skips, nothing}
use Rattle.rules.specs.Language.{Language, Times, Allowed, Repeated, Joined, Matches, Conforms}
use Rattle.rules.specs.Place.{Context, here, past, over, into, plug, before_place, after_place}
use Rattle.rules.proofs.AroundLaws.{leaves}
use Rattle.rules.proofs.Children.{erase}
use Rattle.rules.proofs.Words.{or_cases}
use Rattle.rules.proofs.Nothing.{nothing→}
use Rattle.rules.proofs.Apart.{Only, only, differs}
use Rattle.rules.proofs.Carry.{Spread, Carries, Kept, relaxes_same, carry_joined, carry_repeated, carry_kept, carry_single}

module _ {A : Type 0} (E : Equality A) (x : A) where
  pub erase_append : (u v : List A) → erase E x (u ++ v) ≡ erase E x u ++ erase E x v
  unfolding erase
  erase_append [] v = refl
  erase_append (y ∷ u) v = by (E.same y x) (erase_append u v)
    where
      by : (b : Bool) → erase E x (u ++ v) ≡ erase E x u ++ erase E x v
          → elim b [ true ↦ erase E x (u ++ v) | false ↦ y ∷ erase E x (u ++ v) ] ≡ elim b [ true ↦ erase E x u | false ↦ y ∷ erase E x u ] ++ erase E x v
      by true e = e
      by false e = ap (λ (z : List A). y ∷ z) e

  pub erased : Spread (erase E x)
  unfolding erase
  erased = record { none = refl; app = erase_append }

  erase_other : (n : A) → (n ≡ x → ⊥) → erase E x (n ∷ []) ≡ n ∷ []
  unfolding erase
  erase_other n f = rw (differs E n x f, erase)

  erase_this : erase E x (x ∷ []) ≡ []
  unfolding erase
  erase_this = rw (E.same← x x refl, erase)

  pub erase_kept : (ns : List A) → (Memᴰ x ns → ⊥) → Kept (erase E x) ns
  erase_kept ns f n m = erase_other n (λ e. f (Memᴰ.cast (sym e) m))

  pub erase_times : (n : ℕ) (w : List A) → Times n (λ u. u ≡ x ∷ []) w → erase E x w ≡ []
  unfolding erase
  erase_times zero w e = ap (erase E x) e
  erase_times (suc n) w (u, v, e, l, t) =
      let i : erase E x v ≡ [] = erase_times n v t in
      let a : erase E x u ≡ [] = ap (erase E x) l ∙ erase_this in
      let b : erase E x w ≡ erase E x u ++ erase E x v = ap (erase E x) (sym e) ∙ erase_append u v in
      b ∙ rw (a, i)

pub list≢choice : Sequence ≡ Choice → ⊥
list≢choice e = let z : ◌≡◌ {A = ℕ} 0 1 = cc in omega arith

module _ {A : Type 0} {h : List A → List A} (H : Spread h) where
  -- nothing is left of a word, and that is well
  abbrev Gone : GroupKind → Bool → List A → Type 0
  Gone k b w = (k ≡ Choice) × (b ≡ true) × (h w ≡ [])

  module _ (L M M' : Language A) where
    gone_past : (k : GroupKind) (b : Bool) → Carries h L L → ((w : List A) → M w → M' (h w) ⊎ Gone k b w) → (w : List A) → Joined k L M w → Joined k L M' (h w) ⊎ Gone k b w
    gone_past Sequence b f g w (u, v, e, l, m) =
        ⊎_elim (λ (r : M' (h v)). inl (h u, h v, sym (H.app u v) ∙ ap h e, f.carry u l, r)) (λ (z : Gone Sequence b v). absurd (list≢choice z.0)) (g v m)
    gone_past Choice b f g w (inl l) = inl (inl (f.carry w l))
    gone_past Choice b f g w (inr m) = ⊎_elim (λ r. inl (inr r)) (λ z. inr z) (g w m)

  module _ (L M : Language A) (q : Quantifier) where
    abbrev Fewer : ℕ → List A → Type 0
    Fewer n w = (m : ℕ) × (m ≤ n) × ((m ≡ n) ⊎ (skips q ≡ true)) × Times m M (h w)

    module _ (f : (w : List A) → L w → M (h w) ⊎ ((skips q ≡ true) × (h w ≡ []))) where
      fewer_one : (n : ℕ) (u v w : List A) → u ++ v ≡ w → M (h u) ⊎ ((skips q ≡ true) × (h u ≡ [])) → Fewer n v → Fewer (suc n) w
      fewer_one n u v w e (inl a) (m, le, s, t) =
          (suc m, omega arith, ⊎_elim (λ (p : m ≡ n). inl (ap suc p)) (λ p. inr p) s, (h u, h v, sym (H.app u v) ∙ ap h e, a, t))
      fewer_one n u v w e (inr (k, z)) (m, le, s, t) =
          let p : h v ≡ h w = sym (ap (λ (y : List A). y ++ h v) z) ∙ (sym (H.app u v) ∙ ap h e) in
          (m, omega arith, inr k, rw p at t)

      fewer : (n : ℕ) (w : List A) → Times n L w → Fewer n w
      fewer zero w e = (0, omega arith, inl refl, ap h e ∙ H.none)
      fewer (suc n) w (u, v, e, l, t) = fewer_one n u v w e (f u l) (fewer n v t)

      allowed_fewer : (r : Quantifier) (m n : ℕ) → m ≤ n → (m ≡ n) ⊎ (skips r ≡ true) → Allowed r n → Allowed r m
      allowed_fewer r m n le (inl e) a = rw e a
      allowed_fewer None m n le (inr e) a = absurd (false≢true e)
      allowed_fewer Qmark m n le (inr e) a = omega arith
      allowed_fewer Star m n le (inr e) a = tt
      allowed_fewer Plus m n le (inr e) a = absurd (false≢true e)

      repeated_fewer : Carries h (Repeated q L) (Repeated q M)
      repeated_fewer = record { carry = go }
        where
          go : (w : List A) → Repeated q L w → Repeated q M (h w)
          go w (n, a, t) = let (m, le, s, r) = fewer n w t in (m, allowed_fewer q m n le s a, r)

    repeated_gone : (d : Bool) → (d ≡ true → M []) → ((w : List A) → L w → M (h w) ⊎ (((skips q || d) ≡ true) × (h w ≡ []))) → Carries h (Repeated q L) (Repeated q M)
    repeated_gone true g f = carry_repeated H (relaxes_same q) (record { carry = λ w l. ⊎_elim (λ m. m) (λ z. rw z.1 (g refl)) (f w l) })
    repeated_gone false g f = repeated_fewer (λ w l. ⊎_elim (λ m. inl m) (λ z. inr (⊎_elim (λ s. s) (λ y. absurd (false≢true y)) (or_cases (skips q) false z.0), z.1)) (f w l))

module _ {A : Type 0} (E : Equality A) (x : A) (q : Quantifier) (t : Members A) (kept : Kept (erase E x) (names t)) where
  H : Spread (erase E x)
  H = erased E x

  removed : (b : Bool) (k : GroupKind) (c : Context A) → Kept (erase E x) (before_place c) → Kept (erase E x) (after_place c) → leaves b k c t ≡ true
      → (w : List A) → Matches k (plug c (el q x t)) w → Matches k (plug c t) (erase E x w) ⊎ ((k ≡ Choice) × (b ≡ true) × (erase E x w ≡ []))
  unfolding Matches plug before_place after_place leaves
  removed b Sequence here f g e w (u, v, p, (n, a, r), m) =
      let z : erase E x v ≡ erase E x w = sym (ap (λ (y : List A). y ++ erase E x v) (erase_times E x n u r)) ∙ (sym (H.app u v) ∙ ap (erase E x) p) in
      inl (rw z at ((carry_kept H Sequence t kept).carry v m))
  removed b Choice here f g e w (inl (n, a, r)) = inr (refl, e, erase_times E x n w r)
  removed b Choice here f g e w (inr m) = inl ((carry_kept H Choice t kept).carry w m)
  removed b k (past r n c) f g e w m =
      gone_past H _ _ _ k b (carry_repeated H (relaxes_same r) (carry_single H n (f n (Memᴰ.head refl)))) (removed b k c (λ y z. f y (Memᴰ.tail z)) g e) w m
  removed b k (over r j ms c) f g e w m =
      gone_past H _ _ _ k b (carry_repeated H (relaxes_same r) (carry_kept H j ms (λ y z. f y (Memᴰ.append_left (before_place c) z))))
      (removed b k c (λ y z. f y (Memᴰ.append_right (names ms) z)) g e) w m
  removed b k (into r j c rest) f g e w m =
      inl ((carry_joined H k
      (repeated_gone H (Matches j (plug c (el q x t))) (Matches j (plug c t)) r (nothing j (plug c t)) (nothing→ j (plug c t))
      (λ v n. ⊎_elim (λ y. inl y) (λ y. inr (y.1, y.2)) (removed (skips r || nothing j (plug c t)) j c f (λ y z. g y (Memᴰ.append_left (names rest) z)) e v n)))
      (carry_kept H k rest (λ y z. g y (Memᴰ.append_right (after_place c) z)))).carry w m)

-- 4: REMOVAL
pub remove_element_lem : {A : Type 0} (E : Equality A) (x : A) (c : Context A) (q : Quantifier) (t : Members A) → Distinct (names (plug c (el q x t))) → leaves true Sequence c t ≡ true
    → Carries (erase E x) (Conforms (plug c (el q x t))) (Conforms (plug c t))
unfolding names
remove_element_lem {A} E x c q t d e =
    record {
      carry = λ w m. ⊎_elim (λ y. y) (λ z. absurd (list≢choice z.0))
          (removed E x q t (erase_kept E x (names t) o.mid) true Sequence c (erase_kept E x (before_place c) o.left) (erase_kept E x (after_place c) o.right) e w m);
    }
  where
    o : Only x c t
    o = only x c t (el q x t) refl d
