-- What a change of words that respects concatenation carries from language to language.
use Prim.Native.Nat.{ℕ, zero, suc}
use mathlib.Core.Path.{◌≡◌, refl, sym, ap, ◌∙◌}
use mathlib.Core.Logic.{inl, inr, ⊎_elim}
use mathlib.Core.List.Memᴰ
use mathlib.Core.List.{List, [], ◌∷◌, ◌++◌, Memᴰ}
use Rattle.rules.specs.declared.Quantifier.{Quantifier}
use Rattle.rules.specs.declared.GroupKind.{GroupKind}
use Rattle.rules.specs.declared.GroupKind.TheVariants.{Sequence, Choice}
use Rattle.rules.specs.Model.{Members, done, el, group, names}
use Rattle.rules.specs.Language.{Language, Then, Times, Allowed, Repeated, Joined, Ended, Matches}
use Rattle.rules.specs.Place.{Context, here, past, over, into, plug, kind_at, before_place, after_place}

-- one word after another goes to one after another
pub record Spread {A B : Type 0} (h : List A → List B) : Type 0 where
  pub none : h [] ≡ []
  pub app : (u v : List A) → h (u ++ v) ≡ h u ++ h v

-- `h` takes the words of `L` into `M`
pub record Carries {A B : Type 0} (h : List A → List B) (L : Language A) (M : Language B) : Type 0 where
  pub carry : (w : List A) → L w → M (h w)

abbrev pub Kept : {A : Type 0} → (List A → List A) → List A → Type 0
Kept {A} h ns = (n : A) → Memᴰ n ns → h (n ∷ []) ≡ n ∷ []

-- every number that `q` allows, `r` allows
pub record Relaxes (q r : Quantifier) : Type 0 where
  pub allow : (n : ℕ) → Allowed q n → Allowed r n

pub relaxes_same : (q : Quantifier) → Relaxes q q
relaxes_same q = record { allow = λ n a. a }

module _ {A B : Type 0} {h : List A → List B} (H : Spread h) where
  pub carry_then : {L M : Language A} {L' M' : Language B} → Carries h L L' → Carries h M M' → Carries h (Then L M) (Then L' M')
  carry_then f g = record { carry = λ w t. (h t.0, h t.1, sym (H.app t.0 t.1) ∙ ap h t.2, f.carry t.0 t.3, g.carry t.1 t.4) }

  pub carry_times : (n : ℕ) {L : Language A} {L' : Language B} → Carries h L L' → Carries h (Times n L) (Times n L')
  carry_times zero f = record { carry = λ w e. ap h e ∙ H.none }
  carry_times (suc n) f = carry_then f (carry_times n f)

  pub carry_repeated : {q r : Quantifier} {L : Language A} {L' : Language B} → Relaxes q r → Carries h L L' → Carries h (Repeated q L) (Repeated r L')
  carry_repeated x f = record { carry = λ w t. (t.0, x.allow t.0 t.1, (carry_times t.0 f).carry w t.2) }

  pub carry_joined : (k : GroupKind) {L M : Language A} {L' M' : Language B} → Carries h L L' → Carries h M M' → Carries h (Joined k L M) (Joined k L' M')
  carry_joined Sequence f g = carry_then f g
  carry_joined Choice f g = record { carry = λ w. ⊎_elim (λ l. inl (f.carry w l)) (λ m. inr (g.carry w m)) }

module _ {A : Type 0} {h : List A → List A} (H : Spread h) where
  pub carry_ended : (k : GroupKind) → Carries h (Ended k) (Ended k)
  carry_ended Sequence = record { carry = λ w e. ap h e ∙ H.none }
  carry_ended Choice = record { carry = λ w e. absurd e }

  pub carry_single : (n : A) → h (n ∷ []) ≡ n ∷ [] → Carries h (λ w. w ≡ n ∷ []) (λ w. w ≡ n ∷ [])
  carry_single n e = record { carry = λ w x. ap h x ∙ e }

  pub carry_kept : (k : GroupKind) (ms : Members A) → Kept h (names ms) → Carries h (Matches k ms) (Matches k ms)
  unfolding Matches names
  carry_kept k done f = carry_ended k
  carry_kept k (el q n rest) f =
      carry_joined H k (carry_repeated H (relaxes_same q) (carry_single n (f n (Memᴰ.head refl)))) (carry_kept k rest (λ x m. f x (Memᴰ.tail m)))
  carry_kept k (group q j ms rest) f =
      carry_joined H k (carry_repeated H (relaxes_same q) (carry_kept j ms (λ x m. f x (Memᴰ.append_left (names rest) m)))) (carry_kept k rest (λ x m. f x (Memᴰ.append_right (names ms) m)))

  -- AT ANY PLACE: what is carried there is carried in the whole
  pub carry_plug : (k : GroupKind) (c : Context A) (t t' : Members A) → Kept h (before_place c) → Kept h (after_place c)
      → Carries h (Matches (kind_at k c) t) (Matches (kind_at k c) t') → Carries h (Matches k (plug c t)) (Matches k (plug c t'))
  unfolding Matches names before_place after_place plug kind_at
  carry_plug k here t t' f g x = x
  carry_plug k (past q n c) t t' f g x =
      carry_joined H k (carry_repeated H (relaxes_same q) (carry_single n (f n (Memᴰ.head refl)))) (carry_plug k c t t' (λ y m. f y (Memᴰ.tail m)) g x)
  carry_plug k (over q j ms c) t t' f g x =
      carry_joined H k (carry_repeated H (relaxes_same q) (carry_kept j ms (λ y m. f y (Memᴰ.append_left (before_place c) m)))) (carry_plug k c t t' (λ y m. f y (Memᴰ.append_right (names ms) m)) g x)
  carry_plug k (into q j c rest) t t' f g x =
      carry_joined H k (carry_repeated H (relaxes_same q) (carry_plug j c t t' f (λ y m. g y (Memᴰ.append_left (names rest) m)) x))
      (carry_kept k rest (λ y m. g y (Memᴰ.append_right (after_place c) m)))

-- ---- words unchanged
infix 20 ◌⊑◌
abbrev pub ◌⊑◌ : {A : Type 0} → Language A → Language A → Type 0
L ⊑ M = Carries (λ w. w) L M

module _ {A : Type 0} where
  pub unchanged : Spread {A = A} {B = A} (λ w. w)
  unchanged = record { none = refl; app = λ u v. refl }

  -- an edit that enlarges the language at its place enlarges the whole
  pub enlarge : (k : GroupKind) (c : Context A) (t t' : Members A) → Matches (kind_at k c) t ⊑ Matches (kind_at k c) t' → Matches k (plug c t) ⊑ Matches k (plug c t')
  enlarge k c t t' x = carry_plug unchanged k c t t' (λ n m. refl) (λ n m. refl) x

  pub within_self : (L : Language A) → L ⊑ L
  within_self L = record { carry = λ w l. l }

  -- 5 and 8, relaxing
  pub relax_element : (k : GroupKind) (c : Context A) {q r : Quantifier} (n : A) (t : Members A) → Relaxes q r → Matches k (plug c (el q n t)) ⊑ Matches k (plug c (el r n t))
  unfolding Matches
  relax_element k c n t x = enlarge k c _ _ (carry_joined unchanged (kind_at k c) (carry_repeated unchanged x (within_self _)) (within_self _))

  pub relax_group : (k : GroupKind) (c : Context A) {q r : Quantifier} (j : GroupKind) (ms t : Members A) → Relaxes q r → Matches k (plug c (group q j ms t)) ⊑ Matches k (plug c (group r j ms t))
  unfolding Matches
  relax_group k c j ms t x = enlarge k c _ _ (carry_joined unchanged (kind_at k c) (carry_repeated unchanged x (within_self _)) (within_self _))
