-- The names of a word are names of its model; the tests on names.
use Prim.Native.Nat.{ℕ, zero, suc}
use mathlib.Core.Path.{◌≡◌, refl, sym, ap, ◌∙◌}
use mathlib.Core.Logic.{⊎_elim}
use mathlib.Core.Bool.{Bool, true, false, false≢true}
use mathlib.Core.List.Memᴰ
use mathlib.Core.List.{List, [], ◌∷◌, ◌++◌, append-nil, Memᴰ}
use Rattle.rules.specs.declared.Quantifier.{Quantifier}
use Rattle.rules.specs.declared.GroupKind.{GroupKind}
use Rattle.rules.specs.declared.GroupKind.TheVariants.{Sequence, Choice}
use Rattle.rules.specs.Model.{Members, done, el, group, names, Equality, member}
use Rattle.rules.specs.Language.{Language, Then, Times, Repeated, Joined, Ended, Matches}
use Rattle.rules.proofs.Children.{any_of, placed, keep_first, erase}
use Rattle.rules.proofs.Apart.{differs}

-- the words of `L` have their names in `ns`
pub record Over {A : Type 0} (ns : List A) (L : Language A) : Type 0 where
  pub inside : (w : List A) → L w → (y : A) → Memᴰ y w → Memᴰ y ns

module _ {A : Type 0} where
  over_then : {ns : List A} {L M : Language A} → Over ns L → Over ns M → Over ns (Then L M)
  over_then {ns} f g = record { inside = λ w t y m. ⊎_elim (λ a. f.inside t.0 t.3 y a) (λ b. g.inside t.1 t.4 y b) (Memᴰ.append_cases t.0 (rw (← t.2) at m)) }

  over_none : (ns : List A) → Over ns (λ w. w ≡ [])
  over_none ns = record { inside = λ w e y m. absurd (Memᴰ.not-nil (rw e at m)) }

  over_times : (n : ℕ) {ns : List A} {L : Language A} → Over ns L → Over ns (Times n L)
  over_times zero {ns} f = over_none ns
  over_times (suc n) f = over_then f (over_times n f)

  over_repeated : (q : Quantifier) {ns : List A} {L : Language A} → Over ns L → Over ns (Repeated q L)
  over_repeated q f = record { inside = λ w t. (over_times t.0 f).inside w t.2 }

  over_joined : (k : GroupKind) {ns : List A} {L M : Language A} → Over ns L → Over ns M → Over ns (Joined k L M)
  over_joined Sequence f g = over_then f g
  over_joined Choice f g = record { inside = λ w. ⊎_elim (λ l. f.inside w l) (λ m. g.inside w m) }

  over_ended : (k : GroupKind) (ns : List A) → Over ns (Ended k)
  over_ended Sequence ns = over_none ns
  over_ended Choice ns = record { inside = λ w z. absurd z }

  over_more : {ns ms : List A} {L : Language A} → ((y : A) → Memᴰ y ns → Memᴰ y ms) → Over ns L → Over ms L
  over_more g f = record { inside = λ w l y m. g y (f.inside w l y m) }

  over_single : (n : A) → Over (n ∷ []) (λ w. w ≡ n ∷ [])
  over_single n = record { inside = λ w e y m. rw e at m }

  pub letters : (k : GroupKind) (ms : Members A) → Over (names ms) (Matches k ms)
  unfolding Matches names
  letters k done = over_ended k []
  letters k (el q n rest) = over_joined k (over_repeated q (over_more (λ y m. Memᴰ.head (Memᴰ.eq_of_singleton m)) (over_single n))) (over_more (λ y m. Memᴰ.tail m) (letters k rest))
  letters k (group q j ms rest) =
      over_joined k (over_repeated q (over_more (λ y m. Memᴰ.append_left (names rest) m) (letters j ms)))
      (over_more (λ y m. Memᴰ.append_right (names ms) m) (letters k rest))

  pub letters_repeated : (q : Quantifier) (j : GroupKind) (ms : Members A) → Over (names ms) (Repeated q (Matches j ms))
  letters_repeated q j ms = over_repeated q (letters j ms)

module _ {A : Type 0} (E : Equality A) where
  pub member_in : (x : A) (l : List A) → Memᴰ x l → member E x l ≡ true
  unfolding member
  member_in x [] m = absurd (Memᴰ.not-nil m)
  member_in x (y ∷ l) m = by (E.same x y) refl (member_in x l)
    where
      by : (b : Bool) → E.same x y ≡ b → (Memᴰ x l → member E x l ≡ true) → member E x (y ∷ l) ≡ true
      by true e f = rw (e, member)
      by false e f = rw (e, member) (f (⊎_elim (λ p. absurd (false≢true (sym e ∙ E.same← x y p))) (λ r. r) (Memᴰ.cases_cons m)))

  pub member_out : (x : A) (l : List A) → (Memᴰ x l → ⊥) → member E x l ≡ false
  unfolding member
  member_out x [] f = refl
  member_out x (y ∷ l) f = rw (differs E x y (λ e. f (Memᴰ.head e)), member) (member_out x l (λ m. f (Memᴰ.tail m)))

  pub any_in : (ns w : List A) (y : A) → Memᴰ y w → Memᴰ y ns → any_of E ns w ≡ true
  unfolding any_of
  any_in ns [] y m h = absurd (Memᴰ.not-nil m)
  any_in ns (x ∷ w) y m h = by (member E x ns) refl (any_in ns w y)
    where
      by : (b : Bool) → member E x ns ≡ b → (Memᴰ y w → Memᴰ y ns → any_of E ns w ≡ true) → any_of E ns (x ∷ w) ≡ true
      by true e f = rw (e, any_of)
      by false e f = rw (e, any_of) (f (⊎_elim (λ p. absurd (false≢true (sym e ∙ (rw (← p) (member_in y ns h))))) (λ r. r) (Memᴰ.cases_cons m)) h)

  pub any_out : (ns w : List A) → ((y : A) → Memᴰ y w → Memᴰ y ns → ⊥) → any_of E ns w ≡ false
  unfolding any_of
  any_out ns [] f = refl
  any_out ns (x ∷ w) f = rw (member_out x ns (f x (Memᴰ.head refl)), any_of) (any_out ns w (λ y m. f y (Memᴰ.tail m)))

  pub placed_at : (ns f u v : List A) → ((y : A) → Memᴰ y u → Memᴰ y ns) → ((y : A) → Memᴰ y v → Memᴰ y ns → ⊥) → placed E ns f (u ++ v) ≡ u ++ (f ++ v)
  unfolding placed
  placed_at ns f [] [] a b = sym (append-nil f)
  placed_at ns f [] (y ∷ v) a b = rw (member_out y ns (b y (Memᴰ.head refl)), placed)
  placed_at ns f (x ∷ u) v a b = rw (member_in x ns (a x (Memᴰ.head refl)), placed) (ap (λ (z : List A). x ∷ z) (placed_at ns f u v (λ y m. a y (Memᴰ.tail m)) b))

  pub keep_past : (x : A) (u v : List A) → (Memᴰ x u → ⊥) → keep_first E x (u ++ v) ≡ u ++ keep_first E x v
  unfolding keep_first
  keep_past x [] v f = refl
  keep_past x (y ∷ u) v f = rw (differs E y x (λ e. f (Memᴰ.head (sym e))), keep_first) (ap (λ (z : List A). y ∷ z) (keep_past x u v (λ m. f (Memᴰ.tail m))))

  pub keep_here : (x : A) (v : List A) → keep_first E x (x ∷ v) ≡ x ∷ erase E x v
  unfolding keep_first
  keep_here x v = rw (E.same← x x refl, keep_first)

  pub erase_none : (x : A) (w : List A) → (Memᴰ x w → ⊥) → erase E x w ≡ w
  unfolding erase
  erase_none x [] f = refl
  erase_none x (y ∷ w) f = rw (differs E y x (λ e. f (Memᴰ.head (sym e))), erase) (ap (λ (z : List A). y ∷ z) (erase_none x w (λ m. f (Memᴰ.tail m))))
