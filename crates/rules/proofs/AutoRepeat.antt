-- A language under a quantifier.
use Prim.Native.Nat.{ℕ, zero, suc}
use native.Mathlib.Omega.{arith}
use mathlib.Core.Path.{◌≡◌, refl}
use mathlib.Core.Logic.{◌⊎◌, inl, inr, ⊎_elim}
use mathlib.Core.Bool.{Bool, true, ◌&&◌, ◌||◌}
use mathlib.Core.List.{List, [], ◌∷◌, append-nil, cons≢nil}
use Rattle.rules.specs.declared.Quantifier.{Quantifier}
use Rattle.rules.specs.declared.Quantifier.TheVariants.{None, Qmark, Star, Plus}
use Rattle.rules.specs.Language.{Language, Then, Times, Repeated}
use Rattle.rules.specs.declared.Facts.{Facts}
use Rattle.rules.specs.Automaton.{quantify_facts}
use Rattle.rules.proofs.Auto.{Auto, auto_map}
use Rattle.rules.proofs.Words.{here, there, then_nil, then_cons, or_left, or_right, or_cases, and_both, and_split}

module _ {A : Type 0} {L : Language A} where
  pub one→ : (w : List A) → Times 1 L w → L w
  one→ w (u, v, e, l, m) = let p : u ≡ w = cc (append-nil u) in rw p at l

  pub one← : (w : List A) → L w → Times 1 L w
  one← w l = (w, [], append-nil w, l, refl)

  pub once : (w : List A) → Repeated None L w → L w
  once w (zero, h, t) = absurd (omega arith)
  once w (suc zero, h, t) = one→ w t
  once w (suc (suc n), h, t) = absurd (omega arith)

  more : (w : List A) → Then L (Repeated Star L) w → Repeated Star L w
  more w (u, v, e, l, (n, h, t)) = (suc n, tt, (u, v, e, l, t))

  more' : (w : List A) → Then L (Repeated Star L) w → Repeated Plus L w
  more' w (u, v, e, l, (n, h, t)) = (suc n, omega arith, (u, v, e, l, t))

  -- the first of the words that is not empty
  uncons : (n : ℕ) (y : A) (w : List A) → (Times n L (y ∷ w) → Then (λ u. L (y ∷ u)) (Repeated Star L) w)
      → (L [] × Times n L (y ∷ w)) ⊎ Then (λ u. L (y ∷ u)) (Times n L) w → Then (λ u. L (y ∷ u)) (Repeated Star L) w
  uncons n y w below (inl (l, t)) = below t
  uncons n y w below (inr (u, v, e, l, t)) = (u, v, e, l, (n, tt, t))

  times_cons : (n : ℕ) (y : A) (w : List A) → Times n L (y ∷ w) → Then (λ u. L (y ∷ u)) (Repeated Star L) w
  times_cons zero y w t = absurd (cons≢nil t)
  times_cons (suc n) y w t = uncons n y w (times_cons n y w) (then_cons y w t)

module _ {A : Type 0} {L : Language A} {S : A → Type 0} {F : A → A → Facts} (a : Auto L S F) where
  auto_once : Auto (Repeated None L) S F
  auto_once = auto_map (λ w l. (1, refl, one← w l)) once (λ x s. s) a

  maybe_cons : (y : A) (w : List A) → Repeated Qmark L (y ∷ w) → L (y ∷ w)
  maybe_cons y w (zero, h, t) = absurd (cons≢nil t)
  maybe_cons y w (suc zero, h, t) = one→ (y ∷ w) t
  maybe_cons y w (suc (suc n), h, t) = absurd (omega arith)

  auto_maybe : Auto (Repeated Qmark L) S (λ x y. quantify_facts Qmark (F x y))
  auto_maybe =
      record {
        rest = a.rest;
        nil→ = λ x y l. refl;
        nil← = λ x y e. (0, omega arith, refl);
        cons→ = λ x y w t. a.cons→ x y w (maybe_cons y w t);
        cons← = λ x y w e k. (1, omega arith, one← (y ∷ w) (a.cons← x y w e k));
        end→ = a.end→;
        end← = a.end←;
        step→ = a.step→;
        step← = a.step←;
        in_first = a.in_first;
        in_follow = a.in_follow;
        in_rest = a.in_rest;
      }

  -- STAR and PLUS go on alike
  abbrev After : A → Language A
  After x w = Then (a.rest x) (Repeated Star L) w

  abbrev Follow : A → A → Bool
  Follow x y = (F x y).follow || ((F x y).last && (F x y).first)

  many_cons→ : (x y : A) (w : List A) → Then (λ u. L (y ∷ u)) (Repeated Star L) w → ((F x y).first ≡ true) × After y w
  many_cons→ x y w (u, v, e, l, m) = let (f, k) = a.cons→ x y u l in (f, (u, v, e, k, m))

  many_cons← : (x y : A) (w : List A) → (F x y).first ≡ true → After y w → Then L (Repeated Star L) (y ∷ w)
  many_cons← x y w f (u, v, e, k, m) = there y (u, v, e, a.cons← x y u f k, m)

  many_step₁ : (x y : A) (w : List A) → (a.rest x [] × Repeated Star L (y ∷ w)) ⊎ Then (λ u. a.rest x (y ∷ u)) (Repeated Star L) w → (Follow x y ≡ true) × After y w
  many_step₁ x y w (inl (k, (n, h, t))) =
      let (f, r) = many_cons→ x y w (times_cons n y w t) in
      (or_right (F x y).follow (and_both (a.end→ x y k) f), r)
  many_step₁ x y w (inr (u, v, e, k, m)) =
      let (f, r) = a.step→ x y u k in
      (or_left ((F x y).last && (F x y).first) f, (u, v, e, r, m))

  many_step₂ : (x y : A) (w : List A) → ((F x y).follow ≡ true) ⊎ (((F x y).last && (F x y).first) ≡ true) → After y w → After x (y ∷ w)
  many_step₂ x y w (inl f) (u, v, e, k, m) = there y (u, v, e, a.step← x y u f k, m)
  many_step₂ x y w (inr h) t =
      let (l, f) = and_split (F x y).last (F x y).first h in
      here (a.end← x y l) (more (y ∷ w) (many_cons← x y w f t))

  many_end : (x y : A) → (F x y).last ≡ true → After x []
  many_end x y e = here (a.end← x y e) (0, tt, refl)

  many_in_follow : (x y : A) → Follow x y ≡ true → S y
  many_in_follow x y e =
      ⊎_elim (a.in_follow x y) (λ h. a.in_first x y (and_split (F x y).last (F x y).first h).1)
      (or_cases (F x y).follow ((F x y).last && (F x y).first) e)

  many_in_rest : (x : A) (w : List A) → After x w → S x
  many_in_rest x w (u, v, e, k, m) = a.in_rest x u k

  auto_star : Auto (Repeated Star L) S (λ x y. quantify_facts Star (F x y))
  auto_star =
      record {
        rest = After;
        nil→ = λ x y l. refl;
        nil← = λ x y e. (0, tt, refl);
        cons→ = λ x y w t. many_cons→ x y w (times_cons t.0 y w t.2);
        cons← = λ x y w e k. more (y ∷ w) (many_cons← x y w e k);
        end→ = λ x y t. a.end→ x y (then_nil t).0;
        end← = many_end;
        step→ = λ x y w t. many_step₁ x y w (then_cons y w t);
        step← = λ x y w e. many_step₂ x y w (or_cases (F x y).follow ((F x y).last && (F x y).first) e);
        in_first = a.in_first;
        in_follow = many_in_follow;
        in_rest = many_in_rest;
      }

  plus_nil : Repeated Plus L [] → L []
  plus_nil (zero, h, t) = absurd (omega arith)
  plus_nil (suc n, h, t) = (then_nil t).0

  auto_plus : Auto (Repeated Plus L) S (λ x y. quantify_facts Plus (F x y))
  auto_plus =
      record {
        rest = After;
        nil→ = λ x y t. a.nil→ x y (plus_nil t);
        nil← = λ x y e. (1, omega arith, one← [] (a.nil← x y e));
        cons→ = λ x y w t. many_cons→ x y w (times_cons t.0 y w t.2);
        cons← = λ x y w e k. more' (y ∷ w) (many_cons← x y w e k);
        end→ = λ x y t. a.end→ x y (then_nil t).0;
        end← = many_end;
        step→ = λ x y w t. many_step₁ x y w (then_cons y w t);
        step← = λ x y w e. many_step₂ x y w (or_cases (F x y).follow ((F x y).last && (F x y).first) e);
        in_first = a.in_first;
        in_follow = many_in_follow;
        in_rest = many_in_rest;
      }

  pub auto_repeat : (q : Quantifier) → Auto (Repeated q L) S (λ x y. quantify_facts q (F x y))
  auto_repeat None = auto_once
  auto_repeat Qmark = auto_maybe
  auto_repeat Star = auto_star
  auto_repeat Plus = auto_plus
