-- One language after another, of letters apart.
use mathlib.Core.Path.{◌≡◌}
use mathlib.Core.Logic.{◌⊎◌, inl, inr}
use mathlib.Core.Bool.{true, ◌&&◌, ◌||◌}
use mathlib.Core.List.{List, [], ◌∷◌}
use Rattle.rules.specs.declared.GroupKind.TheVariants.{Sequence}
use Rattle.rules.specs.Language.{Language, Then}
use Rattle.rules.specs.declared.Facts.{Facts}
use Rattle.rules.specs.Automaton.{join}
use Rattle.rules.proofs.Auto.{Auto}
use Rattle.rules.proofs.Words.{here, there, then_nil, then_cons, either, or_left, or_right, or_cases, and_both, and_split}

module _ {A : Type 0} {L M : Language A} {S R : A → Type 0} {F G : A → A → Facts} (a : Auto L S F) (b : Auto M R G)
    (apart : (x : A) → S x → R x → ⊥) where
  abbrev After : A → Language A
  After x w = Then (a.rest x) M w ⊎ b.rest x w

  abbrev J : A → A → Facts
  J x y = join Sequence (F x y) (G x y)

  cat_nil→ : (x y : A) → Then L M [] → (J x y).nothing ≡ true
  cat_nil→ x y t = let (l, m) = then_nil t in and_both (a.nil→ x y l) (b.nil→ x y m)

  cat_nil← : (x y : A) → (J x y).nothing ≡ true → Then L M []
  cat_nil← x y e = let (p, q) = and_split (F x y).nothing (G x y).nothing e in here (a.nil← x y p) (b.nil← x y q)

  cat_cons→ : (x y : A) (w : List A) → (L [] × M (y ∷ w)) ⊎ Then (λ u. L (y ∷ u)) M w → ((J x y).first ≡ true) × After y w
  cat_cons→ x y w (inl (l, m)) =
      let (f, k) = b.cons→ x y w m in
      (or_right (F x y).first (and_both (a.nil→ x y l) f), inr k)
  cat_cons→ x y w (inr (u, v, e, l, m)) =
      let (f, k) = a.cons→ x y u l in
      (or_left ((F x y).nothing && (G x y).first) f, inl (u, v, e, k, m))

  cat_cons← : (x y : A) (w : List A) → ((F x y).first ≡ true) ⊎ (((F x y).nothing && (G x y).first) ≡ true) → After y w → Then L M (y ∷ w)
  cat_cons← x y w (inl f) (inl (u, v, e, k, m)) = there y (u, v, e, a.cons← x y u f k, m)
  cat_cons← x y w (inl f) (inr k) = absurd (apart y (a.in_first x y f) (b.in_rest y w k))
  cat_cons← x y w (inr h) (inl (u, v, e, k, m)) =
      let (n, f) = and_split (F x y).nothing (G x y).first h in
      absurd (apart y (a.in_rest y u k) (b.in_first x y f))
  cat_cons← x y w (inr h) (inr k) =
      let (n, f) = and_split (F x y).nothing (G x y).first h in
      here (a.nil← x y n) (b.cons← x y w f k)

  cat_end→ : (x y : A) → After x [] → (J x y).last ≡ true
  cat_end→ x y (inl t) = let (k, m) = then_nil t in or_right (G x y).last (and_both (b.nil→ x y m) (a.end→ x y k))
  cat_end→ x y (inr k) = or_left ((G x y).nothing && (F x y).last) (b.end→ x y k)

  cat_end← : (x y : A) → ((G x y).last ≡ true) ⊎ (((G x y).nothing && (F x y).last) ≡ true) → After x []
  cat_end← x y (inl l) = inr (b.end← x y l)
  cat_end← x y (inr h) =
      let (n, l) = and_split (G x y).nothing (F x y).last h in
      inl (here (a.end← x y l) (b.nil← x y n))

  cat_step₁ : (x y : A) (w : List A) → (a.rest x [] × M (y ∷ w)) ⊎ Then (λ u. a.rest x (y ∷ u)) M w → ((J x y).follow ≡ true) × After y w
  cat_step₁ x y w (inl (k, m)) =
      let (f, h) = b.cons→ x y w m in
      (or_right ((F x y).follow || (G x y).follow) (and_both (a.end→ x y k) f), inr h)
  cat_step₁ x y w (inr (u, v, e, k, m)) =
      let (f, h) = a.step→ x y u k in
      (or_left ((F x y).last && (G x y).first) (or_left (G x y).follow f), inl (u, v, e, h, m))

  cat_step→ : (x y : A) (w : List A) → After x (y ∷ w) → ((J x y).follow ≡ true) × After y w
  cat_step→ x y w (inl t) = cat_step₁ x y w (then_cons y w t)
  cat_step→ x y w (inr k) =
      let (f, h) = b.step→ x y w k in
      (or_left ((F x y).last && (G x y).first) (or_right (F x y).follow f), inr h)

  cat_step₂ : (x y : A) (w : List A) → ((F x y).follow ≡ true) ⊎ ((G x y).follow ≡ true) → After y w → After x (y ∷ w)
  cat_step₂ x y w (inl f) (inl (u, v, e, k, m)) = inl (there y (u, v, e, a.step← x y u f k, m))
  cat_step₂ x y w (inl f) (inr k) = absurd (apart y (a.in_follow x y f) (b.in_rest y w k))
  cat_step₂ x y w (inr f) (inl (u, v, e, k, m)) = absurd (apart y (a.in_rest y u k) (b.in_follow x y f))
  cat_step₂ x y w (inr f) (inr k) = inr (b.step← x y w f k)

  cat_step₃ : (x y : A) (w : List A) → (F x y).last ≡ true → (G x y).first ≡ true → After y w → After x (y ∷ w)
  cat_step₃ x y w l f (inl (u, v, e, k, m)) = absurd (apart y (a.in_rest y u k) (b.in_first x y f))
  cat_step₃ x y w l f (inr k) = inl (here (a.end← x y l) (b.cons← x y w f k))

  cat_step← : (x y : A) (w : List A) → (((F x y).follow || (G x y).follow) ≡ true) ⊎ (((F x y).last && (G x y).first) ≡ true) → After y w → After x (y ∷ w)
  cat_step← x y w (inl h) k = cat_step₂ x y w (or_cases (F x y).follow (G x y).follow h) k
  cat_step← x y w (inr h) k = let (l, f) = and_split (F x y).last (G x y).first h in cat_step₃ x y w l f k

  cat_in_follow : (x y : A) → (((F x y).follow || (G x y).follow) ≡ true) ⊎ (((F x y).last && (G x y).first) ≡ true) → S y ⊎ R y
  cat_in_follow x y (inl h) = either (a.in_follow x y) (b.in_follow x y) (or_cases (F x y).follow (G x y).follow h)
  cat_in_follow x y (inr h) = let (l, f) = and_split (F x y).last (G x y).first h in inr (b.in_first x y f)

  cat_in_rest : (x : A) (w : List A) → After x w → S x ⊎ R x
  cat_in_rest x w (inl (u, v, e, k, m)) = inl (a.in_rest x u k)
  cat_in_rest x w (inr k) = inr (b.in_rest x w k)

  pub auto_cat : Auto (Then L M) (λ x. S x ⊎ R x) J
  auto_cat =
      record {
        rest = After;
        nil→ = cat_nil→;
        nil← = cat_nil←;
        cons→ = λ x y w t. cat_cons→ x y w (then_cons y w t);
        cons← = λ x y w e. cat_cons← x y w (or_cases (F x y).first ((F x y).nothing && (G x y).first) e);
        end→ = cat_end→;
        end← = λ x y e. cat_end← x y (or_cases (G x y).last ((G x y).nothing && (F x y).last) e);
        step→ = cat_step→;
        step← = λ x y w e. cat_step← x y w (or_cases ((F x y).follow || (G x y).follow) ((F x y).last && (G x y).first) e);
        in_first = λ x y e. either (a.in_first x y) (λ h. b.in_first x y (and_split (F x y).nothing (G x y).first h).1) (or_cases (F x y).first ((F x y).nothing && (G x y).first) e);
        in_follow = λ x y e. cat_in_follow x y (or_cases ((F x y).follow || (G x y).follow) ((F x y).last && (G x y).first) e);
        in_rest = cat_in_rest;
      }
