-- One language or another, of letters apart.
use mathlib.Core.Path.{◌≡◌}
use mathlib.Core.Logic.{◌⊎◌, inl, inr, ⊎_elim}
use mathlib.Core.Bool.{true}
use mathlib.Core.List.{List, ◌∷◌}
use Rattle.rules.specs.declared.GroupKind.TheVariants.{Choice}
use Rattle.rules.specs.Language.{Language}
use Rattle.rules.specs.declared.Facts.{Facts}
use Rattle.rules.specs.Automaton.{join}
use Rattle.rules.proofs.Auto.{Auto}
use Rattle.rules.proofs.Words.{either, or_left, or_right, or_cases}

module _ {A : Type 0} {L M : Language A} {S R : A → Type 0} {F G : A → A → Facts} (a : Auto L S F) (b : Auto M R G)
    (apart : (x : A) → S x → R x → ⊥) where
  abbrev After : A → Language A
  After x w = a.rest x w ⊎ b.rest x w

  abbrev J : A → A → Facts
  J x y = join Choice (F x y) (G x y)

  alt_cons→ : (x y : A) (w : List A) → L (y ∷ w) ⊎ M (y ∷ w) → ((J x y).first ≡ true) × After y w
  alt_cons→ x y w (inl l) = let (f, k) = a.cons→ x y w l in (or_left (G x y).first f, inl k)
  alt_cons→ x y w (inr m) = let (f, k) = b.cons→ x y w m in (or_right (F x y).first f, inr k)

  alt_cons← : (x y : A) (w : List A) → ((F x y).first ≡ true) ⊎ ((G x y).first ≡ true) → After y w → L (y ∷ w) ⊎ M (y ∷ w)
  alt_cons← x y w (inl f) (inl k) = inl (a.cons← x y w f k)
  alt_cons← x y w (inl f) (inr k) = absurd (apart y (a.in_first x y f) (b.in_rest y w k))
  alt_cons← x y w (inr f) (inl k) = absurd (apart y (a.in_rest y w k) (b.in_first x y f))
  alt_cons← x y w (inr f) (inr k) = inr (b.cons← x y w f k)

  alt_step→ : (x y : A) (w : List A) → After x (y ∷ w) → ((J x y).follow ≡ true) × After y w
  alt_step→ x y w (inl k) = let (f, h) = a.step→ x y w k in (or_left (G x y).follow f, inl h)
  alt_step→ x y w (inr k) = let (f, h) = b.step→ x y w k in (or_right (F x y).follow f, inr h)

  alt_step← : (x y : A) (w : List A) → ((F x y).follow ≡ true) ⊎ ((G x y).follow ≡ true) → After y w → After x (y ∷ w)
  alt_step← x y w (inl f) (inl k) = inl (a.step← x y w f k)
  alt_step← x y w (inl f) (inr k) = absurd (apart y (a.in_follow x y f) (b.in_rest y w k))
  alt_step← x y w (inr f) (inl k) = absurd (apart y (a.in_rest y w k) (b.in_follow x y f))
  alt_step← x y w (inr f) (inr k) = inr (b.step← x y w f k)

  pub auto_alt : Auto (λ w. L w ⊎ M w) (λ x. S x ⊎ R x) J
  auto_alt =
      record {
        rest = After;
        nil→ = λ x y. ⊎_elim (λ l. or_left (G x y).nothing (a.nil→ x y l)) (λ m. or_right (F x y).nothing (b.nil→ x y m));
        nil← = λ x y e. either (a.nil← x y) (b.nil← x y) (or_cases (F x y).nothing (G x y).nothing e);
        cons→ = alt_cons→;
        cons← = λ x y w e. alt_cons← x y w (or_cases (F x y).first (G x y).first e);
        end→ = λ x y. ⊎_elim (λ k. or_left (G x y).last (a.end→ x y k)) (λ k. or_right (F x y).last (b.end→ x y k));
        end← = λ x y e. either (a.end← x y) (b.end← x y) (or_cases (F x y).last (G x y).last e);
        step→ = alt_step→;
        step← = λ x y w e. alt_step← x y w (or_cases (F x y).follow (G x y).follow e);
        in_first = λ x y e. either (a.in_first x y) (b.in_first x y) (or_cases (F x y).first (G x y).first e);
        in_follow = λ x y e. either (a.in_follow x y) (b.in_follow x y) (or_cases (F x y).follow (G x y).follow e);
        in_rest = λ x w. either (a.in_rest x w) (b.in_rest x w);
      }
