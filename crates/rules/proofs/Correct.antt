-- The one-pass test accepts exactly the words of a model in which no name stands twice.
use mathlib.Core.Path.{◌≡◌, sym}
use mathlib.Core.Logic.{◌⊎◌, ⊎_elim, ◌↔◌}
use mathlib.Core.Bool.{true}
use mathlib.Core.List.Memᴰ
use mathlib.Core.List.{List, [], ◌∷◌, ◌++◌, Memᴰ}
use Rattle.rules.specs.declared.GroupKind.{GroupKind}
use Rattle.rules.specs.declared.GroupKind.TheVariants.{Sequence, Choice}
use Rattle.rules.specs.Model.{Members, done, el, group, names, Distinct, Equality}
use Rattle.rules.specs.Language.{Language, Joined, Matches, Conforms}
use Rattle.rules.specs.declared.Facts.{Facts}
use Rattle.rules.specs.Automaton.{facts, join, continues, accepts}
use Rattle.rules.proofs.Auto.{Auto, auto_map, auto_nil, auto_never, auto_single}
use Rattle.rules.proofs.AutoList.{auto_cat}
use Rattle.rules.proofs.AutoChoice.{auto_alt}
use Rattle.rules.proofs.AutoRepeat.{auto_repeat}
use Rattle.rules.proofs.Nothing.{nothing→, nothing←}
use Rattle.rules.proofs.Words.{and_both, and_split}

module _ {A : Type 0} where
  pub distinct_left : (a b : List A) → Distinct (a ++ b) → Distinct a
  distinct_left [] b d = tt
  distinct_left (x ∷ a) b (n, d) = (λ m. n (Memᴰ.append_left b m), distinct_left a b d)

  pub distinct_right : (a b : List A) → Distinct (a ++ b) → Distinct b
  distinct_right [] b d = d
  distinct_right (x ∷ a) b (n, d) = distinct_right a b d

  pub distinct_apart : (a b : List A) → Distinct (a ++ b) → (x : A) → Memᴰ x a → Memᴰ x b → ⊥
  distinct_apart [] b d x m h = Memᴰ.not-nil m
  distinct_apart (y ∷ a) b (n, d) x m h =
      ⊎_elim (λ e. n (Memᴰ.cast (sym e) (Memᴰ.append_right a h))) (λ r. distinct_apart a b d x r h) (Memᴰ.cases_cons m)

  -- one after the other, or one or the other, of letters apart
  auto_join : (k : GroupKind) {L M : Language A} {S R : A → Type 0} {F G : A → A → Facts} → Auto L S F → Auto M R G
      → ((x : A) → S x → R x → ⊥) → Auto (Joined k L M) (λ x. S x ⊎ R x) (λ x y. join k (F x y) (G x y))
  auto_join Sequence a b apart = auto_cat a b apart
  auto_join Choice a b apart = auto_alt a b apart

  module _ (E : Equality A) where
    auto : (k : GroupKind) (ms : Members A) → Distinct (names ms) → Auto (Matches k ms) (λ x. Memᴰ x (names ms)) (facts E k ms)
    unfolding Matches facts names
    auto Sequence done d = auto_map (λ w l. l) (λ w l. l) (λ x e. absurd e) auto_nil
    auto Choice done d = auto_map (λ w l. l) (λ w l. l) (λ x e. absurd e) auto_never
    auto k (el q n rest) (f, d) =
        auto_map (λ w l. l) (λ w l. l) (λ x. ⊎_elim (λ e. Memᴰ.head e) (λ m. Memᴰ.tail m))
        (auto_join k (auto_repeat (auto_single E n) q) (auto k rest d) (λ x e m. f (Memᴰ.cast (sym e) m)))
    auto k (group q j ms rest) d =
        auto_map (λ w l. l) (λ w l. l) (λ x. ⊎_elim (Memᴰ.append_left (names rest)) (Memᴰ.append_right (names ms)))
        (auto_join k (auto_repeat (auto j ms (distinct_left (names ms) (names rest) d)) q) (auto k rest (distinct_right (names ms) (names rest) d)) (distinct_apart (names ms) (names rest) d))

    module _ (ms : Members A) {S : A → Type 0} (a : Auto (Conforms ms) S (facts E Sequence ms)) where
      continues→ : (x : A) (w : List A) → continues E ms x w ≡ true → a.rest x w
      unfolding continues
      continues→ x [] e = a.end← x x e
      continues→ x (y ∷ w) e =
          let (f, h) = and_split (facts E Sequence ms x y).follow (continues E ms y w) e in
          a.step← x y w f (continues→ y w h)

      continues← : (x : A) (w : List A) → a.rest x w → continues E ms x w ≡ true
      unfolding continues
      continues← x [] k = a.end→ x x k
      continues← x (y ∷ w) k = let (f, h) = a.step→ x y w k in and_both f (continues← y w h)

      accepts→ : (w : List A) → accepts E ms w ≡ true → Conforms ms w
      unfolding accepts
      accepts→ [] e = nothing→ Sequence ms e
      accepts→ (y ∷ w) e =
          let (f, h) = and_split (facts E Sequence ms y y).first (continues E ms y w) e in
          a.cons← y y w f (continues→ y w h)

      accepts← : (w : List A) → Conforms ms w → accepts E ms w ≡ true
      unfolding accepts
      accepts← [] l = nothing← Sequence ms l
      accepts← (y ∷ w) l = let (f, h) = a.cons→ y y w l in and_both f (continues← y w h)

    pub accepts_conforms : (ms : Members A) → Distinct (names ms) → (w : List A) → (accepts E ms w ≡ true) ↔ Conforms ms w
    accepts_conforms ms d w = (accepts→ ms (auto Sequence ms d) w, accepts← ms (auto Sequence ms d) w)
