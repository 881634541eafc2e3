-- The elements among the particles of a model: its names, and those before a place.
use Prim.Native.Nat.{ℕ, suc}
use native.Mathlib.Omega.{arith}
use mathlib.Core.Path.{◌≡◌, refl, sym, ap, ap₂, ◌∙◌}
use mathlib.Core.Bool.{Bool, true, false}
use mathlib.Core.List.{List, [], ◌∷◌, ◌++◌}
use lib.Dec.{eqb}
use Rattle.rules.specs.declared.Quantifier.{Quantifier}
use Rattle.rules.specs.declared.GroupKind.{GroupKind}
use Rattle.rules.specs.declared.GroupKind.TheVariants.{Sequence, Choice}
use Rattle.rules.specs.Bytes.{Bytes}
use Rattle.rules.specs.Model.{Members, done, el, group, names}
use Rattle.rules.specs.Place.{Context, here, past, over, into, plug, before_place}
use Rattle.rules.specs.Layout.{how_many}
use Rattle.circle_check.specs.Members.{elements_of}
use Rattle.circle_check.proofs.ReadLaws.{elements_append}
use Rattle.model_check.specs.ModelTests.{elements_in}
use Rattle.model.specs.Members.{particles_of}
use Rattle.model.specs.Places.{Particles}
use Rattle.model.specs.Positions.{group_particle, spread, leading}
use Rattle.model.proofs.MembersLaws.{particles_few, particles_more}

-- of bytes, particle by particle
pub elements_read : (s : Bytes) → elements_of s ≡ elements_in (particles_of s)
unfolding elements_of elements_in
elements_read [] = sym (ap elements_in (particles_few [] (omega arith)))
elements_read (a ∷ []) = sym (ap elements_in (particles_few (a ∷ []) (omega arith)))
elements_read (a ∷ b ∷ []) = sym (ap elements_in (particles_few (a ∷ b ∷ []) (omega arith)))
elements_read (a ∷ b ∷ c ∷ []) = sym (ap elements_in (particles_few (a ∷ b ∷ c ∷ []) (omega arith)))
elements_read (a ∷ b ∷ c ∷ e ∷ s) = by (eqb a 0) (elements_read s) ∙ sym (ap elements_in (particles_more (a ∷ b ∷ c ∷ e ∷ s) (omega arith)))
  where
    by : (x : Bool) → elements_of s ≡ elements_in (particles_of s)
        → ◌≡◌ {A = List ℕ} (elim x [ true ↦ c ∷ elements_of s | false ↦ elements_of s ]) (elim x [ true ↦ c ∷ elements_in (particles_of s) | false ↦ elements_in (particles_of s) ])
    by true q = ap (λ (l : List ℕ). c ∷ l) q
    by false q = q

group_none : (d : ℕ) (q : Quantifier) (k : GroupKind) (n : ℕ) (xs : Particles) → elements_in (group_particle d q k n ∷ xs) ≡ elements_in xs
unfolding elements_in
group_none d q Sequence n xs = refl
group_none d q Choice n xs = refl

-- ---- the particles of members
pub elements_spread : (d : ℕ) (ms : Members ℕ) → elements_in (spread d ms) ≡ names ms
unfolding elements_in names
elements_spread d done = refl
elements_spread d (el q i rest) = ap (λ (l : List ℕ). i ∷ l) (elements_spread d rest)
elements_spread d (group q k ms rest) =
    group_none d q k (how_many ms) (spread (suc d) ms ++ spread d rest)
    ∙ elements_append (spread (suc d) ms) (spread d rest)
    ∙ ap₂ (λ (u v : List ℕ). u ++ v) (elements_spread (suc d) ms) (elements_spread d rest)

-- ---- and those before a place
pub elements_leading : (d : ℕ) (c : Context ℕ) (t : Members ℕ) → elements_in (leading d c t) ≡ before_place c
unfolding elements_in before_place
elements_leading d here t = refl
elements_leading d (past q i c) t = ap (λ (l : List ℕ). i ∷ l) (elements_leading d c t)
elements_leading d (over q k ms c) t =
    group_none d q k (how_many ms) (spread (suc d) ms ++ leading d c t)
    ∙ elements_append (spread (suc d) ms) (leading d c t)
    ∙ ap₂ (λ (u v : List ℕ). u ++ v) (elements_spread (suc d) ms) (elements_leading d c t)
elements_leading d (into q k c rest) t = group_none d q k (how_many (plug c t)) (leading (suc d) c t) ∙ elements_leading (suc d) c t
