-- The particles of a body, as `chunks_exact` gives them: four bytes each, and none of a rest that is shorter.
use Prim.Native.Nat.{ℕ, ◌≤◌}
use native.Mathlib.Omega.{arith}
use mathlib.Core.Path.{◌≡◌, sym, ap, ◌∙◌}
use mathlib.Core.List.{List, [], ◌∷◌, ◌++◌}
use lib.ListN.{length, take, drop, length-append}
use Rattle.std.specs.Iterator.{AlwaysYields}
use Rattle.std.specs.Slice.Iter.{chunks_exact_rest, chunks_exact_size, chunks_exact_steps}
use Rattle.std.proofs.lemmas.Iterator.{YieldsList}
use Rattle.rules.specs.Bytes.{Bytes}
use Rattle.rules.specs.Layout.{particle_size}

unfoldable pub particles : Bytes → List Bytes
particles [] = []
particles (a ∷ []) = []
particles (a ∷ b ∷ []) = []
particles (a ∷ b ∷ c ∷ []) = []
particles (a ∷ b ∷ c ∷ d ∷ t) = (a ∷ b ∷ c ∷ d ∷ []) ∷ particles t

first_four : (x s : Bytes) {t : Bytes} {a b c d : ℕ} → a ∷ b ∷ c ∷ d ∷ t ≡ x ++ s → length x ≡ 4 → (x ≡ a ∷ b ∷ c ∷ d ∷ []) × (s ≡ t)
first_four [] s e h = absurd (omega arith)
first_four (a ∷ []) s e h = absurd (omega arith)
first_four (a ∷ b ∷ []) s e h = absurd (omega arith)
first_four (a ∷ b ∷ c ∷ []) s e h = absurd (omega arith)
first_four (a ∷ b ∷ c ∷ d ∷ []) s e h = (ap (take 4) (sym e), ap (drop 4) (sym e))
first_four (a ∷ b ∷ c ∷ d ∷ f ∷ x) s e h = absurd (omega arith)

holds_four : (x s : Bytes) {t : Bytes} → t ≡ x ++ s → length x ≡ 4 → 4 ≤ length t
holds_four x s e h = omega (arith, h, ap (λ (l : Bytes). length l) e, length-append x s)

yields : (t : Bytes) (s : _) → chunks_exact_rest {T = ℕ} s ≡ t → chunks_exact_size s ≡ particle_size → AlwaysYields (chunks_exact_steps {A = ℕ}) (λ x. x.now) s (particles t)
unfolding particles
yields [] s e z = λ x j h. absurd (omega (arith, holds_four x.now (chunks_exact_rest j) (sym e ∙ h.1.0) (h.1.1 ∙ z)))
yields (a ∷ []) s e z = λ x j h. absurd (omega (arith, holds_four x.now (chunks_exact_rest j) (sym e ∙ h.1.0) (h.1.1 ∙ z)))
yields (a ∷ b ∷ []) s e z = λ x j h. absurd (omega (arith, holds_four x.now (chunks_exact_rest j) (sym e ∙ h.1.0) (h.1.1 ∙ z)))
yields (a ∷ b ∷ c ∷ []) s e z = λ x j h. absurd (omega (arith, holds_four x.now (chunks_exact_rest j) (sym e ∙ h.1.0) (h.1.1 ∙ z)))
yields (a ∷ b ∷ c ∷ d ∷ t) s e z = (
  λ j h. absurd (omega (arith, h.1.0, ap (λ (l : Bytes). length l) e)),
  λ x j h. let four = first_four x.now (chunks_exact_rest j) (sym e ∙ h.1.0) (h.1.1 ∙ z) in (four.0, yields t j four.1 (h.0 ∙ z)),
)

pub yields_particles : {t : Bytes} {s : _} → chunks_exact_rest {T = ℕ} s ≡ t → chunks_exact_size s ≡ particle_size → YieldsList (chunks_exact_steps {A = ℕ}) (λ x. x.now) s (particles t)
yields_particles {t} {s} e z = record { runs = yields t s e z }
