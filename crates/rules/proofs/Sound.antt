-- The test for a sound model.
use mathlib.Core.Path.{◌≡◌, refl}
use mathlib.Core.Logic.{◌↔◌}
use mathlib.Core.Bool.{true, ◌&&◌, false≢true}
use Rattle.rules.specs.Model.{Members, done, el, group, names, Equality, Some, Full, is_some, full, distinct}
use Rattle.rules.proofs.Children.{Sound, sound}
use Rattle.rules.proofs.Words.{and_both, and_split}
use Rattle.rules.proofs.TestLaws.{distinct_test}

module _ {A : Type 0} (E : Equality A) where
  some→ : (ms : Members A) → is_some ms ≡ true → Some ms
  some→ done e = false≢true e
  some→ (el q n rest) e = tt
  some→ (group q k ms rest) e = tt

  some← : (ms : Members A) → Some ms → is_some ms ≡ true
  some← done s = absurd s
  some← (el q n rest) s = refl
  some← (group q k ms rest) s = refl

  full→ : (ms : Members A) → full ms ≡ true → Full ms
  unfolding full Full
  full→ done e = tt
  full→ (el q n rest) e = full→ rest e
  full→ (group q k ms rest) e =
      let (s, h) = and_split (is_some ms) (full ms && full rest) e in
      let (f, g) = and_split (full ms) (full rest) h in
      (some→ ms s, full→ ms f, full→ rest g)

  full← : (ms : Members A) → Full ms → full ms ≡ true
  unfolding full Full
  full← done f = refl
  full← (el q n rest) f = full← rest f
  full← (group q k ms rest) (s, f, g) = and_both (some← ms s) (and_both (full← ms f) (full← rest g))

  pub sound_test : (ms : Members A) → (sound E ms ≡ true) ↔ Sound ms
  unfolding sound
  sound_test ms = (
    λ e. let (d, f) = and_split (distinct E (names ms)) (full ms) e in record { distinct = (distinct_test E (names ms)).0 d; full = full→ ms f },
    λ s. and_both ((distinct_test E (names ms)).1 s.distinct) (full← ms s.full),
  )
