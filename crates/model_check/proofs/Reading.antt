-- Records of a body, one by one, and the particles: what is left from one on.
use mathlib.Core.Path.{◌≡◌, ap, ◌∙◌}
use mathlib.Core.List.{[], ◌∷◌}
use Prim.Native.Nat.{ℕ, zero, suc, ◌+◌, ◌*◌, ◌≤◌, ◌<◌}
use native.Mathlib.Omega.{arith}
use native.Mathlib.Numerals.{add-one}
use native.Mathlib.Nat.{le_of_suc-le-suc, not-suc-le-zero, mul-zero, mul-suc}
use lib.ListN.{length, take, drop, drop_of_length-le}
use lib.Seq.{drop-drop}
use Rattle.rules.specs.Bytes.{Bytes}
use Rattle.rules.specs.Layout.{particle_size}
use Rattle.rules.specs.Decode.{read_particle, read_many}
use Rattle.codec.proofs.Records.{length_many}
use Rattle.model_check.specs.Particles.{particle_record_at, particles_read}

-- ---- read_many
module _ {A : Type 0} (f : Bytes → A) (size : ℕ) where
  -- the places of the next record
  next_place : (i : ℕ) (s : Bytes) → drop (size * i) (drop size s) ≡ drop (size * suc i) s
  next_place i s = let e : size + size * i ≡ size * suc i = omega (arith, mul-suc size i) in drop-drop (size * i) size s ∙ rw e

  pub many_from : (i n : ℕ) (s : Bytes) → i < n → drop i (read_many f size n s) ≡ f (take size (drop (size * i) s)) ∷ drop (suc i) (read_many f size n s)
  many_from i zero s h = absurd (not-suc-le-zero h)
  many_from zero (suc n) s h = rw mul-zero
  many_from (suc i) (suc n) s h =
      many_from i n (drop size s) (le_of_suc-le-suc h)
      ∙ ap (λ (t : Bytes). f (take size t) ∷ drop (suc i) (read_many f size n (drop size s))) (next_place i s)

-- ---- the particles
pub particles_length : (n : ℕ) (s : Bytes) → length (particles_read n s) ≡ n
unfolding particles_read
particles_length n s = length_many read_particle particle_size n s

pub particles_from_lem : (i n : ℕ) (s : Bytes) → i < n → drop i (particles_read n s) ≡ particle_record_at i s ∷ drop (i + 1) (particles_read n s)
unfolding particles_read
particles_from_lem i n s h = rw add-one (many_from read_particle particle_size i n s h)

pub particles_end : (i n : ℕ) (s : Bytes) → n ≤ i → drop i (particles_read n s) ≡ []
particles_end i n s h = drop_of_length-le (particles_read n s) {i = i} (omega (arith, particles_length n s))
