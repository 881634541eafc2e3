-- Members passed and parts measured, one particle on.
use mathlib.Core.Path.{◌≡◌, refl, sym, ap, ◌∙◌}
use Prim.Native.Nat.{ℕ, zero, suc, ◌+◌, ◌-◌, ◌*◌, ◌<◌, ◌≤◌}
use native.Mathlib.Omega.{arith}
use native.Mathlib.Nat.{add-zero}
use borrow.Author.Tests.{lt-ltb, le-ltb, eq-eqb, ne_eqb}
use lib.ListN.{length, take, drop, length-drop}
use Rattle.rules.specs.Bytes.{Bytes}
use Rattle.rules.specs.Layout.{particle_size}
use Rattle.rules.specs.Decode.{read_particle}
use Rattle.codec.proofs.Writers.{tail_seen}
use Rattle.model.specs.declared.place.Reached.{Reached}
use Rattle.model.specs.declared.place.Reached.TheVariants.{Member, End, Few}
use Rattle.model.specs.Members.{particles_of}
use Rattle.model.specs.Places.{onward, ended, reach, span_of}
use Rattle.model.proofs.MembersLaws.{particles_few, particles_more}

onward_then : (k : ℕ) (r : Reached) → onward k (onward 1 r) ≡ onward (k + 1) r
onward_then k (Member p) = let e : k + (1 + p) ≡ k + 1 + p = omega arith in ap (λ (i : ℕ). Member i) e
onward_then k (End p) = let e : k + (1 + p) ≡ k + 1 + p = omega arith in ap (λ (i : ℕ). End i) e
onward_then k Few = refl

-- ---- past the members of a byte string: what is left to pass gives the same answer
pub record Left (goal : Reached) (bound d : ℕ) (t : Bytes) (p n : ℕ) : Type 0 where
  pub gives : onward p (reach d n (particles_of t)) ≡ goal
  pub sum : particle_size * p + length t ≤ bound

pub left_all : (d n : ℕ) (s : Bytes) → Left (reach d n (particles_of s)) (length s) d s 0 n
left_all d n s = record { gives = by (reach d n (particles_of s)); sum = omega arith }
  where
    by : (r : Reached) → onward 0 r ≡ r
    by (Member p) = let e : 0 + p ≡ p = omega arith in ap (λ (i : ℕ). Member i) e
    by (End p) = let e : 0 + p ≡ p = omega arith in ap (λ (i : ℕ). End i) e
    by Few = refl

module _ (goal : Reached) (bound d : ℕ) (t : Bytes) (p : ℕ) where
  pub left_few : (n : ℕ) → length t < particle_size → Left goal bound d t p n → onward p (ended n) ≡ goal
  unfolding reach
  left_few n h l = rw (particles_few t h) at l.gives

  module _ (e : ℕ) (h : particle_size ≤ length t) (g : e ≡ (read_particle t).depth) where
    pub left_stop : (n : ℕ) → e < d → Left goal bound d t p n → onward p (ended n) ≡ goal
    unfolding reach
    left_stop zero k l =
        let n : d ≡ (read_particle t).depth → ⊥ = λ q. omega arith in
        rw (particles_more t h, le-ltb d (read_particle t).depth (omega arith), ne_eqb d (read_particle t).depth n, reach) at l.gives
    left_stop (suc m) k l =
        let n : d ≡ (read_particle t).depth → ⊥ = λ q. omega arith in
        rw (particles_more t h, le-ltb d (read_particle t).depth (omega arith), ne_eqb d (read_particle t).depth n, reach) at l.gives

    pub left_member : (n : ℕ) → e ≡ d → n ≡ 0 → Left goal bound d t p n → Member p ≡ goal
    unfolding reach
    left_member zero k z l =
        ap (λ (i : ℕ). Member i) (sym (add-zero p)) ∙ (rw (particles_more t h, le-ltb d (read_particle t).depth (omega arith), eq-eqb d (read_particle t).depth (omega arith), reach) at l.gives)
    left_member (suc n) k z l = absurd (omega arith)

    pub left_pass : (n : ℕ) → e ≡ d → (n ≡ 0 → ⊥) → Left goal bound d t p n → Left goal bound d (take (length t - particle_size) (drop particle_size t)) (p + 1) (n - 1)
    unfolding reach
    left_pass zero k z l = absurd (z refl)
    left_pass (suc n) k z l =
        let f : suc n - 1 ≡ n = omega arith in
        rw (tail_seen t particle_size, f)
        (record {
          gives = sym (onward_then p (reach d n (particles_of (drop particle_size t))))
              ∙ (rw (particles_more t h, le-ltb d (read_particle t).depth (omega arith), eq-eqb d (read_particle t).depth (omega arith), reach) at l.gives);
          sum = omega (arith, l.sum, length-drop particle_size t);
        })

    pub left_deeper : (n : ℕ) → d < e → Left goal bound d t p n → Left goal bound d (take (length t - particle_size) (drop particle_size t)) (p + 1) n
    unfolding reach
    left_deeper zero k l =
        rw (tail_seen t particle_size)
        (record {
          gives = sym (onward_then p (reach d zero (particles_of (drop particle_size t)))) ∙ (rw (particles_more t h, lt-ltb d (read_particle t).depth (omega arith), reach) at l.gives);
          sum = omega (arith, l.sum, length-drop particle_size t);
        })
    left_deeper (suc n) k l =
        rw (tail_seen t particle_size)
        (record {
          gives = sym (onward_then p (reach d (suc n) (particles_of (drop particle_size t)))) ∙ (rw (particles_more t h, lt-ltb d (read_particle t).depth (omega arith), reach) at l.gives);
          sum = omega (arith, l.sum, length-drop particle_size t);
        })

-- ---- the particles deeper than d
pub record Deeper (goal bound d : ℕ) (t : Bytes) (n : ℕ) : Type 0 where
  pub gives : n + span_of d (particles_of t) ≡ goal
  pub sum : particle_size * n + length t ≤ bound

pub deeper_all : (d : ℕ) (s : Bytes) → Deeper (span_of d (particles_of s)) (length s) d s 0
deeper_all d s = record { gives = omega arith; sum = omega arith }

module _ (goal bound d : ℕ) (t : Bytes) (n : ℕ) (l : Deeper goal bound d t n) where
  pub deeper_few : length t < particle_size → n ≡ goal
  unfolding span_of
  deeper_few h = sym (add-zero n) ∙ (rw (particles_few t h) at l.gives)

  module _ (e : ℕ) (h : particle_size ≤ length t) (g : e ≡ (read_particle t).depth) where
    pub deeper_stop : e ≤ d → n ≡ goal
    unfolding span_of
    deeper_stop k = sym (add-zero n) ∙ (rw (particles_more t h, le-ltb d (read_particle t).depth (omega arith), span_of) at l.gives)

    pub deeper_on : d < e → Deeper goal bound d (take (length t - particle_size) (drop particle_size t)) (n + 1)
    unfolding span_of
    deeper_on k =
        let m = rw (particles_more t h, lt-ltb d (read_particle t).depth (omega arith), span_of) at l.gives in
        rw (tail_seen t particle_size) (record { gives = omega arith; sum = omega (arith, l.sum, length-drop particle_size t) })
