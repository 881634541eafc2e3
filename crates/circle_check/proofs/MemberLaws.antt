-- The particles of a model, one after the other; where each model begins.
use Prim.Native.Nat.{ℕ, ◌+◌, ◌*◌, ◌≤◌, ◌<◌}
use native.Mathlib.Omega.{arith}
use native.Mathlib.Numerals.{add-one}
use mathlib.Core.Path.{◌≡◌, refl, ap}
use mathlib.Core.Bool.{Bool, true, false, not, ◌&&◌}
use mathlib.Core.List.{[], ◌∷◌}
use lib.Dec.{eqb}
use lib.ListN.{length, get_or, drop}
use borrow.Author.Tests.{eq-eqb, ne_eqb}
use Rattle.rules.specs.Bytes.{Bytes, all}
use Rattle.rules.specs.Layout.{particle_size}
use Rattle.rules.specs.Decode.{read_particle}
use Rattle.std.specs.List.{list_all}
use Rattle.codec.specs.Part.{part_of}
use Rattle.model_check.proofs.Chunks.{particles}
use Rattle.circle_check.specs.Members.{count_at, start_at, model_bytes, elements_of, members_in}
use Rattle.circle_check.specs.Deep.{has_height, first_passes}

pub elements_more : (t : Bytes) → particle_size ≤ length t
    → elements_of t ≡ elim (eqb (read_particle t).row.sort 0) [ true ↦ (read_particle t).row.index ∷ elements_of (drop particle_size t) | false ↦ elements_of (drop particle_size t) ]
unfolding elements_of
elements_more [] h = absurd (omega arith)
elements_more (a ∷ []) h = absurd (omega arith)
elements_more (a ∷ b ∷ []) h = absurd (omega arith)
elements_more (a ∷ b ∷ c ∷ []) h = absurd (omega arith)
elements_more (a ∷ b ∷ c ∷ e ∷ t) h = refl

pub elements_few : (t : Bytes) → length t < particle_size → elements_of t ≡ []
unfolding elements_of
elements_few [] h = refl
elements_few (a ∷ []) h = refl
elements_few (a ∷ b ∷ []) h = refl
elements_few (a ∷ b ∷ c ∷ []) h = refl
elements_few (a ∷ b ∷ c ∷ e ∷ t) h = absurd (omega arith)

-- ---- the particles, as `chunks_exact` gives them
pub particles_pass : (p : ℕ → Bool) (t : Bytes) → list_all (first_passes p) (particles t) ≡ all p (elements_of t)
unfolding elements_of particles
particles_pass p [] = refl
particles_pass p (a ∷ []) = refl
particles_pass p (a ∷ b ∷ []) = refl
particles_pass p (a ∷ b ∷ c ∷ []) = refl
particles_pass p (a ∷ b ∷ c ∷ d ∷ t) = by (eqb a 0) (particles_pass p t)
  where
    by : (z : Bool) → list_all (first_passes p) (particles t) ≡ all p (elements_of t)
        → (elim z [ true ↦ p c | false ↦ true ] && list_all (first_passes p) (particles t)) ≡ all p (elim z [ true ↦ c ∷ elements_of t | false ↦ elements_of t ])
    by true h = ap (λ (x : Bool). p c && x) h
    by false h = h

-- ---- one particle
module _ (old : Bytes) (s a : ℕ) (e : s ≡ a) where
  pub first_group : (x : Bool) → (s ≡ 0 → ⊥) → true ≡ elim (eqb a 0) [ true ↦ x | false ↦ true ]
  first_group x n = rw (← e, ne_eqb s 0 n)

  pub first_element : (j b v : ℕ) → s ≡ 0 → j ≡ b → v ≡ get_or old j 0 → not (eqb v 0) ≡ elim (eqb a 0) [ true ↦ has_height old b | false ↦ true ]
  unfolding has_height
  first_element j b v z f g = rw (← e, eq-eqb s 0 z, g, f)

-- ---- where the models begin
pub record Starts (defs : Bytes) (start i : ℕ) : Type 0 where
  pub is : start ≡ start_at defs i
  pub small : start ≤ 4294967295 * i

pub starts_none : (defs : Bytes) → Starts defs 0 0
unfolding start_at
starts_none defs = record { is = refl; small = omega arith }

pub starts_more : {defs : Bytes} {start i : ℕ} (c : ℕ) → Starts defs start i → c ≡ count_at defs i → c ≤ 4294967295 → Starts defs (start + c) (i + 1)
unfolding start_at
starts_more {defs} {start} {i} c s e h = record { is = rw (add-one i) (rw (s.is, e)); small = omega (arith, s.small) }

pub model_members : (defs parts : Bytes) (i start c : ℕ) (model : Bytes) → Starts defs start i → c ≡ count_at defs i → model ≡ part_of (particle_size * start) (particle_size * c) parts
    → elements_of model ≡ members_in defs parts i
unfolding model_bytes members_in
model_members defs parts i start c model s e m = rw (m, s.is, e)
