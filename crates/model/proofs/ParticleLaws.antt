-- The particles of a byte string: how many, which stands where, and
-- those of a part. Bounds on what is passed and measured.
use mathlib.Core.Path.{◌≡◌, sym, ap, ◌∙◌}
use mathlib.Core.Bool.{Bool, true, false}
use mathlib.Core.List.{List, [], ◌∷◌}
use Prim.Native.Nat.{ℕ, zero, suc, ◌+◌, ◌*◌, ◌/◌, ◌<◌, ◌≤◌}
use native.Mathlib.Omega.{arith}
use lib.Dec.{ltb, eqb}
use lib.ListN.{length, take, drop, get_or, length-drop}
use lib.Seq.{drop-drop, length-take-le}
use Rattle.rules.specs.Bytes.{Bytes}
use Rattle.rules.specs.Model.{rename}
use Rattle.rules.specs.Preorder.{build}
use Rattle.rules.specs.Layout.{particle_size}
use Rattle.rules.specs.Decode.{name_at, read_members, read_particle, read_many}
use Rattle.codec.specs.Part.{part_of}
use Rattle.codec.proofs.Records.{length_many, many_part}
use Rattle.codec.proofs.Strings.{part_there}
use Rattle.model.specs.declared.place.Reached.{Reached}
use Rattle.model.specs.declared.place.Reached.TheVariants.{Member, End, Few}
use Rattle.model.specs.Members.{index_members, particles_of, members_from, all_members}
use Rattle.model.specs.Places.{Particles, no_particle, onward, reach, span_of}
use Rattle.model.proofs.MembersLaws.{members_named, particles_few, particles_more, particles_past}

-- ---- the particles of a byte string
pub length_particles : (s : Bytes) → length (particles_of s) ≡ length s / particle_size
unfolding particles_of
length_particles s = length_many read_particle particle_size (length s / particle_size) s

pub particle_at_lem : (p : ℕ) (s : Bytes) → particle_size * p + particle_size ≤ length s → get_or (particles_of s) p no_particle ≡ read_particle (drop (particle_size * p) s)
particle_at_lem zero s h = rw (particles_more s (omega arith))
particle_at_lem (suc p) s h =
    let e : particle_size * suc p ≡ particle_size + particle_size * p = omega arith in
    rw (particles_more s (omega arith), e, ← drop-drop (particle_size * p) particle_size s) (particle_at_lem p (drop particle_size s) (omega (arith, length-drop particle_size s)))

pub particles_take : (k : ℕ) (s : Bytes) → particle_size * k ≤ length s → particles_of (take (particle_size * k) s) ≡ take k (particles_of s)
particles_take zero s h = particles_few [] (omega arith)
particles_take (suc k) [] h = absurd (omega arith)
particles_take (suc k) (a ∷ []) h = absurd (omega arith)
particles_take (suc k) (a ∷ b ∷ []) h = absurd (omega arith)
particles_take (suc k) (a ∷ b ∷ c ∷ []) h = absurd (omega arith)
particles_take (suc k) (a ∷ b ∷ c ∷ e ∷ s) h =
    let n : particle_size * suc k ≡ suc (suc (suc (suc (particle_size * k)))) = omega arith in
    rw (n, particles_more (a ∷ b ∷ c ∷ e ∷ s) (omega arith), particles_more (a ∷ b ∷ c ∷ e ∷ take (particle_size * k) s) (omega arith))
    (ap (λ (l : Particles). read_particle (a ∷ b ∷ c ∷ e ∷ s) ∷ l) (particles_take k s (omega arith)))

pub particles_part : (at n : ℕ) (s : Bytes) → particle_size * at + particle_size * n ≤ length s → particles_of (part_of (particle_size * at) (particle_size * n) s) ≡ take n (drop at (particles_of s))
particles_part at n s h =
    rw (part_there (particle_size * at) (particle_size * n) s h, particles_take n (drop (particle_size * at) s) (omega (arith, length-drop (particle_size * at) s)), particles_past at s)

-- ---- a definition's part of the particle body
-- The n particles from number m on, of a body that has `count`: the form's model of them is that of their bytes, each
-- index as the name that it stands for.
pub model_read : (ns : List Bytes) (m n count : ℕ) (body : Bytes) → m + n ≤ count → particle_size * count ≤ length body
    → read_members ns (build (take n (drop m (read_many read_particle particle_size count body))) 0) ≡ rename (λ i. name_at i ns) (all_members (take (particle_size * n) (drop (particle_size * m) body)))
unfolding particles_of members_from
model_read ns m n count body h l =
    let part : Bytes = take (particle_size * n) (drop (particle_size * m) body) in
    let size : length part ≡ particle_size * n = length-take-le (particle_size * n) (drop (particle_size * m) body) (omega (arith, length-drop (particle_size * m) body)) in
    let whole : length part / particle_size ≡ n = omega arith in
    members_named ns (build (take n (drop m (read_many read_particle particle_size count body))) 0)
    ∙ ap (λ (l : Particles). rename (λ i. name_at i ns) (index_members (build l 0)))
    (many_part read_particle particle_size m n count body h ∙ ap (λ (k : ℕ). read_many read_particle particle_size k part) (sym whole))

-- ---- bounds
abbrev pub Bounded : Reached → ℕ → Type 0
Bounded (Member p) m = p < m
Bounded (End p) m = p ≤ m
Bounded Few m = Unit {0}

onward_bounded : (r : Reached) (m : ℕ) → Bounded r m → Bounded (onward 1 r) (suc m)
onward_bounded (Member p) m h = omega arith
onward_bounded (End p) m h = omega arith
onward_bounded Few m h = tt

pub reach_bounded : (d n : ℕ) (xs : Particles) → Bounded (reach d n xs) (length xs)
unfolding reach
reach_bounded d zero [] = omega arith
reach_bounded d (suc n) [] = tt
reach_bounded d zero (x ∷ xs) = by (ltb d x.depth) (eqb d x.depth) (reach_bounded d zero xs)
  where
    by : (a b : Bool) → Bounded (reach d zero xs) (length xs) → Bounded (elim a [ true ↦ onward 1 (reach d zero xs) | false ↦ elim b [ true ↦ Member 0 | false ↦ End 0 ] ]) (suc (length xs))
    by true b h = onward_bounded (reach d zero xs) (length xs) h
    by false true h = omega arith
    by false false h = omega arith
reach_bounded d (suc n) (x ∷ xs) = by (ltb d x.depth) (eqb d x.depth) (reach_bounded d (suc n) xs) (reach_bounded d n xs)
  where
    by : (a b : Bool) → Bounded (reach d (suc n) xs) (length xs) → Bounded (reach d n xs) (length xs)
        → Bounded (elim a [ true ↦ onward 1 (reach d (suc n) xs) | false ↦ elim b [ true ↦ onward 1 (reach d n xs) | false ↦ Few ] ]) (suc (length xs))
    by true b h g = onward_bounded (reach d (suc n) xs) (length xs) h
    by false true h g = onward_bounded (reach d n xs) (length xs) g
    by false false h g = tt

pub span_bounded : (d : ℕ) (xs : Particles) → span_of d xs ≤ length xs
unfolding span_of
span_bounded d [] = omega arith
span_bounded d (x ∷ xs) = by (ltb d x.depth) (span_bounded d xs)
  where
    by : (a : Bool) → span_of d xs ≤ length xs → elim a [ true ↦ suc (span_of d xs) | false ↦ 0 ] ≤ suc (length xs)
    by true h = omega arith
    by false h = omega arith

-- in bytes: what the code learns of a call
pub member_bounded : (d n : ℕ) (s : Bytes) (r : Reached) (p : ℕ) → r ≡ reach d n (particles_of s) → r ≡ Member p → particle_size * p + particle_size ≤ length s
member_bounded d n s r p e m =
    let b : p < length (particles_of s) = rw (← e, m) at (reach_bounded d n (particles_of s)) in
    omega (arith, length_particles s)

pub end_bounded : (d n : ℕ) (s : Bytes) (r : Reached) (p : ℕ) → r ≡ reach d n (particles_of s) → r ≡ End p → particle_size * p ≤ length s
end_bounded d n s r p e m =
    let b : p ≤ length (particles_of s) = rw (← e, m) at (reach_bounded d n (particles_of s)) in
    omega (arith, length_particles s)
