-- What the code of a place hands back, as the definitions have it.
use mathlib.Core.Path.{◌≡◌, refl, sym, ap, ◌∙◌}
use mathlib.Core.Bool.{Bool, ◌&&◌}
use mathlib.Core.List.{List, [], ◌∷◌}
use Prim.Native.Nat.{ℕ, zero, suc, ◌+◌, ◌-◌, ◌*◌, ◌<◌, ◌≤◌}
use native.Mathlib.Omega.{arith}
use borrow.Author.Tests.{le-leb, lt-leb}
use lib.ListN.{length, take, drop, get_or, length-drop}
use Rattle.rules.specs.declared.Quantifier.{Quantifier}
use Rattle.rules.specs.declared.GroupKind.{GroupKind}
use Rattle.rules.specs.Bytes.{Bytes}
use Rattle.rules.specs.Decode.{read_particle}
use Rattle.rules.specs.Place.{plain}
use Rattle.rules.specs.Layout.{particle_size}
use Rattle.codec.proofs.Writers.{tail_seen}
use Rattle.model.specs.declared.What.{What}
use Rattle.model.specs.declared.What.TheVariants.{Element, Group}
use Rattle.model.specs.declared.Particle.{Particle}
use Rattle.model.specs.declared.place.Holder.{Holder}
use Rattle.model.specs.declared.place.Reached.{Reached}
use Rattle.model.specs.declared.place.Reached.TheVariants.{Member, End, Few}
use Rattle.model.specs.declared.place.Entered.{Entered}
use Rattle.std.specs.Prelude.{Option as Maybe, Some, None}
use Rattle.model.specs.declared.place.Found.{Found}
use Rattle.model.specs.Particle.{particle_of}
use Rattle.model.specs.Members.{particles_of}
use Rattle.model.specs.Places.{Particles, no_particle, reach, span_of, last_of, enter_group, entered_at, entered_of, spot_of, top, place_in}
use Rattle.model.proofs.ParticleLaws.{particle_at_lem, length_particles, Bounded, reach_bounded, span_bounded}
use Rattle.model.proofs.MembersLaws.{particles_past}

-- ---- a group
module _ (h : Holder) (p : ℕ) (s : Bytes) (x : Particle) (l : particle_size * p + particle_size ≤ length s) (e : x ≡ particle_of (read_particle (drop (particle_size * p) s))) where
  here : particle_of (get_or (particles_of s) p no_particle) ≡ x
  here = ap particle_of (particle_at_lem p s l) ∙ sym e

  pub enter_element : ((k : GroupKind) (n : ℕ) → x.what ≡ Group k n → ⊥) → None ≡ entered_at h (particles_of s) (Member p)
  enter_element w = by x.what refl
    where
      by : (y : What) → x.what ≡ y → None ≡ entered_at h (particles_of s) (Member p)
      by (Element i) e = rw (here, e)
      by (Group k n) e = absurd (w k n e)

  pub enter_group_lem : (k : GroupKind) (n size : ℕ) (b : Bool) → x.what ≡ Group k n
      → size ≡ span_of h.depth (particles_of (take (length s - particle_size * (p + 1)) (drop (particle_size * (p + 1)) s))) → b ≡ plain x.quantifier k
      → Some (record { list = record { start = h.start + (p + 1); depth = h.depth + 1; kind = k; spine = h.spine && b }; from = p + 1; size = size }) ≡ entered_at h (particles_of s) (Member p)
  enter_group_lem k n size b w m c =
      let t : size ≡ span_of h.depth (drop (p + 1) (particles_of s)) = m ∙ rw (tail_seen s (particle_size * (p + 1)), particles_past (p + 1) s) in
      rw (here, w, t, c)

-- ---- a place
module _ (insert : Bool) (h : Holder) (xs : Particles) where
  pub place_none : (place : List ℕ) → length place ≡ 0 → None ≡ spot_of insert place h xs
  unfolding spot_of
  place_none [] z = refl
  place_none (n ∷ place) z = absurd (omega arith)

  pub place_last : (place : List ℕ) (f : Maybe Found) → length place ≡ 1 → f ≡ last_of insert (get_or place 0 0) h xs → f ≡ spot_of insert place h xs
  unfolding spot_of
  place_last [] f z e = absurd (omega arith)
  place_last (n ∷ []) f z e = e
  place_last (n ∷ m ∷ ns) f z e = absurd (omega arith)

  module _ (e : Maybe Entered) where
    pub place_out : (place : List ℕ) → (length place ≡ 0 → ⊥) → (length place ≡ 1 → ⊥) → e ≡ entered_of (get_or place 0 0) h xs → e ≡ None → None ≡ spot_of insert place h xs
    unfolding spot_of
    place_out [] y z g o = absurd (y refl)
    place_out (n ∷ []) y z g o = absurd (z refl)
    place_out (n ∷ m ∷ ns) y z g o = rw (← g, o)

    pub place_in_lem : (place : List ℕ) (f : Maybe Found) (x : Entered) → (length place ≡ 0 → ⊥) → (length place ≡ 1 → ⊥) → e ≡ entered_of (get_or place 0 0) h xs → e ≡ Some x
        → f ≡ spot_of insert (take (length place - 1) (drop 1 place)) x.list (take x.size (drop x.from xs)) → f ≡ spot_of insert place h xs
    unfolding spot_of
    place_in_lem [] f x y z g o i = absurd (y refl)
    place_in_lem (n ∷ []) f x y z g o i = absurd (z refl)
    place_in_lem (n ∷ m ∷ ns) f x y z g o i = rw (← g, o) (i ∙ ap (λ (l : List ℕ). spot_of insert l x.list (take x.size (drop x.from xs))) (tail_seen (n ∷ m ∷ ns) 1))

-- the part of the group that was entered
pub record Part (h : Holder) (s : Bytes) (e : Entered) : Type 0 where
  pub start : e.list.start ≡ h.start + e.from
  pub deep : e.list.depth ≡ h.depth + 1
  pub room : particle_size * e.from + particle_size * e.size ≤ length s

abbrev Parted : Holder → Bytes → Maybe Entered → Type 0
Parted h s None = Unit {0}
Parted h s (Some e) = Part h s e

entered_parted : (h : Holder) (s : Bytes) (n : ℕ) → Parted h s (entered_of n h (particles_of s))
entered_parted h s zero = tt
entered_parted h s (suc n) = by (reach h.depth n (particles_of s)) (reach_bounded h.depth n (particles_of s))
  where
    of_group : (p : ℕ) → p < length (particles_of s) → (q : Quantifier) (w : What) → Parted h s (enter_group h p (particles_of s) q w)
    of_group p l q (Element i) = tt
    of_group p l q (Group k m) =
        record {
          start = refl;
          deep = refl;
          room = omega (arith, length_particles s, span_bounded h.depth (drop (p + 1) (particles_of s)), length-drop (p + 1) (particles_of s));
        }

    by : (r : Reached) → Bounded r (length (particles_of s)) → Parted h s (entered_at h (particles_of s) r)
    by (Member p) l = of_group p l (particle_of (get_or (particles_of s) p no_particle)).quantifier (particle_of (get_or (particles_of s) p no_particle)).what
    by (End p) l = tt
    by Few l = tt

pub entered_part : (h : Holder) (s : Bytes) (n : ℕ) (e : Maybe Entered) (x : Entered) → e ≡ entered_of n h (particles_of s) → e ≡ Some x → Part h s x
entered_part h s n e x q o = rw (← q, o) at (entered_parted h s n)

pub place_long : (insert : Bool) (place : List ℕ) (s : Bytes) → 5 < length place → None ≡ place_in insert place s
unfolding place_in
place_long insert place s h = rw (lt-leb (length place) 5 h, place_in)

pub place_short : (insert : Bool) (place : List ℕ) (s : Bytes) (f : Maybe Found) → length place ≤ 5 → f ≡ spot_of insert place top (particles_of s) → f ≡ place_in insert place s
unfolding place_in
place_short insert place s f h e = rw (le-leb (length place) 5 h, place_in) e
