-- The bytes before a place, after an edit there; and the whole part.
use Prim.Native.Nat.{ℕ, zero, suc, ◌+◌, ◌-◌, ◌*◌, ◌%◌, ◌<◌, ◌≤◌}
use native.Mathlib.Omega.{arith}
use mathlib.Core.Path.{◌≡◌, refl, sym, ap, ap₂, ◌∙◌, subst}
use mathlib.Core.List.{[], ◌∷◌, ◌++◌}
use lib.ListN.{length, take, drop, get_or, length-take, length-drop}
use lib.Seq.{drop-cons}
use Rattle.rules.specs.Bytes.{Bytes}
use Rattle.rules.specs.Preorder.{Deep}
use Rattle.rules.specs.Layout.{FlatParticle, particle_bytes, each, particle_size}
use Rattle.rules.specs.Decode.{read_particle}
use Rattle.rules.specs.Edit.{Edit}
use Rattle.rules.proofs.BooleanLaws.{Every, every_left, every_right}
use Rattle.rules.proofs.LayoutLaws as layout
use Rattle.rules.proofs.LayoutLaws.{SmallParticle, length_each, length_particle, each_append}
use Rattle.codec.specs.Laid.{Laid}
use Rattle.model.specs.declared.place.Holder.{Holder}
use Rattle.model.specs.Members.{particles_of}
use Rattle.model.specs.Places.{Particles, no_particle}
use Rattle.model.proofs.MembersLaws.{particles_few, particles_more, particles_past}
use Rattle.model_writer.specs.declared.Edit.{Edit as EditCode}
use Rattle.model_writer.specs.PartAfter.{recount, count_after, recounted, tail_after, part_after}
use Rattle.model_writer.specs.Writing.{edit_of, Fitting, Tail, Head, Part}
use Rattle.model_writer.proofs.WritingLaws.{whole}
use Rattle.model_writer.proofs.HeadAfter.{recounted_none}

-- ---- counts
pub count_case : (xs : Particles) (n : ℕ) {e f : EditCode} → e ≡ f → count_after (edit_of f) xs n ≡ count_after (edit_of e) xs n
count_case xs n p = ap (λ (z : EditCode). count_after (edit_of z) xs n) (sym p)

-- the count of the first particle, if it is a group
pub first_index : (s : Bytes) → length s % particle_size ≡ 0 → (get_or (particles_of s) 0 no_particle).row.index ≡ (read_particle s).row.index
first_index [] h = ap (λ (xs : Particles). (get_or xs 0 no_particle).row.index) (particles_few [] (omega arith))
first_index (a ∷ []) h = absurd (omega arith)
first_index (a ∷ b ∷ []) h = absurd (omega arith)
first_index (a ∷ b ∷ c ∷ []) h = absurd (omega arith)
first_index (a ∷ b ∷ c ∷ e ∷ s) h = ap (λ (xs : Particles). (get_or xs 0 no_particle).row.index) (particles_more (a ∷ b ∷ c ∷ e ∷ s) (omega arith))

-- ---- parts of particle bytes

pub each_take : (n : ℕ) (xs : Particles) → take (particle_size * n) (each particle_bytes xs) ≡ each particle_bytes (take n xs)
each_take n xs = layout.each_take particle_bytes particle_size length_particle n xs

pub each_drop : (n : ℕ) (xs : Particles) → drop (particle_size * n) (each particle_bytes xs) ≡ each particle_bytes (drop n xs)
each_drop n xs = layout.each_drop particle_bytes particle_size length_particle n xs

pub length_bytes : (xs : Particles) → length (each particle_bytes xs) ≡ particle_size * length xs
length_bytes xs = length_each particle_bytes particle_size length_particle xs

-- ---- the group that holds the place
recounted_at : (g : ℕ → ℕ) (s n : ℕ) (xs : Particles) → s < n → n ≤ length xs
    → recounted g (suc s) (take n xs) ≡ take s xs ++ (recount g (get_or xs s no_particle) ∷ take (n - suc s) (drop (suc s) xs))
unfolding recounted
recounted_at g s zero xs l h = absurd (omega arith)
recounted_at g s (suc n) [] l h = absurd (omega arith)
recounted_at g zero (suc n) (x ∷ xs) l h = let z : n ≡ suc n - 1 = omega arith in ap (λ (k : ℕ). recount g x ∷ take k xs) z
recounted_at g (suc s) (suc n) (x ∷ xs) l h =
    let z : n - suc s ≡ suc n - suc (suc s) = omega arith in
    ap (λ (r : Particles). x ∷ r) (recounted_at g s n xs (omega arith) (omega arith)) ∙ ap (λ (k : ℕ). x ∷ (take s xs ++ (recount g (get_or xs s no_particle) ∷ take k (drop (suc s) xs)))) z

pub length_recounted : (g : ℕ → ℕ) (s : ℕ) (xs : Particles) → length (recounted g s xs) ≡ length xs
unfolding recounted
length_recounted g s [] = refl
length_recounted g zero (x ∷ xs) = refl
length_recounted g (suc zero) (x ∷ xs) = refl
length_recounted g (suc (suc s)) (x ∷ xs) = ap suc (length_recounted g (suc s) xs)

read_first : (x : Deep FlatParticle) (s : Bytes) → read_particle (take particle_size (particle_bytes x ++ s)) ≡ x
read_first x s = refl

-- particle i of a part
particle_at_lem : (i : ℕ) (part : Bytes) → length part % particle_size ≡ 0 → i < length (particles_of part)
    → read_particle (take particle_size (drop (particle_size * i) part)) ≡ get_or (particles_of part) i no_particle
particle_at_lem i part h l =
    let xs : Particles = particles_of part in
    ap (λ (s : Bytes). read_particle (take particle_size (drop (particle_size * i) s))) (sym (whole part h))
    ∙ ap (λ (s : Bytes). read_particle (take particle_size s)) (each_drop i xs ∙ ap (each particle_bytes) (drop-cons xs i no_particle l))
    ∙ read_first (get_or xs i no_particle) (each particle_bytes (drop (suc i) xs))

pub length_part : (part : Bytes) → length part % particle_size ≡ 0 → length part ≡ particle_size * length (particles_of part)
length_part part h = sym (ap length (whole part h)) ∙ length_bytes (particles_of part)

pub take_bytes : (n : ℕ) (part : Bytes) → length part % particle_size ≡ 0 → each particle_bytes (take n (particles_of part)) ≡ take (particle_size * n) part
take_bytes n part h = sym (each_take n (particles_of part)) ∙ ap (take (particle_size * n)) (whole part h)

module _ {e : Edit ℕ} {first n : ℕ} {part : Bytes} {at : ℕ} (v : Head e first n part at) where
  abbrev new_count : ℕ → ℕ
  new_count = count_after e (drop n (particles_of part))

  abbrev head_after : Particles
  head_after = recounted new_count first (take n (particles_of part))

  -- no group holds the place
  pub head_top : first ≡ 0 → each particle_bytes head_after ≡ take (particle_size * n) (drop 0 part)
  head_top z = ap (λ (k : ℕ). each particle_bytes (recounted new_count k (take n (particles_of part)))) z
      ∙ ap (each particle_bytes) (recounted_none new_count (take n (particles_of part))) ∙ take_bytes n part v.whole

  long : n ≤ length (particles_of part)
  long = omega (arith, length_part part v.whole, v.inside)

  head_is : 0 < first
      → head_after
      ≡ take (first - 1) (particles_of part)
      ++ (recount new_count (read_particle (take particle_size (drop (particle_size * (first - 1)) part))) ∷ take (n - first) (drop first (particles_of part)))
  head_is l =
      let z : first ≡ suc (first - 1) = omega arith in
      ap (λ (k : ℕ). recounted new_count k (take n (particles_of part))) z
      ∙ recounted_at new_count (first - 1) n (particles_of part) (omega (arith, v.after)) long
      ∙ (λ i. take (first - 1) (particles_of part) ++ (recount new_count (sym (particle_at_lem (first - 1) part v.whole (omega (arith, long, v.after))) i)
      ∷ take (n - sym z i) (drop (sym z i) (particles_of part))))

  pub head_split : 0 < first
      → each particle_bytes head_after
      ≡ take (particle_size * (first - 1)) (drop 0 part)
      ++ (particle_bytes (recount new_count (read_particle (take particle_size (drop (particle_size * (first - 1)) part))))
      ++ take (particle_size * n - particle_size * first) (drop (particle_size * (first - 1) + particle_size) part))
  head_split l =
      let x : Deep FlatParticle = recount new_count (read_particle (take particle_size (drop (particle_size * (first - 1)) part))) in
      let p : particle_size * first ≡ particle_size * (first - 1) + particle_size = omega arith in
      let q : particle_size * (n - first) ≡ particle_size * n - particle_size * first = omega (arith, v.after) in
      let back : each particle_bytes (take (n - first) (drop first (particles_of part))) ≡ take (particle_size * n - particle_size * first) (drop (particle_size * (first - 1) + particle_size) part) =
      sym (each_take (n - first) (drop first (particles_of part)))
      ∙ ap (take (particle_size * (n - first))) (sym (each_drop first (particles_of part)) ∙ ap (drop (particle_size * first)) (whole part v.whole))
      ∙ (λ i. take (q i) (drop (p i) part)) in
      ap (each particle_bytes) (head_is l)
      ∙ each_append particle_bytes (take (first - 1) (particles_of part)) (x ∷ take (n - first) (drop first (particles_of part)))
      ∙ ap₂ (λ (s t : Bytes). s ++ (particle_bytes x ++ t)) (take_bytes (first - 1) part v.whole) back

  -- the new count is a byte
  pub head_count : 0 < first → new_count (read_particle (take particle_size (drop (particle_size * (first - 1)) part))).row.index < 256
  unfolding Fitting
  head_count l =
      (every_right SmallParticle (take (first - 1) (particles_of part)) _ (subst (λ (xs : Particles). Every SmallParticle xs) (head_is l) v.fitting)).0.index

  -- .. as the code has them: x the group, ys the particles from the place on
  module _ (l : 0 < first) {x ys : Bytes} (p : x ≡ take particle_size (drop (particle_size * (first - 1)) part)) (q : ys ≡ drop (particle_size * n) part) where
    same_count : count_after e (particles_of ys) ≡ new_count
    same_count = ap (λ (s : Bytes). count_after e (particles_of s)) q ∙ ap (count_after e) (particles_past n part)

    pub head_fits : (length ys % particle_size ≡ 0) × (count_after e (particles_of ys) (read_particle x).row.index < 256)
    head_fits = (
      omega (arith, v.whole, v.inside, ap (λ (s : Bytes). length s) q, length-drop (particle_size * n) part),
      subst (λ (k : ℕ). k < 256) (sym (λ i. same_count i (read_particle (p i)).row.index)) (head_count l),
    )

    pub head_group : particle_bytes (recount new_count (read_particle (take particle_size (drop (particle_size * (first - 1)) part))))
        ≡ particle_bytes (recount (count_after e (particles_of ys)) (read_particle x))
    head_group = λ i. particle_bytes (recount (sym same_count i) (read_particle (sym p i)))

-- ---- the whole part
module _ {e : Edit ℕ} {h : Holder} {n : ℕ} {part : Bytes} (v : Part e h n part) where
  pub part_head : {at : ℕ} → at + 2 * length part < 4611686018427387904 → Head e h.start n part at
  unfolding part_after Fitting
  part_head few =
      record {
        whole = v.whole;
        room = omega (arith, few);
        after = v.after;
        inside = v.inside;
        fitting = every_left SmallParticle (recounted (count_after e (drop n (particles_of part))) h.start (take n (particles_of part))) _ v.fitting;
      }

  pub part_tail : {at : ℕ} → at + 2 * length part < 4611686018427387904 → {out : Bytes} {r : ℕ} {out' : Bytes}
      → Laid (each particle_bytes (recounted (count_after e (drop n (particles_of part))) h.start (take n (particles_of part)))) out at r out'
      → Tail e h.depth (drop (particle_size * n) part) r
  unfolding part_after Fitting
  part_tail few x =
      record {
        whole = omega (arith, v.whole, v.inside, length-drop (particle_size * n) part);
        room = omega (
          arith,
          few,
          x.next,
          length-drop (particle_size * n) part,
          length_bytes front,
          length_recounted g h.start (take n (particles_of part)),
          length-take n (particles_of part),
          length_part part v.whole,
        );
        fitting = rw (particles_past n part) (every_right SmallParticle front _ v.fitting);
      }
    where
      g : ℕ → ℕ
      g = count_after e (drop n (particles_of part))

      front : Particles
      front = recounted g h.start (take n (particles_of part))

  pub part_bytes : each particle_bytes (part_after e h n (particles_of part))
      ≡ each particle_bytes (recounted (count_after e (drop n (particles_of part))) h.start (take n (particles_of part)))
      ++ each particle_bytes (tail_after e h.depth (particles_of (drop (particle_size * n) part)))
  unfolding part_after
  part_bytes =
      each_append particle_bytes (recounted (count_after e (drop n (particles_of part))) h.start (take n (particles_of part))) (tail_after e h.depth (drop n (particles_of part)))
      ∙ ap
      (λ (xs : Particles). each particle_bytes (recounted (count_after e (drop n (particles_of part))) h.start (take n (particles_of part)))
      ++ each particle_bytes (tail_after e h.depth xs))
      (sym (particles_past n part))
