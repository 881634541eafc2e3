-- How many particles there are after an edit, and the bytes of all particles of a form.
use Prim.Native.Nat.{ℕ, zero, suc, ◌+◌, ◌-◌, ◌*◌, ◌%◌, ◌<◌, ◌≤◌}
use native.Mathlib.Omega.{arith}
use mathlib.Core.Path.{◌≡◌, refl, sym, ap, ap₂, ◌∙◌, subst}
use mathlib.Core.Bool.{Bool, true, false}
use mathlib.Core.List.{[], ◌∷◌, ◌++◌}
use lib.Dec.{ltb}
use lib.ListN.{length, take, drop, length-append, length-drop}
use lib.Seq.{length-take-le}
use Rattle.rules.specs.Bytes.{Bytes}
use Rattle.rules.specs.Preorder.{Deep}
use Rattle.rules.specs.Layout.{FlatParticle, particle_bytes, each, particle_size}
use Rattle.rules.specs.Edit.{Edit, insert, remove, quantify, convert, flatten}
use Rattle.rules.proofs.LayoutLaws.{each_append}
use Rattle.model.specs.declared.place.Holder.{Holder}
use Rattle.model.specs.Members.{particles_of}
use Rattle.model.specs.Places.{Particles}
use Rattle.model_writer.specs.Spliced.{spliced}
use Rattle.model_writer.specs.PartAfter.{lower, moved, tail_after, count_after, recounted, part_after, length_after, inserts}
use Rattle.model_writer.specs.Writing.{Part, particle_range, EditPart}
use Rattle.model_writer.proofs.WritingLaws.{whole}
use Rattle.model_writer.proofs.HeadWriting.{each_drop, take_bytes, length_bytes, length_recounted, length_part}

length_moved : (g : ℕ → ℕ) (d n : ℕ) (xs : Particles) → length (moved g d n xs) ≡ length xs
unfolding moved
length_moved g d n [] = refl
length_moved g d zero (x ∷ xs) = by (ltb d x.depth) (length_moved g d zero xs)
  where
    by : (b : Bool) → length (moved g d zero xs) ≡ length xs
        → length {A = Deep FlatParticle}
        (elim b as (λ z. Particles) [ true ↦ record { depth = g x.depth; row = x.row } ∷ moved g d zero xs | false ↦ x ∷ xs ])
        ≡ suc (length xs)
    by true h = ap suc h
    by false h = refl
length_moved g d (suc n) (x ∷ xs) = ap suc (by (ltb d x.depth) (length_moved g d (suc n) xs) (length_moved g d n xs))
  where
    by : (b : Bool) → length (moved g d (suc n) xs) ≡ length xs → length (moved g d n xs) ≡ length xs
        → length {A = Deep FlatParticle} (elim b as (λ z. Particles) [ true ↦ moved g d (suc n) xs | false ↦ moved g d n xs ]) ≡ length xs
    by true h k = h
    by false h k = k

pub length_tail : (e : Edit ℕ) (d : ℕ) (ys : Particles) → length (tail_after e d ys) ≡ length_after e (length ys)
unfolding tail_after
length_tail (insert q i) d ys = refl
length_tail remove d ys = length-drop 1 ys
length_tail (quantify r) d [] = refl
length_tail (quantify r) d (y ∷ ys) = refl
length_tail (convert j n) d ys = ap suc (length_moved suc d n ys)
length_tail flatten d ys = length_moved lower d 0 (drop 1 ys) ∙ length-drop 1 ys

length_both : (e : Edit ℕ) (h : Holder) (n : ℕ) (xs : Particles) → n ≤ length xs → length (part_after e h n xs) ≡ n + length_after e (length xs - n)
unfolding part_after
length_both e h n xs l =
    length-append (recounted (count_after e (drop n xs)) h.start (take n xs)) (tail_after e h.depth (drop n xs))
    ∙ ap₂ (λ (i j : ℕ). i + j) (length_recounted (count_after e (drop n xs)) h.start (take n xs) ∙ length-take-le n xs l)
    (length_tail e h.depth (drop n xs) ∙ ap (length_after e) (length-drop n xs))

-- HOW MANY PARTICLES the model has after an edit
pub length_after_lem : (e : Edit ℕ) (h : Holder) (n : ℕ) (xs : Particles) → n ≤ length xs → (inserts e ≡ false → n < length xs) → length (part_after e h n xs) ≡ length_after e (length xs)
length_after_lem (insert q i) h n xs l f = omega (arith, length_both (insert q i) h n xs l)
length_after_lem remove h n xs l f = omega (arith, length_both remove h n xs l, f refl)
length_after_lem (quantify r) h n xs l f = omega (arith, length_both (quantify r) h n xs l)
length_after_lem (convert j m) h n xs l f = omega (arith, length_both (convert j m) h n xs l)
length_after_lem flatten h n xs l f = omega (arith, length_both flatten h n xs l, f refl)

pub one_more : (e : Edit ℕ) (n : ℕ) → length_after e n ≤ suc n
one_more (insert q i) n = omega arith
one_more remove n = omega arith
one_more (quantify r) n = omega arith
one_more (convert j m) n = omega arith
one_more flatten n = omega arith

-- one particle more, at most
pub length_few : {e : Edit ℕ} {h : Holder} {n : ℕ} {part : Bytes} → Part e h n part → length (each particle_bytes (part_after e h n (particles_of part))) ≤ length part + particle_size
length_few {e} {h} {n} {part} v =
    let xs : Particles = particles_of part in
    let w : length part ≡ particle_size * length xs = length_part part v.whole in
    omega (arith, length_bytes (part_after e h n xs), length_both e h n xs (omega (arith, w, v.inside)), one_more e (length xs - n), w, v.inside)

-- ---- all particles
spliced_bytes : (first k : ℕ) (part : Particles) (parts : Bytes) → length parts % particle_size ≡ 0
    → each particle_bytes (spliced first k part (particles_of parts)) ≡ take (particle_size * first) (drop 0 parts) ++ (each particle_bytes part ++ drop (particle_size * (first + k)) parts)
spliced_bytes first k part parts h =
    let xs : Particles = particles_of parts in
    each_append particle_bytes (take first xs) (part ++ drop (first + k) xs)
    ∙ ap₂ (λ (s t : Bytes). s ++ t) (take_bytes first parts h)
    (each_append particle_bytes part (drop (first + k) xs) ∙ ap (λ (s : Bytes). each particle_bytes part ++ s) (sym (each_drop (first + k) xs) ∙ ap (drop (particle_size * (first + k))) (whole parts h)))

pub body_bytes : {e : Edit ℕ} {h : Holder} {n first k : ℕ} {parts : Bytes} → EditPart e h n first k parts
    → each particle_bytes (spliced first k (part_after e h n (particles_of (particle_range first k parts))) (particles_of parts))
    ≡ take (particle_size * first) (drop 0 parts) ++ (each particle_bytes (part_after e h n (particles_of (particle_range first k parts))) ++ drop (particle_size * (first + k)) parts)
body_bytes {e} {h} {n} {first} {k} {parts} v = spliced_bytes first k (part_after e h n (particles_of (particle_range first k parts))) parts v.whole

pub body_part : {e : Edit ℕ} {h : Holder} {n first k : ℕ} {parts own : Bytes} → EditPart e h n first k parts → own ≡ particle_range first k parts → Part e h n own
body_part {e} {h} {n} v p = subst (λ (s : Bytes). Part e h n s) (sym p) v.part
