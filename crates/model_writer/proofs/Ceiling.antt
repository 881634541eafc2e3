-- The depths of the particles of a model after an edit.
use Prim.Native.Nat.{ℕ, zero, suc, ◌<◌, ◌≤◌}
use native.Mathlib.Omega.{arith}
use mathlib.Core.Path.{◌≡◌, refl, sym, ap, ◌∙◌}
use mathlib.Core.Bool.{Bool, true, false, not, ◌&&◌}
use mathlib.Core.List.{[], ◌∷◌, ◌++◌}
use borrow.Author.Tests.{le-leb, lt-leb, leb-true}
use lib.Dec.{leb, ltb, eqb}
use lib.ListN.{length, take, drop, take-append-drop}
use Rattle.rules.specs.declared.Quantifier.{Quantifier}
use Rattle.rules.specs.declared.GroupKind.{GroupKind}
use Rattle.rules.specs.Bytes.{Bytes, all, and_left, and_right}
use Rattle.rules.specs.Preorder.{Deep}
use Rattle.rules.specs.Layout.{FlatParticle, particle_size}
use Rattle.rules.specs.Edit.{Edit, insert, remove, quantify, convert, flatten}
use Rattle.rules.proofs.Words.{and_both}
use Rattle.rules.proofs.BooleanLaws.{all_left, all_right}
use Rattle.rules.specs.Decode.{read_particle}
use Rattle.model.specs.declared.place.Holder.{Holder}
use Rattle.model.specs.Members.{particles_of}
use Rattle.model.specs.Places.{Particles}
use Rattle.model.proofs.ChunkLaws.{Front}
use Rattle.model.proofs.MembersLaws.{particles_few, particles_more}
use Rattle.model_writer.specs.declared.Edit.{Edit as EditCode}
use Rattle.model_writer.specs.PartAfter.{redeep, lower, moved, tail_after, count_after, recounted, part_after}
use Rattle.model_writer.specs.Writing.{edit_of, shift, passing, depths_within}
use Rattle.model_writer.proofs.WritingLaws.{moved_first, moved_none}

abbrev low : Deep FlatParticle → Bool
low x = leb x.depth 4

within_take : (n : ℕ) (xs : Particles) → depths_within xs ≡ true → depths_within (take n xs) ≡ true
unfolding depths_within
within_take n xs h = all_left low (take n xs) (drop n xs) (ap (all low) (take-append-drop n xs) ∙ h)

pub within_drop : (n : ℕ) (xs : Particles) → depths_within xs ≡ true → depths_within (drop n xs) ≡ true
unfolding depths_within
within_drop n xs h = all_right low (take n xs) (drop n xs) (ap (all low) (take-append-drop n xs) ∙ h)

within_append : (xs ys : Particles) → depths_within xs ≡ true → depths_within (xs ++ ys) ≡ depths_within ys
unfolding depths_within
within_append [] ys h = refl
within_append (x ∷ xs) ys h = ap (λ (b : Bool). b && all low (xs ++ ys)) (and_left (low x) (all low xs) h) ∙ within_append xs ys (and_right (low x) (all low xs) h)

within_recounted : (g : ℕ → ℕ) (s : ℕ) (xs : Particles) → depths_within (recounted g s xs) ≡ depths_within xs
unfolding depths_within recounted
within_recounted g s [] = refl
within_recounted g zero (x ∷ xs) = refl
within_recounted g (suc zero) (x ∷ xs) = refl
within_recounted g (suc (suc s)) (x ∷ xs) = ap (λ (b : Bool). low x && b) (within_recounted g (suc s) xs)

low_lower : (k : ℕ) → leb k 4 ≡ true → leb (lower k) 4 ≡ true
low_lower k h = le-leb (lower k) 4 (omega (arith, leb-true k 4 h))

within_raised : (d n : ℕ) (xs : Particles) → depths_within xs ≡ true → depths_within (moved lower d n xs) ≡ true
unfolding depths_within moved
within_raised d n [] h = refl
within_raised d zero (x ∷ xs) h = by (ltb d x.depth) (within_raised d zero xs (and_right (low x) (all low xs) h))
  where
    by : (b : Bool) → all low (moved lower d zero xs) ≡ true → all low (elim b as (λ z. Particles) [ true ↦ redeep lower x ∷ moved lower d zero xs | false ↦ x ∷ xs ]) ≡ true
    by true f = and_both (low_lower x.depth (and_left (low x) (all low xs) h)) f
    by false f = h
within_raised d (suc n) (x ∷ xs) h =
    and_both (low_lower x.depth (and_left (low x) (all low xs) h))
    (by (ltb d x.depth) (within_raised d (suc n) xs (and_right (low x) (all low xs) h)) (within_raised d n xs (and_right (low x) (all low xs) h)))
  where
    by : (b : Bool) → all low (moved lower d (suc n) xs) ≡ true → all low (moved lower d n xs) ≡ true
        → all low (elim b as (λ z. Particles) [ true ↦ moved lower d (suc n) xs | false ↦ moved lower d n xs ]) ≡ true
    by true f g = f
    by false f g = g

-- ---- the loop over particles that go one deeper
pub record Deepening (goal : Bool) (d : ℕ) (t : Bytes) (m : ℕ) : Type 0 where
  pub still : depths_within (particles_of t) ≡ true
  pub same : goal ≡ depths_within (moved (shift true) d m (particles_of t))

pub deep_all : (d : ℕ) (s : Bytes) (n : ℕ) → depths_within (particles_of s) ≡ true → Deepening (depths_within (moved (shift true) d n (particles_of s))) d s n
deep_all d s n h = record { still = h; same = refl }

module _ {goal : Bool} {d : ℕ} {t : Bytes} {m : ℕ} (v : Deepening goal d t m) where
  pub deep_done : length t < particle_size → true ≡ goal
  unfolding depths_within moved
  deep_done l = sym (v.same ∙ ap (λ (xs : Particles). depths_within (moved (shift true) d m xs)) (particles_few t l))

  -- x is the first particle of t, and s is what follows it
  module _ {x s : Bytes} (there : Front t x s) (b : Bool) (deep : ltb d (read_particle x).depth ≡ b) where
    inner : ltb d (read_particle t).depth ≡ b
    inner = ap (λ (p : Deep FlatParticle). ltb d p.depth) (sym there.reads) ∙ deep

    depth_there : (read_particle x).depth ≡ (read_particle t).depth
    depth_there = ap (λ (p : Deep FlatParticle). p.depth) there.reads

    pub deep_stop : (eqb m 0 && not b) ≡ true → true ≡ goal
    deep_stop f = sym (v.same ∙ ap depths_within (moved_none (shift true) d t there.long b m inner f) ∙ v.still)

    deep_first : (eqb m 0 && not b) ≡ false → goal ≡ (leb (suc (read_particle t).depth) 4 && depths_within (moved (shift true) d (passing b m) (particles_of (drop particle_size t))))
    unfolding depths_within
    deep_first f = v.same ∙ ap depths_within (moved_first (shift true) d t there.long b m inner f)

    still_rest : depths_within (particles_of (drop particle_size t)) ≡ true
    unfolding depths_within
    still_rest = and_right (leb (read_particle t).depth 4) (depths_within (particles_of (drop particle_size t))) (sym (ap depths_within (particles_more t there.long)) ∙ v.still)

    pub deep_over : (eqb m 0 && not b) ≡ false → 4 ≤ (read_particle x).depth → false ≡ goal
    deep_over f h =
        sym
        (deep_first f
        ∙ ap (λ (z : Bool). z && depths_within (moved (shift true) d (passing b m) (particles_of (drop particle_size t))))
        (lt-leb (suc (read_particle t).depth) 4 (omega (arith, depth_there))))

    pub deep_step : (eqb m 0 && not b) ≡ false → (read_particle x).depth < 4 → {m' : ℕ} → m' ≡ passing b m → Deepening goal d s m'
    deep_step f h {m'} p =
        rw (p, there.rest)
        (record {
          still = still_rest;
          same =
              deep_first f
              ∙ ap (λ (z : Bool). z && depths_within (moved (shift true) d (passing b m) (particles_of (drop particle_size t)))) (le-leb (suc (read_particle t).depth) 4 (omega (arith, depth_there)));
        })

-- ---- the edits
module _ (h : Holder) (n : ℕ) (xs : Particles) (still : depths_within xs ≡ true) where
  after_tail : (e : Edit ℕ) → depths_within (part_after e h n xs) ≡ depths_within (tail_after e h.depth (drop n xs))
  unfolding part_after
  after_tail e =
      within_append (recounted (count_after e (drop n xs)) h.start (take n xs)) (tail_after e h.depth (drop n xs))
      (within_recounted (count_after e (drop n xs)) h.start (take n xs) ∙ within_take n xs still)

  first_only : (b : Bool) (ys : Particles) → depths_within ys ≡ true → b ≡ (b && depths_within ys)
  first_only true ys e = sym e
  first_only false ys e = refl

  pub inserted_within : (q : Quantifier) (i : ℕ) → leb h.depth 4 ≡ depths_within (part_after (insert q i) h n xs)
  unfolding depths_within tail_after
  inserted_within q i = first_only (leb h.depth 4) (drop n xs) (within_drop n xs still) ∙ sym (after_tail (insert q i))

  pub removed_within : true ≡ depths_within (part_after remove h n xs)
  unfolding tail_after
  removed_within = sym (after_tail remove ∙ within_drop 1 (drop n xs) (within_drop n xs still))

  requantified : (r : Quantifier) (d : ℕ) (ys : Particles) → depths_within (tail_after (quantify r) d ys) ≡ depths_within ys
  unfolding depths_within tail_after
  requantified r d [] = refl
  requantified r d (y ∷ ys) = refl

  pub requantified_within : (r : Quantifier) → true ≡ depths_within (part_after (quantify r) h n xs)
  requantified_within r = sym (after_tail (quantify r) ∙ requantified r h.depth (drop n xs) ∙ within_drop n xs still)

  pub grouped_within : (k : GroupKind) (m : ℕ) → (leb h.depth 4 && depths_within (moved (shift true) h.depth m (drop n xs))) ≡ depths_within (part_after (convert k m) h n xs)
  unfolding depths_within tail_after
  grouped_within k m = sym (after_tail (convert k m))

  pub flattened_within : true ≡ depths_within (part_after flatten h n xs)
  unfolding tail_after
  flattened_within = sym (after_tail flatten ∙ within_raised h.depth 0 (drop 1 (drop n xs)) (within_drop 1 (drop n xs) (within_drop n xs still)))

-- an edit of the code, case by case
pub within_case : (h : Holder) (n : ℕ) (xs : Particles) {e f : EditCode} → e ≡ f → depths_within (part_after (edit_of f) h n xs) ≡ depths_within (part_after (edit_of e) h n xs)
within_case h n xs p = ap (λ (z : EditCode). depths_within (part_after (edit_of z) h n xs)) (sym p)
