-- The bytes from a place on, after an edit there.
use Prim.Native.Nat.{ℕ, ◌+◌, ◌%◌, ◌<◌, ◌≤◌}
use native.Mathlib.Omega.{arith}
use mathlib.Core.Path.{◌≡◌, refl, sym, ap, ◌∙◌, subst}
use mathlib.Core.Bool.{true, false}
use mathlib.Core.List.{[], ◌++◌}
use lib.ListN.{length, drop, length-drop}
use Rattle.rules.specs.declared.Quantifier.{Quantifier}
use Rattle.rules.specs.declared.Quantifier.TheVariants.{None}
use Rattle.rules.specs.declared.GroupKind.{GroupKind}
use Rattle.rules.specs.Bytes.{Bytes}
use Rattle.rules.specs.Layout.{particle_bytes, each, particle_size}
use Rattle.rules.specs.Decode.{read_particle}
use Rattle.rules.specs.Edit.{insert, remove, quantify, convert, flatten}
use Rattle.model.specs.Members.{particles_of}
use Rattle.model.specs.Places.{Particles}
use Rattle.model.specs.Positions.{element_particle, group_particle}
use Rattle.model.proofs.MembersLaws.{particles_few, particles_more, particles_rest}
use Rattle.model_writer.specs.declared.Edit.{Edit as EditCode}
use Rattle.model_writer.specs.PartAfter.{lower, requantified, moved, tail_after}
use Rattle.model_writer.specs.Writing.{edit_of, shift, Fitting, Tail}
use Rattle.model_writer.proofs.WritingLaws.{whole}

rest_whole : (s : Bytes) → length s % particle_size ≡ 0 → length (drop particle_size s) % particle_size ≡ 0
rest_whole s h = omega (arith, length-drop particle_size s)

rest_bytes : (s : Bytes) → length s % particle_size ≡ 0 → each particle_bytes (drop 1 (particles_of s)) ≡ drop particle_size s
rest_bytes s h = ap (each particle_bytes) (sym (particles_rest s)) ∙ whole (drop particle_size s) (rest_whole s h)

module _ {d : ℕ} {ys : Bytes} {at : ℕ} where
  -- 3
  pub inserted_index : {q : Quantifier} {i : ℕ} → Tail (insert q i) d ys at → i < 256
  unfolding tail_after Fitting
  inserted_index v = v.fitting.0.index

  pub inserted_depth : {q : Quantifier} {i : ℕ} → Tail (insert q i) d ys at → d < 256
  unfolding tail_after Fitting
  inserted_depth v = v.fitting.0.depth

  pub inserted_bytes : {q : Quantifier} {i : ℕ} → Tail (insert q i) d ys at → each particle_bytes (tail_after (insert q i) d (particles_of ys)) ≡ particle_bytes (element_particle d q i) ++ ys
  unfolding tail_after
  inserted_bytes {q} {i} v = ap (λ (s : Bytes). particle_bytes (element_particle d q i) ++ s) (whole ys v.whole)

  -- 4
  pub removed_bytes : Tail remove d ys at → each particle_bytes (tail_after remove d (particles_of ys)) ≡ drop particle_size ys
  unfolding tail_after
  removed_bytes v = rest_bytes ys v.whole

  -- 5 and 8
  pub requantified_none : {q : Quantifier} → Tail (quantify q) d ys at → length ys < particle_size → each particle_bytes (tail_after (quantify q) d (particles_of ys)) ≡ []
  unfolding tail_after
  requantified_none {q} v l = ap (λ (xs : Particles). each particle_bytes (tail_after (quantify q) d xs)) (particles_few ys l)

  pub requantified_bytes : {q : Quantifier} → Tail (quantify q) d ys at → particle_size ≤ length ys
      → each particle_bytes (tail_after (quantify q) d (particles_of ys)) ≡ particle_bytes (requantified q (read_particle ys)) ++ drop particle_size ys
  unfolding tail_after
  requantified_bytes {q} v l =
      ap (λ (xs : Particles). each particle_bytes (tail_after (quantify q) d xs)) (particles_more ys l)
      ∙ ap (λ (s : Bytes). particle_bytes (requantified q (read_particle ys)) ++ s) (whole (drop particle_size ys) (rest_whole ys v.whole))

  -- 6
  pub grouped_index : {k : GroupKind} {n : ℕ} → Tail (convert k n) d ys at → n < 256
  unfolding tail_after Fitting
  grouped_index v = v.fitting.0.index

  pub grouped_depth : {k : GroupKind} {n : ℕ} → Tail (convert k n) d ys at → d < 256
  unfolding tail_after Fitting
  grouped_depth v = v.fitting.0.depth

  pub grouped_fits : {k : GroupKind} {n : ℕ} → Tail (convert k n) d ys at → Fitting (moved (shift true) d n (particles_of ys))
  unfolding tail_after Fitting
  grouped_fits v = v.fitting.1

  pub grouped_bytes : {k : GroupKind} {n : ℕ} → Tail (convert k n) d ys at
      → each particle_bytes (tail_after (convert k n) d (particles_of ys)) ≡ particle_bytes (group_particle d None k n) ++ each particle_bytes (moved (shift true) d n (particles_of ys))
  unfolding tail_after
  grouped_bytes v = refl

  -- 7
  pub flattened_whole : Tail flatten d ys at → length (drop particle_size ys) % particle_size ≡ 0
  flattened_whole v = rest_whole ys v.whole

  pub flattened_room : Tail flatten d ys at → at + length (drop particle_size ys) < 9223372036854775808
  flattened_room v = omega (arith, v.room, length-drop particle_size ys)

  pub flattened_fits : Tail flatten d ys at → Fitting (moved (shift false) d 0 (particles_of (drop particle_size ys)))
  unfolding tail_after Fitting
  flattened_fits v = rw (particles_rest ys) v.fitting

  pub flattened_bytes : Tail flatten d ys at → each particle_bytes (tail_after flatten d (particles_of ys)) ≡ each particle_bytes (moved (shift false) d 0 (particles_of (drop particle_size ys)))
  unfolding tail_after
  flattened_bytes v = ap (λ (xs : Particles). each particle_bytes (moved lower d 0 xs)) (sym (particles_rest ys))

-- an edit of the code, case by case
pub tail_as : {e f : EditCode} {d : ℕ} {ys : Bytes} {at : ℕ} → e ≡ f → Tail (edit_of e) d ys at → Tail (edit_of f) d ys at
tail_as {e} {f} {d} {ys} {at} p v = subst (λ (z : EditCode). Tail (edit_of z) d ys at) p v

pub tail_bytes : (d : ℕ) (ys : Bytes) {e f : EditCode} → e ≡ f → each particle_bytes (tail_after (edit_of e) d (particles_of ys)) ≡ each particle_bytes (tail_after (edit_of f) d (particles_of ys))
tail_bytes d ys p = ap (λ (z : EditCode). each particle_bytes (tail_after (edit_of z) d (particles_of ys))) p
