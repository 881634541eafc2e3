-- The particles deeper than a place: those of the group there, and no others before one of its depth.
use Prim.Native.Nat.{ℕ, suc, ◌≤◌}
use native.Mathlib.Omega.{arith}
use borrow.Author.Tests.{le-ltb}
use mathlib.Core.Path.{◌≡◌, refl, sym, ap, ◌∙◌}
use mathlib.Core.List.{[], ◌++◌, append_assoc, append-nil}
use Rattle.rules.specs.Model.{Members, done, el, group}
use Rattle.rules.specs.Place.{Context, here, past, over, into}
use Rattle.model.specs.Places.{Particles, span_of}
use Rattle.model.specs.Positions.{spread, count, trailing, level}
use Rattle.model.proofs.PositionLaws.{span_skip}
use Rattle.model_writer.proofs.PartAfter.{deep_level}

-- ---- the depth of a place
-- members of depth e, no deeper than d
span_other : (d e : ℕ) (ms : Members ℕ) (ys : Particles) → e ≤ d → span_of d ys ≡ 0 → span_of d (spread e ms ++ ys) ≡ 0
unfolding span_of
span_other d e done ys l z = z
span_other d e (el q i rest) ys l z = rw (le-ltb d e l, span_of)
span_other d e (group q k ms rest) ys l z = rw (le-ltb d e l, span_of)

-- nothing deeper than a place comes after the list that holds it
span_trailing : (d e : ℕ) (c : Context ℕ) (ys : Particles) → level e c ≤ d → span_of d ys ≡ 0 → span_of d (trailing e c ++ ys) ≡ 0
span_trailing d e here ys l z = z
span_trailing d e (past q i c) ys l z = span_trailing d e c ys l z
span_trailing d e (over q k ms c) ys l z = span_trailing d e c ys l z
span_trailing d e (into q k c rest) ys l z =
    ap (λ (zs : Particles). span_of d zs) (append_assoc (trailing (suc e) c) (spread e rest) ys)
    ∙ span_trailing d (suc e) c (spread e rest ++ ys) l (span_other d e rest ys (omega (arith, deep_level (suc e) c)) z)

-- THE SPAN OF A GROUP at a place: its members
pub span_group : (c : Context ℕ) (ms rest : Members ℕ) → span_of (level 0 c) (spread (suc (level 0 c)) ms ++ (spread (level 0 c) rest ++ trailing 0 c)) ≡ count ms
unfolding span_of
span_group c ms rest =
    let n : span_of (level 0 c) (trailing 0 c) ≡ 0 = ap (λ (zs : Particles). span_of (level 0 c) zs) (sym (append-nil (trailing 0 c))) ∙ span_trailing (level 0 c) 0 c [] (omega arith) refl in
    let z : span_of (level 0 c) (spread (level 0 c) rest ++ trailing 0 c) ≡ 0 = span_other (level 0 c) (level 0 c) rest (trailing 0 c) (omega arith) n in
    omega (arith, span_skip (level 0 c) (suc (level 0 c)) ms (spread (level 0 c) rest ++ trailing 0 c) (omega arith))
