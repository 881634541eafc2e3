-- The particles deeper than d that a part begins with.
use Prim.Native.Nat.{ℕ, suc, ◌+◌}
use native.Mathlib.Omega.{arith}
use mathlib.Core.Path.{◌≡◌, sym, ap, ◌∙◌}
use mathlib.Core.Bool.{Bool, true, false, cond}
use mathlib.Core.List.{[], ◌∷◌}
use lib.Dec.{ltb}
use Rattle.std.specs.List.{prefix_len}
use Rattle.rules.specs.Bytes.{Bytes}
use Rattle.rules.specs.Decode.{read_particle}
use Rattle.model_check.proofs.Chunks.{particles}
use Rattle.model.specs.Members.{particles_of}
use Rattle.model.specs.Places.{span_of}
use Rattle.model.proofs.MembersLaws.{particles_few, particles_more}

-- whether a particle is deeper
abbrev pub deeper : ℕ → Bytes → Bool
deeper d x = ltb d (read_particle x).depth

pub span_is : (d : ℕ) (t : Bytes) → prefix_len (deeper d) (particles t) ≡ span_of d (particles_of t)
unfolding particles span_of
span_is d [] = sym (ap (span_of d) (particles_few [] (omega arith)))
span_is d (a ∷ []) = sym (ap (span_of d) (particles_few (a ∷ []) (omega arith)))
span_is d (a ∷ b ∷ []) = sym (ap (span_of d) (particles_few (a ∷ b ∷ []) (omega arith)))
span_is d (a ∷ b ∷ c ∷ []) = sym (ap (span_of d) (particles_few (a ∷ b ∷ c ∷ []) (omega arith)))
span_is d (a ∷ b ∷ c ∷ e ∷ t) = by (ltb d e) (span_is d t) ∙ sym (ap (span_of d) (particles_more (a ∷ b ∷ c ∷ e ∷ t) (omega arith)))
  where
    by : (z : Bool) → prefix_len (deeper d) (particles t) ≡ span_of d (particles_of t)
        → cond z (1 + prefix_len (deeper d) (particles t)) 0 ≡ elim z [ true ↦ suc (span_of d (particles_of t)) | false ↦ 0 ]
    by true h = omega (arith, h)
    by false h = omega arith
