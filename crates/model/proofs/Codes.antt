-- Particles, of what their bytes hold.
use mathlib.Core.Path.{◌≡◌, refl, sym, ap, ◌∙◌}
use Prim.Native.Nat.{ℕ, zero, suc, ◌-◌}
use lib.ListN.{length, take, drop}
use Rattle.std.specs.Prelude.{Option, None, Some}
use Rattle.rules.specs.declared.GroupKind.{GroupKind}
use Rattle.rules.specs.declared.Quantifier.{Quantifier}
use Rattle.rules.specs.Bytes.{Bytes}
use Rattle.rules.specs.Decode.{quantifier_of, read_particle}
use Rattle.rules.specs.Codes.{read_group}
use Rattle.codec.proofs.Writers.{tail_seen}
use Rattle.model.specs.declared.What.{What}
use Rattle.model.specs.declared.What.TheVariants.{Element, Group}
use Rattle.model.specs.declared.Particle.{Particle}
use Rattle.model.specs.Particle.{what_of, particle_of}

-- a particle by the kind of a group, or none
abbrev what_by : Option GroupKind → ℕ → What
what_by None n = Element n
what_by (Some kind) n = Group kind n

sorted : (sort n : ℕ) → what_by (read_group sort) n ≡ what_of sort n
sorted zero n = refl
sorted (suc k) n = refl

module _ (sort n : ℕ) {o : Option GroupKind} (e : o ≡ read_group sort) {w : What} where
  pub element_read : o ≡ None → w ≡ Element n → w ≡ what_of sort n
  element_read h x = x ∙ ap (λ (z : Option GroupKind). what_by z n) (sym h ∙ e) ∙ sorted sort n

  pub group_read : (kind : GroupKind) → o ≡ Some kind → w ≡ Group kind n → w ≡ what_of sort n
  group_read kind h x = x ∙ ap (λ (z : Option GroupKind). what_by z n) (sym h ∙ e) ∙ sorted sort n

-- the particle of the bytes at a place
pub particle_read : (s : Bytes) (at index code : ℕ) (w : What) (q : Quantifier) → let rec : Bytes = take (length s - at) (drop at s) in
    index ≡ (read_particle rec).row.index → code ≡ (read_particle rec).row.quantifier
    → w ≡ what_of (read_particle rec).row.sort index → q ≡ quantifier_of code
    → ◌≡◌ {A = Particle} (record { what = w; quantifier = q }) (particle_of (read_particle (drop at s)))
unfolding particle_of
particle_read s at index code w q ei ec ew eq = rw (ew, eq, ei, ec, tail_seen s at)
