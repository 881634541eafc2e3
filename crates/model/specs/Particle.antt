-- A particle as the code has it, of what its four bytes hold.
use Rattle.std.specs.Prelude.{ℕ, zero, suc, drop}
use Rattle.rules.specs.declared.Facts.{Facts}
use Rattle.rules.specs.declared.GroupKind.{GroupKind}
use Rattle.rules.specs.declared.GroupKind.TheVariants.{Sequence}
use Rattle.rules.specs.Bytes.{Bytes, numbers}
use Rattle.rules.specs.Preorder.{Deep}
use Rattle.rules.specs.Layout.{FlatParticle, particle_size}
use Rattle.rules.specs.Decode.{quantifier_of, group_of, read_particle}
use Rattle.rules.specs.Automaton.{single, quantify_facts, facts}
use Rattle.model.specs.declared.What.{What}
use Rattle.model.specs.declared.What.TheVariants.{Element, Group}
use Rattle.model.specs.declared.Particle.{Particle}
use Rattle.model.specs.Members.{members_from}

-- sort 0 is an element, any other a group
abbrev pub what_of : ℕ → ℕ → What
what_of zero i = Element i
what_of (suc k) i = Group (group_of (suc k)) i

unfoldable pub particle_of : Deep FlatParticle → Particle
particle_of p = record { what = what_of p.row.sort p.row.index; quantifier = quantifier_of p.row.quantifier }

-- the kind that its members stand in
abbrev pub kind_in : What → GroupKind
kind_in (Element i) = Sequence
kind_in (Group k n) = k

-- its facts, without its quantifier and with it, from those of its members
abbrev pub once_facts : What → Facts → ℕ → ℕ → Facts
once_facts (Element i) below x y = single numbers i x y
once_facts (Group k n) below x y = below

abbrev pub particle_facts : Particle → Facts → ℕ → ℕ → Facts
particle_facts p below x y = quantify_facts p.quantifier (once_facts p.what below x y)

-- those of the particle of depth d that s begins with
unfoldable pub first_facts : ℕ → Bytes → ℕ → ℕ → Facts
first_facts d s x y =
    particle_facts (particle_of (read_particle s)) (facts numbers (kind_in (particle_of (read_particle s)).what) (members_from (suc d) (drop particle_size s)) x y) x y
