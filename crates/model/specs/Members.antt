-- The content model that a part of the particle body holds, over definition indices.
use Rattle.std.specs.Prelude.{ℕ, zero, suc, ◌+◌, ◌/◌, List, [], ◌∷◌, length}
use Rattle.rules.specs.Bytes.{Bytes}
use Rattle.rules.specs.Model.{Members, done, el, group}
use Rattle.rules.specs.Store.{Forest, bare, tree}
use Rattle.rules.specs.Preorder.{Deep, build}
use Rattle.rules.specs.Layout.{particle_size, FlatDefinition, FlatParticle}
use Rattle.rules.specs.Decode.{quantifier_of, group_of, read_particle, read_many}

-- as `member_of` and `read_members` of the rules, with the index for the name
abbrev pub index_member : FlatParticle → ℕ → Members ℕ → Members ℕ → Members ℕ
index_member p zero below rest = el (quantifier_of p.quantifier) p.index rest
index_member p (suc k) below rest = group (quantifier_of p.quantifier) (group_of (suc k)) below rest

abbrev pub index_members : Forest FlatParticle → Members ℕ
index_members bare = done
index_members (tree p b t) = index_member p p.sort (index_members b) (index_members t)

-- all particles of a byte string
unfoldable pub particles_of : Bytes → List (Deep FlatParticle)
particles_of s = read_many read_particle particle_size (length s / particle_size) s

-- those of depth d that stand beside one another from its front on, and with d 0 the whole
unfoldable pub members_from : ℕ → Bytes → Members ℕ
members_from d s = index_members (build (particles_of s) d)

abbrev pub all_members : Bytes → Members ℕ
all_members s = members_from 0 s

-- how many particles stand before those of definition o
abbrev pub start_of : ℕ → List FlatDefinition → ℕ
start_of o [] = 0
start_of zero (d ∷ ds) = 0
start_of (suc o) (d ∷ ds) = d.particles + start_of o ds
