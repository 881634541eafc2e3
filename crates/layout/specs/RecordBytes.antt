-- The records of a form by their fields, and records with another field.
use Rattle.std.specs.Prelude.{ℕ, ◌+◌, ◌*◌, [], ◌∷◌, ◌++◌, take, drop}
use Rattle.rules.specs.Bytes.{Bytes}
use Rattle.rules.specs.Preorder.{Deep}
use Rattle.rules.specs.Layout.{le, definition_size, FlatDefinition, FlatParticle, FlatAttribute}
use Rattle.rules.specs.Decode.{read_particle}
use Rattle.layout.specs.Fields.{definition_particles_at}

abbrev pub definition_of : Bytes → ℕ → ℕ → FlatDefinition
definition_of name kind particles = record { name = name; kind = kind; particles = particles }

abbrev pub flat_particle : ℕ → ℕ → ℕ → ℕ → Deep FlatParticle
flat_particle sort quantifier index depth = record { depth = depth; row = record { sort = sort; quantifier = quantifier; index = index } }

abbrev pub attribute_of : ℕ → Bytes → ℕ → Bytes → FlatAttribute
attribute_of owner name sort value = record { owner = owner; name = name; sort = sort; value = value }

-- the particle's bytes with another index; the attribute's with another owner
unfoldable pub indexed_bytes : ℕ → Bytes → Bytes
indexed_bytes index rec = take 2 rec ++ (index ∷ (read_particle rec).depth ∷ [])

unfoldable pub owned_bytes : ℕ → Bytes → Bytes
owned_bytes owner rec = owner ∷ drop 1 rec

-- the definitions' bytes, those of number o with n for its number of particles
abbrev pub counted_bytes : ℕ → ℕ → Bytes → Bytes
counted_bytes o n s = take (definition_size * o + definition_particles_at) s ++ (le 2 n ++ drop (definition_size * o + definition_size) s)
