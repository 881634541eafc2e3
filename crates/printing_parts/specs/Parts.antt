-- The records of the four bodies of a byte string, by their numbers.
use Rattle.std.specs.Prelude.{ℕ, ◌*◌, ◌≤◌, ◌≡◌, List, map, length, take, drop}
use Rattle.rules.specs.Bytes.{Bytes}
use Rattle.rules.specs.Preorder.{Deep}
use Rattle.rules.specs.Layout.{header_size, definition_size, particle_size, attribute_size, FlatDefinition, FlatParticle, FlatAttribute}
use Rattle.rules.specs.Decode.{read_definition, read_particle, read_attribute, definition_count, particle_count, flat_name, flat_attribute_name}
use Rattle.lookup.specs.Bodies.{records_from, bodies_of}
use Rattle.layout.specs.Bodies.{record_at, width_of}

-- the bytes from a body on
unfoldable pub from_definitions : Bytes → Bytes
from_definitions bs = drop header_size bs

unfoldable pub from_particles : Bytes → Bytes
from_particles bs = drop (definition_size * definition_count bs) (drop header_size bs)

unfoldable pub from_attributes : Bytes → Bytes
from_attributes bs = drop (particle_size * particle_count bs) (drop (definition_size * definition_count bs) (drop header_size bs))

-- the bytes of a record
unfoldable pub definition_part : Bytes → ℕ → Bytes
definition_part bs i = take definition_size (drop (definition_size * i) (from_definitions bs))

unfoldable pub particle_part : Bytes → ℕ → Bytes
particle_part bs i = take particle_size (drop (particle_size * i) (from_particles bs))

unfoldable pub attribute_part : Bytes → ℕ → Bytes
attribute_part bs i = record_at (attribute_size (width_of bs)) i (from_attributes bs)

-- the records from number i on, of those up to number `end`
abbrev pub definitions_from : Bytes → ℕ → ℕ → List FlatDefinition
definitions_from bs end i = records_from read_definition definition_size (from_definitions bs) end i

abbrev pub particles_from : Bytes → ℕ → ℕ → List (Deep FlatParticle)
particles_from bs end i = records_from read_particle particle_size (from_particles bs) end i

abbrev pub attributes_from : Bytes → ℕ → ℕ → List FlatAttribute
attributes_from bs end i = records_from read_attribute (attribute_size (width_of bs)) (from_attributes bs) end i

-- the names of definitions, and of attributes, in the order of their tables
unfoldable pub names_of : Bytes → List Bytes
names_of bs = map flat_name (bodies_of bs).definitions

unfoldable pub attribute_names_of : Bytes → List Bytes
attribute_names_of bs = map flat_attribute_name (bodies_of bs).attributes

-- a name out of a table, no longer than its record
pub record Named (w : Bytes) (r : Bytes) : Type 0 where
  pub name_is : r ≡ w
  pub short : length r ≤ 300
