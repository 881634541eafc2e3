-- The bodies of a form as lists of records, at the width `w` of a value.
use Rattle.std.specs.Prelude.{ℕ, ◌*◌, ◌≤◌, ◌≡◌, Bool, List, [], length}
use Rattle.rules.specs.Bytes.{Bytes, same}
use Rattle.rules.specs.Layout.{definition_size, particle_size, attribute_size, FlatDefinition, FlatAttribute, FlatStore}
use Rattle.rules.specs.Decode.{read_definition, read_attribute, read_many}
use Rattle.layout.specs.declared.Form.{Form}
use Rattle.layout.specs.Bodies.{Width, record_at}
use Rattle.model_check.specs.Particles.{particles_read}

-- ---- bodies
-- a body of n records of one size, at most `most` of them
pub record Body (most size n : ℕ) (s : Bytes) : Type 0 where
  pub few : n ≤ most
  pub whole : size * n ≡ length s

-- record i
abbrev pub definition_record_at : ℕ → Bytes → FlatDefinition
definition_record_at i s = read_definition (record_at definition_size i s)

abbrev pub attribute_record_at : ℕ → ℕ → Bytes → FlatAttribute
attribute_record_at w i s = read_attribute (record_at (attribute_size w) i s)

unfoldable pub definitions : ℕ → Bytes → List FlatDefinition
definitions n s = read_many read_definition definition_size n s

unfoldable pub attributes : ℕ → ℕ → Bytes → List FlatAttribute
attributes w a s = read_many read_attribute (attribute_size w) a s

-- the three bodies of a form, no larger than the ceilings
pub record Bodies (w n : ℕ) (defs : Bytes) (p : ℕ) (parts : Bytes) (a : ℕ) (attrs : Bytes) : Type 0 where
  pub definition_body : Body 64 definition_size n defs
  pub particle_body : Body 256 particle_size p parts
  pub attribute_body : Body 64 (attribute_size w) a attrs

-- a store that has these bodies, and no rows; a form by itself has no version: 0 stands in the field
abbrev pub form_of_bodies : ℕ → ℕ → Bytes → ℕ → Bytes → ℕ → Bytes → FlatStore
form_of_bodies w n defs p parts a attrs =
    record {
      version = 0;
      next = 0;
      definitions = definitions n defs;
      particles = particles_read p parts;
      attributes = attributes w a attrs;
      rows = [];
    }

-- of a form that is lent
abbrev pub definitions_of : Form → List FlatDefinition
definitions_of f = definitions f.definition_count f.definitions.now

abbrev pub attributes_of : Form → List FlatAttribute
attributes_of f = attributes f.width f.attribute_count f.attributes.now

abbrev pub BodiesOf : Form → Type 0
BodiesOf f = Width f.width × Bodies f.width f.definition_count f.definitions.now f.particle_count f.particles.now f.attribute_count f.attributes.now

abbrev pub flat_form : Form → FlatStore
flat_form f = form_of_bodies f.width f.definition_count f.definitions.now f.particle_count f.particles.now f.attribute_count f.attributes.now

-- ---- pairs
abbrev pub same_name : FlatDefinition → FlatDefinition → Bool
same_name d e = same d.name e.name
