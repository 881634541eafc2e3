-- A form that is lent, and what a byte string's header and bodies say of it.
use Rattle.std.specs.Prelude.{◌<◌, ◌≡◌}
use Rattle.rules.specs.Bytes.{Bytes}
use Rattle.rules.specs.Decode.{version_in, definition_count, particle_count, attribute_count}
use Rattle.layout.specs.declared.Form.{Form}
use Rattle.layout.specs.Bodies.{Width, width_of, definitions_in, particles_in, attributes_in}

-- numbers that fit their fields, whatever they were read from
pub record FormFits (f : Form) : Type 0 where
  pub width : Width f.width
  pub definitions : f.definition_count < 4294967296
  pub particles : f.particle_count < 4294967296
  pub attributes : f.attribute_count < 4294967296

-- the form that a byte string says, whether it passes or not
pub record FormOf (bs : Bytes) (f : Form) : Type 0 where
  pub version : f.version ≡ version_in bs
  pub width : f.width ≡ width_of bs
  pub definition_count : f.definition_count ≡ definition_count bs
  pub particle_count : f.particle_count ≡ particle_count bs
  pub attribute_count : f.attribute_count ≡ attribute_count bs
  pub definitions : f.definitions.now ≡ definitions_in bs
  pub particles : f.particles.now ≡ particles_in bs
  pub attributes : f.attributes.now ≡ attributes_in bs
  pub sized : FormFits f
