-- The bytes of a form, read at the width `w` of a value: the form by indices.
use Rattle.std.specs.Prelude.{ℕ, zero, suc, ◌+◌, ◌*◌, [], take, drop}
use Rattle.rules.specs.Bytes.{Bytes}
use Rattle.rules.specs.Layout.{definition_size, particle_size, attribute_size, FlatDefinition, FlatAttribute}
use Rattle.rules.specs.Decode.{number_at, definition_count, attribute_count, read_definition, read_attribute, sort_of}
use Rattle.rules.specs.Conforming.{must_be_present, allows}
use Rattle.layout.specs.declared.Form.{Form}
use Rattle.layout.specs.Fields.{version_at}
use Rattle.layout.specs.Bodies.{record_at, width_of, definitions_in, particles_in, attributes_in}
use Rattle.model.specs.Members.{all_members}
use Rattle.form_index.specs.Indices.{IndexForm}

abbrev pub definition_in : Bytes → ℕ → FlatDefinition
definition_in defs i = read_definition (record_at definition_size i defs)

abbrev pub attribute_in : ℕ → Bytes → ℕ → FlatAttribute
attribute_in w attrs j = read_attribute (record_at (attribute_size w) j attrs)

-- how many particles stand before definition i's
unfoldable pub particles_before : Bytes → ℕ → ℕ
particles_before defs zero = 0
particles_before defs (suc i) = particles_before defs i + (definition_in defs i).particles

-- definition i's part of the particle body
unfoldable pub model_part : Bytes → Bytes → ℕ → Bytes
model_part defs parts i = take (particle_size * (definition_in defs i).particles) (drop (particle_size * particles_before defs i) parts)

-- n definitions, a attributes
abbrev pub index_form : ℕ → ℕ → ℕ → Bytes → Bytes → Bytes → ℕ → IndexForm
index_form version w n defs parts attrs a =
    record {
      size = n;
      kind = λ i. (definition_in defs i).kind;
      model = λ i. all_members (model_part defs parts i);
      attributes = a;
      owner = λ j. (attribute_in w attrs j).owner;
      needed = λ j. must_be_present version (sort_of (attribute_in w attrs j).sort);
      allows = λ j v. allows (sort_of (attribute_in w attrs j).sort) (attribute_in w attrs j).value v;
    }

-- the form that is lent
abbrev pub index_form_of : Form → IndexForm
index_form_of f = index_form f.version f.width f.definition_count f.definitions.now f.particles.now f.attributes.now f.attribute_count

-- the form that a byte string says
abbrev pub by_index : Bytes → IndexForm
by_index bs = index_form (number_at version_at 4 bs) (width_of bs) (definition_count bs) (definitions_in bs) (particles_in bs) (attributes_in bs) (attribute_count bs)

-- the attributes alone
abbrev pub attributes_of : ℕ → ℕ → Bytes → ℕ → IndexForm
attributes_of version w attrs a = index_form version w 0 [] [] attrs a
