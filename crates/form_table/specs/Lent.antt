-- A model that is lent with its line.
use Rattle.std.specs.Prelude.{ℕ}
use Rattle.rules.specs.Model.{Members}
use Rattle.model.specs.Members.{all_members}
use Rattle.form_index.specs.Reading.{model_part}
use Rattle.form_table.specs.declared.Model.{Model}

-- its members
abbrev pub members_of : Model → Members ℕ
members_of m = all_members (model_part m.definitions.now m.particles.now m.definition)
