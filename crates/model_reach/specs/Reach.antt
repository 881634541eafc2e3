-- Which definitions stand in a model, and which reach its owner.
use Rattle.std.specs.Prelude.{ℕ, Bool, ◌||◌}
use Rattle.rules.specs.Bytes.{same, bytes}
use Rattle.rules.specs.Model.{names, member}
use Rattle.rules.specs.Store.{Form, members}
use Rattle.rules.specs.WellFormed.{reaches_in}
use Rattle.rules.specs.Change.{definition_at, name_at_index}

-- definition i stands in the model of definition o
abbrev pub stands_in_model : Form → ℕ → ℕ → Bool
stands_in_model form o i = member bytes (name_at_index i form) (names (members (definition_at o form)))

-- definition i is definition o or reaches it
abbrev pub comes_round : Form → ℕ → ℕ → Bool
comes_round form o i = same (name_at_index i form) (definition_at o form).name || reaches_in form (name_at_index i form) (definition_at o form).name
