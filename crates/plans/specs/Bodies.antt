-- The bodies of a form among those of a store.
use Rattle.std.specs.Prelude.{◌≡◌, map}
use Rattle.rules.specs.Store.{Form}
use Rattle.rules.specs.Layout.{FlatStore, flat_definition, all_particles, all_attributes}

-- g has the definitions, particles and attributes of a form
pub record HoldsForm (g : FlatStore) (form : Form) : Type 0 where
  pub definitions : g.definitions ≡ map (flat_definition form) form
  pub particles : g.particles ≡ all_particles form form
  pub attributes : g.attributes ≡ all_attributes 0 form
