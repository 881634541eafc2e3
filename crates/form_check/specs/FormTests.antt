-- The tests of the definition, particle and attribute bodies that look at more than one record.
use Rattle.std.specs.Prelude.{ℕ, Bool, true, ◌&&◌, not, List, [], ◌∷◌, map, eqb, leb, length, take, drop}
use Rattle.rules.specs.Bytes.{same, bytes, any, is_none}
use Rattle.rules.specs.Model.{distinct}
use Rattle.rules.specs.Preorder.{Deep}
use Rattle.rules.specs.Layout.{FlatDefinition, FlatParticle, FlatAttribute, FlatStore}
use Rattle.rules.specs.Decode.{flat_name}
use Rattle.model_check.specs.ModelTests.{model_fits}

-- ---- definitions: no name twice
unfoldable pub definitions_apart : List FlatDefinition → Bool
definitions_apart ds = distinct bytes (map flat_name ds)

-- ---- particles: the part of each definition is the preorder of a model
-- the particle body is the models' parts one after the other
unfoldable pub models_fit : ℕ → List FlatDefinition → List (Deep FlatParticle) → Bool
models_fit n [] ps = is_none ps
models_fit n (d ∷ ds) ps = leb d.particles (length ps) && (model_fits n (take d.particles ps) && models_fit n ds (drop d.particles ps))

-- ---- attributes: by owner, and no name twice with one owner
unfoldable pub owners_rise : ℕ → List FlatAttribute → Bool
owners_rise o [] = true
owners_rise o (a ∷ cs) = leb o a.owner && owners_rise a.owner cs

abbrev pub clashes : FlatAttribute → FlatAttribute → Bool
clashes a c = eqb a.owner c.owner && same a.name c.name

unfoldable pub attributes_apart : List FlatAttribute → Bool
attributes_apart [] = true
attributes_apart (a ∷ cs) = not (any (clashes a) cs) && attributes_apart cs

-- ---- the three bodies together
unfoldable pub bodies_fit : FlatStore → Bool
bodies_fit f = definitions_apart f.definitions && (models_fit (length f.definitions) f.definitions f.particles && (owners_rise 0 f.attributes && attributes_apart f.attributes))
