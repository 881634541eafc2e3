-- The tests, computed on a small form: they accept it, and refuse it after one change.
use Prim.Native.Nat.{ℕ}
use mathlib.Core.Path.{◌≡◌, refl}
use mathlib.Core.Bool.{true, false}
use mathlib.Core.List.{List, [], ◌∷◌}
use Rattle.rules.specs.Bytes.{Bytes, ascii}
use Rattle.rules.specs.Model.{member, distinct}
use Rattle.rules.specs.Preorder.{Deep}
use Rattle.rules.specs.Layout.{FlatDefinition, FlatParticle, FlatAttribute, FlatStore}
use Rattle.form_check.specs.FormTests.{definitions_apart, models_fit, owners_rise, attributes_apart, bodies_fit}
use Rattle.model_check.specs.ModelTests.{shaped, elements_in, model_fits}

abbrev definition : Bytes → ℕ → ℕ → FlatDefinition
definition name kind size = record { name = name; kind = kind; particles = size }

-- sort, quantifier, index, depth
abbrev particle : ℕ → ℕ → ℕ → ℕ → Deep FlatParticle
particle s q i d = record { depth = d; row = record { sort = s; quantifier = q; index = i } }

abbrev attribute : ℕ → Bytes → FlatAttribute
attribute o name = record { owner = o; name = name; sort = 0; value = [] }

-- (b?, (a | c)+) is the model of a; b and c have none
abbrev form : Bytes → List (Deep FlatParticle) → List FlatAttribute → FlatStore
form third ps cs =
    record {
      version = 1;
      next = 1;
      definitions = definition (ascii "a") 2 4 ∷ definition (ascii "b") 0 0 ∷ definition third 1 0 ∷ [];
      particles = ps;
      attributes = cs;
      rows = [];
    }

abbrev model : ℕ → ℕ → List (Deep FlatParticle)
model count last = particle 0 1 1 0 ∷ particle 2 3 count 0 ∷ particle 0 0 0 1 ∷ particle 0 0 last 1 ∷ []

abbrev pair : ℕ → Bytes → List FlatAttribute
pair o name = attribute 0 (ascii "id") ∷ attribute o name ∷ []

pub accepted : bodies_fit (form (ascii "c") (model 2 2) (pair 0 (ascii "no"))) ≡ true
unfolding bodies_fit definitions_apart models_fit model_fits shaped elements_in owners_rise attributes_apart member distinct
accepted = refl

pub name_twice : bodies_fit (form (ascii "a") (model 2 2) []) ≡ false
unfolding bodies_fit definitions_apart models_fit model_fits shaped elements_in owners_rise attributes_apart member distinct
name_twice = refl

pub count_wrong : bodies_fit (form (ascii "c") (model 1 2) []) ≡ false
unfolding bodies_fit definitions_apart models_fit model_fits shaped elements_in owners_rise attributes_apart member distinct
count_wrong = refl

pub element_twice : bodies_fit (form (ascii "c") (model 2 1) []) ≡ false
unfolding bodies_fit definitions_apart models_fit model_fits shaped elements_in owners_rise attributes_apart member distinct
element_twice = refl

pub attribute_twice : bodies_fit (form (ascii "c") (model 2 2) (pair 0 (ascii "id"))) ≡ false
unfolding bodies_fit definitions_apart models_fit model_fits shaped elements_in owners_rise attributes_apart member distinct
attribute_twice = refl

pub attribute_of_two_owners : bodies_fit (form (ascii "c") (model 2 2) (pair 1 (ascii "id"))) ≡ true
unfolding bodies_fit definitions_apart models_fit model_fits shaped elements_in owners_rise attributes_apart member distinct
attribute_of_two_owners = refl
