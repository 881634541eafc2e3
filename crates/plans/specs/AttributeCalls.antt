-- The plans by indices of changes 9 and 10, and the bodies of the form after them.
use Rattle.std.specs.Prelude.{ℕ, suc, None, true, false, List, [], ◌∷◌, ◌++◌, leb, take, drop}
use Rattle.rules.specs.Layout.{FlatAttribute, FlatStore}
use Rattle.rules.specs.Decode.{sort_of}
use Rattle.rules.specs.Conforming.{must_be_present}
use Rattle.filling.specs.declared.Filling.TheVariants.{Attribute}
use Rattle.filling.specs.declared.Filling.TheVariants as filling
use Rattle.row_walk.specs.declared.Which.TheVariants.{Nothing, Elements, Attributes}
use Rattle.row_walk.specs.declared.Later.TheVariants.{Never, Past}
use Rattle.row_walk.specs.declared.Plan.{Plan}
use Rattle.store_check.specs.Reading.{entry_of}
use Rattle.plans.specs.CallPlans.{unmoved, unmarked}

-- how many attributes the definitions up to o have, and o: where a new attribute of o comes
abbrev pub attributes_to : ℕ → List FlatAttribute → ℕ
attributes_to o [] = 0
attributes_to o (c ∷ cs) = elim (leb c.owner o) [ true ↦ suc (attributes_to o cs) | false ↦ attributes_to o cs ]

-- the owner of attribute a
abbrev pub owner_at : ℕ → List FlatAttribute → ℕ
owner_at a cs = (entry_of a cs).owner

-- ---- the plans
-- 9: an attribute of definition o at a (`attributes_to`), of sort k;
-- below each instance a row of it if it must be present
abbrev pub add_attribute_plan : ℕ → ℕ → ℕ → ℕ → Plan
add_attribute_plan version o a k =
    record {
      above = Elements o;
      takes = Nothing;
      fills = must_be_present version (sort_of k);
      later = Past a;
      filling = Attribute a;
      marks = unmarked;
      keeps = false;
      spares = false;
      set = None;
      definitions = unmoved;
      attributes = record { from = a; more = 1; less = 0 };
    }

-- 10: attribute a of definition o (`owner_at`)
abbrev pub destroy_attribute_plan : ℕ → ℕ → Plan
destroy_attribute_plan o a =
    record {
      above = Elements o;
      takes = Attributes a;
      fills = false;
      later = Never;
      filling = filling.Nothing;
      marks = unmarked;
      keeps = false;
      spares = false;
      set = None;
      definitions = unmoved;
      attributes = record { from = a; more = 0; less = 1 };
    }

-- ---- the bodies of the form
abbrev pub attributes_replaced : List FlatAttribute → FlatStore → FlatStore
attributes_replaced cs f = record { version = f.version; next = f.next; definitions = f.definitions; particles = f.particles; attributes = cs; rows = f.rows }

abbrev pub attribute_added : ℕ → FlatAttribute → FlatStore → FlatStore
attribute_added a c f = attributes_replaced (take a f.attributes ++ c ∷ drop a f.attributes) f

abbrev pub attribute_dropped : ℕ → FlatStore → FlatStore
attribute_dropped a f = attributes_replaced (take a f.attributes ++ drop (suc a) f.attributes) f
