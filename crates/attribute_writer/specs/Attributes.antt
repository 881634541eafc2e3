-- A new attribute, and what changes 9 and 10 ask.
use Rattle.std.specs.Prelude.{ℕ, ◌≤◌, ◌<◌, ◌≡◌, true, length}
use Rattle.rules.specs.Bytes.{Bytes}
use Rattle.rules.specs.Layout.{name_width, FlatAttribute}
use Rattle.rules.specs.WellFormed.{is_name, is_value}
use Rattle.rules.specs.Passing.{passes}
use Rattle.layout.specs.Bodies.{width_of}
use Rattle.layout.specs.RecordBytes.{attribute_of}
use Rattle.lookup.specs.Bodies.{bodies_of}

abbrev pub new_entry : ℕ → Bytes → ℕ → Bytes → FlatAttribute
new_entry o n k v = attribute_of o n k v

-- the arguments of change 9 where no condition holds
pub record Addable (bs : Bytes) (o : ℕ) (n : Bytes) (k : ℕ) (v : Bytes) : Type 0 where
  pub passes : passes bs ≡ true
  pub owner : o < 64
  pub name : is_name n ≡ true
  pub short : length n ≤ name_width
  pub sort : k ≤ 2
  pub value : is_value (width_of bs) v ≡ true
  pub few : length v ≤ width_of bs

-- the argument of change 10 where no condition holds
pub record Droppable (bs : Bytes) (a : ℕ) : Type 0 where
  pub passes : passes bs ≡ true
  pub inside : a < length (bodies_of bs).attributes
  pub small : a < 64
