-- The attributes of a definition, by name.
use Rattle.std.specs.Prelude.{ℕ, Bool, ◌&&◌, eqb}
use Rattle.rules.specs.Bytes.{Bytes, same}
use Rattle.rules.specs.Layout.{FlatAttribute}

-- one named n of definition o
abbrev pub own_named : ℕ → Bytes → FlatAttribute → Bool
own_named o n a = eqb a.owner o && same n a.name
