-- The sixteen pairs of old and new quantifier.
use Rattle.std.specs.Prelude.{Bool, true, false, ◌&&◌, not}
use Rattle.rules.specs.declared.Quantifier.{Quantifier}
use Rattle.rules.specs.declared.Quantifier.TheVariants.{None, Qmark, Star, Plus}
use Rattle.rules.specs.Model.{skips}

-- ---- the sixteen pairs
abbrev pub many : Quantifier → Bool
many None = false
many Qmark = false
many Star = true
many Plus = true

-- new is NONE or PLUS, old neither
abbrev pub gains : Quantifier → Quantifier → Bool
gains q r = not (skips r) && skips q

-- old is STAR or PLUS, new neither
abbrev pub cuts : Quantifier → Quantifier → Bool
cuts q r = many q && not (many r)

-- every number allowed before is allowed after
abbrev pub relaxes : Quantifier → Quantifier → Bool
relaxes None r = true
relaxes Qmark None = false
relaxes Qmark Qmark = true
relaxes Qmark Star = true
relaxes Qmark Plus = false
relaxes Star None = false
relaxes Star Qmark = false
relaxes Star Star = true
relaxes Star Plus = false
relaxes Plus None = false
relaxes Plus Qmark = false
relaxes Plus Star = true
relaxes Plus Plus = true
