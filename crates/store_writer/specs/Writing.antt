-- What is answered where a store is to be left: it is written, or it is too much.
use Rattle.std.specs.Prelude.{ℕ, not, [], ◌∷◌, ltb, length}
use Rattle.rules.specs.Bytes.{Bytes}
use Rattle.rules.specs.Layout.{value_width, FlatStore, flat_bytes}
use Rattle.rules.specs.WellFormed.{within_ceilings, highest_number}
use Rattle.rules.specs.Refusal.{◌if◌, first}
use Rattle.rules.specs.Outcome.{Outcome, unless_refused}

-- rows 16 to 18, of a store by its bodies: as `limits` of the rules
unfoldable pub limited : ℕ → FlatStore → Outcome
limited room f =
    let written : Bytes = flat_bytes (value_width f.version) f in
    unless_refused (first (16 if not (within_ceilings f) ∷ 17 if ltb highest_number f.next ∷ 18 if ltb room (length written) ∷ [])) written
