-- Names as the code finds them: that of a place of a text, and those of definitions that are written already.
use Rattle.std.specs.Prelude.{ℕ, ◌<◌, ◌≤◌, ◌≡◌, List, map, length, Option, MatchOption}
use Rattle.rules.specs.Bytes.{Bytes}
use Rattle.rules.specs.Layout.{name_width, definition_size}
use Rattle.rules.specs.Decode.{read_definition, read_many, flat_name}

-- r is the name, which fits its field
pub record NameOf (name r : Bytes) : Type 0 where
  pub value : r ≡ name
  pub short : length r ≤ name_width

-- the names of the n definitions that stand in a byte string
unfoldable pub written_names : ℕ → Bytes → List Bytes
written_names n defs = map flat_name (read_many read_definition definition_size n defs)

-- r is a place among n names, or none where that is past the last
pub record PlaceIn (n place : ℕ) (r : Option ℕ) : Type 0 where
  pub found : MatchOption r (place ≡ n) (λ i. (i ≡ place) × (i < n))
