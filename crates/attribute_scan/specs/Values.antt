-- The value of an attribute in the text of its line.
use Rattle.std.specs.Prelude.{drop}
use Rattle.rules.specs.Bytes.{Bytes}
use Rattle.text_scan.specs.Scan.{front_while, no_quote, value_of_raw}

-- `#FIXED "` has eight bytes, and the value ends at the next `"`
unfoldable pub quoted_value : Bytes → Bytes
quoted_value txt = value_of_raw (front_while no_quote (drop 8 txt))
