-- A part of a byte string.
use Rattle.std.specs.Prelude.{ℕ, ◌+◌, true, false, [], leb, length, take, drop}
use Rattle.rules.specs.Bytes.{Bytes}

-- the n bytes from a place on; none if the string is too short for them
unfoldable pub part_of : ℕ → ℕ → Bytes → Bytes
part_of at n s = elim (leb (at + n) (length s)) [ true ↦ take n (drop at s) | false ↦ [] ]
