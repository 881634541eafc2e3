-- How large the numbers of the header are that is written.
use Rattle.std.specs.Prelude.{ℕ, ◌<◌, ◌≤◌, length}
use Rattle.rules.specs.Bytes.{Bytes}
use Rattle.layout.specs.Bodies.{most_form}

-- a next serial and counts that their fields hold, of a form whose bytes
-- are no more than the ceilings allow at the widest:
-- 64 definitions, 256 particles and 64 attributes of a value of 96 bytes
pub record Heads (form : Bytes) (next d p a r : ℕ) : Type 0 where
  pub serial : next < 4294967296
  pub definitions : d ≤ 64
  pub particles : p ≤ 256
  pub attributes : a ≤ 64
  pub rows : r ≤ 4096
  pub short : length form ≤ most_form
