-- What a writer leaves: it was handed a buffer and a place, and hands back the next place.
use Rattle.std.specs.Prelude.{ℕ, ◌+◌, ◌≡◌, length}
use Rattle.std.proofs.lemmas.List.Edits.{sets}
use Rattle.rules.specs.Bytes.{Bytes}

-- w was written over out from `at` on, as far as out goes, and r is the next place
pub record Laid (w out : Bytes) (at r : ℕ) (out' : Bytes) : Type 0 where
  pub next : r ≡ at + length w
  pub stored : out' ≡ sets out at w
