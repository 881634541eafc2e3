-- The levels of a state: what is read.
use Prim.Native.Nat.{ℕ}
use mathlib.Core.Path.{◌≡◌}
use lib.ListN.{get_or}
use borrow.Author.Tests.{eq-eqb, ne_eqb}
use Rattle.rules.specs.Bytes.{Bytes}
use Rattle.row_state.specs.State.{open_elements, seen_at}

-- ---- the attributes that may still come
pub seen_inner : (s : Bytes) (k : ℕ) → k ≡ open_elements s → get_or s 1 0 ≡ seen_at s k
seen_inner s k e = rw (eq-eqb k (open_elements s) e, seen_at)

pub seen_outer : (s : Bytes) (k : ℕ) → (k ≡ open_elements s → ⊥) → 0 ≡ seen_at s k
seen_outer s k n = rw (ne_eqb k (open_elements s) n, seen_at)
