-- Bytes of names; a reserved name, by its first three bytes.
use Prim.Native.Nat.{ℕ, ◌<◌, ◌≤◌}
use native.Mathlib.Omega.{arith}
use mathlib.Core.Path.{◌≡◌, refl}
use mathlib.Core.Bool.{Bool, true, false, ◌&&◌, ◌||◌}
use mathlib.Core.List.{[], ◌∷◌}
use lib.Dec.{eqb, leb}
use lib.ListN.{length, get_or}
use Rattle.rules.specs.Bytes.{Bytes, between}
use Rattle.rules.specs.WellFormed.{in_name, reserved_name}

-- a small letter may stand in a name
pub small_in_name : (x : ℕ) → (leb 97 x && leb x 122) ≡ true → true ≡ in_name x
small_in_name x h = rw h (by (between 65 90 x))
  where
    by : (capital : Bool) → true ≡ ((capital || true || eqb x 95) || between 48 57 x || eqb x 45 || eqb x 46)
    by true = refl
    by false = refl

-- fewer than three bytes are not reserved
pub reserved_few : (s : Bytes) → length s < 3 → reserved_name s ≡ false
reserved_few [] h = refl
reserved_few (a ∷ []) h = refl
reserved_few (a ∷ b ∷ []) h = refl
reserved_few (a ∷ b ∷ c ∷ s) h = absurd (omega arith)

-- of three or more the first three decide
pub reserved_by : (s : Bytes) → 3 ≤ length s
    → ((eqb (get_or s 0 0) 120 || eqb (get_or s 0 0) 88)
    && ((eqb (get_or s 1 0) 109 || eqb (get_or s 1 0) 77) && (eqb (get_or s 2 0) 108 || eqb (get_or s 2 0) 76)))
    ≡ reserved_name s
reserved_by [] h = absurd (omega arith)
reserved_by (a ∷ []) h = absurd (omega arith)
reserved_by (a ∷ b ∷ []) h = absurd (omega arith)
reserved_by (a ∷ b ∷ c ∷ s) h = refl
