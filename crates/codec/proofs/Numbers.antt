-- Numbers of a byte string, byte by byte.
use mathlib.Core.Path.{◌≡◌, refl}
use mathlib.Core.List.{[], ◌∷◌, ◌++◌}
use Prim.Native.Nat.{ℕ, zero, suc, ◌+◌, ◌*◌, ◌/◌, ◌≤◌}
use native.Mathlib.Omega.{arith}
use native.Mathlib.Numerals.{add-one}
use lib.ListN.{length, get_or, replicate, drop_of_length-le}
use lib.Seq.{take-nil}
use Rattle.rules.specs.Bytes.{Bytes}
use Rattle.rules.specs.Layout.{le}
use Rattle.rules.specs.Decode.{number_at}

-- the first byte, and the number of the others
pub number_more : (k : ℕ) (s : Bytes) (at : ℕ) → number_at at (suc k) s ≡ get_or s at 0 + 256 * number_at (suc at) k s
number_more k [] zero = rw take-nil
number_more k [] (suc at) = rw take-nil
number_more k (x ∷ s) zero = refl
number_more k (x ∷ s) (suc at) = number_more k s at

-- two bytes, and four
pub number_two : (s : Bytes) (at : ℕ) → number_at at 2 s ≡ get_or s at 0 + 256 * get_or s (at + 1) 0
number_two s at = rw add-one (omega (arith, number_more 1 s at, number_more 0 s (suc at)))

pub number_four : (s : Bytes) (at : ℕ) → number_at at 4 s ≡ get_or s at 0 + 256 * get_or s (at + 1) 0 + 65536 * get_or s (at + 2) 0 + 16777216 * get_or s (at + 3) 0
number_four s at =
    let e : at + 1 ≡ suc at = omega arith in
    let f : at + 2 ≡ suc (suc at) = omega arith in
    let g : at + 3 ≡ suc (suc (suc at)) = omega arith in
    rw (e, f, g) (omega (arith, number_more 3 s at, number_more 2 s (suc at), number_more 1 s (suc (suc at)), number_more 0 s (suc (suc (suc at)))))

-- past the end
pub number_past : (k : ℕ) (s : Bytes) (at : ℕ) → length s ≤ at → number_at at k s ≡ 0
number_past k s at h = rw (drop_of_length-le s {i = at} h, take-nil)

-- a string of zeros
pub zeros_read : (n i : ℕ) → ◌≡◌ {A = ℕ} (get_or (replicate n 0) i 0) 0
zeros_read zero i = refl
zeros_read (suc n) zero = refl
zeros_read (suc n) (suc i) = zeros_read n i

-- four bytes are two and two
pub le_four : (x : ℕ) → le 4 x ≡ le 2 x ++ le 2 (x / 65536)
le_four x = let e : x / 256 / 256 ≡ x / 65536 = omega arith in rw e
