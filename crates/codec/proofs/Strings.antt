-- Parts of byte strings.
use mathlib.Core.Path.{◌≡◌, ap, ◌∙◌}
use mathlib.Core.List.{[]}
use Prim.Native.Nat.{ℕ, ◌+◌, ◌<◌, ◌≤◌}
use native.Mathlib.Omega.{arith}
use borrow.Author.Tests.{le-leb, lt-leb}
use lib.ListN.{length, take, drop, length-drop}
use lib.Seq.{length-take-le}
use Rattle.rules.specs.Bytes.{Bytes}
use Rattle.codec.specs.Part.{part_of}

-- ---- parts
pub part_there : (at n : ℕ) (s : Bytes) → at + n ≤ length s → part_of at n s ≡ take n (drop at s)
unfolding part_of
part_there at n s h = rw (le-leb (at + n) (length s) h, part_of)

pub part_short : (at n : ℕ) (s : Bytes) → length s < at + n → part_of at n s ≡ []
unfolding part_of
part_short at n s h = rw (lt-leb (at + n) (length s) h, part_of)

pub part_length : (at n : ℕ) (s t : Bytes) → at + n ≤ length s → t ≡ part_of at n s → length t ≡ n
part_length at n s t h e = ap length (e ∙ part_there at n s h) ∙ length-take-le n (drop at s) (omega (arith, length-drop at s))
