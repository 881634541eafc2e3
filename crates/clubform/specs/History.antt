-- The thirteen calls of the program, and the bytes that the first of them leave.
use Rattle.std.specs.Prelude.{ℕ, ◌≤◌, ◌≡◌, List, length, take}
use Rattle.rules.specs.Bytes.{Bytes}
use Rattle.rules.specs.Run.{Asked, start, run}
use Rattle.rules.proofs.Clubform.{clubform, printed_text}

-- the calls, of which the rules compute store, text and book; every output buffer has 508 bytes
unfoldable pub history : List Asked
history = clubform

-- the store after n calls
unfoldable pub stage : ℕ → Bytes
stage n = (run (take n history) start).store

-- the text of the last store
unfoldable pub last_text : Bytes
last_text = printed_text

-- a call reads the store `w`, and has room for 508 bytes
pub record Reads (w store out : Bytes) : Type 0 where
  pub store_is : store ≡ w
  pub room : length out ≡ 508

-- a buffer of 508 bytes begins with the `len` bytes `w`
pub record BufferHolds (w : Bytes) (len : ℕ) (buffer : Bytes) : Type 0 where
  pub room : length buffer ≡ 508
  pub fits : len ≤ 508
  pub length_is : len ≡ length w
  pub begins : take len buffer ≡ w
