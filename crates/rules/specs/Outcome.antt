-- What a public call answers: refused with a number, or the bytes written.
use Rattle.std.specs.Prelude.{ℕ, zero, suc, ◌≡◌, ◌++◌, length, drop}
use Rattle.std.proofs.Math.Option.{Option, none, some}
use Rattle.rules.specs.Bytes.{Bytes}
use Rattle.rules.specs.Store.{Store}
use Rattle.rules.specs.Layout.{encode}
use Rattle.rules.specs.Passing.{read_store}
use Rattle.rules.specs.Change.{Call, after}
use Rattle.rules.specs.Refusal.{refusal}

pub data Outcome : Type 0 where
  refused : ℕ → Outcome
  wrote : Bytes → Outcome

-- 0 is no refusal
abbrev pub unless_refused : ℕ → Bytes → Outcome
unless_refused zero w = wrote w
unless_refused (suc n) w = refused (suc n)

abbrev pub on_store : (Store → Outcome) → Option Store → Outcome
on_store f none = refused 1
on_store f (some s) = f s

-- a change of the store `bs`, with so much room in the output buffer
unfoldable pub outcome : Call → Bytes → ℕ → Outcome
outcome c bs room = on_store (λ s. unless_refused (refusal room c s) (encode (after c s))) (read_store bs)

-- ---- number, length and output buffer of an outcome
abbrev pub number_of : Outcome → ℕ
number_of (refused n) = n
number_of (wrote w) = 0

abbrev pub length_of : Outcome → ℕ
length_of (refused n) = 0
length_of (wrote w) = length w

-- 'Bytes past the new length keep their content'; a refusal changes nothing
abbrev pub buffer_of : Outcome → Bytes → Bytes
buffer_of (refused n) out = out
buffer_of (wrote w) out = w ++ drop (length w) out

-- what a call hands back and leaves in the buffer that held `out`
pub record Answers (o : Outcome) (out : Bytes) (number len : ℕ) (left : Bytes) : Type 0 where
  pub number_is : number ≡ number_of o
  pub length_is : len ≡ length_of o
  pub buffer_is : left ≡ buffer_of o out

-- The promise of each of the sixteen changes, of the store `bs` that the call reads and the buffer `out` that it is
-- given. The public calls of crates/formstore state it, and the history of
-- a box is made of calls that keep it (crates/history).
abbrev pub Promise : Call → Bytes → Bytes → ℕ → ℕ → Bytes → Type 0
Promise c bs out number len left = Answers (outcome c bs (length out)) out number len left
