use Rattle.std.proofs.Common.{◌≡◌, ℕ, Bool}
use Rattle.byte_check.proofs.TestLaws.{Eights}
use Rattle.byte_check.proofs.all_pass.Given as goal

-- those before the bytes that are left pass
abbrev pub invariant-loop-part : goal.invariant-loop-part
invariant-loop-part g l =
    (l.part-iterator.size ≡ 8) × ((p : ℕ → Bool) → ((x : ℕ) (r : Bool) → g.F.Fn.post l.passes (x, tt) r → r ≡ p x) → Eights p l.s l.part-iterator.rest.now)
