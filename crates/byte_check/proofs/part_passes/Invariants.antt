use Rattle.std.proofs.Common.{◌≡◌, ℕ, Bool, ◌&&◌, drop}
use Rattle.rules.specs.Bytes.{all}
use Rattle.byte_check.proofs.part_passes.Given as goal

-- The loop's invariant: all bytes pass if and only if those before the index, by `all`, and those from it on do.
abbrev pub invariant-loop-x : goal.invariant-loop-x
invariant-loop-x g l =
    (p : ℕ → Bool) → ((x : ℕ) (r : Bool) → g.F.Fn.post l.passes (x, tt) r → r ≡ p x) → all p l.part ≡ (l.all && all p (drop l.x-index l.part))
