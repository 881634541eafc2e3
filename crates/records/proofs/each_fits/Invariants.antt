use Rattle.std.proofs.Common.{◌≡◌, Bool, ◌-◌}
use Rattle.std.specs.Fn.{FnReturnsAt}
use Rattle.rules.specs.Bytes.{Bytes}
use Rattle.records.specs.Records.{each_fits}
use Rattle.records.proofs.each_fits.Given as goal

-- The loop's invariant: all records pass a test that the calls of `fits` answer if and only if those left in `rest` do.
abbrev pub invariant-loop : goal.invariant-loop
invariant-loop g l =
    (p : Bytes → Bool) → ((rec : Bytes) (r : Bool) → FnReturnsAt g.F.Fn l.fits rec r → r ≡ p rec)
    → each_fits p l.size l.count l.body ≡ each_fits p l.size (l.count - l.counter) l.rest
