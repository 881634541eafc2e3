-- `codec::first` meets its contract: below the length the first n bytes are n (`length-take-le` of lib.Seq), else
-- they are all (`take_all`).
use mathlib.Core.Path.{sym}
use native.Mathlib.Omega.{arith}
use lib.Seq.{take_all, length-take-le}
use Rattle.codec.proofs.first.Goals as goal

pub slice_bounds-result-end : goal.slice_bounds-result-end
slice_bounds-result-end c =
    sym (length-take-le c.args.n c.args.s.now (omega arith))

pub returns : goal.returns
returns c = sym (take_all c.args.n c.args.s.now c.if-n-s.false)
