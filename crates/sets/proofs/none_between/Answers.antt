-- `sets::none_between` meets its contract: for `from` from 64 on no number is in the range (`none_past` of Laws); else
-- what `below` leaves, shifted by `from`, is 0 if and only if s has none of the range (`none_between`).
use Rattle.sets.proofs.Laws.{none_between, none_past}
use Rattle.sets.proofs.none_between.Goals as goal

pub returns-then-from-ge64 : goal.returns-then-from-ge64
returns-then-from-ge64 c = none_past c.args.s c.args.from c.args.to c.requires c.if-from-ge64.true

pub returns : goal.returns
returns c = none_between c.args.s c.args.from c.args.to _ c.ranges.s.fits c.below-low.ensures c.requires
