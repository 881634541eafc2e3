-- `open_levels::end` meets its contract: it is that of `levels_end` from 0 on.
use Rattle.open_levels.specs.Open.{end}
use Rattle.open_levels.proofs.end.Goals as goal

pub returns : goal.returns
unfolding end
returns c = c.levels_end.ensures
