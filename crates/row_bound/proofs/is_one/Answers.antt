-- `row_bound::is_one` meets its contract: no test of `matches` looks at the value, which the head leaves out
-- (`one_matches` of CountLaws).
use Rattle.row_bound.proofs.CountLaws.{one_matches}
use Rattle.row_bound.proofs.is_one.Goals as goal

pub returns : goal.returns
returns c = one_matches c.args.which _ c.args.row.now c.read_head.ensures c.matches.ensures
