-- `codec::after` meets its contract: below the length the part from n on is `drop n` (`tail_seen` of
-- Writers), from there on `drop n` is empty (`drop_of_length-le` of lib.ListN).
use mathlib.Core.Path.{sym}
use lib.ListN.{drop_of_length-le}
use Rattle.codec.proofs.Writers.{tail_seen}
use Rattle.codec.proofs.after.Goals as goal

pub returns-then-n-s : goal.returns-then-n-s
returns-then-n-s c =
    tail_seen c.args.s.now c.args.n

pub returns : goal.returns
returns c =
    sym (drop_of_length-le c.args.s.now c.if-n-s.false)
