-- `codec::byte` meets its contract: inside s the byte read is `get_or` of s, which the search finds. Past the end
-- `get_or` is its default, 0 (`ListN.get_or-eq_default` of ListN).
use mathlib.Core.Path.{sym}
use lib.ListN.{get_or-eq_default}
use Rattle.codec.proofs.byte.Goals as goal

pub returns-else-i-s : goal.returns-else-i-s
returns-else-i-s c = sym (get_or-eq_default c.args.s.now 0 c.if-i-s.false)
