-- `sets::bit` meets its contract: below 64 the shift gives `bit` (`bit_below` of Laws), and from 64 on `bit` is 0
-- (`bit_past`).
use Rattle.sets.proofs.Laws.{bit_below, bit_past}
use Rattle.sets.proofs.bit.Goals as goal

pub returns-then-i-lt64 : goal.returns-then-i-lt64
returns-then-i-lt64 c = bit_below c.args.i c.if-i-lt64.true

pub returns-else-i-lt64 : goal.returns-else-i-lt64
returns-else-i-lt64 c = bit_past c.args.i c.if-i-lt64.false
