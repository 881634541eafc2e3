-- `codec::store` meets its contract: inside `out` the write is `set`, which the search finds. Past the end `set`
-- changes nothing (`set_out` of Seq).
use mathlib.Core.Path.{sym}
use lib.Seq.{set_out}
use Rattle.codec.proofs.store.Goals as goal

pub returns-else-at-out : goal.returns-else-at-out
returns-else-at-out c = sym (set_out _ _ _ c.if-at-out.false)
