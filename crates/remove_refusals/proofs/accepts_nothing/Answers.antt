-- `remove_refusals::accepts_nothing` meets its contract: of the facts that `facts_from` gives, `nothing` is whether the
-- CHOICE accepts nothing (`nothing_read` of RemoveLaws).
use Rattle.remove_refusals.proofs.RemoveLaws.{nothing_read}
use Rattle.remove_refusals.proofs.accepts_nothing.Goals as goal

pub returns : goal.returns
returns c =
    let a = c.args in
    nothing_read a.d a.s.now c.facts_from-f.ensures
