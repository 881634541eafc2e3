-- `definition_removal::attributes_below` meets its contract: `filter` keeps the numbers of the attributes asked for and
-- `count` counts them (`YieldsList-from_filter`, `count_from_yields_List` of the library), and they are as many as the
-- attributes (`count_below` of Moving).
use native.Mathlib.Omega.{arith}
use borrow.Author.Rules.{rules}
use borrow.Author.Tests.{tests}
use Rattle.std.proofs.lemmas.Iterator.{YieldsList-from_range}
use Rattle.std.proofs.lemmas.Iterator.Consumers.{YieldsList-from_filter, count_from_yields_List}
use Rattle.definition_removal.proofs.Moving.{below_at, count_below}
use Rattle.definition_removal.proofs.attributes_below.Goals as goal

pub returns : goal.returns
returns c =
    let a = c.args in
    count_below a.w a.i a.body.now a.count c.count.result
    (count_from_yields_List _ _ c.count.ensures.ran
    (YieldsList-from_filter _ (below_at a.w a.i a.body.now) (YieldsList-from_range 0 a.count a.count c.filter.ensures.source (omega arith)) c.filter.ensures.closure
    (λ x b q k. search (rules, tests))))
