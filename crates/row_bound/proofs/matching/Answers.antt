-- `row_bound::matching` meets its contract: `filter` keeps the numbers of the rows that are some of them and `count`
-- counts them (`YieldsList-from_filter`, `count_from_yields_List` of the library), and they are as many as those rows
-- (`counted_all` of CountLaws).
use native.Mathlib.Omega.{arith}
use borrow.Author.Rules.{rules}
use borrow.Author.Tests.{tests}
use Rattle.std.proofs.lemmas.Iterator.{YieldsList-from_range}
use Rattle.std.proofs.lemmas.Iterator.Consumers.{YieldsList-from_filter, count_from_yields_List}
use Rattle.row_bound.proofs.CountLaws.{row_matches, counted_all}
use Rattle.row_bound.proofs.matching.Goals as goal

pub returns : goal.returns
returns c =
    let a = c.args in
    counted_all a.w a.which a.rows.now a.count c.count.result c.requires.1
    (count_from_yields_List _ _ c.count.ensures.ran
    (YieldsList-from_filter _ (row_matches a.w a.which a.rows.now) (YieldsList-from_range 0 a.count a.count c.filter.ensures.source (omega arith)) c.filter.ensures.closure
    (λ x b q k. search (rules, tests))))
