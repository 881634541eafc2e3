-- `model_places::count_members` meets its contract: `take_while` keeps the particles that are in the list or deeper, up to
-- the first that is not, `filter` those of the list itself, and `count` counts them (the library's laws), as many as the
-- list has members (`count_is` of CountLaws).
use mathlib.Core.Path.{ap, ◌∙◌}
use borrow.Author.Rules.{rules}
use borrow.Author.Tests.{tests}
use Rattle.std.specs.Slice.Iter.{chunks_exact_rest, chunks_exact_size}
use Rattle.std.specs.Iterator.Adapters.{take_while_source, take_while_callee, take_while_done}
use Rattle.std.proofs.lemmas.Iterator.Consumers.{YieldsList-from_filter, count_from_yields_List}
use Rattle.std.proofs.lemmas.Iterator.Search.{YieldsList-from_take_while}
use Rattle.model_check.proofs.Chunks.{yields_particles}
use Rattle.model_places.proofs.CountLaws.{inside, beside, count_is}
use Rattle.model_places.proofs.count_members.Goals as goal

pub returns : goal.returns
returns c =
    let d = c.args.d in
    let new = c.chunks_exact.ensures in
    let taken = c.take_while.ensures in
    let kept = c.filter.ensures in
    let whole = ap take_while_source kept.source ∙ taken.source in
    count_from_yields_List _ _ c.count.ensures.ran
    (YieldsList-from_filter _ (beside d)
    (YieldsList-from_take_while _ (inside d) (yields_particles (ap chunks_exact_rest whole ∙ new.rest) (ap chunks_exact_size whole ∙ new.size))
    (ap take_while_callee kept.source ∙ taken.closure) (ap take_while_done kept.source ∙ taken.done) (λ x b q k. search (rules, tests)))
    kept.closure (λ x b q k. search (rules, tests)))
    ∙ count_is d c.args.s.now
