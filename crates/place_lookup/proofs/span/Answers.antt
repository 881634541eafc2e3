-- `place_lookup::span` meets its contract: `take_while` keeps the particles that are deeper, up to the first that is not,
-- and `count` counts them (the library's laws), as the span does (`span_is` of SpanLaws).
use mathlib.Core.Path.{ap, ◌∙◌}
use borrow.Author.Rules.{rules}
use borrow.Author.Tests.{tests}
use Rattle.std.specs.Slice.Iter.{chunks_exact_rest, chunks_exact_size}
use Rattle.std.proofs.lemmas.Iterator.Consumers.{count_from_yields_List}
use Rattle.std.proofs.lemmas.Iterator.Search.{YieldsList-from_take_while}
use Rattle.std.proofs.lemmas.List.Folds.{length-prefix_len}
use Rattle.model_check.proofs.Chunks.{yields_particles}
use Rattle.place_lookup.proofs.SpanLaws.{deeper, span_is}
use Rattle.place_lookup.proofs.span.Goals as goal

pub returns : goal.returns
returns c =
    let d = c.args.d in
    let new = c.chunks_exact.ensures in
    let taken = c.take_while.ensures in
    count_from_yields_List _ _ c.count.ensures.ran
    (YieldsList-from_take_while _ (deeper d) (yields_particles (ap chunks_exact_rest taken.source ∙ new.rest) (ap chunks_exact_size taken.source ∙ new.size)) taken.closure taken.done
    (λ x b q k. search (rules, tests)))
    ∙ length-prefix_len (deeper d) _ ∙ span_is d c.args.s.now
