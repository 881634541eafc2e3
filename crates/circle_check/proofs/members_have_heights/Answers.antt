-- `circle_check::members_have_heights` meets its contract: `all` gives whether every particle passes
-- (`all_from_yields_List` of the library), and so whether every element has a height (`particles_pass` of MemberLaws).
use mathlib.Core.Path.{◌∙◌}
use borrow.Author.Rules.{rules}
use borrow.Author.Tests.{tests}
use Rattle.std.proofs.lemmas.Iterator.Search.{all_from_yields_List}
use Rattle.circle_check.specs.Deep.{has_height, first_passes}
use Rattle.model_check.proofs.Chunks.{yields_particles}
use Rattle.circle_check.proofs.MemberLaws.{particles_pass}
use Rattle.circle_check.proofs.members_have_heights.Goals as goal

pub returns : goal.returns
returns c =
    let has = has_height c.args.old.now in
    let new = c.chunks_exact.ensures in
    all_from_yields_List (first_passes has) c.all.new.self _ _ c.all.ensures.ran (yields_particles new.rest new.size) (λ x b q k. search (rules, tests))
    ∙ particles_pass has c.args.model.now
