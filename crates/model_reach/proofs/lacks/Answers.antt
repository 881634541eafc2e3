-- `model_reach::lacks` meets its contract: `all` gives whether every particle is a group or another element
-- (`all_from_yields_List` of the library), and so whether every element is another (`particles_pass` of MemberLaws in
-- `circle_check`).
use mathlib.Core.Path.{◌∙◌}
use mathlib.Core.Bool.{not}
use borrow.Author.Rules.{rules}
use borrow.Author.Tests.{tests}
use Prim.Native.Nat.{ℕ}
use lib.Dec.{eqb}
use Rattle.std.proofs.lemmas.Iterator.Search.{all_from_yields_List}
use Rattle.model_check.proofs.Chunks.{yields_particles}
use Rattle.circle_check.specs.Deep.{first_passes}
use Rattle.circle_check.proofs.MemberLaws.{particles_pass}
use Rattle.model_reach.proofs.lacks.Goals as goal

pub returns : goal.returns
returns c =
    let other = λ (j : ℕ). not (eqb c.args.i j) in
    let new = c.chunks_exact.ensures in
    all_from_yields_List (first_passes other) c.all.new.self _ _ c.all.ensures.ran (yields_particles new.rest new.size) (λ x b q k. search (rules, tests))
    ∙ particles_pass other c.args.part.now
