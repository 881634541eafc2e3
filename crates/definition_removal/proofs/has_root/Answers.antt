-- `definition_removal::has_root` meets its contract: `any` gives whether a number's row passes (`any_from_yields_List`
-- of the library), and so whether a row does (`some_passes` of ByNumber).
use mathlib.Core.Path.{refl, ◌∙◌}
use native.Mathlib.Omega.{arith}
use borrow.Author.Rules.{rules}
use borrow.Author.Tests.{tests}
use Rattle.std.proofs.lemmas.Iterator.{YieldsList-from_range}
use Rattle.std.proofs.lemmas.Iterator.Search.{any_from_yields_List}
use Rattle.rules.specs.Layout.{row_size}
use Rattle.rules.specs.Decode.{read_row}
use Rattle.definition_removal.specs.Bodies.{is_root}
use Rattle.definition_removal.proofs.ByNumber.{passes_at, some_passes}
use Rattle.definition_removal.proofs.has_root.Goals as goal

pub returns : goal.returns
returns c =
    let a = c.args in
    any_from_yields_List (passes_at read_row (row_size a.w) (is_root a.definition) a.body.now) c.any.new.self _ _ c.any.ensures.ran
    (YieldsList-from_range 0 a.count a.count refl (omega arith)) (λ x b q k. search (rules, tests))
    ∙ some_passes read_row (row_size a.w) (is_root a.definition) a.body.now a.count
