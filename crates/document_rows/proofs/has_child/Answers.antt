-- `document_rows::has_child` meets its contract: `any` gives whether a row passes (`any_from_yields_List` of the
-- library).
use mathlib.Core.Path.{refl, ◌∙◌}
use borrow.Author.Rules.{rules}
use borrow.Author.Tests.{tests}
use Rattle.std.proofs.lemmas.Iterator.Consumers.{YieldsList-from_first}
use Rattle.std.proofs.lemmas.Iterator.Search.{any_from_yields_List}
use Rattle.document_rows.specs.Finding.{element_row_with}
use Rattle.document_rows.specs.Coming.{coming}
use Rattle.document_rows.proofs.SerialLaws.{row_read, any_is}
use Rattle.document_rows.proofs.has_child.Goals as goal

pub returns : goal.returns
returns c =
    any_from_yields_List (element_row_with c.args.element) c.any.new.self _ _ c.any.ensures.ran
    (YieldsList-from_first row_read coming {s = c.args.children} (coming c.args.children) refl) (λ x b q k. search (rules, tests))
    ∙ any_is (element_row_with c.args.element) (coming c.args.children)
