-- `declaration_printing::put_model` meets its contract: each return has its law in LineLaws, by whether there are
-- members (`content_none_laid`, `content_some_laid`).
use Rattle.rules.specs.Preorder.{build}
use Rattle.printing_parts.specs.Parts.{particles_from, names_of}
use Rattle.declaration_printing.proofs.LineLaws.{content_none_laid, content_some_laid}
use Rattle.declaration_printing.proofs.put_model.Goals as goal

pub returns-then-not-has_members : goal.returns-then-not-has_members
returns-then-not-has_members c =
    let a = c.args in
    content_none_laid (names_of a.store.now) (build (particles_from a.store.now a.end a.from) 0) _
    c.has_members.ensures c.if-not-has_members.true c.put.ensures

pub returns : goal.returns
returns c =
    let a = c.args in
    content_some_laid a.store.now a.end a.from _ c.requires.0
    c.has_members.ensures c.if-not-has_members.false c.put_u8-opened.ensures c.put_members-members.ensures
    c.put_u8.ensures
