-- `declaration_printing::put_content` meets its contract: each arm has its law in LineLaws (`content_empty_laid`,
-- `content_pcdata_laid`, `content_model_laid`).
use Rattle.rules.specs.Preorder.{build}
use Rattle.printing_parts.specs.Parts.{particles_from, names_of}
use Rattle.declaration_printing.proofs.LineLaws.{content_empty_laid, content_pcdata_laid, content_model_laid}
use Rattle.declaration_printing.proofs.put_content.Goals as goal

pub returns-in-Empty : goal.returns-in-Empty
returns-in-Empty c =
    let a = c.args in
    content_empty_laid (names_of a.store.now) (build (particles_from a.store.now a.end a.from) 0) c.in-Empty.is c.put.ensures

pub returns-in-Pcdata : goal.returns-in-Pcdata
returns-in-Pcdata c =
    let a = c.args in
    content_pcdata_laid (names_of a.store.now) (build (particles_from a.store.now a.end a.from) 0) c.in-Pcdata.is c.put-in-Pcdata.ensures

pub returns-in-Complex : goal.returns-in-Complex
returns-in-Complex c =
    let a = c.args in
    content_model_laid (names_of a.store.now) (build (particles_from a.store.now a.end a.from) 0) c.in-Complex.is c.put_model.ensures
