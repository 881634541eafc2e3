-- `printing::put_declarations` meets its contract: the line of the definition, then those of its attributes, are its
-- declarations, with the particles up to the end that `model_end` gives (`declarations_laid` of FormLaws).
use Rattle.printing.proofs.FormLaws.{declarations_laid}
use Rattle.printing.proofs.put_declarations.Goals as goal

pub returns : goal.returns
returns c =
    let a = c.args in
    declarations_laid a.store.now a.o a.from _ c.definition.ensures c.requires.1 _ _
    c.definition_particles-n.ensures c.model_end-end.ensures.taken c.put_definition-defined.ensures
    c.name_of.ensures c.put_attributes.ensures
