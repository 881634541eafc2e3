-- `declaration_printing::put_definition` meets its contract: what the five writers lay one after the other is the line
-- of the definition, in at most 641000 bytes (`definition_laid` of LineLaws).
use native.Mathlib.Omega.{arith}
use Rattle.declaration_printing.proofs.LineLaws.{definition_laid}
use Rattle.declaration_printing.proofs.put_definition.Goals as goal

pub definition-requires : goal.definition-requires
definition-requires c =
    omega (arith, c.requires.0, c.requires.3)

pub returns : goal.returns
returns c =
    let a = c.args in
    definition_laid a.store.now a.o a.end a.from _ c.definition.ensures c.requires.0 _ _
    c.definition_kind.ensures c.from-kind.ensures c.put-signed.ensures c.name_of.ensures c.put-named.ensures
    c.put_u8-spaced.ensures c.put_content-filled.ensures c.put.ensures
