-- `printing_parts::definition` meets its contract: what `definition_in` reads is record i of the definition body
-- (`definition_place` of PartLaws).
use mathlib.Core.Path.{◌∙◌}
use Rattle.printing_parts.proofs.PartLaws.{definition_place}
use Rattle.printing_parts.proofs.definition.Goals as goal

pub returns : goal.returns
returns c =
    let a = c.args in
    c.definition_in.ensures ∙ definition_place a.store.now a.i
