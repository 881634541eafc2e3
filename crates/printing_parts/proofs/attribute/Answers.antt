-- `printing_parts::attribute` meets its contract: what `attribute_in` reads is record i of the attribute body
-- (`attribute_place` of PartLaws).
use mathlib.Core.Path.{◌∙◌}
use Rattle.printing_parts.proofs.PartLaws.{attribute_place}
use Rattle.printing_parts.proofs.attribute.Goals as goal

pub returns : goal.returns
returns c =
    let a = c.args in
    c.attribute_in.ensures ∙ attribute_place a.store.now a.i
