-- `layout::attribute_owner_at` meets its contract: the equations of the two readers, of the record and of its owner,
-- joined.
use mathlib.Core.Path.{ap, ◌∙◌}
use Rattle.rules.specs.Bytes.{Bytes}
use Rattle.rules.specs.Decode.{read_attribute}
use Rattle.layout.proofs.attribute_owner_at.Goals as goal

pub returns : goal.returns
returns c =
    c.attribute_owner.ensures ∙ ap (λ (t : Bytes). (read_attribute t).owner) c.attribute_at.ensures
