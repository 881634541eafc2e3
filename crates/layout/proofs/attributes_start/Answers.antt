-- `layout::attributes_start` meets its contract: the sum is the definition of `attributes_start`, and as the counts of
-- a shape that fits are below 2^32 it is in range (`attributes_place` of LayoutLaws).
use Rattle.layout.proofs.LayoutLaws.{attributes_place}
use Rattle.layout.proofs.attributes_start.Goals as goal

pub returns : goal.returns
returns c =
    attributes_place c.args.s c.requires
