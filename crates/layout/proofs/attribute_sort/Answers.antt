-- `layout::attribute_sort` meets its contract: the first byte of what follows 18 bytes, as `read_attribute` reads the
-- sort, is byte 18 (`get_or-drop` of the kit).
use mathlib.Core.Path.{◌∙◌, sym}
use lib.Seq.{get_or-drop}
use Rattle.layout.proofs.attribute_sort.Goals as goal

pub returns : goal.returns
returns c =
    c.byte.ensures ∙ sym (get_or-drop 18 c.args.rec.now 0 0)
