-- `layout::definition_kind` meets its contract: the first byte of what follows 17 bytes, as `read_definition` reads the
-- kind, is byte 17 (`get_or-drop` of the kit).
use mathlib.Core.Path.{◌∙◌, sym}
use lib.Seq.{get_or-drop}
use Rattle.layout.proofs.definition_kind.Goals as goal

pub returns : goal.returns
returns c =
    c.byte.ensures ∙ sym (get_or-drop 17 c.args.rec.now 0 0)
