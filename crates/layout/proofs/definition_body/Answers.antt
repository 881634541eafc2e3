-- `layout::definition_body` meets its contract: the window from the end of the header on, 20 bytes for each definition,
-- is the definition of `definition_body` (`definitions_window` of LayoutLaws).
use Rattle.layout.proofs.LayoutLaws.{definitions_window}
use Rattle.layout.proofs.definition_body.Goals as goal

pub returns : goal.returns
returns c = definitions_window _ _ _ c.window.ensures
