-- `declaration_reading::is_declaration` meets its contract: the word has no line feed, so that it stands at the front
-- of the line if it stands at the front of the text (`line_starts` of LineLaws).
use Rattle.declaration_reading.proofs.LineLaws.{line_starts}
use Rattle.declaration_reading.proofs.is_declaration.Goals as goal

pub returns : goal.returns
returns c =
    line_starts c.args.text.now _ c.starts_with.ensures
