-- `declaration_reading::line_here` meets its contract: the bytes before the first line feed (`line_is` of LineLaws).
use Rattle.declaration_reading.proofs.LineLaws.{line_is}
use Rattle.declaration_reading.proofs.line_here.Goals as goal

pub returns : goal.returns
returns c =
    line_is c.args.text.now _ _ c.length_before-n.ensures c.first.ensures
