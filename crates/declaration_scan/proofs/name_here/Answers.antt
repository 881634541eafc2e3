-- `declaration_scan::name_here` meets its contract: of as many bytes as the name has the first sixteen
-- (`name_front` of Laws).
use Rattle.declaration_scan.proofs.Laws.{name_front}
use Rattle.declaration_scan.proofs.name_here.Goals as goal

pub returns : goal.returns
returns c =
    name_front c.args.text.now _ _ _ c.name_length-n.ensures c.first.ensures c.first-2.ensures
