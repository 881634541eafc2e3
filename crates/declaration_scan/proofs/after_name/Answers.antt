-- `declaration_scan::after_name` meets its contract: past as many bytes as the name has (`name_passed` of Laws).
use Rattle.declaration_scan.proofs.Laws.{name_passed}
use Rattle.declaration_scan.proofs.after_name.Goals as goal

pub returns : goal.returns
returns c =
    name_passed c.args.text.now _ _ c.name_length-n.ensures c.after.ensures
