-- `document_rows::nexts::takes` meets its contract: where all the children are stepped over, the end decides
-- (`takes_all` of StepLaws), and else the model does not take them (`takes_none`).
use Rattle.document_rows.proofs.StepLaws.{takes_all, takes_none}
use Rattle.document_rows.proofs.nexts.takes.Goals as goal

pub returns-in-Some : goal.returns-in-Some
returns-in-Some c = takes_all c.in-Some.ensures c.ends.ensures

pub returns-in-None : goal.returns-in-None
returns-in-None c = takes_none c.in-None.ensures
