-- `clubform::put_text` meets its contract: the rules, computed, say that stage 13 is printed as `last_text` (`print` of
-- `accepted` in Stages); so the number is 0, as `written` requires, and the buffer holds that text (`answered` of Laws).
use Rattle.clubform.proofs.Stages.{accepted}
use Rattle.clubform.proofs.Laws.{answered}
use Rattle.clubform.proofs.put_text.Goals as goal

pub written-requires : goal.written-requires
written-requires c = (answered accepted.print c.requires c.print.ensures).number_is

pub returns : goal.returns
returns c = (answered accepted.print c.requires c.print.ensures).holds c.written.ensures
