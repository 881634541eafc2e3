-- `circle_check::raised` meets its contract: a height other than 0 stays (`raised_was` of RoundLaws); else the answer
-- of `members_have_heights` decides between h (`raised_new`) and 0 (`raised_none`).
use Rattle.rules.specs.Bytes.{all}
use Rattle.circle_check.specs.Members.{elements_of}
use Rattle.circle_check.specs.Deep.{has_height}
use Rattle.circle_check.proofs.RoundLaws.{raised_was, raised_new, raised_none}
use Rattle.circle_check.proofs.raised.Goals as goal

pub returns-then-was-ne0 : goal.returns-then-was-ne0
returns-then-was-ne0 c =
    let a = c.args in
    raised_was a.h a.was (all (has_height a.old.now) (elements_of a.model.now)) c.if-was-ne0.true

pub returns-then-members_have_heights : goal.returns-then-members_have_heights
returns-then-members_have_heights c =
    raised_new _ _ _ _ c.if-was-ne0.false c.members_have_heights.ensures c.if-members_have_heights.true

pub returns-else-members_have_heights : goal.returns-else-members_have_heights
returns-else-members_have_heights c =
    raised_none _ _ _ _ c.if-was-ne0.false c.members_have_heights.ensures c.if-members_have_heights.false
