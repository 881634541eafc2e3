-- `clubform::calls::insert_members` meets its contract: the rules, computed, say what each call writes (`accepted` in
-- Stages), so that its number is 0, as `written` requires, and its buffer holds the next stage (`answered` of Laws),
-- which the next call reads (`reads`).
use Rattle.clubform.proofs.Stages.{accepted}
use Rattle.clubform.proofs.Laws.{answered, reads}
use Rattle.clubform.proofs.calls.insert_members.Goals as goal

pub written-one-requires : goal.written-one-requires
written-one-requires c =
    (answered accepted.insert_finisher (reads c.requires.0 c.requires.1) c.insert_element.ensures).number_is

pub written-two-requires : goal.written-two-requires
written-two-requires c =
    let one = (answered accepted.insert_finisher (reads c.requires.0 c.requires.1) c.insert_element.ensures).holds c.written-one.ensures in
    (answered accepted.insert_bib (reads one c.requires.0.room) c.insert_element-2.ensures).number_is

pub written-requires : goal.written-requires
written-requires c =
    let one = (answered accepted.insert_finisher (reads c.requires.0 c.requires.1) c.insert_element.ensures).holds c.written-one.ensures in
    let two = (answered accepted.insert_bib (reads one c.requires.0.room) c.insert_element-2.ensures).holds c.written-two.ensures in
    (answered accepted.insert_time (reads two one.room) c.insert_element-3.ensures).number_is

pub returns : goal.returns
returns c =
    let one = (answered accepted.insert_finisher (reads c.requires.0 c.requires.1) c.insert_element.ensures).holds c.written-one.ensures in
    let two = (answered accepted.insert_bib (reads one c.requires.0.room) c.insert_element-2.ensures).holds c.written-two.ensures in
    (answered accepted.insert_time (reads two one.room) c.insert_element-3.ensures).holds c.written.ensures
