-- `clubform::calls::hold_race` meets its contract: the rules, computed, say what each call writes (`accepted` in
-- Stages), so that its number is 0, as `written` requires, and its buffer holds the next stage (`answered` of Laws),
-- which the next call reads (`reads`).
use Rattle.clubform.proofs.Stages.{accepted}
use Rattle.clubform.proofs.Laws.{answered, reads}
use Rattle.clubform.proofs.calls.hold_race.Goals as goal

pub written-race-requires : goal.written-race-requires
written-race-requires c =
    (answered accepted.new_race (reads c.requires.0 c.requires.1) c.add_document.ensures).number_is

pub written-finisher-requires : goal.written-finisher-requires
written-finisher-requires c =
    let one = (answered accepted.new_race (reads c.requires.0 c.requires.1) c.add_document.ensures).holds c.written-race.ensures in
    (answered accepted.add_finisher (reads one c.requires.0.room) c.add_element.ensures).number_is

pub written-requires : goal.written-requires
written-requires c =
    let one = (answered accepted.new_race (reads c.requires.0 c.requires.1) c.add_document.ensures).holds c.written-race.ensures in
    let two = (answered accepted.add_finisher (reads one c.requires.0.room) c.add_element.ensures).holds c.written-finisher.ensures in
    (answered accepted.set_time (reads two one.room) c.set_text.ensures).number_is

pub returns : goal.returns
returns c =
    let one = (answered accepted.new_race (reads c.requires.0 c.requires.1) c.add_document.ensures).holds c.written-race.ensures in
    let two = (answered accepted.add_finisher (reads one c.requires.0.room) c.add_element.ensures).holds c.written-finisher.ensures in
    (answered accepted.set_time (reads two one.room) c.set_text.ensures).holds c.written.ensures
