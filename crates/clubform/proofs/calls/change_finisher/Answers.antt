-- `clubform::calls::change_finisher` meets its contract: the rules, computed, say what each call writes (`accepted` in
-- Stages), so that its number is 0, as `written` requires, and its buffer holds the next stage (`answered` of Laws),
-- which the next call reads (`reads`).
use Rattle.clubform.proofs.Stages.{accepted}
use Rattle.clubform.proofs.Laws.{answered, reads}
use Rattle.clubform.proofs.calls.change_finisher.Goals as goal

pub written-club-requires : goal.written-club-requires
written-club-requires c =
    (answered accepted.create_club (reads c.requires.0 c.requires.1) c.create_definition.ensures).number_is

pub written-inserted-requires : goal.written-inserted-requires
written-inserted-requires c =
    let one = (answered accepted.create_club (reads c.requires.0 c.requires.1) c.create_definition.ensures).holds c.written-club.ensures in
    (answered accepted.insert_club (reads one c.requires.0.room) c.insert_element.ensures).number_is

pub written-requires : goal.written-requires
written-requires c =
    let one = (answered accepted.create_club (reads c.requires.0 c.requires.1) c.create_definition.ensures).holds c.written-club.ensures in
    let two = (answered accepted.insert_club (reads one c.requires.0.room) c.insert_element.ensures).holds c.written-inserted.ensures in
    (answered accepted.make_time_optional (reads two one.room) c.change_quantifier.ensures).number_is

pub returns : goal.returns
returns c =
    let one = (answered accepted.create_club (reads c.requires.0 c.requires.1) c.create_definition.ensures).holds c.written-club.ensures in
    let two = (answered accepted.insert_club (reads one c.requires.0.room) c.insert_element.ensures).holds c.written-inserted.ensures in
    (answered accepted.make_time_optional (reads two one.room) c.change_quantifier.ensures).holds c.written.ensures
