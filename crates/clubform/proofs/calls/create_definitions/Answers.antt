-- `clubform::calls::create_definitions` meets its contract: the rules, computed, say what each call writes (`accepted`
-- in Stages), so that its number is 0, as `written` requires, and its buffer holds the next stage (`answered` of
-- Laws), which the next call reads (`reads`).
use Rattle.clubform.proofs.Stages.{accepted}
use Rattle.clubform.proofs.Laws.{answered, reads, fresh}
use Rattle.clubform.proofs.calls.create_definitions.Goals as goal

pub written-race-requires : goal.written-race-requires
written-race-requires c = (answered accepted.create_race (fresh c.requires.0) c.create_definition.ensures).number_is

pub written-finisher-requires : goal.written-finisher-requires
written-finisher-requires c =
    let one = answered accepted.create_race (fresh c.requires.0) c.create_definition.ensures in
    (answered accepted.create_finisher (reads (one.holds c.written-race.ensures) c.requires.1) c.create_definition-2.ensures).number_is

pub written-bib-requires : goal.written-bib-requires
written-bib-requires c =
    let one = (answered accepted.create_race (fresh c.requires.0) c.create_definition.ensures).holds c.written-race.ensures in
    let two = (answered accepted.create_finisher (reads one c.requires.1) c.create_definition-2.ensures).holds c.written-finisher.ensures in
    (answered accepted.create_bib (reads two one.room) c.create_definition-3.ensures).number_is

pub written-requires : goal.written-requires
written-requires c =
    let one = (answered accepted.create_race (fresh c.requires.0) c.create_definition.ensures).holds c.written-race.ensures in
    let two = (answered accepted.create_finisher (reads one c.requires.1) c.create_definition-2.ensures).holds c.written-finisher.ensures in
    let three = (answered accepted.create_bib (reads two one.room) c.create_definition-3.ensures).holds c.written-bib.ensures in
    (answered accepted.create_time (reads three two.room) c.create_definition-4.ensures).number_is

pub returns : goal.returns
returns c =
    let one = (answered accepted.create_race (fresh c.requires.0) c.create_definition.ensures).holds c.written-race.ensures in
    let two = (answered accepted.create_finisher (reads one c.requires.1) c.create_definition-2.ensures).holds c.written-finisher.ensures in
    let three = (answered accepted.create_bib (reads two one.room) c.create_definition-3.ensures).holds c.written-bib.ensures in
    (answered accepted.create_time (reads three two.room) c.create_definition-4.ensures).holds c.written.ensures
