-- `depth_check::is_within` meets its contract: each arm has the law of its edit in Ceiling (`inserted_within`,
-- `removed_within`, `requantified_within`, `grouped_within`, `flattened_within`). The particles from n on are within
-- the ceiling, as `moved_within` requires (`within_drop`).
use mathlib.Core.Path.{ap, ◌∙◌}
use mathlib.Core.Bool.{Bool, true, ◌&&◌}
use lib.Dec.{leb}
use Rattle.rules.specs.Bytes.{Bytes}
use Rattle.model.specs.Members.{particles_of}
use Rattle.model.specs.Places.{Particles}
use Rattle.model_writer.specs.PartAfter.{moved}
use Rattle.model_writer.specs.Writing.{shift, depths_within}
use Rattle.model.proofs.MembersLaws.{particles_past}
use Rattle.model_writer.proofs.Ceiling.{within_drop, inserted_within, removed_within, requantified_within, grouped_within, flattened_within, within_case}
use Rattle.depth_check.proofs.is_within.Goals as goal

pub particles_from-requires : goal.particles_from-requires
particles_from-requires c =
    c.requires.1

pub moved_within-requires : goal.moved_within-requires
moved_within-requires c =
    ap (λ (s : Bytes). depths_within (particles_of s)) c.particles_from.ensures ∙ ap depths_within (particles_past c.args.place.particle c.args.part.now)
    ∙ within_drop c.args.place.particle (particles_of c.args.part.now) c.requires.0

pub returns-in-Insert : goal.returns-in-Insert
returns-in-Insert c =
    inserted_within c.args.place.holder c.args.place.particle (particles_of c.args.part.now) c.requires.0 _ _
    ∙ within_case c.args.place.holder c.args.place.particle (particles_of c.args.part.now) c.in-Insert.is

pub returns-in-Remove : goal.returns-in-Remove
returns-in-Remove c =
    removed_within c.args.place.holder c.args.place.particle (particles_of c.args.part.now) c.requires.0
    ∙ within_case c.args.place.holder c.args.place.particle (particles_of c.args.part.now) c.in-Remove.is

pub returns-in-Quantify : goal.returns-in-Quantify
returns-in-Quantify c =
    requantified_within c.args.place.holder c.args.place.particle (particles_of c.args.part.now) c.requires.0 _
    ∙ within_case c.args.place.holder c.args.place.particle (particles_of c.args.part.now) c.in-Quantify.is

pub returns-in-Convert : goal.returns-in-Convert
returns-in-Convert c =
    ap (λ (b : Bool). leb c.args.place.holder.depth 4 && b)
    (c.moved_within.ensures
    ∙ ap (λ (ys : Particles). depths_within (moved (shift true) c.args.place.holder.depth c.in-Convert.m ys))
    (ap particles_of c.particles_from.ensures ∙ particles_past c.args.place.particle c.args.part.now))
    ∙ grouped_within c.args.place.holder c.args.place.particle (particles_of c.args.part.now) c.requires.0 _ _
    ∙ within_case c.args.place.holder c.args.place.particle (particles_of c.args.part.now) c.in-Convert.is

pub returns-in-Flatten : goal.returns-in-Flatten
returns-in-Flatten c =
    flattened_within c.args.place.holder c.args.place.particle (particles_of c.args.part.now) c.requires.0
    ∙ within_case c.args.place.holder c.args.place.particle (particles_of c.args.part.now) c.in-Flatten.is
