-- `declaration_reading::put_line` meets its contract: each arm writes what the line says of its body (`body_laid` of
-- BodyLaws), and what it requires is what is asked of that body (`ready_as`); no particle is too deep, whatever the
-- names are (`particles_fit` of FormLaws).
use mathlib.Core.List.{[], ◌∷◌}
use native.Mathlib.Omega.{arith}
use Rattle.declaration_reading.proofs.BodyLaws.{ready_as, body_laid}
use Rattle.declaration_reading.proofs.FormLaws.{particles_fit}
use Rattle.declaration_reading.proofs.put_line.Goals as goal

pub put_particle_line-requires : goal.put_particle_line-requires
put_particle_line-requires c =
    let ready = ready_as c.in-Particles.is c.requires in
    (ready.asks.0, ready.asks.1, particles_fit (c.args.line.now ∷ []) ready.fits _, ready.room)

pub put_owned-requires : goal.put_owned-requires
put_owned-requires c =
    let ready = ready_as c.in-Attributes.is c.requires in
    (ready.asks, omega (arith, ready.fits.definitions), omega (arith, ready.room))

pub returns-in-Definitions : goal.returns-in-Definitions
returns-in-Definitions c =
    let a = c.args in
    body_laid a.defs.now a.owners (a.line.now ∷ []) c.in-Definitions.is c.put_definition_line.ensures

pub returns-in-Particles : goal.returns-in-Particles
returns-in-Particles c =
    let a = c.args in
    body_laid a.defs.now a.owners (a.line.now ∷ []) c.in-Particles.is c.put_particle_line.ensures

pub returns-in-Attributes : goal.returns-in-Attributes
returns-in-Attributes c =
    let a = c.args in
    body_laid a.defs.now a.owners (a.line.now ∷ []) c.in-Attributes.is c.put_owned.ensures
