-- `definition_removal::put_destroyed` meets its contract: the header and the four bodies that are left, laid one after
-- the other, are the store without definition i (`destroyed_laid` of LeftBytes); the places are bounded by the ceilings
-- (`after_header`, `after_definitions`, `after_particles`, `after_attributes`).
use native.Mathlib.Omega.{arith}
use Rattle.definition_removal.proofs.LeftBytes.{destroyed_laid, after_header, after_definitions, after_particles, after_attributes}
use Rattle.definition_removal.proofs.put_destroyed.Goals as goal

pub put_definitions_left-second-requires : goal.put_definitions_left-second-requires
put_definitions_left-second-requires c =
    let a = c.args in (c.requires, omega (arith, after_header a.store.now c.requires.good a.i c.requires.there c.put_header_left-first.ensures))

pub put_particles_left-third-requires : goal.put_particles_left-third-requires
put_particles_left-third-requires c =
    let a = c.args in (
      c.requires,
      omega (
        arith,
        after_definitions a.store.now c.requires.good a.i c.requires.there c.put_header_left-first.ensures
            c.put_definitions_left-second.ensures,
      ),
    )

pub put_attributes_left-fourth-requires : goal.put_attributes_left-fourth-requires
put_attributes_left-fourth-requires c =
    let a = c.args in (
      c.requires,
      omega (
        arith,
        after_particles a.store.now c.requires.good a.i c.requires.there c.put_header_left-first.ensures
            c.put_definitions_left-second.ensures c.put_particles_left-third.ensures,
      ),
    )

pub put_rows_left-requires : goal.put_rows_left-requires
put_rows_left-requires c =
    let a = c.args in (
      c.requires,
      omega (
        arith,
        after_attributes a.store.now c.requires.good a.i c.requires.there c.put_header_left-first.ensures
            c.put_definitions_left-second.ensures c.put_particles_left-third.ensures c.put_attributes_left-fourth.ensures,
      ),
    )

pub returns : goal.returns
returns c =
    destroyed_laid c.args.store.now c.requires.good c.args.i c.requires.there c.put_header_left-first.ensures
    c.put_definitions_left-second.ensures c.put_particles_left-third.ensures c.put_attributes_left-fourth.ensures
    c.put_rows_left.ensures
