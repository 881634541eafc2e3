-- `definition_creation::put_created` meets its contract: header, definitions, the new definition and what stands after
-- the definitions, laid one after the other, are the bytes of `created` (`created_laid` of CreatedBytes); a store that
-- passes is short (`encoded` of Encoded), so the places are in range (`after_header`, `front_short`, `back_short`).
use Prim.Native.Nat.{◌+◌}
use Rattle.store_laws.proofs.Encoded.{encoded}
use Rattle.definition_writer.specs.Bodies.{new_definition}
use Rattle.definition_creation.proofs.CreatedBytes.{created_laid, after_header, front_short, back_short}
use Rattle.rules.proofs.LayoutLaws.{length_definition}
use native.Mathlib.Omega.{arith}
use Rattle.definition_creation.proofs.put_created.Goals as goal

pub put_header-first-requires : goal.put_header-first-requires
put_header-first-requires c =
    let x = encoded c.args.store.now c.requires.0 in
    omega (
      arith,
      c.definition_count-d.ensures.value,
      c.particle_count-p.ensures.value,
      c.attribute_count-a.ensures.value,
      x.definitions,
      x.few_definitions,
      x.particles,
      x.few_particles,
      x.attributes,
      x.few_attributes,
    )

pub put-second-requires : goal.put-second-requires
put-second-requires c =
    let a = c.args in
    let x = encoded a.store.now c.requires.0 in
    omega (
      arith,
      after_header a.name.now a.kind x (c.definition_count-d.result + 1) c.particle_count-p.result
          c.attribute_count-a.result c.put_header-first.ensures,
      front_short a.name.now a.kind x c.definitions_of.ensures,
    )

pub put_definition-third-requires : goal.put_definition-third-requires
put_definition-third-requires c =
    let a = c.args in
    let x = encoded a.store.now c.requires.0 in (
      c.requires.1,
      omega (
        arith,
        c.put-second.ensures.next,
        after_header a.name.now a.kind x (c.definition_count-d.result + 1) c.particle_count-p.result
            c.attribute_count-a.result c.put_header-first.ensures,
        front_short a.name.now a.kind x c.definitions_of.ensures,
      ),
    )

pub put-requires : goal.put-requires
put-requires c =
    let a = c.args in
    let x = encoded a.store.now c.requires.0 in
    omega (
      arith,
      c.put-second.ensures.next,
      after_header a.name.now a.kind x (c.definition_count-d.result + 1) c.particle_count-p.result
          c.attribute_count-a.result c.put_header-first.ensures,
      front_short a.name.now a.kind x c.definitions_of.ensures,
      c.put_definition-third.ensures.next,
      length_definition (new_definition a.name.now a.kind),
      back_short a.name.now a.kind x c.through_definitions-rest.result c.after.ensures,
    )

pub returns : goal.returns
returns c =
    let a = c.args in
    created_laid a.name.now a.kind (encoded a.store.now c.requires.0) c.definition_count-d.ensures c.particle_count-p.ensures
    c.attribute_count-a.ensures c.through_definitions-rest.ensures c.definitions_of.ensures c.after.ensures
    c.put_header-first.ensures c.put-second.ensures c.put_definition-third.ensures c.put.ensures
