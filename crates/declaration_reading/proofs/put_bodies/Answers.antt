-- `declaration_reading::put_bodies` meets its contract: the definitions that were written aside are those of the form,
-- and so are their names (`written_aside` of FormLaws), so that the three bodies are its own (`bodies_laid`); within
-- the ceilings each can be written (`definitions_ready`, `particles_ready`, `attributes_ready`).
use Prim.Native.Nat.{ℕ}
use native.Mathlib.Omega.{arith}
use lib.ListN.{length-replicate}
use Rattle.declaration_reading.proofs.FormLaws.{definitions_ready, written_aside, particles_ready, attributes_ready, bodies_laid}
use Rattle.declaration_reading.proofs.put_bodies.Goals as goal

pub put_body-size-requires : goal.put_body-size-requires
put_body-size-requires c =
    definitions_ready c.requires.1

pub slice_bounds-defs-end : goal.slice_bounds-defs-end
slice_bounds-defs-end c =
    let aside = written_aside c.requires.1 c.requires.2 (length-replicate {A = ℕ} 1280 0) c.put_body-size.ensures in
    omega (arith, aside.short, aside.long)

pub slice_bounds-put-end : goal.slice_bounds-put-end
slice_bounds-put-end c =
    let aside = written_aside c.requires.1 c.requires.2 (length-replicate {A = ℕ} 1280 0) c.put_body-size.ensures in
    aside.sized

pub put-defined-requires : goal.put-defined-requires
put-defined-requires c =
    let aside = written_aside c.requires.1 c.requires.2 (length-replicate {A = ℕ} 1280 0) c.put_body-size.ensures in
    omega (arith, aside.sized, aside.short, c.requires.3)

pub put_body-modelled-requires : goal.put_body-modelled-requires
put_body-modelled-requires c =
    let aside = written_aside c.requires.1 c.requires.2 (length-replicate {A = ℕ} 1280 0) c.put_body-size.ensures in
    particles_ready c.requires.1 aside c.requires.3 c.put-defined.ensures

pub put_body-requires : goal.put_body-requires
put_body-requires c =
    let aside = written_aside c.requires.1 c.requires.2 (length-replicate {A = ℕ} 1280 0) c.put_body-size.ensures in
    attributes_ready c.requires.1 aside c.requires.3 c.put-defined.ensures c.requires.0 c.put_body-modelled.ensures

pub returns : goal.returns
returns c =
    let aside = written_aside c.requires.1 c.requires.2 (length-replicate {A = ℕ} 1280 0) c.put_body-size.ensures in
    bodies_laid c.requires.1 aside c.requires.3 c.put-defined.ensures c.requires.0 c.put_body-modelled.ensures c.put_body.ensures
