-- `model_scan::put_model` meets its contract: the particle that begins at a byte, if one does, is written and keeps the
-- invariant (`putting_on` of PutLaws), and at the end no particle is left (`putting_done`). What is left begins with a
-- byte, and its particle is not too deep (`putting_here`, `putting_low`).
use mathlib.Core.Path.{refl}
use Rattle.declaration_scan.specs.Names.{written_names}
use Rattle.model_scan.proofs.PutLaws.{putting_here, putting_low, putting_on, putting_done}
use native.Mathlib.Omega.{arith}
use Rattle.model_scan.proofs.put_model.Goals as goal

pub loop-i-init : goal.loop-i-init
loop-i-init c =
    record { goes = λ r o l. l; low = c.requires.2; small = c.requires.3; near = omega arith; long = refl }

pub put_here-at-requires : goal.put_here-at-requires
put_here-at-requires c =
    let a = c.args in
    let names = written_names a.n a.defs.now in (
      c.requires.0,
      c.requires.1,
      putting_here names a.text.now _ _ _ c.loop-i.invariant (omega arith) _ c.after.ensures,
      putting_low names a.text.now _ _ _ c.loop-i.invariant (omega arith) _ c.after.ensures,
      omega (arith, c.loop-i.invariant.small),
    )

pub depth_after-depth-requires : goal.depth_after-depth-requires
depth_after-depth-requires c =
    omega (arith, c.loop-i.invariant.near)

pub loop-i-preserved : goal.loop-i-preserved
loop-i-preserved c =
    let a = c.args in
    putting_on (written_names a.n a.defs.now) a.text.now _ _ _ c.loop-i.invariant (omega arith) _ _ c.after.ensures
    c.put_here-at.ensures c.depth_after-depth.ensures c.in_name-inside.ensures

pub returns : goal.returns
returns c =
    let a = c.args in
    putting_done (written_names a.n a.defs.now) a.text.now _ _ _ c.loop-i.invariant (omega arith)
