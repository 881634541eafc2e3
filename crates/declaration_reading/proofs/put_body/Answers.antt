-- `declaration_reading::put_body` meets its contract: what a line says can be written (`writing_first` of BodyLaws), and
-- once it is the invariant holds of the others (`writing_on`). With no line left nothing is left to write
-- (`writing_done`).
use mathlib.Core.Path.{refl}
use native.Mathlib.Omega.{arith}
use Rattle.declaration_reading.proofs.BodyLaws.{writing_first, writing_on, writing_done}
use Rattle.declaration_reading.proofs.put_body.Goals as goal

pub loop-line-init : goal.loop-line-init
loop-line-init c =
    rw c.into_iter-line-iterator.ensures.into_iter_gives (record { goes = λ r o l. l; ready = c.requires; long = refl })

pub put_line-at-requires : goal.put_line-at-requires
put_line-at-requires c = writing_first c.loop-line.invariant c.in-Some.ensures.steps

pub owners_after-owners-requires : goal.owners_after-owners-requires
owners_after-owners-requires c =
    omega (arith, c.loop-line.invariant.ready.fits.definitions)

pub loop-line-preserved : goal.loop-line-preserved
loop-line-preserved c =
    writing_on c.loop-line.invariant c.in-Some.ensures.steps c.owners_after-owners.ensures c.put_line-at.ensures

pub returns : goal.returns
returns c = writing_done c.loop-line.invariant c.in-None.ensures.steps
