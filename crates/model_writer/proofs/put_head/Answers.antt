-- `model_writer::put_head` meets its contract: in the top list the first n particles stay (`head_top` of HeadWriting).
-- Else they are those before the group that holds the place, the group and those after it (`head_split`), the group
-- with its count after the edit (`head_group`), which is a byte (`head_fits`).
use mathlib.Core.Path.{sym, ◌∙◌}
use Prim.Native.Nat.{◌+◌, ◌-◌, ◌*◌}
use native.Mathlib.Omega.{arith}
use Rattle.codec.proofs.Writers.{laid_as, laid_then}
use Rattle.layout.proofs.LayoutLaws.{length_cut}
use Rattle.model_writer.proofs.HeadWriting.{head_top, head_split, head_fits, head_group}
use Rattle.rules.specs.Layout.{particle_size}
use Rattle.model_writer.proofs.put_head.Goals as goal

pub returns-then-first-eq0 : goal.returns-then-first-eq0
returns-then-first-eq0 c =
    laid_as (head_top c.requires c.if-first-eq0.true ∙ sym c.window.ensures) c.put.ensures

pub particles_from-requires : goal.particles_from-requires
particles_from-requires c =
    omega (arith, c.requires.inside, c.requires.room)

pub put_recounted-inner-requires : goal.put_recounted-inner-requires
put_recounted-inner-requires c =
    let v = c.requires in
    let w = head_fits v (omega arith) c.window-group.ensures c.particles_from.ensures in (
      w.0,
      w.1,
      omega (
        arith,
        v.room,
        c.put-next.ensures.next,
        length_cut c.args.part.now _ 0 (particle_size * (c.args.first - 1)) c.window-2.ensures,
      ),
    )

pub put-requires-2 : goal.put-requires-2
put-requires-2 c =
    omega (
      arith,
      c.requires.room,
      c.put-next.ensures.next,
      c.put_recounted-inner.ensures.next,
      length_cut c.args.part.now _ 0 (particle_size * (c.args.first - 1)) c.window-2.ensures,
      length_cut c.args.part.now _ (particle_size * (c.args.first - 1) + particle_size)
          (particle_size * c.args.n - particle_size * c.args.first) c.window-3.ensures,
    )

pub returns : goal.returns
returns c =
    let v = c.requires in
    laid_as (head_split v (omega arith))
    (laid_then (laid_as (sym c.window-2.ensures) c.put-next.ensures)
    (laid_then (laid_as (head_group v (omega arith) c.window-group.ensures c.particles_from.ensures) c.put_recounted-inner.ensures)
    (laid_as (sym c.window-3.ensures) c.put-2.ensures)))
