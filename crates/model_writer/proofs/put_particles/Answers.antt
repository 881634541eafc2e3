-- `model_writer::put_particles` meets its contract: the particles before the definition's own, its own after the edit
-- and those after them are the bytes of all (`laid_then` of Writers, `body_bytes` of BodyWriting). Its own are a part
-- to edit (`body_part`), which the edit makes longer by at most one particle (`length_few`).
use mathlib.Core.Path.{sym, ap}
use Prim.Native.Nat.{◌+◌, ◌*◌}
use native.Mathlib.Omega.{arith}
use lib.ListN.{length, length-drop}
use Rattle.rules.specs.Bytes.{Bytes}
use Rattle.rules.specs.Layout.{particle_size}
use Rattle.codec.proofs.Writers.{laid_as, laid_then}
use Rattle.layout.proofs.LayoutLaws.{length_cut}
use Rattle.model_writer.proofs.BodyWriting.{length_few, body_bytes, body_part}
use Rattle.model_writer.proofs.put_particles.Goals as goal

pub put_part-end-requires : goal.put_part-end-requires
put_part-end-requires c = (
  body_part c.requires.0 c.window-own.ensures,
  omega (
    arith,
    c.requires.1,
    c.put-next.ensures.next,
    length_cut c.args.parts.now _ 0 (particle_size * c.args.first) c.window.ensures,
    length_cut c.args.parts.now _ (particle_size * c.args.first) (particle_size * c.args.k) c.window-own.ensures,
  ),
)

pub put-requires : goal.put-requires
put-requires c =
    omega (
      arith,
      c.requires.1,
      c.put-next.ensures.next,
      c.put_part-end.ensures.next,
      length_few (body_part c.requires.0 c.window-own.ensures),
      length_cut c.args.parts.now _ 0 (particle_size * c.args.first) c.window.ensures,
      length_cut c.args.parts.now _ (particle_size * c.args.first) (particle_size * c.args.k) c.window-own.ensures,
      ap (λ (s : Bytes). length s) c.particles_from.ensures,
      length-drop (particle_size * (c.args.first + c.args.k)) c.args.parts.now,
    )

pub returns : goal.returns
returns c =
    laid_as (body_bytes c.requires.0)
    (laid_then (laid_as (sym c.window.ensures) c.put-next.ensures)
    (laid_then (rw c.window-own.ensures at c.put_part-end.ensures) (laid_as (sym c.particles_from.ensures) c.put.ensures)))
