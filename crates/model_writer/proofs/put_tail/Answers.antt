-- `model_writer::put_tail` meets its contract: each arm writes the bytes of `tail_after` for its edit (`tail_bytes` of
-- TailWriting): three by the contract of their call, a removal by `removed_bytes` and a flattening by
-- `flattened_bytes`. What a call requires is `Tail` of that edit (`tail_as`).
use mathlib.Core.Path.{sym, ap, ◌∙◌}
use native.Mathlib.Omega.{arith}
use lib.ListN.{length, length-drop}
use Rattle.rules.specs.Bytes.{Bytes}
use Rattle.rules.specs.Layout.{particle_size}
use Rattle.codec.proofs.Writers.{laid_as}
use Rattle.model_writer.proofs.TailWriting.{removed_bytes, flattened_whole, flattened_room, flattened_fits, flattened_bytes, tail_as, tail_bytes}
use Rattle.model_writer.proofs.put_tail.Goals as goal

pub put_inserted-requires : goal.put_inserted-requires
put_inserted-requires c =
    tail_as c.in-Insert.is c.requires

pub put-requires : goal.put-requires
put-requires c =
    omega (arith, c.requires.room, ap (λ (s : Bytes). length s) c.particles_from.ensures, length-drop particle_size c.args.ys.now)

pub put_requantified-requires : goal.put_requantified-requires
put_requantified-requires c =
    tail_as c.in-Quantify.is c.requires

pub put_grouped-requires : goal.put_grouped-requires
put_grouped-requires c =
    tail_as c.in-Convert.is c.requires

pub put_moved-requires : goal.put_moved-requires
put_moved-requires c =
    let v = tail_as c.in-Flatten.is c.requires in
    rw c.particles_from-in-Flatten.ensures (flattened_whole v, flattened_room v, flattened_fits v)

pub returns-in-Insert : goal.returns-in-Insert
returns-in-Insert c =
    laid_as (tail_bytes _ c.args.ys.now c.in-Insert.is) c.put_inserted.ensures

pub returns-in-Remove : goal.returns-in-Remove
returns-in-Remove c =
    let e = c.in-Remove.is in
    laid_as ((tail_bytes _ c.args.ys.now (e)) ∙ removed_bytes (tail_as e c.requires) ∙ sym c.particles_from.ensures) c.put.ensures

pub returns-in-Quantify : goal.returns-in-Quantify
returns-in-Quantify c =
    laid_as (tail_bytes _ c.args.ys.now c.in-Quantify.is) c.put_requantified.ensures

pub returns-in-Convert : goal.returns-in-Convert
returns-in-Convert c =
    laid_as (tail_bytes _ c.args.ys.now c.in-Convert.is) c.put_grouped.ensures

pub returns-in-Flatten : goal.returns-in-Flatten
returns-in-Flatten c =
    let e = c.in-Flatten.is in
    laid_as ((tail_bytes _ c.args.ys.now (e)) ∙ flattened_bytes (tail_as e c.requires)) (rw c.particles_from-in-Flatten.ensures at c.put_moved.ensures)
