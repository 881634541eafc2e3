-- `place_lookup::find_in` meets its contract: an empty place leads nowhere (`place_none` of EnteringLaws), a last
-- number to a member or a gap (`place_last`), and another into a group (`place_in_lem`) or nowhere (`place_out`). The
-- call is for a place shorter by one number and a part within s (`entered_part`).
use mathlib.Core.Path.{ap, ◌∙◌}
use native.Mathlib.Omega.{arith}
use lib.ListN.{length, take, drop, get_or, length-take, length-drop}
use Rattle.codec.proofs.Strings.{part_length}
use Rattle.model.specs.Members.{particles_of}
use Rattle.model.specs.Places.{Particles, spot_of}
use Rattle.model.proofs.ParticleLaws.{particles_part}
use Rattle.model.proofs.EnteringLaws.{place_none, place_last, place_out, place_in_lem, entered_part}
use Prim.Native.Nat.{◌-◌, ◌*◌}
use Rattle.rules.specs.Layout.{particle_size}
use Rattle.place_lookup.proofs.+find_in.Goals as goal

pub returns-in-empty : goal.returns-in-empty
returns-in-empty t c = place_none _ _ _ c.args.place.now (omega arith)

pub returns-in-len1 : goal.returns-in-len1
returns-in-len1 t c = place_last _ _ _ c.args.place.now _ (omega arith) c.last_of.ensures

pub returns-in_err-group-in-len1-up : goal.returns-in_err-group-in-len1-up
returns-in_err-group-in-len1-up t c =
    rw c.from_residual.ensures (place_out _ _ _ _ c.args.place.now (λ z. omega arith) (λ z. omega arith) c.enter.ensures c.in_err-group-in-len1-up.was)

pub overflow_mul-group : goal.overflow_mul-group
overflow_mul-group t c =
    let a = c.args in
    let q = entered_part a.h a.s.now (get_or a.place.now 0 0) _ _ c.enter.ensures c.in_ok-group-in-len1-up.was in
    omega (arith, q.room)

pub overflow_mul-group-in-len1-up : goal.overflow_mul-group-in-len1-up
overflow_mul-group-in-len1-up t c =
    let a = c.args in
    let q = entered_part a.h a.s.now (get_or a.place.now 0 0) _ _ c.enter.ensures c.in_ok-group-in-len1-up.was in
    omega (arith, q.room)

pub find_in-requires : goal.find_in-requires
find_in-requires t c =
    let a = c.args in
    let g = c.in_ok-group-in-len1-up.group in
    let q = entered_part a.h a.s.now (get_or a.place.now 0 0) _ _ c.enter.ensures c.in_ok-group-in-len1-up.was in
    let l = part_length (particle_size * g.from) (particle_size * g.size) a.s.now _ q.room c.part-part.ensures in
    omega (arith, q.start, q.deep, q.room, l, length-take (length a.place.now - 1) (drop 1 a.place.now), length-drop 1 a.place.now)

pub returns-in_ok-group-in-len1-up : goal.returns-in_ok-group-in-len1-up
returns-in_ok-group-in-len1-up t c =
    let a = c.args in
    let g = c.in_ok-group-in-len1-up.group in
    let q = entered_part a.h a.s.now (get_or a.place.now 0 0) _ _ c.enter.ensures c.in_ok-group-in-len1-up.was in
    place_in_lem _ _ _ _ a.place.now _ _ (λ z. omega arith) (λ z. omega arith) c.enter.ensures c.in_ok-group-in-len1-up.was
    (c.find_in.ensures
    ∙ ap (λ (xs : Particles). spot_of a.insert (take (length a.place.now - 1) (drop 1 a.place.now)) g.list xs)
    (ap particles_of c.part-part.ensures ∙ particles_part _ _ a.s.now q.room))
