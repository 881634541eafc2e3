-- `declaration_printing::put_member` and `declaration_printing::put_members` meet their contracts: what `put_member`
-- writes is `member_text`, for an element, no group (`element_stepped` of MemberLaws), and for a group (`group_stepped`);
-- the sign has at most one byte (`sign_short`), so that the places are in range. In `put_members` a deeper particle is
-- passed (`walk_deeper` of WalkLaws in `printing_parts`), one less deep or the end of the particles ends the text
-- (`walk_stops`, `walk_ends`), and one of this depth is written (`walk_here`, with `members_tree` of MemberTexts).
-- Twice the number of particles left, plus 1 for `put_members`, falls with each call.
use mathlib.Core.Path.{◌≡◌, ap, ◌∙◌}
use mathlib.Core.Bool.{false}
use mathlib.Core.List.{List, []}
use Prim.Native.Nat.{suc, ◌+◌}
use native.Mathlib.Omega.{arith}
use Rattle.rules.specs.Layout.{particle_size}
use Rattle.rules.specs.Preorder.{build}
use Rattle.rules.specs.Decode.{read_particle}
use Rattle.codec.proofs.Writers.{laid_none}
use Rattle.printing_parts.specs.Parts.{particle_part, particles_from, names_of}
use Rattle.declaration_printing.proofs.MemberTexts.{members_tree, members_bare}
use Rattle.printing_parts.proofs.PartLaws.{particle_step}
use Rattle.lookup.proofs.Laws.{from_none}
use Rattle.printing_parts.proofs.WalkLaws.{walk_start, walk_deeper, walk_here, walk_stops, walk_ends}
use Rattle.declaration_printing.proofs.MemberLaws.{sign_short, element_stepped, group_stepped}
use Prim.Native.Nat.{ℕ}
use Rattle.declaration_printing.proofs.+put_member_put_members.Goals as goal

pub put_member-put-named-requires : goal.put_member-put-named-requires
put_member-put-named-requires t c =
    omega (arith, sign_short c.args.kind c.args.first)

pub put_member-put_mark-requires : goal.put_member-put_mark-requires
put_member-put_mark-requires t c =
    omega (arith, sign_short c.args.kind c.args.first)

pub put_member-returns-in_default : goal.put_member-returns-in_default
put_member-returns-in_default t c =
    let a = c.args in
    element_stepped a.store.now a.end a.i a.depth a.kind a.first _ c.particle-bytes.ensures (omega arith)
    c.particle_quantifier.ensures c.from-quantifier.ensures c.put_separator-signed.ensures _
    c.in_default.ensures c.particle_index-index.ensures c.name_of.ensures c.put-named.ensures c.put_mark.ensures

pub put_member-put_u8-opened-requires : goal.put_member-put_u8-opened-requires
put_member-put_u8-opened-requires t c =
    omega (arith, sign_short c.args.kind c.args.first)

pub put_member-put_members-below-requires : goal.put_member-put_members-below-requires
put_member-put_members-below-requires t c =
    (omega arith, record { few = omega arith; deep = omega arith; room = omega (arith, sign_short c.args.kind c.args.first) })

pub put_member-put_u8-closed-requires : goal.put_member-put_u8-closed-requires
put_member-put_u8-closed-requires t c =
    omega (
      arith,
      sign_short c.args.kind c.args.first,
      c.put_members-below.ensures.small,
    )

pub put_member-put_mark-requires-2 : goal.put_member-put_mark-requires-2
put_member-put_mark-requires-2 t c =
    omega (
      arith,
      sign_short c.args.kind c.args.first,
      c.put_members-below.ensures.small,
      c.put_u8-closed.ensures.next,
      c.put_u8-opened.ensures.next,
      c.put_separator-signed.ensures.next,
      c.requires.0.room,
      c.requires.1,
    )

pub put_member-returns : goal.put_member-returns
put_member-returns t c =
    let a = c.args in
    group_stepped a.store.now a.end a.i a.depth a.kind a.first _ c.particle-bytes.ensures c.requires.1
    c.particle_quantifier.ensures c.from-quantifier.ensures c.put_separator-signed.ensures _ c.in-Some.ensures
    c.put_u8-opened.ensures c.put_members-below.ensures c.put_u8-closed.ensures c.put_mark-2.ensures

pub put_members-loop-i-init : goal.put_members-loop-i-init
put_members-loop-i-init t c = walk_start _ _ _ _ _ _

pub put_members-returns-then-d-depth : goal.put_members-returns-then-d-depth
put_members-returns-then-d-depth t c =
    let a = c.args in
    let d : c.particle_depth-d.result ≡ (read_particle (particle_part a.store.now c.loop-i.i)).depth =
    c.particle_depth-d.ensures ∙ ap (λ (b : List ℕ). (read_particle b).depth) c.particle.ensures in
    walk_stops c.loop-i.invariant (read_particle (particle_part a.store.now c.loop-i.i)) []
    (particle_step a.store.now a.end c.loop-i.i (omega arith)) (omega arith)
    (members_bare (names_of a.store.now) a.kind c.loop-i.first) (omega arith) laid_none

pub put_members-put_member-member-requires : goal.put_members-put_member-member-requires
put_members-put_member-member-requires t c =
    (omega (arith, c.loop-i.invariant.onward), (record { few = omega arith; deep = omega arith; room = omega (arith, c.loop-i.invariant.small) }, omega arith, omega arith))

pub put_members-loop-i-smaller-then-d-depth-2 : goal.put_members-loop-i-smaller-then-d-depth-2
put_members-loop-i-smaller-then-d-depth-2 t c =
    omega (arith, c.put_member-member.ensures.onward)

pub put_members-loop-i-preserved-then-d-depth-2 : goal.put_members-loop-i-preserved-then-d-depth-2
put_members-loop-i-preserved-then-d-depth-2 t c =
    let a = c.args in
    let d : c.particle_depth-d.result ≡ (read_particle (particle_part a.store.now c.loop-i.i)).depth =
    c.particle_depth-d.ensures ∙ ap (λ (b : List ℕ). (read_particle b).depth) c.particle.ensures in
    walk_here c.loop-i.invariant (read_particle (particle_part a.store.now c.loop-i.i)) false _
    (particle_step a.store.now a.end c.loop-i.i (omega arith)) (omega arith) (omega arith)
    (λ t. members_tree (names_of a.store.now) a.kind c.loop-i.first
    (read_particle (particle_part a.store.now c.loop-i.i)).row
    (build (particles_from a.store.now a.end (c.loop-i.i + 1)) (suc a.depth)) t)
    c.put_member-member.ensures

pub put_members-loop-i-preserved : goal.put_members-loop-i-preserved
put_members-loop-i-preserved t c =
    let a = c.args in
    let d : c.particle_depth-d.result ≡ (read_particle (particle_part a.store.now c.loop-i.i)).depth =
    c.particle_depth-d.ensures ∙ ap (λ (b : List ℕ). (read_particle b).depth) c.particle.ensures in
    walk_deeper c.loop-i.invariant (read_particle (particle_part a.store.now c.loop-i.i)) (particle_step a.store.now a.end c.loop-i.i (omega arith)) (omega arith)

pub put_members-returns : goal.put_members-returns
put_members-returns t c =
    let a = c.args in
    walk_ends c.loop-i.invariant [] (from_none read_particle particle_size _ a.end c.loop-i.i (omega arith))
    (members_bare (names_of a.store.now) a.kind c.loop-i.first) (omega arith) laid_none
