-- `filling::put_below`, `filling::put_definition`, `filling::put_group` and `filling::put_member` meet their contracts:
-- each return has its law, of FillingLaws where no file is named. `put_below` writes nothing (`below_none`), the text
-- (`below_text`) or the filling of the model (`below_group`), which is empty where no element must be there
-- (`below_nothing`, `no_element_filled` of NeededLaws). `put_definition` writes nothing at height 0 (`definition_low`),
-- else its three parts (`definition_written`). `put_group` returns where no row may be written any more (`written_stop`
-- of WrittenLaws in `row_writer`), at a particle less deep (`rest_over`), after the first member of a CHOICE
-- (`rest_first`) and past the last particle (`rest_ends`); it goes on after a particle that is passed (`rest_past`) and
-- after a member of a LIST (`rest_on`). In `put_member` the particle may be absent (`member_skips`), is an element
-- (`member_element`), a group that fills with nothing (`member_empty`, `member_nothing_lem`) or another group
-- (`member_group`). With each call falls the height or, at one height, the bytes of particles (`rank_height`,
-- `rank_part`, `rank_particles`).
use mathlib.Core.Path.{refl, sym, ◌∙◌}
use mathlib.Core.Bool.{false}
use lib.ListN.{take, drop, length-take, length-drop, length}
use Rattle.rules.specs.declared.GroupKind.TheVariants.{Sequence}
use Rattle.rules.proofs.KindLaws.{kind_none, kind_text, kind_model}
use Rattle.row_writer.proofs.WrittenLaws.{written_stop, written_room}
use Rattle.filling.proofs.FillingLaws.{rest_starts, rest_past, rest_here, rest_on, rest_first, rest_over, rest_ends, member_skips, member_element}
use Rattle.filling.proofs.FillingLaws.{member_empty, member_nothing_lem, member_group, definition_low, definition_written, below_none, below_text, below_group}
use Rattle.filling.proofs.FillingLaws.{sort_written, none_written, one_written, same_written, index_small, rank_particles, rank_part, rank_height}
use Rattle.filling.proofs.FillingLaws.{part_short, below_nothing, filled_list, filled_choice, kind_choice, kind_list}
use Rattle.filling.proofs.NeededLaws.{no_element_filled}
use native.Mathlib.Omega.{arith}
use Prim.Native.Nat.{◌<◌, ◌+◌, ◌-◌, ◌*◌}
use Rattle.rules.specs.Layout.{particle_size}
use Rattle.filling.proofs.+put_below_put_definition_put_group_put_member.Goals as goal
use Rattle.filling.proofs.+put_below_put_definition_put_group_put_member.Goals.{put_member-else-eq-via-then-eq+else-accepts_nothing, put_member-else-eq-via-else-eq}

pub put_below-put_new-requires : goal.put_below-put_new-requires
put_below-put_new-requires t c =
    let q = c.requires.1 in (q.width, q.room, omega (arith, q.deep), omega arith, q.text)

pub put_below-returns-then-needs_no_element : goal.put_below-returns-then-needs_no_element
put_below-returns-then-needs_no_element t c =
    let a = c.args in
    let model = kind_model _ (sym c.content_kind.ensures ∙ c.in-Complex.is) in
    below_nothing a.form.now a.text.now a.h a.depth a.i _ refl _ (λ e. omega (arith, model, e)) (λ e. omega (arith, model, e))
    c.model_part-s.ensures (no_element_filled Sequence 0 _ (sym c.needs_no_element.ensures ∙ c.if-needs_no_element.true))

pub put_below-put_group-requires : goal.put_below-put_group-requires
put_below-put_group-requires t c =
    let a = c.args in
    let q = c.requires.1 in
    let short =
    part_short a.form.now.definitions.now a.form.now.particles.now a.i c.model_part-s.result.now c.model_part-s.ensures in
    (omega (arith, rank_part a.h (length c.model_part-s.result.now) (omega arith)), (omega arith, q))

pub put_below-returns-in-Empty : goal.put_below-returns-in-Empty
put_below-returns-in-Empty t c =
    let a = c.args in
    below_none a.form.now a.text.now a.h a.depth a.i _ refl (kind_none _ (sym c.content_kind.ensures ∙ c.in-Empty.is))

pub put_below-returns-in-Pcdata : goal.put_below-returns-in-Pcdata
put_below-returns-in-Pcdata t c =
    let a = c.args in
    below_text a.form.now a.text.now a.h a.depth a.i _ refl (kind_text _ (sym c.content_kind.ensures ∙ c.in-Pcdata.is)) (sort_written c.from.ensures c.put_new.ensures)

pub put_below-returns-else-needs_no_element : goal.put_below-returns-else-needs_no_element
put_below-returns-else-needs_no_element t c =
    let a = c.args in
    let model = kind_model _ (sym c.content_kind.ensures ∙ c.in-Complex.is) in
    below_group a.form.now a.text.now a.h a.depth a.i _ refl _ (λ e. omega (arith, model, e)) (λ e. omega (arith, model, e))
    c.model_part-s.ensures c.put_group.ensures

pub put_definition-returns-then-h-eq0 : goal.put_definition-returns-then-h-eq0
put_definition-returns-then-h-eq0 t c =
    let a = c.args in
    definition_low a.form.now a.text.now a.h a.depth a.i (omega arith)

pub put_definition-put_new-requires : goal.put_definition-put_new-requires
put_definition-put_new-requires t c =
    let q = c.requires.1 in (q.width, q.room, omega (arith, q.deep), omega arith, omega arith)

pub put_definition-overflow_add-depth : goal.put_definition-overflow_add-depth
put_definition-overflow_add-depth t c =
    let q = c.requires.1 in
    omega (arith, q.deep)

pub put_definition-put_required-requires : goal.put_definition-put_required-requires
put_definition-put_required-requires t c =
    let q = c.requires.1 in (q.width, written_room c.put_new.ensures q.room, q.attributes, omega (arith, q.deep))

pub put_definition-overflow_sub-h : goal.put_definition-overflow_sub-h
put_definition-overflow_sub-h t c = omega arith

pub put_definition-overflow_add-depth-2 : goal.put_definition-overflow_add-depth-2
put_definition-overflow_add-depth-2 t c =
    let q = c.requires.1 in
    omega (arith, q.deep)

pub put_definition-put_below-requires : goal.put_definition-put_below-requires
put_definition-put_below-requires t c =
    let a =
    c.args in
    let q = c.requires.1 in (
      omega (arith, rank_height a.h (λ e. omega arith)),
      (
        omega arith,
        record {
          width = q.width;
          room = written_room c.put_required.ensures
              (written_room c.put_new.ensures
              q.room);
          text = q.text;
          attributes = q.attributes;
          deep = omega (arith, q.deep);
        },
      ),
    )

pub put_definition-returns : goal.put_definition-returns
put_definition-returns t c =
    let a =
    c.args in
    definition_written a.form.now a.text.now a.h a.depth a.i (λ e. omega arith)
    (sort_written c.from.ensures c.put_new.ensures) c.put_required.ensures c.put_below.ensures

pub put_group-loop-t-init : goal.put_group-loop-t-init
put_group-loop-t-init t c =
    rest_starts c.requires.1.room

pub put_group-returns-then-c-eq0 : goal.put_group-returns-then-c-eq0
put_group-returns-then-c-eq0 t c =
    c.loop-t.invariant.rest (written_stop (omega arith))

pub put_group-returns-then-own-d : goal.put_group-returns-then-own-d
put_group-returns-then-own-d t c =
    rest_over c.loop-t.invariant (omega arith) _ c.particle_depth-own.ensures (omega arith)

pub put_group-loop-t-preserved-then-is_passed : goal.put_group-loop-t-preserved-then-is_passed
put_group-loop-t-preserved-then-is_passed t c =
    rest_past c.loop-t.invariant (omega arith) _ c.particle_depth-own.ensures _ c.is_passed.ensures (omega arith) c.if-is_passed.true

pub put_group-put_member-requires : goal.put_group-put_member-requires
put_group-put_member-requires t c =
    let a = c.args in
    let q = c.requires.1 in
    let i = c.loop-t.invariant in
    let here = rest_here c.loop-t.invariant (omega arith) _ c.particle_depth-own.ensures _ c.is_passed.ensures c.if-is_passed.false in
    let fewer : 4 * length c.loop-t.t.now < 4 * length a.s.now + 1 = omega (arith, i.short) in (
      omega (arith, rank_particles a.h (4 * length c.loop-t.t.now) (4 * length a.s.now + 1) fewer),
      (omega (arith, here), omega arith, record { width = q.width; room = i.room; text = q.text; attributes = q.attributes; deep = q.deep }),
    )

pub put_group-loop-t-preserved : goal.put_group-loop-t-preserved
put_group-loop-t-preserved t c =
    let here = rest_here c.loop-t.invariant (omega arith) _ c.particle_depth-own.ensures _ c.is_passed.ensures c.if-is_passed.false in
    rest_on c.loop-t.invariant (omega arith) _ c.particle_depth-own.ensures here (omega arith) c.put_member.ensures c.in-Sequence.is

pub put_group-returns-in-Choice : goal.put_group-returns-in-Choice
put_group-returns-in-Choice t c =
    let here = rest_here c.loop-t.invariant (omega arith) _ c.particle_depth-own.ensures _ c.is_passed.ensures c.if-is_passed.false in
    rest_first c.loop-t.invariant (omega arith) _ c.particle_depth-own.ensures here (omega arith) c.put_member.ensures c.in-Choice.is

pub put_group-returns : goal.put_group-returns
put_group-returns t c = rest_ends c.loop-t.invariant (omega arith)

pub put_member-returns-then-skips : goal.put_member-returns-then-skips
put_member-returns-then-skips t c =
    let a = c.args in
    none_written a.form.now a.text.now a.h a.depth _
    (member_skips a.d a.s.now _ c.read_particle-p.ensures _ c.skips.ensures c.if-skips.true)

pub put_member-put_definition-requires : goal.put_member-put_definition-requires
put_member-put_definition-requires t c =
    let a = c.args in
    let q = c.requires.2 in
    let i = index_small a.s.now _ _ c.read_particle-p.ensures c.in-Element.is
    (c.shared_slice_known-1.given 2).fits in
    (omega (arith, rank_particles a.h 0 (4 * length a.s.now) (omega arith)), (omega arith, q))

pub put_member-returns-then-needs_no_element : goal.put_member-returns-then-needs_no_element
put_member-returns-then-needs_no_element t c =
    let a = c.args in
    none_written a.form.now a.text.now a.h a.depth _
    (member_empty a.d a.s.now _ c.read_particle-p.ensures _ c.skips.ensures c.if-skips.false _ _
    c.in-Group.is _ refl (no_element_filled _ (a.d + 1) _ (sym c.needs_no_element.ensures ∙ c.if-needs_no_element.true)))

pub put_member-returns-then-accepts_nothing : goal.put_member-returns-then-accepts_nothing
put_member-returns-then-accepts_nothing t c =
    let a = c.args in
    none_written a.form.now a.text.now a.h a.depth _
    (member_nothing_lem a.d a.s.now _ c.read_particle-p.ensures _ c.skips.ensures c.if-skips.false _ _
    c.in-Group.is _ refl _ (filled_choice _ _ (kind_choice _ c.if-eq.ensures) c.accepts_nothing.ensures) c.if-accepts_nothing.true)

pub put_member-put_group-requires : goal.put_member-put_group-requires
put_member-put_group-requires t c =
    let a = c.args in
    let q = c.requires.2 in (
      omega (
        arith,
        rank_particles a.h (4 * length (take (length a.s.now - particle_size) (drop particle_size a.s.now)) + 1) (4 * length a.s.now)
            (omega (arith, length-take (length a.s.now - particle_size) (drop particle_size a.s.now), length-drop particle_size a.s.now)),
      ),
      (omega arith, q),
    )

pub put_member-returns-in-Element : goal.put_member-returns-in-Element
put_member-returns-in-Element t c =
    let a = c.args in
    one_written a.form.now a.text.now a.h a.depth _ _
    (member_element a.d a.s.now _ c.read_particle-p.ensures _ c.skips.ensures c.if-skips.false _
    c.in-Element.is)
    c.put_definition.ensures

-- the group is a LIST, or a CHOICE that does not accept nothing
pub put_member-returns-else-eq : goal.put_member-returns-else-eq
put_member-returns-else-eq t c =
    let a = c.args in
    same_written a.form.now a.text.now a.h a.depth _ _
    (elim c.else-eq.branch [
      | put_member-else-eq-via-else-eq w ↦ member_group a.d a.s.now _ c.read_particle-p.ensures _ c.skips.ensures c.if-skips.false _ _
          c.in-Group.is _ refl false (filled_list _ _ (kind_list _ w.if-eq.ensures)) refl
      | put_member-else-eq-via-then-eq+else-accepts_nothing w ↦ member_group a.d a.s.now _ c.read_particle-p.ensures _ c.skips.ensures c.if-skips.false _ _
          c.in-Group.is _ refl _ (filled_choice _ _ (kind_choice _ w.if-eq.ensures) w.accepts_nothing.ensures) w.if-accepts_nothing.false
    ])
    c.put_group.ensures
