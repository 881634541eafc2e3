-- `filling::accepts_nothing` and `filling::member_accepts_nothing` meet their contracts: a member is judged by its
-- quantifier (`absent_skips` of FillingLaws), as an element (`absent_element`), or as a group by its members
-- (`absent_group`). In `accepts_nothing` the invariant holds at first (`unsettled_starts`); a particle
-- that the group goes past is passed (`unsettled_past`), any other is a member (`unsettled_here`), which settles the
-- answer (`unsettled_by`) or leaves it to those after it (`unsettled_on`); a particle outside the group or the end of s
-- gives the answer of no members (`unsettled_over`, `unsettled_ends`). In a group there are fewer particles, so the
-- cycle ends.
use mathlib.Core.Path.{refl}
use native.Mathlib.Omega.{arith}
use lib.ListN.{length, drop, length-take, length-drop}
use Rattle.filling.proofs.FillingLaws.{unsettled_starts, unsettled_ends, unsettled_over, unsettled_past, unsettled_here, unsettled_by}
use Rattle.filling.proofs.FillingLaws.{no_kind, kind_there, unsettled_on, absent_skips, absent_element, absent_group}
use Prim.Native.Nat.{◌-◌}
use Rattle.rules.specs.Layout.{particle_size}
use Rattle.filling.proofs.+accepts_nothing_member_accepts_nothing.Goals as goal

pub accepts_nothing-loop-t-init : goal.accepts_nothing-loop-t-init
accepts_nothing-loop-t-init t c = let a = c.args in unsettled_starts a.kind a.d a.s.now

pub accepts_nothing-returns-then-own-d : goal.accepts_nothing-returns-then-own-d
accepts_nothing-returns-then-own-d t c =
    unsettled_over c.loop-t.invariant (omega arith) _ c.particle_depth-own.ensures (omega arith) c.nothing_of_none.ensures

pub accepts_nothing-loop-t-smaller-then-is_passed : goal.accepts_nothing-loop-t-smaller-then-is_passed
accepts_nothing-loop-t-smaller-then-is_passed t c =
    let t = c.loop-t.t.now in
    omega (arith, length-take (length t - particle_size) (drop particle_size t), length-drop particle_size t)

pub accepts_nothing-loop-t-preserved-then-is_passed : goal.accepts_nothing-loop-t-preserved-then-is_passed
accepts_nothing-loop-t-preserved-then-is_passed t c =
    unsettled_past c.loop-t.invariant (omega arith) _ c.particle_depth-own.ensures (omega arith) _ c.is_passed.ensures c.if-is_passed.true

pub accepts_nothing-member_accepts_nothing-member-requires : goal.accepts_nothing-member_accepts_nothing-member-requires
accepts_nothing-member_accepts_nothing-member-requires t c =
    let here = unsettled_here c.loop-t.invariant (omega arith) _ c.particle_depth-own.ensures (omega arith) _ c.is_passed.ensures c.if-is_passed.false in
    (omega (arith, c.loop-t.invariant.short), (omega (arith, here), omega arith))

pub accepts_nothing-returns-then-is_settled : goal.accepts_nothing-returns-then-is_settled
accepts_nothing-returns-then-is_settled t c =
    unsettled_by c.loop-t.invariant (omega arith) _ c.particle_depth-own.ensures (omega arith) _ c.is_passed.ensures c.if-is_passed.false
    _ c.member_accepts_nothing-member.ensures _ c.is_settled.ensures c.if-is_settled.true

pub accepts_nothing-loop-t-smaller : goal.accepts_nothing-loop-t-smaller
accepts_nothing-loop-t-smaller t c =
    let t = c.loop-t.t.now in
    omega (arith, length-take (length t - particle_size) (drop particle_size t), length-drop particle_size t)

pub accepts_nothing-loop-t-preserved : goal.accepts_nothing-loop-t-preserved
accepts_nothing-loop-t-preserved t c =
    unsettled_on c.loop-t.invariant (omega arith) _ c.particle_depth-own.ensures (omega arith) _ c.is_passed.ensures c.if-is_passed.false
    _ c.member_accepts_nothing-member.ensures _ c.is_settled.ensures c.if-is_settled.false

pub accepts_nothing-returns : goal.accepts_nothing-returns
accepts_nothing-returns t c =
    unsettled_ends c.loop-t.invariant (omega arith) c.nothing_of_none-2.ensures

pub member_accepts_nothing-returns-then-is_optional : goal.member_accepts_nothing-returns-then-is_optional
member_accepts_nothing-returns-then-is_optional t c =
    let a = c.args in
    absent_skips a.d a.t.now _ c.is_optional.ensures c.if-is_optional.true

pub member_accepts_nothing-accepts_nothing-requires : goal.member_accepts_nothing-accepts_nothing-requires
member_accepts_nothing-accepts_nothing-requires t c =
    let s = c.args.t.now in
    (omega (arith, length-take (length s - particle_size) (drop particle_size s), length-drop particle_size s), omega arith)

pub member_accepts_nothing-returns-in_default : goal.member_accepts_nothing-returns-in_default
member_accepts_nothing-returns-in_default t c =
    let a = c.args in
    absent_element a.d a.t.now _ c.is_optional.ensures c.if-is_optional.false _ refl (no_kind _ c.in_default.ensures)

pub member_accepts_nothing-returns : goal.member_accepts_nothing-returns
member_accepts_nothing-returns t c =
    let a = c.args in
    let kind = kind_there _ _ c.in-Some.ensures in
    absent_group a.d a.t.now _ c.is_optional.ensures c.if-is_optional.false _ refl _ _ kind.0 kind.1 c.accepts_nothing.ensures
