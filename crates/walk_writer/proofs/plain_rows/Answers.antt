-- `walk_writer::plain_rows` meets its contract: the invariant holds after each row that is plain (`staying_step` of
-- PlainLaws); at the first that is not, and past the last, it is the contract (`staying_end`); the numbers of a row are
-- low (`staying_fair`).
use native.Mathlib.Omega.{arith}
use mathlib.Core.Path.{refl, sym, ◌∙◌}
use Rattle.walk_writer.proofs.PlainLaws.{staying_end, staying_fair, staying_step}
use Rattle.walk_writer.proofs.plain_rows.Goals as goal

pub is_plain-requires : goal.is_plain-requires
is_plain-requires c =
    let plan = c.requires.1 in (
      plan.definitions,
      plan.attributes,
      staying_fair c.loop-m.invariant c.loop-m-test.true _ c.row_size-size.ensures c.read_head-h.ensures,
    )

pub returns-then-not-is_plain : goal.returns-then-not-is_plain
returns-then-not-is_plain c =
    staying_end c.loop-m.invariant _ refl

pub closed-u-requires : goal.closed-u-requires
closed-u-requires c =
    staying_fair c.loop-m.invariant c.loop-m-test.true _ c.row_size-size.ensures c.read_head-h.ensures

pub kept-q-requires : goal.kept-q-requires
kept-q-requires c =
    staying_fair c.loop-m.invariant c.loop-m-test.true _ c.row_size-size.ensures c.read_head-h.ensures

pub loop-m-preserved : goal.loop-m-preserved
loop-m-preserved c =
    staying_step c.loop-m.invariant c.loop-m-test.true _ c.row_size-size.ensures c.read_head-h.ensures
    (sym c.is_plain.ensures ∙ c.if-not-is_plain.false) c.closed-u.ensures c.kept-q.ensures

pub returns : goal.returns
returns c =
    staying_end c.loop-m.invariant _ (omega arith)
