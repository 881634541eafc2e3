-- `planned_rows::filled_refusal` meets its contract: the walk with one row for each filling counts the places
-- (`times_of`, `places_are` of FilledLaws): if it passes the ceiling, so do the rows (`filled_past`); else `one` rows
-- at each place give the limit (`filled_counted`), from numbers in range (`places_within`, `new_small`).
use native.Mathlib.Omega.{arith}
use Rattle.lookup.specs.Bodies.{bodies_of}
use Rattle.planned_rows.specs.Planned.{fill_of}
use Rattle.planned_rows.proofs.FilledLaws.{sized_of, times_of, filled_past, places_are, places_within, new_small, filled_counted}
use Rattle.planned_rows.proofs.filled_refusal.Goals as goal

pub walk_rows-counted-requires : goal.walk_rows-counted-requires
walk_rows-counted-requires c =
    (c.requires.0, c.requires.1, sized_of c.one_row_each-each.ensures c.requires.2, omega arith)

pub returns-then-counted-eq0 : goal.returns-then-counted-eq0
returns-then-counted-eq0 c =
    let a = c.args in
    let times = times_of a.store.now c.requires.0 a.plan a.text.now c.one_row_each-each.ensures in
    let filled = fill_of a.plan a.text.now (bodies_of a.store.now) 0 in
    filled_past c.width_in-w.ensures a.form a.room _ _ filled times c.requires.5
    c.walk_rows-counted.ensures c.requires.4 c.if-counted-eq0.true

pub overflow_sub-places : goal.overflow_sub-places
overflow_sub-places c =
    let a = c.args in
    let times = times_of a.store.now c.requires.0 a.plan a.text.now c.one_row_each-each.ensures in
    let filled = fill_of a.plan a.text.now (bodies_of a.store.now) 0 in
    omega (
      arith,
      places_are c.width_in-w.ensures a.form a.room _ _ filled times c.requires.5
          c.walk_rows-counted.ensures c.if-counted-eq0.false c.next_serial-next.ensures,
    )

pub overflow_mul-new : goal.overflow_mul-new
overflow_mul-new c =
    let a = c.args in
    let times = times_of a.store.now c.requires.0 a.plan a.text.now c.one_row_each-each.ensures in
    let filled = fill_of a.plan a.text.now (bodies_of a.store.now) 0 in
    omega (
      arith,
      new_small c.width_in-w.ensures a.form a.room _ _ filled times c.requires.5
          c.walk_rows-counted.ensures c.if-counted-eq0.false c.next_serial-next.ensures,
    )

pub overflow_sub-counted-2 : goal.overflow_sub-counted-2
overflow_sub-counted-2 c =
    let a = c.args in
    let times = times_of a.store.now c.requires.0 a.plan a.text.now c.one_row_each-each.ensures in
    let filled = fill_of a.plan a.text.now (bodies_of a.store.now) 0 in
    omega (
      arith,
      places_within c.width_in-w.ensures a.form a.room _ _ filled times c.requires.5
          c.walk_rows-counted.ensures c.if-counted-eq0.false c.next_serial-next.ensures,
    )

pub overflow_add-counted : goal.overflow_add-counted
overflow_add-counted c =
    let a = c.args in
    let times = times_of a.store.now c.requires.0 a.plan a.text.now c.one_row_each-each.ensures in
    let filled = fill_of a.plan a.text.now (bodies_of a.store.now) 0 in
    omega (
      arith,
      new_small c.width_in-w.ensures a.form a.room _ _ filled times c.requires.5
          c.walk_rows-counted.ensures c.if-counted-eq0.false c.next_serial-next.ensures,
    )

pub overflow_add-next : goal.overflow_add-next
overflow_add-next c =
    let a = c.args in
    let times = times_of a.store.now c.requires.0 a.plan a.text.now c.one_row_each-each.ensures in
    let filled = fill_of a.plan a.text.now (bodies_of a.store.now) 0 in
    omega (
      arith,
      c.next_serial-next.ensures.small,
      new_small c.width_in-w.ensures a.form a.room _ _ filled times c.requires.5
          c.walk_rows-counted.ensures c.if-counted-eq0.false c.next_serial-next.ensures,
    )

pub returns : goal.returns
returns c =
    let a = c.args in
    let times = times_of a.store.now c.requires.0 a.plan a.text.now c.one_row_each-each.ensures in
    let filled = fill_of a.plan a.text.now (bodies_of a.store.now) 0 in
    filled_counted c.width_in-w.ensures a.form a.room _ _ filled times c.requires.5
    c.walk_rows-counted.ensures c.if-counted-eq0.false c.next_serial-next.ensures c.limit.ensures
