-- `store_limits::limit` meets its contract: each return is the first limit that is passed, or 0: 16 for the rows
-- (`limit_ceiling` of WithinLaws), 17 for the serials (`limit_serials`), 18 for the bytes (`limit_buffer`), none
-- (`limit_none`); the bytes are by the contracts of `row_size`, `times` and `header_size`.
use native.Mathlib.Omega.{arith}
use mathlib.Core.Path.{ap, ◌∙◌}
use Prim.Native.Nat.{ℕ, ◌*◌}
use Rattle.store_limits.proofs.WithinLaws.{limit_ceiling, limit_serials, limit_buffer, limit_none}
use Rattle.store_limits.proofs.limit.Goals as goal

pub returns-then-count-ge-ROWS_PAST_CEILING : goal.returns-then-count-ge-ROWS_PAST_CEILING
returns-then-count-ge-ROWS_PAST_CEILING c = let a = c.args in
    limit_ceiling a.w a.form a.count a.next a.room (omega (arith, c.if-count-ge-ROWS_PAST_CEILING.true))

pub returns-then-next-gt4294967295 : goal.returns-then-next-gt4294967295
returns-then-next-gt4294967295 c =
    let a = c.args in
    limit_serials a.w a.form a.count a.next a.room (omega (arith, c.if-count-ge-ROWS_PAST_CEILING.false)) (omega (arith, c.if-next-gt4294967295.true))

pub returns-then-header_size-form : goal.returns-then-header_size-form
returns-then-header_size-form c =
    let a = c.args in
    let rows = c.times-rows.ensures.value ∙ ap (λ (n : ℕ). n * a.count) c.row_size.ensures in
    limit_buffer a.w a.form a.count a.next a.room (omega (arith, c.if-count-ge-ROWS_PAST_CEILING.false)) (omega (arith, c.if-next-gt4294967295.false))
    (omega (arith, c.if-header_size-form.true, c.header_size.ensures, rows))

pub returns : goal.returns
returns c =
    let a = c.args in
    let rows = c.times-rows.ensures.value ∙ ap (λ (n : ℕ). n * a.count) c.row_size.ensures in
    limit_none a.w a.form a.count a.next a.room
    (record {
      rows = omega (arith, c.if-count-ge-ROWS_PAST_CEILING.false);
      serials = omega (arith, c.if-next-gt4294967295.false);
      bytes = omega (arith, c.if-header_size-form.false, c.header_size.ensures, rows);
    })
