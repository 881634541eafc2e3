-- `print_call::print` meets its contract: the call is refused with 1 on a bad store (`prints_bad` of Laws). The first
-- print tells the length of the text, so that one longer than `out` is refused with 18 (`prints_short`) and any other
-- is written whole (`prints_all`). A store that passes has what `print_store` requires (`within_passed`).
use mathlib.Core.Path.{ap}
use mathlib.Core.Bool.{not}
use native.Mathlib.Omega.{arith}
use Rattle.print_call.proofs.Laws.{within_passed, prints_bad, prints_short, prints_all}
use Rattle.print_call.proofs.print.Goals as goal

pub returns-then-not-passes : goal.returns-then-not-passes
returns-then-not-passes c =
    prints_bad c.args.store.now c.args.out.now (ap not c.if-not-passes.true) c.passes.ensures

pub print_store-length-requires : goal.print_store-length-requires
print_store-length-requires c =
    within_passed c.args.store.now (ap not c.if-not-passes.false) c.passes.ensures

pub returns-then-length-out : goal.returns-then-length-out
returns-then-length-out c =
    prints_short c.args.store.now c.args.out.now (ap not c.if-not-passes.false) c.passes.ensures c.print_store-length.ensures
    (omega (arith, c.if-length-out.true))

pub print_store-requires : goal.print_store-requires
print_store-requires c =
    within_passed c.args.store.now (ap not c.if-not-passes.false) c.passes.ensures

pub returns : goal.returns
returns c =
    prints_all c.args.store.now c.args.out.now (ap not c.if-not-passes.false) c.passes.ensures c.print_store-length.ensures
    (omega (arith, c.if-length-out.false)) c.print_store.ensures
