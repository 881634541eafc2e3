-- `printing::put_form` meets its contract: the invariant holds at first (`declaring_start` of FormLaws) and after each
-- definition, by the contract of `put_declarations` (`declaring_on`); past the last all are written (`declaring_done`).
-- Each of at most 64 adds at most 840000 bytes and 4294967296 particles, so that the places are in range.
use native.Mathlib.Omega.{arith}
use Rattle.printing.proofs.FormLaws.{declaring_start, declaring_on, declaring_done}
use Rattle.printing.proofs.put_form.Goals as goal

pub loop-o-init : goal.loop-o-init
loop-o-init c = declaring_start _ _ _ _ c.definition_count-count.ensures.value

pub put_declarations-at-requires : goal.put_declarations-at-requires
put_declarations-at-requires c = (
  c.requires.0,
  omega (
    arith,
    c.requires.0.definitions,
    c.requires.1,
    c.loop-o.invariant.counts,
    c.loop-o.invariant.upto,
    c.loop-o.invariant.small,
    c.loop-o.invariant.few,
  ),
  omega (
    arith,
    c.requires.0.definitions,
    c.requires.1,
    c.loop-o.invariant.counts,
    c.loop-o.invariant.upto,
    c.loop-o.invariant.small,
    c.loop-o.invariant.few,
  ),
  omega (
    arith,
    c.requires.0.definitions,
    c.requires.1,
    c.loop-o.invariant.counts,
    c.loop-o.invariant.upto,
    c.loop-o.invariant.small,
    c.loop-o.invariant.few,
  ),
)

pub definition-requires : goal.definition-requires
definition-requires c =
    omega (arith, c.requires.0.definitions, c.requires.1, c.loop-o.invariant.counts, c.loop-o.invariant.upto, c.loop-o.invariant.small, c.loop-o.invariant.few)

pub overflow_add-from : goal.overflow_add-from
overflow_add-from c =
    omega (arith, c.requires.0.definitions, c.requires.1, c.loop-o.invariant.counts, c.loop-o.invariant.upto, c.loop-o.invariant.small, c.loop-o.invariant.few)

pub loop-o-preserved : goal.loop-o-preserved
loop-o-preserved c =
    let a = c.args in
    declaring_on a.store.now _ c.loop-o.invariant (omega arith) _ c.definition.ensures _ c.definition_particles.ensures (omega arith)
    c.put_declarations-at.ensures

pub returns : goal.returns
returns c =
    declaring_done c.args.store.now _ c.loop-o.invariant (omega arith) c.requires.0.definitions
