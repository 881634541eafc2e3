-- `escaping::put_escaped` meets its contract: a plain value is its own escape by the contract of `is_plain`, so that it
-- is written as it is (`laid_as` of Writers). Else each byte that is written, escaped, keeps the invariant
-- (`escaping_on` of Laws), and at the end no byte is left to write (`escaping_done`).
use mathlib.Core.Path.{refl}
use native.Mathlib.Omega.{arith}
use Rattle.codec.proofs.Writers.{laid_as}
use Rattle.escaping.proofs.Laws.{escaping_on, escaping_done}
use Rattle.escaping.proofs.put_escaped.Goals as goal

pub put-requires : goal.put-requires
put-requires c = omega arith

pub returns-then-is_plain : goal.returns-then-is_plain
returns-then-is_plain c =
    laid_as (c.is_plain.ensures c.if-is_plain.true) c.put.ensures

pub loop-x-init : goal.loop-x-init
loop-x-init c = record { goes = λ r o l. l; small = omega arith; inside = omega arith; long = refl }

pub put_escaped_byte-at-requires : goal.put_escaped_byte-at-requires
put_escaped_byte-at-requires c = omega arith

pub loop-x-preserved : goal.loop-x-preserved
loop-x-preserved c =
    escaping_on c.args.value.now _ c.loop-x.invariant (omega arith) refl c.put_escaped_byte-at.ensures

pub returns : goal.returns
returns c = escaping_done _ c.loop-x.invariant (omega arith)
