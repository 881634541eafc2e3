-- `escaping::put_escaped_byte` meets its contract: each of the first four arms writes the escape of its byte, and the
-- last arm a byte that is none of the four and so its own escape (`escape_other` of Laws).
use native.Mathlib.Omega.{arith}
use mathlib.Core.Path.{ap}
use Rattle.rules.specs.Print.{escape_byte}
use Rattle.codec.proofs.Writers.{laid_as}
use Rattle.escaping.proofs.Laws.{escape_other}
use Rattle.escaping.proofs.put_escaped_byte.Goals as goal

pub returns-in-38 : goal.returns-in-38
returns-in-38 c =
    laid_as (ap escape_byte c.in-38.is) c.put.ensures

pub returns-in-60 : goal.returns-in-60
returns-in-60 c =
    laid_as (ap escape_byte c.in-60.is) c.put-in-60.ensures

pub returns-in-62 : goal.returns-in-62
returns-in-62 c =
    laid_as (ap escape_byte c.in-62.is) c.put-in-62.ensures

pub returns-in-34 : goal.returns-in-34
returns-in-34 c =
    laid_as (ap escape_byte c.in-34.is) c.put-in-34.ensures

pub returns-in_default : goal.returns-in_default
returns-in_default c =
    laid_as (escape_other _ (omega arith) (omega arith) (omega arith) (omega arith)) c.put_u8.ensures
