use mathlib.Core.Path.{◌≡◌}
use lib.ListN.{length}
use Rattle.row_check.specs.Walking.{before_read}
use Rattle.document_tokens.specs.Tokens.{declared_in}
use Rattle.document_reading.specs.Judging.{rows_behind}
use Rattle.document_reading.proofs.LoopLaws.{Judging}
use Rattle.document_reading.proofs.judge_by.Given as goal

-- the rows of the text that is left, judged from this state on, give the verdict; the array of rows keeps its length
abbrev pub invariant-loop-t : goal.invariant-loop-t
invariant-loop-t l =
    (length l.rows ≡ 4272) × Judging (before_read l.form) (declared_in l.form) (rows_behind l.form l.text) l.state l.here.opened l.here.depth l.here.tag l.here.count l.t

abbrev pub decreases-loop-t : goal.decreases-loop-t
decreases-loop-t l = length l.t
