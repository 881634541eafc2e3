use Prim.Native.Nat.{◌-◌}
use mathlib.Core.Path.{◌≡◌}
use lib.ListN.{length}
use Rattle.document_tokens.specs.Tokens.{declared_in}
use Rattle.document_row_writer.specs.Putting.{Kept}
use Rattle.document_row_writer.proofs.PutLaws.{Putting}
use Rattle.document_row_writer.proofs.put_rows.Given as goal

-- the first `size` bytes are read and their rows written; the arrays keep their lengths
abbrev pub invariant-loop-size : goal.invariant-loop-size
invariant-loop-size l =
    Putting l.w (declared_in l.form) l.text l.initial.here.count l.initial.here.opened l.initial.here.depth l.initial.here.tag l.limit l.initial.out l.at l.size l.here.count l.here.opened l.here.depth l.here.tag l.out l.next
    × Kept l.initial.out l.here.opened l.out
    × (length l.value ≡ 256)

abbrev pub decreases-loop-size : goal.decreases-loop-size
decreases-loop-size l = length l.text - l.size
