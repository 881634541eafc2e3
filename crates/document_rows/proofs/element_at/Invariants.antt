use Rattle.document_rows.specs.Finding.{is_this}
use Rattle.document_rows.proofs.SuffixLaws.{Seeking}
use Rattle.document_rows.proofs.element_at.Given as goal

-- The loop's invariant: the search from row i on finds the row that the search from the first row on finds.
abbrev pub invariant-loop-i : goal.invariant-loop-i
invariant-loop-i l = Seeking l.rows.width (is_this l.element) l.rows.bytes.now l.rows.count l.i
