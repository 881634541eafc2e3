use Rattle.document_rows.specs.Finding.{is_parent}
use Rattle.document_rows.proofs.SuffixLaws.{Seeking}
use Rattle.document_rows.proofs.parent_at.Given as goal

-- The loop's invariant: the search from row i on finds the parent that the search from the first row on finds.
abbrev pub invariant-loop-i : goal.invariant-loop-i
invariant-loop-i l = Seeking l.rows.width (is_parent l.element) l.rows.bytes.now l.rows.count l.i
