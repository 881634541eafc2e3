use mathlib.Core.Bool.{true}
use Prim.Native.Nat.{◌+◌, ◌*◌, ◌-◌}
use Rattle.rules.specs.Preorder.{build}
use Rattle.printing_parts.specs.Parts.{names_of, attribute_names_of}
use Rattle.document_printing.specs.Documents.{rows_text}
use Rattle.printing_parts.proofs.WalkLaws.{Walk}
use Rattle.document_printing.specs.Coming.{rows_coming}
use Rattle.document_printing.proofs.Printer.+put_element_put_row_put_rows.Given as goal

abbrev pub decreases-put_element : goal.decreases-put_element
decreases-put_element l = 3 * (l.self.now.rows.count - l.i)

abbrev pub decreases-put_row : goal.decreases-put_row
decreases-put_row l = 3 * (l.self.now.rows.count - l.i) + 1

abbrev pub decreases-put_rows : goal.decreases-put_rows
decreases-put_rows l = 3 * (l.self.now.rows.count - l.from) + 2

-- The loop's invariant: the text of the rows of this depth from i on, written from `at` on, completes that of those
-- from `from` on; `opened` says whether the start tag is still open.
abbrev pub invariant-put_rows-loop-i : goal.invariant-put_rows-loop-i
invariant-put_rows-loop-i l =
    let text = rows_text (names_of l.self.store.now) (attribute_names_of l.self.store.now) in
    let coming = rows_coming l.self.rows in
    Walk coming text (text true (build (coming l.from) l.depth)) l.self.rows.count l.from l.depth l.start l.initial.out l.i l.at l.opened l.out

abbrev pub decreases-put_rows-loop-i : goal.decreases-put_rows-loop-i
decreases-put_rows-loop-i l = l.self.rows.count - l.i
