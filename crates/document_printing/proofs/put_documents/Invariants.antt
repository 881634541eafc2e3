use mathlib.Core.Bool.{Bool, true}
use Prim.Native.Nat.{◌-◌}
use Rattle.rules.specs.Store.{Forest}
use Rattle.rules.specs.Preorder.{build}
use Rattle.rules.specs.Layout.{FlatRow}
use Rattle.printing_parts.specs.Parts.{names_of, attribute_names_of}
use Rattle.document_printing.specs.Documents.{documents_text}
use Rattle.printing_parts.proofs.WalkLaws.{Walk}
use Rattle.document_printing.specs.Coming.{rows_coming}
use Rattle.document_printing.proofs.put_documents.Given as goal

-- The loop's invariant: the text of the documents from row i on, written from `at` on, completes that of all documents.
abbrev pub invariant-loop-i : goal.invariant-loop-i
invariant-loop-i l =
    Walk (rows_coming l.rows) (λ (q : Bool) (f : Forest FlatRow). documents_text (names_of l.store) (attribute_names_of l.store) f)
    (documents_text (names_of l.store) (attribute_names_of l.store) (build (rows_coming l.rows 0) 0)) l.rows.count 0 0 l.start l.initial.out l.i l.at true l.out

abbrev pub decreases-loop-i : goal.decreases-loop-i
decreases-loop-i l = l.rows.count - l.i
