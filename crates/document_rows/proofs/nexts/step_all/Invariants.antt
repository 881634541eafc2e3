use Rattle.model.specs.Members.{all_members}
use Rattle.document_rows.specs.Finding.{word}
use Rattle.document_rows.specs.Coming.{coming}
use Rattle.document_rows.proofs.StepLaws.{Stepping}
use Rattle.document_rows.proofs.nexts.step_all.Given as goal

-- The loop's invariant: from `last`, with the new child `left` places on, those to come decide what all decide.
abbrev pub invariant-loop-row : goal.invariant-loop-row
invariant-loop-row l =
    Stepping (all_members l.model.part.now) l.new l.skip (word l.place l.new l.skip (coming l.fn.children)) l.last l.left (coming l.row-iterator)
