use Rattle.rules.specs.Decode.{of_owner, attribute_count}
use Rattle.printing_parts.specs.Parts.{attributes_from}
use Rattle.declaration_printing.specs.Declarations.{attributes_text}
use Rattle.declaration_printing.proofs.LineLaws.{Listing}
use Rattle.declaration_printing.proofs.put_attributes.Given as goal

-- The loop's invariant: the lines of the attributes from i on that are the owner's, written from `at` on, complete
-- those of all.
abbrev pub invariant-loop-i : goal.invariant-loop-i
invariant-loop-i l = Listing l.store l.owner l.o l.count (attributes_text l.owner (of_owner l.o (attributes_from l.store (attribute_count l.store) 0))) l.initial.out l.start l.out l.at l.i
