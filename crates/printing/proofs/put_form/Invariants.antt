use Rattle.rules.specs.Decode.{definition_count, particle_count, attribute_count}
use Rattle.printing_parts.specs.Parts.{names_of, definitions_from, particles_from, attributes_from}
use Rattle.printing.specs.Texts.{form_text}
use Rattle.printing.proofs.FormLaws.{Declaring}
use Rattle.printing.proofs.put_form.Given as goal

-- The loop's invariant: the declarations of the definitions from o on, whose particles start at `from`, written from
-- `at` on complete the form's text.
abbrev pub invariant-loop-o : goal.invariant-loop-o
invariant-loop-o l =
    Declaring l.store l.count
    (form_text (names_of l.store) 0 (definitions_from l.store (definition_count l.store) 0) (particles_from l.store (particle_count l.store) 0)
    (attributes_from l.store (attribute_count l.store) 0))
    l.initial.out l.start l.out l.at l.o l.from
