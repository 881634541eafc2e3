-- The loop over the definitions that looks for a name.
use Prim.Native.Nat.{ℕ}
use mathlib.Core.Path.{◌≡◌, ap, ap₂, ◌∙◌}
use mathlib.Core.Bool.{Bool}
use Rattle.rules.specs.Bytes.{Bytes, same}
use Rattle.rules.specs.Layout.{FlatDefinition, definition_size}
use Rattle.rules.specs.Decode.{read_definition, read_many, definition_count}
use Rattle.layout.specs.Bodies.{record_at, Number, definitions_in}
use Rattle.layout.proofs.LayoutLaws.{definitions_read_lem}
use Rattle.lookup.specs.Bodies.{bodies_of}
use Rattle.definition_writer.specs.Bodies.{named}

abbrev pub has_name : Bytes → FlatDefinition → Bool
has_name n d = same n d.name

pub definitions_named : (bs n : Bytes) {count : ℕ} {defs : Bytes} {r : Bool} → Number (definition_count bs) count → defs ≡ definitions_in bs
    → r ≡ named n (read_many read_definition definition_size count defs) → r ≡ named n (bodies_of bs).definitions
unfolding bodies_of
definitions_named bs n e d q = q ∙ ap₂ (λ (k : ℕ) (s : Bytes). named n (read_many read_definition definition_size k s)) e.value d ∙ ap (named n) (definitions_read_lem bs)

pub record_named : (n : Bytes) (i : ℕ) (defs : Bytes) {rec name : Bytes} {r : Bool} → rec ≡ record_at definition_size i defs → name ≡ (read_definition rec).name → r ≡ same n name
    → r ≡ has_name n (read_definition (record_at definition_size i defs))
record_named n i defs at is e = e ∙ ap (same n) is ∙ ap (λ (x : Bytes). same n (read_definition x).name) at
