-- The text of a store in terms of the records of its bodies.
use Rattle.std.specs.Prelude.{ℕ, ◌≤◌, take, List, ◌++◌, map, ◌≡◌}
use Rattle.rules.specs.Bytes.{Bytes, concat}
use Rattle.rules.specs.Preorder.{Deep}
use Rattle.rules.specs.Layout.{FlatDefinition, FlatParticle, FlatAttribute}
use Rattle.rules.specs.Decode.{read_form, of_owner, definition_count, particle_count, attribute_count, row_count, unflat}
use Rattle.rules.specs.Print.{form_lines, printed}
use Rattle.printing_parts.specs.Parts.{particles_from}
use Rattle.lookup.specs.Bodies.{bodies_of}
use Rattle.declaration_printing.specs.Declarations.{definition_text, attributes_text}

-- ---- declarations
-- a definition with its attributes; its number is o, and its particles are the first of ps
unfoldable pub declarations_text : List Bytes → ℕ → FlatDefinition → List (Deep FlatParticle) → List FlatAttribute → Bytes
declarations_text ns o d ps cs = definition_text ns d (take d.particles ps) ++ attributes_text d.name (of_owner o cs)

-- the form, of definitions numbered from o on
unfoldable pub form_text : List Bytes → ℕ → List FlatDefinition → List (Deep FlatParticle) → List FlatAttribute → Bytes
form_text ns o ds ps cs = concat (map concat (form_lines (read_form ns o ds ps cs)))

-- r is past n particles from number `from` on, or past the last
pub record Ends (bs : Bytes) (from n r : ℕ) : Type 0 where
  pub taken : take n (particles_from bs (particle_count bs) from) ≡ particles_from bs r from
  pub upto : r ≤ particle_count bs

-- ---- the whole, of a byte string that need not pass
unfoldable pub text_of : Bytes → Bytes
text_of bs = printed (unflat (bodies_of bs))

-- the counts of a byte string are within the ceilings
pub record Within (bs : Bytes) : Type 0 where
  pub definitions : definition_count bs ≤ 64
  pub particles : particle_count bs ≤ 256
  pub attributes : attribute_count bs ≤ 64
  pub rows : row_count bs ≤ 4096
