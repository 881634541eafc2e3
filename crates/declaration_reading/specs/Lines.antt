-- The lines of a text from the front, and what the declarations among them say.
use Rattle.std.specs.Prelude.{ℕ, suc, ◌+◌, ◌*◌, ◌<◌, ◌≤◌, ◌≡◌, Bool, true, false, List, [], ◌∷◌, ◌++◌, map, length, drop, Option, None, IsSomeAnd}
use Rattle.rules.specs.Bytes.{Bytes}
use Rattle.rules.specs.Layout.{le, definition_bytes, particle_bytes, attribute_bytes, each}
use Rattle.rules.specs.Decode.{flat_name}
use Rattle.codec.specs.Laid.{Laid}
use Rattle.layout.specs.Bodies.{Width}
use Rattle.layout.specs.Header.{contents}
use Rattle.text_scan.specs.Scan.{front_while, after_while, no_line_feed}
use Rattle.declaration_scan.specs.Declared.{is_definition, definitions_of_lines, particles_of_lines, attributes_of_lines, declarations}
use Rattle.declaration_scan.specs.Names.{written_names}
use Rattle.model_scan.specs.Scanning.{shallow}
use Rattle.declaration_reading.specs.declared.Body.{Body}
use Rattle.declaration_reading.specs.declared.Body.TheVariants.{Definitions, Particles, Attributes}

-- the first line, and the lines after it
abbrev pub first_line : Bytes → Bytes
first_line txt = front_while no_line_feed txt

abbrev pub rest_lines : Bytes → Bytes
rest_lines txt = drop 1 (after_while no_line_feed txt)

-- a text whose first line is a declaration, cut after it
pub record Cut (txt line rest : Bytes) : Type 0 where
  pub declared : declarations txt ≡ line ∷ declarations rest
  pub some : 1 ≤ length line
  pub shorter : length line + length rest ≤ length txt

-- what lines say of a form, counted: neither names nor a width matter for the numbers
pub record Counted (ls : List Bytes) (definitions particles attributes : ℕ) (low : Bool) : Type 0 where
  pub definitions_are : definitions ≡ length (definitions_of_lines ls)
  pub particles_are : particles ≡ length (particles_of_lines [] ls)
  pub attributes_are : attributes ≡ length (attributes_of_lines 0 0 ls)
  pub low_is : low ≡ shallow (particles_of_lines [] ls)

-- how many definitions stand before the next line
abbrev pub owners_after : Bytes → ℕ → ℕ
owners_after l o = elim (is_definition l) [ true ↦ suc o | false ↦ o ]

-- the three bodies that lines say; of attributes o definitions stand before the lines
unfoldable pub said_definitions : List Bytes → Bytes
said_definitions ls = each definition_bytes (definitions_of_lines ls)

unfoldable pub said_particles : List Bytes → List Bytes → Bytes
said_particles ns ls = each particle_bytes (particles_of_lines ns ls)

unfoldable pub said_attributes : ℕ → ℕ → List Bytes → Bytes
said_attributes w o ls = each (attribute_bytes w) (attributes_of_lines w o ls)

-- one of them; the particles take the places of names from definitions that are written
abbrev pub said_body : Body → Bytes → ℕ → List Bytes → Bytes
said_body Definitions defs o ls = said_definitions ls
said_body (Particles n) defs o ls = said_particles (written_names n defs) ls
said_body (Attributes w) defs o ls = said_attributes w o ls

-- .. and what it asks for besides the lines
abbrev pub BodyAsks : Body → Bytes → Type 0
BodyAsks Definitions defs = Unit
BodyAsks (Particles n) defs = (n ≤ 64) × (20 * n ≤ length defs)
BodyAsks (Attributes w) defs = Width w

-- ---- the form
-- the header of a store without rows, of these counts
unfoldable pub form_head : ℕ → ℕ → ℕ → ℕ → ℕ → Bytes
form_head version w d p a = le 4 version ++ (le 4 1 ++ contents w d p a 0)

-- the bodies of the form that lines say
unfoldable pub form_bodies : ℕ → List Bytes → Bytes
form_bodies w ls = said_definitions ls ++ (said_particles (map flat_name (definitions_of_lines ls)) ls ++ said_attributes w 0 ls)

-- what lines say that o definitions stand before is within the ceilings
pub record FormFits (o : ℕ) (ls : List Bytes) : Type 0 where
  pub definitions : o + length (definitions_of_lines ls) ≤ 64
  pub particles : length (particles_of_lines [] ls) ≤ 256
  pub attributes : length (attributes_of_lines 0 0 ls) ≤ 64
  pub low : shallow (particles_of_lines [] ls) ≡ true

-- what lines say of a body can be written from `at` on
pub record Ready (body : Body) (defs : Bytes) (at o : ℕ) (ls : List Bytes) : Type 0 where
  pub asks : BodyAsks body defs
  pub fits : FormFits o ls
  pub room : at + length (said_body body defs o ls) < 1152921504606846976

-- the form is written, or there is none
pub record FormRead (bs : Bytes) (fits : Bool) (form : Bytes) (r : Option ℕ) (form' : Bytes) : Type 0 where
  pub written : fits ≡ true → IsSomeAnd r (λ n. Laid bs form 0 n form')
  pub refused : fits ≡ false → r ≡ None
