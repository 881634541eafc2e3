-- A form by the bytes of its three bodies, at a width.
use Rattle.std.specs.Prelude.{ℕ, ◌≡◌, true, List, [], ◌++◌}
use Rattle.rules.specs.Bytes.{Bytes}
use Rattle.rules.specs.Preorder.{Deep}
use Rattle.rules.specs.Layout.{FlatRow, FlatStore, definition_bytes, particle_bytes, attribute_bytes, each}
use Rattle.rules.specs.Decode.{read_bodies}
use Rattle.rules.specs.WellFormed.{within_ceilings}

-- definitions, particles and attributes, one body after the other
abbrev pub form_bytes : ℕ → FlatStore → Bytes
form_bytes w g = each definition_bytes g.definitions ++ (each particle_bytes g.particles ++ each (attribute_bytes w) g.attributes)

-- the form that such bytes are read as, for d definitions, p particles and a attributes; it has no version and no rows
unfoldable pub form_read : ℕ → Bytes → ℕ → ℕ → ℕ → FlatStore
form_read w form d p a = read_bodies w 0 0 d p a 0 form

-- the form of g alone, as `form_read` reads it
abbrev pub bare_form : FlatStore → FlatStore
bare_form g = record { version = 0; next = 0; definitions = g.definitions; particles = g.particles; attributes = g.attributes; rows = [] }

-- a store with the version of f, the form of g and other rows
abbrev pub reformed : FlatStore → FlatStore → ℕ → List (Deep FlatRow) → FlatStore
reformed f g next rows = record { version = f.version; next = next; definitions = g.definitions; particles = g.particles; attributes = g.attributes; rows = rows }

-- the bytes are those of the form that is read, which keeps within the ceilings
pub record Forms (w : ℕ) (form : Bytes) (d p a : ℕ) : Type 0 where
  pub written : form_bytes w (form_read w form d p a) ≡ form
  pub ceilings : within_ceilings (form_read w form d p a) ≡ true
