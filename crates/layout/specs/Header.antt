-- The header of a store.
use Rattle.std.specs.Prelude.{ℕ, ◌+◌, ◌*◌, ◌++◌, take}
use Rattle.rules.specs.Bytes.{Bytes}
use Rattle.rules.specs.Layout.{le, entry, header_size, definition_size, particle_size, attribute_size}

-- the table of contents at a width, for these counts
unfoldable pub contents : ℕ → ℕ → ℕ → ℕ → ℕ → Bytes
contents w d p a r =
    entry header_size d
    ++ (entry (header_size + definition_size * d) p
    ++ (entry (header_size + definition_size * d + particle_size * p) a ++ entry (header_size + definition_size * d + particle_size * p + attribute_size w * a) r))

-- the header of a byte string with another next serial and other counts
unfoldable pub headed : ℕ → ℕ → ℕ → ℕ → ℕ → ℕ → Bytes → Bytes
headed w next d p a r bs = take 4 bs ++ (le 4 next ++ contents w d p a r)
