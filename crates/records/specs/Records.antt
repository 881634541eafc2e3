-- The tests of single records and of the header that the check makes, on their bytes.
use Rattle.std.specs.Prelude.{ℕ, zero, suc, ◌+◌, ◌*◌, ◌-◌, Bool, true, ◌&&◌, ◌||◌, not, eqb, leb, ltb, length, take, drop, get_or}
use Rattle.rules.specs.Bytes.{Bytes}
use Rattle.rules.specs.Layout.{name_width, header_size, definition_size, particle_size, attribute_size, row_size}
use Rattle.rules.specs.Decode.{number_at, read_definition, read_attribute, read_row, definition_count, particle_count, attribute_count, row_count, sized, sort_of}
use Rattle.rules.specs.WellFormed.{stored_name, is_value, is_fill}
use Rattle.rules.specs.Passing.{known_version}
use Rattle.byte_check.specs.Zeros.{zeros}
use Rattle.layout.specs.Fields.{definition_entry_at, particle_entry_at, attribute_entry_at, row_entry_at, version_at, next_at, definition_name_at, attribute_name_at}
use Rattle.layout.specs.Fields.{attribute_value_at, attribute_length, row_value_at, row_length, unused_fit}

-- a field of `width` bytes at `at`, of which the first `used` are used and the others zero
abbrev pub used : Bytes → ℕ → ℕ → Bytes
used bs at l = take l (drop at bs)

abbrev pub filled : Bytes → ℕ → ℕ → ℕ → Bool
filled bs at l width = leb l width && zeros (take (width - l) (drop (at + l) bs))

-- a name with its length before it
unfoldable pub name_fits : Bytes → ℕ → Bool
name_fits bs at = stored_name (used bs (suc at) (get_or bs at 0)) && filled bs (suc at) (get_or bs at 0) name_width

-- a value of at most w bytes at `at`, of length l
unfoldable pub value_fits : ℕ → Bytes → ℕ → ℕ → Bool
value_fits w bs at l = is_value w (used bs at l) && filled bs at l w

-- ---- records
unfoldable pub definition_fits : Bytes → Bool
definition_fits bs =
    name_fits bs definition_name_at && (leb (read_definition bs).kind 2 && (eqb (read_definition bs).kind 2 || eqb (read_definition bs).particles 0))

-- n definitions are there
unfoldable pub attribute_fits : ℕ → ℕ → Bytes → Bool
attribute_fits w n bs =
    ltb (read_attribute bs).owner n
    && (name_fits bs attribute_name_at
    && (leb (read_attribute bs).sort 2
    && (value_fits w bs attribute_value_at (attribute_length bs) && is_fill (sort_of (read_attribute bs).sort) (read_attribute bs).value)))

-- the fields of a tree row apart from its depth, index and serial: an element has no value, a text has index 0
unfoldable pub row_fits : ℕ → Bytes → Bool
row_fits w bs =
    (leb 1 (read_row bs).row.sort && leb (read_row bs).row.sort 3)
    && (value_fits w bs row_value_at (row_length bs)
    && ((not (eqb (read_row bs).row.sort 1) || eqb (row_length bs) 0) && ((not (eqb (read_row bs).row.sort 3) || eqb (read_row bs).row.index 0) && unused_fit w bs)))

-- a row's serial: from 1, and below the next one
abbrev pub serial_fits : ℕ → ℕ → Bool
serial_fits next k = leb 1 k && ltb k next

-- ---- bodies of records
-- every one of `count` records of `size` bytes passes
unfoldable pub each_fits : (Bytes → Bool) → ℕ → ℕ → Bytes → Bool
each_fits p size zero bs = true
each_fits p size (suc count) bs = p (take size bs) && each_fits p size count (drop size bs)

-- where the bodies begin, by the counts; the definitions begin after the header
abbrev pub at_particles : Bytes → ℕ
at_particles bs = header_size + definition_size * definition_count bs

abbrev pub at_attributes : Bytes → ℕ
at_attributes bs = at_particles bs + particle_size * particle_count bs

abbrev pub at_rows : ℕ → Bytes → ℕ
at_rows w bs = at_attributes bs + attribute_size w * attribute_count bs

unfoldable pub records_fit : ℕ → Bytes → Bool
records_fit w bs =
    each_fits definition_fits definition_size (definition_count bs) (drop header_size bs)
    && (each_fits (attribute_fits w (definition_count bs)) (attribute_size w) (attribute_count bs) (drop (at_attributes bs) bs)
    && each_fits (row_fits w) (row_size w) (row_count bs) (drop (at_rows w bs) bs))

-- ---- the header: version, offsets, counts within the ceilings, and the length they give
unfoldable pub counts_fit : Bytes → Bool
counts_fit bs = leb (definition_count bs) 64 && (leb (particle_count bs) 256 && (leb (attribute_count bs) 64 && leb (row_count bs) 4096))

unfoldable pub offsets_fit : ℕ → Bytes → Bool
offsets_fit w bs =
    eqb (number_at definition_entry_at 4 bs) header_size
    && (eqb (number_at particle_entry_at 4 bs) (at_particles bs)
    && (eqb (number_at attribute_entry_at 4 bs) (at_attributes bs) && eqb (number_at row_entry_at 4 bs) (at_rows w bs)))

unfoldable pub header_fits : ℕ → Bytes → Bool
header_fits w bs = leb header_size (length bs) && (known_version (number_at version_at 4 bs) && (counts_fit bs && (offsets_fit w bs && (sized w bs && leb 1 (number_at next_at 4 bs)))))
