-- Where the numbers of the header stand, where the fields of a record
-- stand in its bytes, and the bytes that are no field.
use Rattle.std.specs.Prelude.{ℕ, ◌+◌, Bool, ◌&&◌, eqb, get_or}
use Rattle.rules.specs.Bytes.{Bytes}

-- ---- the header: version, next serial, and of each body its offset and its count
abbrev pub version_at : ℕ
version_at = 0

abbrev pub next_at : ℕ
next_at = 4

abbrev pub definition_entry_at : ℕ
definition_entry_at = 8

abbrev pub definition_count_at : ℕ
definition_count_at = 12

abbrev pub particle_entry_at : ℕ
particle_entry_at = 16

abbrev pub particle_count_at : ℕ
particle_count_at = 20

abbrev pub attribute_entry_at : ℕ
attribute_entry_at = 24

abbrev pub attribute_count_at : ℕ
attribute_count_at = 28

abbrev pub row_entry_at : ℕ
row_entry_at = 32

abbrev pub row_count_at : ℕ
row_count_at = 36

-- ---- a definition: its name's length, right before its name; its kind; its number of particles
abbrev pub definition_name_at : ℕ
definition_name_at = 0

abbrev pub definition_kind_at : ℕ
definition_kind_at = 17

abbrev pub definition_particles_at : ℕ
definition_particles_at = 18

-- ---- a particle
abbrev pub particle_sort_at : ℕ
particle_sort_at = 0

abbrev pub particle_quantifier_at : ℕ
particle_quantifier_at = 1

abbrev pub particle_index_at : ℕ
particle_index_at = 2

abbrev pub particle_depth_at : ℕ
particle_depth_at = 3

-- ---- an attribute: its owner; its name's length, right before its name; its sort; its value's length, and its value
abbrev pub attribute_owner_at : ℕ
attribute_owner_at = 0

abbrev pub attribute_name_at : ℕ
attribute_name_at = 1

abbrev pub attribute_sort_at : ℕ
attribute_sort_at = 18

abbrev pub attribute_length_at : ℕ
attribute_length_at = 19

abbrev pub attribute_value_at : ℕ
attribute_value_at = 20

-- how long an attribute says that its value is
abbrev pub attribute_length : Bytes → ℕ
attribute_length bs = get_or bs attribute_length_at 0

-- ---- a row: its sort, depth, index and serial; its value's length, a byte that is not used, and its value
abbrev pub row_sort_at : ℕ
row_sort_at = 0

abbrev pub row_depth_at : ℕ
row_depth_at = 1

abbrev pub row_index_at : ℕ
row_index_at = 2

abbrev pub row_serial_at : ℕ
row_serial_at = 4

abbrev pub row_length_at : ℕ
row_length_at = 8

abbrev pub row_unused_at : ℕ
row_unused_at = 9

abbrev pub row_value_at : ℕ
row_value_at = 10

-- how long a row says that its value is
abbrev pub row_length : Bytes → ℕ
row_length bs = get_or bs row_length_at 0

-- the bytes of a row that no field has: one before the value, two after it
unfoldable pub unused_fit : ℕ → Bytes → Bool
unused_fit w bs = eqb (get_or bs row_unused_at 0) 0 && (eqb (get_or bs (row_value_at + w) 0) 0 && eqb (get_or bs (row_value_at + 1 + w) 0) 0)
