-- Records of a body, one by one: their bytes where the code reads them, and what is left from one on.
use mathlib.Core.Path.{◌≡◌, sym}
use mathlib.Core.List.{[], ◌∷◌}
use Prim.Native.Nat.{ℕ, ◌+◌, ◌*◌, ◌≤◌, ◌<◌}
use native.Mathlib.Omega.{arith}
use native.Mathlib.Numerals.{add-one}
use lib.ListN.{length, take, drop, drop_of_length-le}
use Rattle.rules.specs.Bytes.{Bytes}
use Rattle.rules.specs.Layout.{definition_size, particle_size, attribute_size}
use Rattle.rules.specs.Decode.{read_definition, read_particle, read_attribute}
use Rattle.codec.specs.Part.{part_of}
use Rattle.codec.proofs.Strings.{part_there}
use Rattle.model_check.specs.Particles.{particles_read}
use Rattle.model_check.proofs.Reading.{many_from}
use Rattle.form_check.specs.Bodies.{definition_record_at, attribute_record_at, definitions, attributes}
use Rattle.codec.proofs.Records.{length_many, many_part}

-- ---- the bodies
pub definitions_length : (n : ℕ) (s : Bytes) → length (definitions n s) ≡ n
unfolding definitions
definitions_length n s = length_many read_definition definition_size n s

pub attributes_length : (w n : ℕ) (s : Bytes) → length (attributes w n s) ≡ n
unfolding attributes
attributes_length w n s = length_many read_attribute (attribute_size w) n s

pub definitions_from_lem : (i n : ℕ) (s : Bytes) → i < n → drop i (definitions n s) ≡ definition_record_at i s ∷ drop (i + 1) (definitions n s)
unfolding definitions
definitions_from_lem i n s h = rw add-one (many_from read_definition definition_size i n s h)

pub attributes_from_lem : (w i n : ℕ) (s : Bytes) → i < n → drop i (attributes w n s) ≡ attribute_record_at w i s ∷ drop (i + 1) (attributes w n s)
unfolding attributes
attributes_from_lem w i n s h = rw add-one (many_from read_attribute (attribute_size w) i n s h)

pub definitions_end : (i n : ℕ) (s : Bytes) → n ≤ i → drop i (definitions n s) ≡ []
definitions_end i n s h = drop_of_length-le (definitions n s) {i = i} (omega (arith, definitions_length n s))

pub attributes_end : (w i n : ℕ) (s : Bytes) → n ≤ i → drop i (attributes w n s) ≡ []
attributes_end w i n s h = drop_of_length-le (attributes w n s) {i = i} (omega (arith, attributes_length w n s))

-- the particles of one model
pub particles_part : (at c n : ℕ) (s : Bytes) → at + c ≤ n → particle_size * n ≡ length s → particles_read c (part_of (particle_size * at) (particle_size * c) s) ≡ take c (drop at (particles_read n s))
unfolding particles_read
particles_part at c n s h e =
    rw (part_there (particle_size * at) (particle_size * c) s (omega arith)) (sym (many_part read_particle particle_size at c n s h))
