-- The members of definitions, as indices, read from the definitions and the particles of a store.
use Rattle.std.specs.Prelude.{ℕ, zero, suc, ◌+◌, ◌*◌, true, false, List, [], ◌∷◌, eqb}
use Rattle.rules.specs.Bytes.{Bytes}
use Rattle.rules.specs.Layout.{definition_size, particle_size}
use Rattle.rules.specs.Decode.{read_definition}
use Rattle.codec.specs.Part.{part_of}
use Rattle.layout.specs.Bodies.{record_at}

-- how many particles definition i has, and how many stand before them
abbrev pub count_at : Bytes → ℕ → ℕ
count_at defs i = (read_definition (record_at definition_size i defs)).particles

unfoldable pub start_at : Bytes → ℕ → ℕ
start_at defs zero = 0
start_at defs (suc i) = start_at defs i + count_at defs i

-- the bytes of the particles of definition i
unfoldable pub model_bytes : Bytes → Bytes → ℕ → Bytes
model_bytes defs parts i = part_of (particle_size * start_at defs i) (particle_size * count_at defs i) parts

-- the indices that particles of sort 0, elements, have
unfoldable pub elements_of : Bytes → List ℕ
elements_of [] = []
elements_of (sort ∷ []) = []
elements_of (sort ∷ quantifier ∷ []) = []
elements_of (sort ∷ quantifier ∷ index ∷ []) = []
elements_of (sort ∷ quantifier ∷ index ∷ depth ∷ s) = elim (eqb sort 0) [ true ↦ index ∷ elements_of s | false ↦ elements_of s ]

unfoldable pub members_in : Bytes → Bytes → ℕ → List ℕ
members_in defs parts i = elements_of (model_bytes defs parts i)
