-- The marks of definitions around a place of a model, a byte for each.
use Rattle.std.specs.Prelude.{ℕ, ◌*◌, true, false, List, [], ◌∷◌, eqb, set, take, drop}
use Rattle.rules.specs.Bytes.{Bytes}
use Rattle.rules.specs.Layout.{particle_size}
use Rattle.rules.specs.Decode.{read_particle}
use Rattle.circle_check.specs.Members.{elements_of}
use Rattle.plans.specs.CallPlans.{unmarked}

-- v at each of the indices
abbrev pub marked : ℕ → List ℕ → Bytes → Bytes
marked v [] marks = marks
marked v (i ∷ is) marks = marked v is (set marks i v)

-- v at the index of the first of some particles, if that is an element
abbrev pub marked_first : ℕ → Bytes → Bytes → Bytes
marked_first v particles marks = elim (eqb (read_particle particles).row.sort 0) [ true ↦ set marks (read_particle particles).row.index v | false ↦ marks ]

-- 1 for the definitions of the elements among the first p particles of a part, 2 for those among the next n
unfoldable pub marks_at : ℕ → ℕ → Bytes → Bytes
marks_at n p part = marked 2 (elements_of (take (particle_size * n) (drop (particle_size * p) part))) (marked 1 (elements_of (take (particle_size * p) part)) unmarked)
