-- The bodies of a store with the particles of one definition replaced.
use Rattle.std.specs.Prelude.{ℕ, zero, suc, ◌+◌, List, [], ◌∷◌, ◌++◌, length, take, drop}
use Rattle.rules.specs.Layout.{FlatDefinition, FlatStore}
use Rattle.model.specs.Members.{start_of}
use Rattle.model.specs.Places.{Particles}

-- how many particles definition o has
abbrev pub count_of : ℕ → List FlatDefinition → ℕ
count_of o [] = 0
count_of zero (d ∷ ds) = d.particles
count_of (suc o) (d ∷ ds) = count_of o ds

-- definition o with n particles
abbrev pub counted : ℕ → ℕ → List FlatDefinition → List FlatDefinition
counted o n [] = []
counted zero n (d ∷ ds) = record { name = d.name; kind = d.kind; particles = n } ∷ ds
counted (suc o) n (d ∷ ds) = d ∷ counted o n ds

-- n particles from number `at` on replaced
abbrev pub spliced : ℕ → ℕ → Particles → Particles → Particles
spliced at n part ps = take at ps ++ (part ++ drop (at + n) ps)

unfoldable pub spliced_form : ℕ → Particles → FlatStore → FlatStore
spliced_form o part f =
    record {
      version = f.version;
      next = f.next;
      definitions = counted o (length part) f.definitions;
      particles = spliced (start_of o f.definitions) (count_of o f.definitions) part f.particles;
      attributes = f.attributes;
      rows = f.rows;
    }
