-- The particles that are read, and the test of ModelTests as the code goes through them: particle by particle.
use Rattle.std.specs.Prelude.{ℕ, suc, Bool, true, false, ◌&&◌, not, List, [], ◌∷◌, eqb, leb, ltb, length}
use Rattle.rules.specs.Bytes.{Bytes, any}
use Rattle.rules.specs.Store.{heads}
use Rattle.rules.specs.Preorder.{Deep, build}
use Rattle.rules.specs.Layout.{particle_size, FlatParticle}
use Rattle.rules.specs.Decode.{read_particle, read_many}
use Rattle.layout.specs.Bodies.{record_at}

-- particle i
abbrev pub particle_record_at : ℕ → Bytes → Deep FlatParticle
particle_record_at i s = read_particle (record_at particle_size i s)

unfoldable pub particles_read : ℕ → Bytes → List (Deep FlatParticle)
particles_read p s = read_many read_particle particle_size p s

-- ---- pairs
-- no two entries clash
unfoldable pub apart : {A : Type 0} → (A → A → Bool) → List A → Bool
apart c [] = true
apart c (x ∷ xs) = not (any (c x) xs) && apart c xs

abbrev pub same_element : Deep FlatParticle → Deep FlatParticle → Bool
same_element p q = eqb p.row.sort 0 && (eqb q.row.sort 0 && eqb p.row.index q.row.index)

-- ---- a model, particle by particle
-- particle_fits, of the number of members
unfoldable pub count_fits : ℕ → FlatParticle → ℕ → Bool
count_fits n p members =
    leb p.quantifier 3
    && elim (eqb p.sort 0) [ true ↦ ltb p.index n && eqb members 0 | false ↦ leb p.sort 2 && (eqb p.index members && not (eqb members 0)) ]

-- how many of the particles stand beside one another at depth k from here on
unfoldable pub count_beside : ℕ → List (Deep FlatParticle) → ℕ
count_beside k ps = length (heads (build ps k))

-- a particle where depth d is allowed, with the particles after it
unfoldable pub particle_stands : ℕ → ℕ → Deep FlatParticle → List (Deep FlatParticle) → Bool
particle_stands n d p after = leb p.depth 4 && (leb p.depth d && (count_fits n p.row (count_beside (suc p.depth) after) && not (any (same_element p) after)))

unfoldable pub walks : ℕ → ℕ → List (Deep FlatParticle) → Bool
walks n d [] = true
walks n d (p ∷ ps) = particle_stands n d p ps && walks n (suc p.depth) ps
