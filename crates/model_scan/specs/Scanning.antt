-- Content models byte by byte: what a byte changes, and the particle that begins at it.
use Rattle.std.specs.Prelude.{ℕ, suc, ◌-◌, ◌%◌, ◌≡◌, Bool, true, false, ◌&&◌, ◌||◌, not, List, [], ◌∷◌, eqb, leb, length, drop}
use Rattle.rules.specs.Bytes.{Bytes, all}
use Rattle.rules.specs.Preorder.{Deep}
use Rattle.rules.specs.Layout.{FlatParticle}
use Rattle.rules.specs.WellFormed.{in_name}
use Rattle.text_scan.specs.Scan.{first_byte}
use Rattle.declaration_scan.specs.Declared.{grouped_at, element_here, group_here}

-- how deep the byte after x stands
abbrev pub depth_after : ℕ → ℕ → ℕ
depth_after x d = elim (eqb x 40) [ true ↦ suc d | false ↦ elim (eqb x 41) [ true ↦ d - 1 | false ↦ d ] ]

-- the code of a group after a byte that stands `nest` groups deep in it
abbrev pub kind_after : ℕ → ℕ → ℕ → ℕ
kind_after x nest kind = elim (eqb nest 0 && eqb x 44) [ true ↦ 1 | false ↦ elim (eqb nest 0 && eqb x 124) [ true ↦ 2 | false ↦ kind ] ]

abbrev pub count_on : Bool → ℕ → ℕ
count_on it n = elim it [ true ↦ suc n | false ↦ n ]

-- what the code knows of a group
pub record Groups (txt : Bytes) (kind count mark : ℕ) : Type 0 where
  pub kind_is : kind ≡ (grouped_at txt).kind
  pub count_is : count ≡ (grouped_at txt).count % 256
  pub mark_is : mark ≡ (grouped_at txt).mark

-- a particle begins at x; the particle
abbrev pub starts_here : ℕ → Bool → Bool
starts_here x inside = eqb x 40 || (in_name x && not inside)

unfoldable pub particle_here : List Bytes → ℕ → ℕ → Bytes → Deep FlatParticle
particle_here ns d x xs = elim (eqb x 40) [ true ↦ group_here d xs | false ↦ element_here ns d (x ∷ xs) ]

-- .. if one does
unfoldable pub starting_here : List Bytes → ℕ → Bool → Bytes → List (Deep FlatParticle)
starting_here ns d inside txt = elim (starts_here (first_byte txt) inside) [ true ↦ particle_here ns d (first_byte txt) (drop 1 txt) ∷ [] | false ↦ [] ]

-- no particle is deeper than the ceiling
abbrev pub shallow : List (Deep FlatParticle) → Bool
shallow ps = all (λ (p : Deep FlatParticle). leb p.depth 4) ps

-- the number of particles, and whether none is too deep
pub record Measures (ps : List (Deep FlatParticle)) (count : ℕ) (low : Bool) : Type 0 where
  pub count_is : count ≡ length ps
  pub shallow_is : low ≡ shallow ps
