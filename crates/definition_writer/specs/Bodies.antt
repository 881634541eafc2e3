-- The record of a new definition (change 1), and indices that move (change 2).
use Rattle.std.specs.Prelude.{ℕ, Bool, true, false, List, eqb}
use Rattle.rules.specs.Bytes.{Bytes, same, any}
use Rattle.rules.specs.Preorder.{Deep}
use Rattle.rules.specs.Layout.{FlatDefinition, FlatParticle, FlatRow}
use Rattle.layout.specs.RecordBytes.{definition_of}

-- ---- definitions
abbrev pub new_definition : Bytes → ℕ → FlatDefinition
new_definition n k = definition_of n k 0

-- one of the definitions has the name
abbrev pub named : Bytes → List FlatDefinition → Bool
named n ds = any (λ (d : FlatDefinition). same n d.name) ds

-- ---- indices that move
-- the index of a particle of a sort, where element indices move by g
abbrev pub member_moved : (ℕ → ℕ) → ℕ → ℕ → ℕ
member_moved g sort i = elim (eqb sort 0) [ true ↦ g i | false ↦ i ]

unfoldable pub moved_particle : (ℕ → ℕ) → Deep FlatParticle → Deep FlatParticle
moved_particle g x = record { depth = x.depth; row = record { sort = x.row.sort; quantifier = x.row.quantifier; index = member_moved g x.row.sort x.row.index } }

-- the index of a row of a sort, where element indices move by g and attribute indices by h
abbrev pub row_moved : (ℕ → ℕ) → (ℕ → ℕ) → ℕ → ℕ → ℕ
row_moved g h sort i = elim (eqb sort 1) [ true ↦ g i | false ↦ elim (eqb sort 2) [ true ↦ h i | false ↦ i ] ]

unfoldable pub moved_row : (ℕ → ℕ) → (ℕ → ℕ) → Deep FlatRow → Deep FlatRow
moved_row g h x = record { depth = x.depth; row = record { sort = x.row.sort; index = row_moved g h x.row.sort x.row.index; serial = x.row.serial; value = x.row.value } }
