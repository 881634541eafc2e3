-- Heights of definitions, as indices, along chains of members that do not lead to a target.
use Rattle.std.specs.Prelude.{ℕ, ◌≡◌, true, false, List, [], ◌∷◌, eqb}
use Rattle.rules.specs.Bytes.{Bytes}
use Rattle.circle_check.specs.Deep.{deep_index, has_height}

-- the target's only member is an index past the n definitions: from it no chain ends
abbrev pub members_avoiding : ℕ → (ℕ → List ℕ) → ℕ → ℕ → List ℕ
members_avoiding n members target i = elim (eqb i target) [ true ↦ n ∷ [] | false ↦ members i ]

-- those with a height: every chain of members ends within n definitions, none leads to the target
pub record Avoids (n : ℕ) (members : ℕ → List ℕ) (target : ℕ) (r : Bytes) : Type 0 where
  pub is : (i : ℕ) → has_height r i ≡ deep_index (members_avoiding n members target) n n i
