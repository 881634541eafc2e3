-- Heights of definitions, as indices: the longest chain of members from each.
use Rattle.std.specs.Prelude.{ℕ, zero, suc, ◌<◌, ◌≤◌, ◌≡◌, ◌↔◌, Bool, true, false, ◌&&◌, not, List, ltb, eqb, get_or, Result, Ok, Err, IsOk}
use Rattle.rules.specs.Bytes.{Bytes, all, between}
use Rattle.rules.specs.Decode.{read_particle}

-- definition i is one of n, and every chain of members from it ends within h definitions
module _ (members : ℕ → List ℕ) where
  unfoldable pub deep_index : ℕ → ℕ → ℕ → Bool
  deep_index n zero i = false
  deep_index n (suc h) i = ltb i n && all (λ j. deep_index n h j) (members i)

-- ---- the rounds
-- definition i has a height; 0 stands for none yet
unfoldable pub has_height : Bytes → ℕ → Bool
has_height heights i = not (eqb (get_or heights i 0) 0)

-- the first of some particles is a group, or an element that passes
abbrev pub first_passes : (ℕ → Bool) → Bytes → Bool
first_passes p t = elim (eqb (read_particle t).row.sort 0) [ true ↦ p (read_particle t).row.index | false ↦ true ]

-- a height after round h: as it was, or h if all members have one
abbrev pub raised_to : ℕ → ℕ → Bool → ℕ
raised_to h was settled = elim (eqb was 0) [ true ↦ elim settled [ true ↦ h | false ↦ 0 ] | false ↦ was ]

pub record Round (n : ℕ) (members : ℕ → List ℕ) (h : ℕ) (old new : Bytes) : Type 0 where
  pub known : (i : ℕ) → i < n → get_or new i 0 ≡ raised_to h (get_or old i 0) (all (has_height old) (members i))
  pub others : (i : ℕ) → n ≤ i → get_or new i 0 ≡ 0

-- ---- the result
-- the heights, whether all chains end or not
abbrev pub heights_in : Result Bytes Bytes → Bytes
heights_in (Ok of) = of
heights_in (Err of) = of

-- It is no error just where all chains end. A height is the least number of definitions within which all chains end, or
-- 0 where that is more than n.
pub record Ranked (n : ℕ) (members : ℕ → List ℕ) (r : Result Bytes Bytes) : Type 0 where
  pub fit : IsOk r ↔ ((i : ℕ) → i < n → deep_index members n n i ≡ true)
  pub height : (i h : ℕ) → h ≤ n → deep_index members n h i ≡ between 1 h (get_or (heights_in r) i 0)
