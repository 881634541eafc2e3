-- How many rows a walk adds at most.
use Rattle.std.specs.Prelude.{ℕ, ◌+◌, ◌-◌, ◌≤◌, ◌≡◌, IfSome, Bool, true, false, List, [], ◌∷◌, length}
use Rattle.rules.specs.Preorder.{Deep}
use Rattle.rules.specs.Layout.{FlatRow}
use Rattle.row_writer.specs.Written.{new_in}
use Rattle.row_walk.specs.declared.Which.{Which}
use Rattle.row_walk.specs.Walk.{matches, names_ground}
use Rattle.row_bound.specs.declared.Most.{Most}

-- n if b
abbrev pub only_if : Bool → ℕ → ℕ
only_if true n = n
only_if false n = 0

-- how many rows are some of them
unfoldable pub matching_in : Which → List (Deep FlatRow) → ℕ
matching_in w [] = 0
matching_in w (x ∷ xs) = only_if (matches w x.row) 1 + matching_in w xs

-- the places that may be filled below them: one below each, and that above the documents
abbrev pub places_in : Which → List (Deep FlatRow) → ℕ
places_in w xs = matching_in w xs + only_if (names_ground w) 1

-- the number of rows of a filling, counted up to one past the ceiling
abbrev pub counted_to : List (Deep FlatRow) → ℕ
counted_to xs = 4097 - (4097 - length xs)

-- from `count` rows the rows xs came: if r keeps within the ceiling, there are at most r more, and at most r new ones;
-- and r is at most 4,097 rows at 4,097 places
pub record Adds (xs : List (Deep FlatRow)) (count r : ℕ) : Type 0 where
  pub few : r ≤ 16785409
  pub rows : r ≤ 4096 → length xs ≤ count + r
  pub new : r ≤ 4096 → new_in xs ≤ r

-- .. and `one`, if it is given, is the number of rows of a filling as it is counted, and not 0
pub record Bounds (xs filled : List (Deep FlatRow)) (count : ℕ) (m : Most) : Type 0 where
  pub adds : Adds xs count m.all
  pub one : IfSome m.one (λ k. (1 ≤ k) × (k ≡ counted_to filled))
