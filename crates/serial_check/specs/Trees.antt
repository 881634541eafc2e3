-- Trees of rows by the bits of their serials: how the walk over the rows finds a serial again.
-- Rows whose serials have the same remainder by 4096 are in one tree. `heads` has at each remainder the root of its
-- tree, and `below` has four places for each row, from 4 * j to 4 * j + 3 for row j. What stands in a place is a
-- row's number, counted from 0, and 1; or 0 for none.
-- A walk goes by the bits of the serial above the remainder, two at a time, the lowest first: from row j to that of its
-- places which the two bits number.
use Rattle.std.specs.Prelude.{Option, MatchOption}
use Rattle.std.specs.Prelude.{ℕ, suc, ◌+◌, ◌*◌, ◌/◌, ◌%◌, ◌<◌, ◌≤◌, ◌≡◌, Bool, true, false, List, length, get_or}
use Rattle.rules.specs.Bytes.{Bytes}
use Rattle.serial_check.specs.Serials.{serial_at_row, Apart}

-- ---- walks
-- the place to which a walk by the bits of q goes from row j
abbrev pub place_below : ℕ → ℕ → ℕ
place_below j q = 4 * j + q % 4

-- the walk from h by the bits of q meets row i; h is a row's number and 1, or 0 for none
pub data Met (below : List ℕ) (i : ℕ) : ℕ → ℕ → Type 0 where
  at_once : {q : ℕ} → Met below i (suc i) q
  there : {j q : ℕ} → Met below i (get_or below (place_below j q) 0) (q / 4) → Met below i (suc j) q

-- the walk from h by the bits of q comes to the place p
pub data Comes (below : List ℕ) (p : ℕ) : ℕ → ℕ → Type 0 where
  last : {j q : ℕ} → p ≡ place_below j q → Comes below p (suc j) q
  later : {j q : ℕ} → Comes below p (get_or below (place_below j q) 0) (q / 4) → Comes below p (suc j) q

-- what stands below a row is a later one, of the first k
pub record Rising (below : List ℕ) (k : ℕ) : Type 0 where
  pub low : (p : ℕ) → get_or below p 0 ≤ k
  pub up : (p : ℕ) → 0 < get_or below p 0 → p / 4 + 1 < get_or below p 0

-- the walk from h for the serial s comes to the place p, where nothing stands, and meets no row with that serial
pub record Free (w : ℕ) (rows : Bytes) (below : List ℕ) (h s p : ℕ) : Type 0 where
  pub comes : Comes below p h (s / 4096)
  pub empty : get_or below p 0 ≡ 0
  pub none : (j : ℕ) → Met below j h (s / 4096) → serial_at_row w rows j ≡ s → ⊥

-- r: the place to which the walk from h for the serial s comes; none
-- where it meets a row with that serial
pub record Sought (w : ℕ) (rows : Bytes) (below : List ℕ) (h s : ℕ) (r : Option ℕ) : Type 0 where
  pub is : MatchOption r ((j : ℕ) × Met below j h (s / 4096) × (serial_at_row w rows j ≡ s)) (λ p. (p < 16384) × Free w rows below h s p)

-- ---- the first k rows
-- no two are alike, and each is met by the walk for its own serial
pub record Trees (w : ℕ) (rows : Bytes) (heads below : List ℕ) (k : ℕ) : Type 0 where
  pub distinct : Apart w rows k
  pub rising : Rising below k
  pub low : (b : ℕ) → get_or heads b 0 ≤ k
  pub covers : (j : ℕ) → j < k → Met below j (get_or heads (serial_at_row w rows j % 4096) 0) (serial_at_row w rows j / 4096)
  pub many : length heads ≡ 4096
  pub long : length below ≡ 16384

-- r: whether row k could be put into the trees of those before it, its serial being none of theirs
pub record Put (w : ℕ) (rows : Bytes) (heads below : List ℕ) (k : ℕ) (r : Bool) : Type 0 where
  pub yes : r ≡ true → Trees w rows heads below (suc k)
  pub no : r ≡ false → Apart w rows (suc k) → ⊥
