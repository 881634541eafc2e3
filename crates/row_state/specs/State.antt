-- The state of the walk over the tree rows (paper 02, W3), between two rows: bytes.
use Rattle.std.specs.Prelude.{ℕ, zero, suc, ◌+◌, ◌*◌, ◌<◌, ◌≤◌, ◌≡◌, Bool, true, false, eqb, length, get_or, set, replicate}
use Rattle.rules.specs.Bytes.{Bytes}
use Rattle.rules.specs.Preorder.{Deep}
use Rattle.rules.specs.Layout.{FlatRow}
use Rattle.next_row.specs.declared.Level.{Level}
use Rattle.next_row.specs.declared.Level.TheVariants.{Element}
use Rattle.next_row.specs.Judge.{ground_level}

-- ---- THE STATE between two rows: 130 bytes
-- 0: how many elements are open, at most 64. 1: of the innermost, 1 and the first attribute that may still come, or 0
-- where none may. 2 k: the definition of the k-th open element, the root being the first. 2 k + 1: 1 and the index of
-- its last child, or 0 where none came.
abbrev pub open_elements : Bytes → ℕ
open_elements s = get_or s 0 0

pub record StateFits (s : Bytes) : Type 0 where
  pub long : length s ≡ 130
  pub low : open_elements s ≤ 64

-- no row yet
unfoldable pub start_state : Bytes
start_state = replicate 130 0

-- attributes may still come at the innermost element only: at any other a child has come
abbrev pub seen_at : Bytes → ℕ → ℕ
seen_at s k = elim (eqb k (open_elements s)) [ true ↦ get_or s 1 0 | false ↦ 0 ]

-- the place of the rows of depth k: the documents, or the rows below the k-th open element
abbrev pub level_at : Bytes → ℕ → Level
level_at s zero = ground_level
level_at s (suc k) = Element (record { index = get_or s (2 * suc k) 0; seen = seen_at s (suc k); last = get_or s (2 * suc k + 1) 0 })

-- ---- after a row
-- the state after a row of depth d and index i: it closes the elements deeper than itself
abbrev pub with_attribute : Bytes → ℕ → ℕ → Bytes
with_attribute s d i = set (set s 1 (i + 2)) 0 d

abbrev pub with_child : Bytes → ℕ → ℕ → Bytes
with_child s d i = set s (2 * d + 1) (i + 1)

abbrev pub with_text : Bytes → ℕ → ℕ → Bytes
with_text s d i = set (set (with_child s d i) 1 0) 0 d

-- .. and an element is open after it
abbrev pub with_element : Bytes → ℕ → ℕ → Bytes
with_element s d i = set (set (set (set (with_child s d i) (2 * (d + 1)) i) (2 * (d + 1) + 1) 0) 1 1) 0 (d + 1)

-- .. by whether the row is an element's, and whether an attribute's
abbrev pub stepped_as : Bytes → ℕ → ℕ → Bool → Bool → Bytes
stepped_as s d i true attribute = with_element s d i
stepped_as s d i false true = with_attribute s d i
stepped_as s d i false false = with_text s d i

unfoldable pub stepped : Bytes → Deep FlatRow → Bytes
stepped s x = stepped_as s x.depth x.row.index (eqb x.row.sort 1) (eqb x.row.sort 2)

-- a row for which the state has room
pub record RoomFor (x : Deep FlatRow) : Type 0 where
  pub index : x.row.index < 64
  pub depth : x.depth ≤ 64
  pub element : x.row.sort ≡ 1 → x.depth < 64
