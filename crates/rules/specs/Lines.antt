-- Rows as lines: each with its parent's serial, in document order.
use Rattle.std.specs.Prelude.{ℕ, zero, suc, Bool, true, false, ◌&&◌, List, [], ◌∷◌, ◌++◌, eqb}
use Rattle.std.proofs.Math.Option.{Option, none, some}
use Rattle.rules.specs.Bytes.{Bytes, same, bytes}
use Rattle.rules.specs.Model.{member}
use Rattle.rules.specs.Store.{text, Row, Forest, bare, tree}
use Rattle.rules.specs.Conforming.{is_element, is_attribute, is_text}

-- root: parent 0
pub record Line : Type 0 where
  pub parent : ℕ
  pub row : Row

abbrev pub lines : ℕ → Forest Row → List Line
lines up bare = []
lines up (tree r b t) = record { parent = up; row = r } ∷ (lines r.serial b ++ lines up t)

-- what stands above the documents: no row, serial 0
abbrev pub ground : Row
ground = record { serial = 0; sort = text; name = []; value = [] }

abbrev pub is_ground : Row → Bool
is_ground r = eqb r.serial 0

-- ---- rows by sort and name
abbrev pub is_element_row : Row → Bool
is_element_row r = is_element r.sort

abbrev pub is_text_row : Row → Bool
is_text_row r = is_text r.sort

-- 'Instance': an element row of the definition named n
abbrev pub element_named : Bytes → Row → Bool
element_named n r = is_element r.sort && same n r.name

abbrev pub element_among : List Bytes → Row → Bool
element_among ns r = is_element r.sort && member bytes r.name ns

abbrev pub attribute_named : Bytes → Row → Bool
attribute_named n r = is_attribute r.sort && same n r.name

abbrev pub element_with : ℕ → Row → Bool
element_with k r = is_element r.sort && eqb r.serial k

-- ---- rows by serial and parent
unfoldable pub find_row : (Row → Bool) → List Line → Option Row
find_row p [] = none
find_row p (l ∷ ls) = elim (p l.row) [ true ↦ some l.row | false ↦ find_row p ls ]

-- the serials of the rows right below the row with serial k that pass a test, in order
unfoldable pub children_of : (Row → Bool) → ℕ → List Line → List ℕ
children_of p k [] = []
children_of p k (l ∷ ls) = elim (eqb l.parent k && p l.row) [ true ↦ l.row.serial ∷ children_of p k ls | false ↦ children_of p k ls ]

-- 0, which no row has, past the end
abbrev pub serial_at : ℕ → List ℕ → ℕ
serial_at k [] = 0
serial_at zero (s ∷ ss) = s
serial_at (suc k) (s ∷ ss) = serial_at k ss
