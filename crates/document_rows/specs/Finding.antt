-- Rows found by their serials, and the rows right below a row, over the rows of the tree body.
use Rattle.std.specs.Prelude.{ℕ, suc, ◌+◌, ◌-◌, ◌<◌, ◌≤◌, ◌≡◌, Bool, true, false, ◌&&◌, not, List, [], ◌∷◌, ◌++◌, map, eqb, ltb}
use Rattle.std.specs.Prelude.{Option, None, Some, MatchOption}
use Rattle.rules.specs.Bytes.{Bytes, any}
use Rattle.rules.specs.Model.{Members}
use Rattle.rules.specs.Preorder.{Deep}
use Rattle.rules.specs.Layout.{row_size, FlatRow}
use Rattle.rules.specs.Lines.{serial_at}
use Rattle.rules.specs.Decode.{read_row, row_count}
use Rattle.lookup.specs.Bodies.{rows_from}
use Rattle.model.specs.Members.{all_members}
use Rattle.model.specs.Steps.{runs}
use Rattle.layout.specs.Bodies.{width_of, record_at, definitions_in, particles_in, tree_rows_in}
use Rattle.form_index.specs.Reading.{definition_in, model_part}

-- number i of the rows begins xs
pub record BeginsAt (w : ℕ) (rows : Bytes) (count i : ℕ) (xs : List (Deep FlatRow)) : Type 0 where
  pub from : rows_from w rows count i ≡ xs
  pub within : i < count

-- the number of the row that begins xs; none where xs is empty
abbrev pub Begins : ℕ → Bytes → ℕ → Option ℕ → List (Deep FlatRow) → Type 0
Begins w rows count r xs = MatchOption r (xs ≡ []) (λ i. BeginsAt w rows count i xs)

-- the rows of depth d and of a sort, before any that is less deep
unfoldable pub children : ℕ → ℕ → List (Deep FlatRow) → List FlatRow
children s d [] = []
children s d (x ∷ xs) = elim (ltb x.depth d) [ true ↦ [] | false ↦ elim (eqb x.depth d && eqb x.row.sort s) [ true ↦ x.row ∷ children s d xs | false ↦ children s d xs ] ]

-- row number i is the first of them from number `start` on
pub record ChildAt (w s d : ℕ) (rows : Bytes) (count start i : ℕ) : Type 0 where
  pub same : children s d (rows_from w rows count i) ≡ children s d (rows_from w rows count start)
  pub head : children s d (rows_from w rows count i) ≡ (read_row (record_at (row_size w) i rows)).row ∷ children s d (rows_from w rows count (i + 1))
  pub onward : start ≤ i
  pub within : i < count

-- its number; none where there is no such row
abbrev pub NextChild : ℕ → ℕ → ℕ → Bytes → ℕ → ℕ → Option ℕ → Type 0
NextChild w s d rows count start r = MatchOption r (children s d (rows_from w rows count start) ≡ []) (λ i. ChildAt w s d rows count start i)

-- an element row with a serial
abbrev pub element_row_with : ℕ → FlatRow → Bool
element_row_with k r = eqb r.sort 1 && eqb r.serial k

-- a row and its element children
abbrev pub Test : Type 0
Test = FlatRow → List FlatRow → Bool

abbrev pub is_this : ℕ → Test
is_this k r below = element_row_with k r

abbrev pub is_parent : ℕ → Test
is_parent k r below = any (element_row_with k) below

-- from the first row on that passes a test
unfoldable pub seek : Test → List (Deep FlatRow) → List (Deep FlatRow)
seek p [] = []
seek p (x ∷ xs) = elim (p x.row (children 1 (suc x.depth) xs)) [ true ↦ x ∷ xs | false ↦ seek p xs ]

-- ---- in a store
-- the number of the element row with serial k among its rows; none: there is no such row
pub record ElementRowAt (bs : Bytes) (k : ℕ) (r : Option ℕ) : Type 0 where
  pub begins : Begins (width_of bs) (tree_rows_in bs) (row_count bs) r (seek (is_this k) (rows_from (width_of bs) (tree_rows_in bs) (row_count bs) 0))
  pub few : row_count bs ≤ 4096

-- ---- children, one after the other
abbrev pub serial_in : FlatRow → ℕ
serial_in r = r.serial

-- the serial of the first row with an index
abbrev pub serial_of_index : ℕ → List FlatRow → Option ℕ
serial_of_index a [] = None
serial_of_index a (r ∷ rs) = elim (eqb r.index a) [ true ↦ Some r.serial | false ↦ serial_of_index a rs ]

-- The indices of children, without the one with serial `skip`. A new
-- one is put in before child number p - 1; p 0: none.
unfoldable pub new_name : ℕ → ℕ → List ℕ
new_name p new = elim (eqb p 1) [ true ↦ new ∷ [] | false ↦ [] ]

unfoldable pub kept_name : ℕ → FlatRow → List ℕ
kept_name skip r = elim (eqb r.serial skip) [ true ↦ [] | false ↦ r.index ∷ [] ]

unfoldable pub word : ℕ → ℕ → ℕ → List FlatRow → List ℕ
word p new skip [] = new_name p new
word p new skip (r ∷ rs) = (new_name p new ++ kept_name skip r) ++ word (p - 1) new skip rs

-- the names w after the last one, where there is one
abbrev pub runs_on : Members ℕ → Option ℕ → List ℕ → Bool
runs_on ms None w = false
runs_on ms (Some last) w = runs ms last w

-- the names v are stepped over: the last of them, none where one of them may not follow
pub record NamesStepped (ms : Members ℕ) (last : ℕ) (v : List ℕ) (after : Option ℕ) : Type 0 where
  pub on : (w : List ℕ) → runs ms last (v ++ w) ≡ runs_on ms after w

-- the rows of a sort right below row i
unfoldable pub children_below : ℕ → Bytes → ℕ → ℕ → ℕ → List FlatRow
children_below w rows count s i = children s (suc (read_row (record_at (row_size w) i rows)).depth) (rows_from w rows count (i + 1))

-- ---- a row of a store, by its number
abbrev pub row_in : Bytes → ℕ → Deep FlatRow
row_in bs i = read_row (record_at (row_size (width_of bs)) i (tree_rows_in bs))

-- the rows of a sort right below it
abbrev pub children_at : Bytes → ℕ → ℕ → List FlatRow
children_at bs s i = children_below (width_of bs) (tree_rows_in bs) (row_count bs) s i

-- its definition's kind and model
abbrev pub row_definition_kind : Bytes → ℕ → ℕ
row_definition_kind bs i = (definition_in (definitions_in bs) (row_in bs i).row.index).kind

abbrev pub model_at : Bytes → ℕ → Members ℕ
model_at bs i = all_members (model_part (definitions_in bs) (particles_in bs) (row_in bs i).row.index)

-- the model takes the element children, as `word` has them
unfoldable pub fits_at : Bytes → ℕ → ℕ → ℕ → ℕ → Bool
fits_at bs i p new skip = runs (model_at bs i) 0 (word p new skip (children_at bs 1 i))

-- row number i of a store that passes, of a definition
pub record RowOf (bs : Bytes) (i : ℕ) : Type 0 where
  pub small : i < row_count bs
  pub few : row_count bs ≤ 4096
  pub index : (row_in bs i).row.index ≤ 64

-- the number of the row right above the element row with serial k; none: there is no such row
pub record ParentAt (bs : Bytes) (k : ℕ) (r : Option ℕ) : Type 0 where
  pub begins : Begins (width_of bs) (tree_rows_in bs) (row_count bs) r (seek (is_parent k) (rows_from (width_of bs) (tree_rows_in bs) (row_count bs) 0))
  pub few : row_count bs ≤ 4096

-- it has at least n element children
unfoldable pub has_place : Bytes → ℕ → ℕ → Bool
has_place bs i n = elim (eqb n 0) [ true ↦ true | false ↦ not (eqb (serial_at (n - 1) (map serial_in (children_at bs 1 i))) 0) ]
