-- The walk over the rows, as a step from row to row.
use Rattle.std.specs.Prelude.{ℕ, suc, ◌+◌, ◌-◌, Bool, true, false, ◌&&◌, ◌||◌, not, List, [], ◌∷◌, ◌++◌, eqb, leb, ltb, get_or, Option, None, Some, unwrap_or}
use Rattle.rules.specs.Bytes.{Bytes}
use Rattle.rules.specs.Preorder.{Deep}
use Rattle.rules.specs.Layout.{FlatRow}
use Rattle.row_walk.specs.declared.Which.{Which}
use Rattle.row_walk.specs.declared.Which.TheVariants.{Nothing, Everything, Ground, Elements, Attributes, Serial}
use Rattle.row_walk.specs.declared.Later.{Later}
use Rattle.row_walk.specs.declared.Later.TheVariants.{Never, Row, Past, Unmarked}
use Rattle.row_walk.specs.declared.Shift.{Shift}
use Rattle.row_walk.specs.declared.Plan.{Plan}
use Rattle.row_walk.specs.declared.Open.{Open}

-- ---- rows
-- a row is one of them
abbrev pub matches : Which → FlatRow → Bool
matches Nothing r = false
matches Everything r = true
matches Ground r = false
matches (Elements i) r = eqb r.sort 1 && eqb r.index i
matches (Attributes j) r = eqb r.sort 2 && eqb r.index j
matches (Serial k) r = eqb r.sort 1 && eqb r.serial k

abbrev pub is_everything : Which → Bool
is_everything Nothing = false
is_everything Everything = true
is_everything Ground = false
is_everything (Elements i) = false
is_everything (Attributes j) = false
is_everything (Serial k) = false

abbrev pub names_ground : Which → Bool
names_ground Nothing = false
names_ground Everything = false
names_ground Ground = true
names_ground (Elements i) = false
names_ground (Attributes j) = false
names_ground (Serial k) = false

-- the mark of its definition: 1 before a place in a model, 2 at the place, else 0
abbrev pub place_mark : Bytes → FlatRow → ℕ
place_mark marks r = get_or marks r.index 0

-- a filling comes before it
abbrev pub is_later : Bytes → Later → FlatRow → Bool
is_later marks Never r = false
is_later marks (Row k) r = eqb r.serial k
is_later marks (Past j) r = not (eqb r.sort 2 && ltb r.index j)
is_later marks Unmarked r = eqb r.sort 1 && not (eqb (place_mark marks r) 1)

-- but none does, since it is an element at the place
abbrev pub spared : Plan → FlatRow → Bool
spared p r = p.spares && (eqb r.sort 1 && eqb (place_mark p.marks r) 2)

-- ---- renumbering and values
abbrev pub shifted : Shift → ℕ → ℕ
shifted s i = elim (leb s.from i) [ true ↦ i + s.more - s.less | false ↦ i ]

-- by the sort of the row: 1 element, 2 attribute; a text has index 0
abbrev pub moved_index : Plan → FlatRow → ℕ
moved_index p r = elim (eqb r.sort 1) [ true ↦ shifted p.definitions r.index | false ↦ elim (eqb r.sort 2) [ true ↦ shifted p.attributes r.index | false ↦ r.index ] ]

-- the row with a serial, if there is one
abbrev pub is_set : Option ℕ → ℕ → Bool
is_set None k = false
is_set (Some m) k = eqb k m

abbrev pub value_set : Plan → Bytes → FlatRow → Bytes
value_set p v r = elim (is_set p.set r.serial) [ true ↦ v | false ↦ r.value ]

unfoldable pub kept_row : Plan → Bytes → Deep FlatRow → Deep FlatRow
kept_row p v x = record { depth = x.depth; row = record { sort = x.row.sort; index = moved_index p x.row; serial = x.row.serial; value = value_set p v x.row } }

-- ---- what a row meets
-- a depth, if there is one, is less than d
abbrev pub is_over : Option ℕ → ℕ → Bool
is_over None d = false
is_over (Some k) d = ltb k d

-- .. is more than d
abbrev pub is_under : Option ℕ → ℕ → Bool
is_under None d = false
is_under (Some k) d = ltb d k

-- .. is d
abbrev pub is_at : Option ℕ → ℕ → Bool
is_at None d = false
is_at (Some k) d = eqb k d

-- it stands below a row taken
abbrev pub is_below_taken : Open → Deep FlatRow → Bool
is_below_taken o x = is_over o.taking x.depth

-- it is not below the open row any more
abbrev pub closes : Open → Deep FlatRow → Bool
closes o x = is_under o.below x.depth

abbrev pub closed : Open → Deep FlatRow → Open
closed o x = elim (closes o x) [ true ↦ record { taking = None; below = None; due = false } | false ↦ record { taking = None; below = o.below; due = o.due } ]

-- it stands right below the open row
abbrev pub is_below : Open → Deep FlatRow → Bool
is_below o x = is_at o.below x.depth

abbrev pub is_taken : Plan → Open → Deep FlatRow → Bool
is_taken p o x = ((is_everything p.above || is_below o x) && matches p.takes x.row) && not (p.keeps && o.due)

-- a filling comes right before it
abbrev pub is_filled : Plan → Open → Deep FlatRow → Bool
is_filled p o x = (o.due && is_below o x) && (is_later p.marks p.later x.row && not (spared p x.row))

-- ---- what is open after a row that is taken, and after one that is kept: the first row that is later ends what is due
abbrev pub after_taken : Open → Deep FlatRow → Open
after_taken o x = record { taking = Some x.depth; below = o.below; due = o.due }

abbrev pub after_kept : Plan → Open → Deep FlatRow → Open
after_kept p o x =
    elim (matches p.above x.row) [
      | true ↦ record { taking = None; below = Some (suc x.depth); due = p.fills }
      | false ↦ record { taking = None; below = o.below; due = o.due && not (is_below o x && is_later p.marks p.later x.row) }
    ]

-- ---- the walk; `fill d` are the rows of the filling at depth d
abbrev pub owed : Bool → List (Deep FlatRow) → List (Deep FlatRow)
owed true w = w
owed false w = []

abbrev pub row_depth : Open → ℕ
row_depth o = unwrap_or o.below 0

module _ (p : Plan) (v : Bytes) (fill : ℕ → List (Deep FlatRow)) where
  -- the rows that come of a row of which the walk has closed what it closes, and what is open after it
  unfoldable pub emitted : Open → Deep FlatRow → List (Deep FlatRow)
  emitted o x = elim (is_taken p o x) [ true ↦ [] | false ↦ owed (is_filled p o x) (fill x.depth) ++ kept_row p v x ∷ [] ]

  unfoldable pub next_open : Open → Deep FlatRow → Open
  next_open o x = elim (is_taken p o x) [ true ↦ after_taken o x | false ↦ after_kept p o x ]

  unfoldable pub walked : Open → List (Deep FlatRow) → List (Deep FlatRow)
  walked o [] = owed o.due (fill (row_depth o))
  walked o (x ∷ xs) =
      elim (is_below_taken o x) [
        | true ↦ walked o xs
        | false ↦ owed (closes o x && o.due) (fill (row_depth o)) ++ (emitted (closed o x) x ++ walked (next_open (closed o x) x) xs)
      ]

-- what is open before the first row
abbrev pub at_first : Plan → Open
at_first p = elim (names_ground p.above) [ true ↦ record { taking = None; below = Some 0; due = p.fills } | false ↦ record { taking = None; below = None; due = false } ]
