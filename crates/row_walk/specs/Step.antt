-- What the code reads of a row, and how large the numbers are that its tests meet.
use Rattle.std.specs.Prelude.{suc, ◌≤◌, None, Some, Bool, true, false, not, ◌&&◌, ◌||◌, [], eqb}
use Rattle.rules.specs.Bytes.{Bytes}
use Rattle.rules.specs.Preorder.{Deep}
use Rattle.rules.specs.Layout.{FlatRow}
use Rattle.row_walk.specs.declared.Plan.{Plan}
use Rattle.row_walk.specs.declared.Shift.{Shift}
use Rattle.row_walk.specs.declared.Open.{Open}
use Rattle.row_walk.specs.declared.Head.{Head}
use Rattle.row_walk.specs.Walk.{matches, is_later, moved_index, is_set, is_below_taken, closes, closed, is_below, is_taken}

-- a row with what was read of it, and a value
abbrev pub row_of_head : Head → Bytes → Deep FlatRow
row_of_head h v = record { depth = h.depth; row = record { sort = h.sort; index = h.index; serial = h.serial; value = v } }

abbrev pub valueless : Head → Deep FlatRow
valueless h = row_of_head h []

-- what is due stays due after a row that opens nothing
abbrev pub stays_due : Plan → Open → Deep FlatRow → Bool
stays_due p o x = o.due && not (is_below o x && is_later p.marks p.later x.row)

-- what is open after a row that is kept, if `due` is what stays due where it opens nothing
abbrev pub kept_with : Plan → Bool → Open → Deep FlatRow → Open
kept_with p due o x =
    elim (matches p.above x.row) [
      | true ↦ record { taking = None; below = Some (suc x.depth); due = p.fills }
      | false ↦ record { taking = None; below = o.below; due = due }
    ]

-- what is due below the open row does not stay due after a row right below it: the filling comes before it, or the row
-- is spared
abbrev pub ends_due : Plan → Open → Deep FlatRow → Bool
ends_due p o x = (o.due && is_below o x) && is_later p.marks p.later x.row

-- a row that stays as it is, and nothing comes before it: it stands below no row taken, what is due stays due, it is
-- not taken, and it keeps its index and its value
unfoldable pub is_plain : Plan → Open → Deep FlatRow → Bool
is_plain p o x =
    (not (is_below_taken o x) && not ((closes o x && o.due) || ends_due p (closed o x) x))
    && (not (is_taken p (closed o x) x) && (eqb (moved_index p x.row) x.row.index && not (is_set p.set x.row.serial)))

-- ---- how large the numbers are
-- indices of at most 1,000 move up by at most 1,000; those of a store that passes are at most 64
pub record Moves (s : Shift) : Type 0 where
  pub more : s.more ≤ 1000

pub record Planned (p : Plan) : Type 0 where
  pub definitions : Moves p.definitions
  pub attributes : Moves p.attributes

-- a clause, and no ghost field of Head: `read_head` reads every row, also one with larger numbers
pub record Fair (h : Head) : Type 0 where
  pub depth : h.depth ≤ 80
  pub index : h.index ≤ 1000
