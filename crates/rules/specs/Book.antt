-- 'The book': it is fed each call and whether it was accepted, and reads no store.
use Rattle.std.specs.Prelude.{ℕ, suc, ◌+◌, ◌*◌, Bool, true, false, ◌&&◌, not, List, [], ◌∷◌, ◌++◌, map, eqb}
use Rattle.std.proofs.Math.Option.{Option, none, some}
use Rattle.rules.specs.Bytes.{Bytes, any}
use Rattle.rules.specs.Store.{Form, Row, Forest}
use Rattle.rules.specs.Layout.{base_version}
use Rattle.rules.specs.Lines.{Line, lines, ground}
use Rattle.rules.specs.Change.{Call, form_after, Plan, plan, revalue, new_rows, number}

-- a line of the book: a row made, not taken or taken
pub data Entry : Type 0 where
  stands : Line → Entry
  taken : Line → Entry

-- 'The book': it holds the next serial, the form, and a line per row made; and the version, for the rules that differ
pub record Book : Type 0 where
  pub version : ℕ
  pub next : ℕ
  pub form : Form
  pub entries : List Entry

abbrev pub fresh_book : Book
fresh_book = record { version = base_version; next = 1; form = []; entries = [] }

-- 'Untaken lines stand in document order'
unfoldable pub untaken : List Entry → List Line
untaken [] = []
untaken (stands l ∷ es) = l ∷ untaken es
untaken (taken l ∷ es) = untaken es

-- ---- the taking rule on lines
unfoldable pub row_by_serial : ℕ → List Row → Option Row
row_by_serial k [] = none
row_by_serial k (r ∷ rs) = elim (eqb k r.serial) [ true ↦ some r | false ↦ row_by_serial k rs ]

-- a line is taken if its parent is not among the rows kept so far, or if the rule names it
unfoldable pub falls : (Row → Row → Bool) → List Row → Line → Bool
falls takes kept l = elim (row_by_serial l.parent kept) [ none ↦ true | some u ↦ takes u l.row ]

unfoldable pub mark : (Row → Row → Bool) → List Row → List Entry → List Entry
mark takes kept [] = []
mark takes kept (taken l ∷ es) = taken l ∷ mark takes kept es
mark takes kept (stands l ∷ es) = elim (falls takes kept l) [ true ↦ taken l ∷ mark takes kept es | false ↦ stands l ∷ mark takes (l.row ∷ kept) es ]

-- ---- values set
abbrev pub revalue_entry : ℕ → Bytes → Entry → Entry
revalue_entry k v (taken l) = taken l
revalue_entry k v (stands l) = stands (record { parent = l.parent; row = revalue k v l.row })

-- ---- rows made: first the spots where they come, then their lines
-- Say that the book has race 1, lap 2 below it, lap 3 below it, taken, and
-- race 4, and that each race gets a split after its laps:
--   lines    race 1   lap 2   (lap 3)            race 4
--   spots    race 1   lap 2   (lap 3)   spot 1   race 4   spot 4
--   expand   race 1   lap 2   (lap 3)   split 5  race 4   split 6
-- The example is computed in proofs/LapsExample.antt (`Spots`).

-- `spot u`: the new rows below the row with serial u come here
pub data Mark : Type 0 where
  old : Entry → Mark
  spot : ℕ → Mark

-- The spot of the row with serial u, in the marks after its line: past the lines below it, up to its first later child;
-- `below` are u and the serials passed.
unfoldable pub put_spot : (Row → Bool) → ℕ → List ℕ → List Mark → List Mark
put_spot later u below [] = spot u ∷ []
put_spot later u below (spot v ∷ ms) = spot v ∷ put_spot later u below ms
put_spot later u below (old (taken l) ∷ ms) = old (taken l) ∷ put_spot later u below ms
put_spot later u below (old (stands l) ∷ ms) =
    elim (any (eqb l.parent) below && not (eqb l.parent u && later l.row)) [
      | true ↦ old (stands l) ∷ put_spot later u (l.row.serial ∷ below) ms
      | false ↦ spot u ∷ old (stands l) ∷ ms
    ]

-- in the marks after the line of r: its spot, if it gets new rows
abbrev pub placed : Plan → Row → List Mark → List Mark
placed p r ms = elim (p.fills r) [ true ↦ put_spot (p.later r) r.serial (r.serial ∷ []) ms | false ↦ ms ]

-- a spot for each standing line whose row gets new rows
unfoldable pub spots : Plan → List Entry → List Mark
spots p [] = []
spots p (taken l ∷ es) = old (taken l) ∷ spots p es
spots p (stands l ∷ es) = old (stands l) ∷ placed p l.row (spots p es)

-- the new lines, numbered from n on
unfoldable pub expand : Forest Row → ℕ → List Mark → List Entry
expand w n [] = []
expand w n (old e ∷ ms) = e ∷ expand w n ms
expand w n (spot u ∷ ms) = map (λ (l : Line). stands l) (lines u (number n w)) ++ expand w (n + new_rows w) ms

unfoldable pub spot_count : List Mark → ℕ
spot_count [] = 0
spot_count (old e ∷ ms) = spot_count ms
spot_count (spot u ∷ ms) = suc (spot_count ms)

-- an accepted call's marks: first lines are taken, then values set, then
-- spots put; the one below the ground is for documents
abbrev pub marks : Plan → List Entry → List Mark
marks p es = placed p ground (spots p (map (revalue_entry p.set p.value) (mark p.takes (ground ∷ []) es)))

-- an accepted call
unfoldable pub note : Call → Book → Book
note c b =
    let p : Plan = plan c b.version b.form (untaken b.entries) in
    record {
      version = b.version;
      next = b.next + new_rows p.filling * spot_count (marks p b.entries);
      form = form_after c b.form;
      entries = expand p.filling b.next (marks p b.entries);
    }

-- 'A refused call changes nothing'
abbrev pub follow : Bool → Call → Book → Book
follow true c b = note c b
follow false c b = b
