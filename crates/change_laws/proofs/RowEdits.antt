-- What a plan does to the rows right below one row.
use Prim.Native.Nat.{ℕ}
use mathlib.Core.Bool.{Bool, true, false, ◌&&◌, not}
use mathlib.Core.List.{List, [], ◌∷◌, ◌++◌, map}
use Rattle.rules.specs.Store.{Row, heads}
use Rattle.rules.specs.Change.{Plan, revalue}

abbrev pub row_serial : Row → ℕ
row_serial r = r.serial

-- the rows that pass a test
unfoldable pub keep : (Row → Bool) → List Row → List Row
keep p [] = []
keep p (r ∷ rs) = elim (p r) [ true ↦ r ∷ keep p rs | false ↦ keep p rs ]

-- `Rattle.rules.specs.Change.plant` on the rows right below u
unfoldable pub plant_rows : Plan → Row → Bool → List Row → List Row
plant_rows p u true [] = heads p.filling
plant_rows p u false [] = []
plant_rows p u due (r ∷ rs) = elim (due && p.later u r) [ true ↦ heads p.filling ++ (r ∷ plant_rows p u false rs) | false ↦ r ∷ plant_rows p u due rs ]

abbrev pub revalued : Plan → Row → Row
revalued p r = revalue p.set p.value r

-- the rows right below u after the plan, before new rows get serials
unfoldable pub children_after : Plan → Row → List Row → List Row
children_after p u rs = plant_rows p (revalued p u) (p.fills (revalued p u)) (map (revalued p) (keep (λ r. not (p.takes u r)) rs))
