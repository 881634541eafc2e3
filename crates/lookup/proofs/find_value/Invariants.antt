use Prim.Native.Nat.{◌<◌}
use Rattle.lookup.specs.Bodies.{RowsOf}
use Rattle.lookup.proofs.Laws.{Seeking}
use Rattle.lookup.proofs.find_value.Given as goal

-- the rows from i on give what all give; the rows and their width are the store's
abbrev pub invariant-loop-i : goal.invariant-loop-i
invariant-loop-i l = Seeking l.store l.serial l.count l.i × RowsOf l.store l.w l.rows × (l.count < 4294967296)
