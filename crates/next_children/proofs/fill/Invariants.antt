use Prim.Native.Nat.{◌-◌}
use Rattle.model.specs.Members.{all_members}
use Rattle.next_children.proofs.LineLaws.{Lining}
use Rattle.next_children.proofs.fill.Given as goal

-- the children below x stand in the line
abbrev pub invariant-loop-x : goal.invariant-loop-x
invariant-loop-x l = Lining l.n (all_members l.ms) l.x l.lasts l.line

abbrev pub decreases-loop-x : goal.decreases-loop-x
decreases-loop-x l = l.n - l.x
