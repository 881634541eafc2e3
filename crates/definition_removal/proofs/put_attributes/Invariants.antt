use Rattle.definition_removal.proofs.Again.{Going}
use Rattle.definition_removal.specs.Bodies.{lowered, attribute_record}
use Rattle.rules.specs.Layout.{attribute_size}
use Prim.Native.Nat.{suc}
use Rattle.definition_removal.proofs.put_attributes.Given as goal

-- The loop's invariant: the attributes from i on, written from `at` on, complete what all attributes give from `start`
-- on.
abbrev pub invariant-loop-i : goal.invariant-loop-i
invariant-loop-i l = Going (attribute_record (lowered (suc l.definition) 1)) (attribute_size l.w) l.body l.count l.initial.out l.start l.out l.at l.i
