use Rattle.lookup.proofs.Searching.{Searching}
use Rattle.attribute_refusals.specs.OwnAttributes.{own_named}
use Rattle.rules.specs.Layout.{attribute_size}
use Rattle.rules.specs.Decode.{read_attribute}
use Prim.Native.Nat.{◌<◌}
use Rattle.attribute_refusals.proofs.has_attribute.Given as goal

-- the attributes from number i on are left
abbrev pub invariant-loop-i : goal.invariant-loop-i
invariant-loop-i l = (l.count < 4294967296) × Searching read_attribute (attribute_size l.w) (own_named l.owner l.name) l.attrs l.count l.i
