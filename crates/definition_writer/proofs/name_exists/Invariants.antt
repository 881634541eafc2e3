use Prim.Native.Nat.{◌-◌}
use Rattle.rules.specs.Layout.{definition_size}
use Rattle.rules.specs.Decode.{read_definition}
use Rattle.lookup.proofs.Searching.{Searching}
use Rattle.definition_writer.proofs.Naming.{has_name}
use Rattle.definition_writer.proofs.name_exists.Given as goal

-- the definitions from number i on are left
abbrev pub invariant-loop-i : goal.invariant-loop-i
invariant-loop-i l = Searching read_definition definition_size (has_name l.name) l.defs l.count l.i
