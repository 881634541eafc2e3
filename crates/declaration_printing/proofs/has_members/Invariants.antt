use mathlib.Core.Path.{◌≡◌}
use Rattle.rules.specs.Preorder.{build}
use Rattle.printing_parts.specs.Parts.{particles_from}
use Rattle.declaration_printing.specs.Declarations.{is_tree}
use Rattle.declaration_printing.proofs.has_members.Given as goal

-- The loop's invariant: there is a member among the particles from i on if and only if there is one among those from
-- `from` on.
abbrev pub invariant-loop-i : goal.invariant-loop-i
invariant-loop-i l = is_tree (build (particles_from l.store l.end l.i) 0) ≡ is_tree (build (particles_from l.store l.end l.from) 0)
