use Rattle.rules.specs.Layout.{group_code}
use Rattle.model_scan.proofs.ModelLaws.{Grouping}
use Rattle.model_scan.proofs.grouped_at.Given as goal

-- what is left, from this state on, gives the group
abbrev pub invariant-loop-i : goal.invariant-loop-i
invariant-loop-i l = Grouping l.text l.nest (group_code l.kind) l.signs l.i
