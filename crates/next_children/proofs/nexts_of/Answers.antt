-- `next_children::nexts_of` meets its contract: what `automaton::nexts_from` tells of each name below 64 is what the
-- sets say (`told_all` of ToldLaws).
use Rattle.rules.specs.declared.GroupKind.TheVariants.{Sequence}
use Rattle.model.specs.Members.{all_members}
use Rattle.next_children.proofs.ToldLaws.{told_all}
use Rattle.next_children.proofs.nexts_of.Goals as goal

pub returns : goal.returns
returns c = told_all _ Sequence (all_members c.args.ms.now) c.args.x c.nexts_from.ensures
