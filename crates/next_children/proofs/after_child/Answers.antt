-- `next_children::after_child` meets its contract: a child that the model names has the sets of `nexts_of`
-- (`after_named` of NamesLaws), and any other is in no word, so that nothing follows it and no word ends with it
-- (`after_other`).
use mathlib.Core.Path.{refl}
use Rattle.next_children.proofs.NamesLaws.{after_named, after_other}
use Rattle.next_children.proofs.after_child.Goals as goal

pub returns-then-contains : goal.returns-then-contains
returns-then-contains c = after_named _ _ _ c.nexts_of.ensures

pub returns : goal.returns
returns c =
    after_other _ _ _ _ _ c.requires.1 c.requires.0 c.contains.ensures
    c.if-contains.false refl refl
