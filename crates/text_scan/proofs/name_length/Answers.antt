-- `text_scan::name_length` meets its contract: the front is as long as the place of the first byte that may not stand
-- in a name (`front_first` of LoopLaws).
use mathlib.Core.Bool.{true, false}
use mathlib.Core.Path.{◌≡◌, sym, ◌∙◌}
use borrow.Author.Tests.{tests}
use borrow.Author.Rules.{rules}
use Rattle.std.proofs.lemmas.Iterator.{YieldsList-from_slice, IsFirst-from_position}
use Rattle.rules.specs.WellFormed.{in_name}
use Rattle.text_scan.proofs.LoopLaws.{front_first}
use Rattle.text_scan.proofs.name_length.Goals as goal

pub returns : goal.returns
returns c =
    c.unwrap_or.ensures
    ∙ sym
    (front_first in_name c.args.text.now _
    (IsFirst-from_position _ _ _ (λ x. in_name x ≡ false) (λ x. in_name x ≡ true) c.position.ensures.ran
    (YieldsList-from_slice c.args.text.now (cc)) (λ x q k. search (rules, tests)) (λ x q k. search (rules, tests))))
