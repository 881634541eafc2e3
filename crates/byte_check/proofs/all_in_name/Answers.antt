-- `byte_check::all_in_name` meets its contract: the closure asks `in_name` of each byte, and what `all` answers of a
-- slice is the test's `all` (`all_list` of TestLaws).
use mathlib.Core.Path.{◌∙◌}
use Rattle.std.proofs.Common.{rules, tests}
use Rattle.std.proofs.lemmas.Iterator.{YieldsList-from_slice}
use Rattle.std.proofs.lemmas.Iterator.Search.{all_from_yields_List}
use Rattle.rules.specs.WellFormed.{in_name}
use Rattle.byte_check.proofs.TestLaws.{all_list}
use Rattle.byte_check.proofs.all_in_name.Goals as goal

pub returns : goal.returns
returns c = all_from_yields_List in_name _ _ _ c.all.ensures.ran (YieldsList-from_slice c.args.s.now cc) (λ x b q k. search (rules, tests)) ∙ all_list in_name c.args.s.now
