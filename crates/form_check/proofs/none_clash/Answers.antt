-- `form_check::none_clash` meets its contract: no number clashes with a later one (`none_apart` of Laws).
use Rattle.std.proofs.Common.{rules, refl, ap, ◌∙◌, ◌+◌, ◌-◌}
use mathlib.Core.Bool.{not}
use Rattle.std.specs.List.{list_any, range_with_len}
use Rattle.std.proofs.lemmas.Iterator.{YieldsList-from_range}
use Rattle.std.proofs.lemmas.Iterator.Search.{any_from_yields_List}
use native.Mathlib.Omega.{arith}
use Rattle.form_check.proofs.Laws.{none_apart}
use Rattle.form_check.proofs.none_clash.Goals as goal

pub returns : goal.returns
returns g c =
    λ p t.
    let n = c.args.n in
    ap not
    (any_from_yields_List (λ i. list_any (p i) (range_with_len (i + 1) (n - (i + 1)))) c.any.new.self _ _ c.any.ensures.ran
    (YieldsList-from_range 0 n n refl (omega arith)) (λ x b q k. search (rules, t)))
    ∙ none_apart p n n 0 (omega arith)
