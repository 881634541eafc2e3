-- `form_check::clashes_later` meets its contract: `any` gives whether a later number clashes (`any_from_yields_List` of
-- the library), since the question changes nothing.
use Rattle.std.proofs.Common.{rules, refl, ◌+◌, ◌-◌}
use Rattle.std.proofs.lemmas.Iterator.{YieldsList-from_range, serves_from_Range}
use Rattle.std.proofs.lemmas.Iterator.Search.{any_from_yields_List}
use Rattle.form_check.proofs.clashes_later.Goals as goal

pub any-requires-clause-callable : goal.any-requires-clause-callable
any-requires-clause-callable g c = serves_from_Range (λ x q k. search rules) (λ x low high. search rules)

pub returns : goal.returns
returns g c =
    λ p t.
    let a = c.args in
    any_from_yields_List (p a.i) c.any.new.self _ _ c.any.ensures.ran
    (YieldsList-from_range (a.i + 1) a.n (a.n - (a.i + 1)) refl refl) (λ x b q k. search (rules, t))
