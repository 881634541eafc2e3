-- `attribute_scan::put_declared` meets its contract: of a sort that is neither IMPLIED nor REQUIRED the value is what stands
-- in quotes (`declares_fixed` of ValueLaws).
use mathlib.Core.Path.{sym, ap, ◌∙◌}
use Rattle.rules.specs.Layout.{sort_code}
use Rattle.attribute_scan.proofs.ValueLaws.{declares_fixed}
use Rattle.attribute_scan.proofs.put_declared.Goals as goal

pub returns-in-Fixed : goal.returns-in-Fixed
returns-in-Fixed c =
    let a = c.args in
    declares_fixed a.w a.owner a.name.now a.text.now (sym (ap sort_code c.in-Fixed.is) ∙ c.declared_sort-sort.ensures) c.put_fixed.ensures
