-- `attribute_scan::put_fixed` meets its contract: what is kept of the array are the first w bytes of the value
-- (`value_kept` of ValueLaws), which stands between the quotes (`value_quoted`).
use mathlib.Core.Path.{refl}
use Rattle.attribute_scan.specs.Values.{quoted_value}
use Rattle.attribute_scan.proofs.ValueLaws.{value_kept, value_quoted, value_laid, value_short}
use Rattle.attribute_scan.proofs.put_fixed.Goals as goal

pub put_attribute-requires : goal.put_attribute-requires
put_attribute-requires c =
    let a = c.args in
    let kept = value_quoted a.text.now _ _ _ _ c.after-quoted.ensures c.length_before.ensures c.first-raw.ensures a.w
    (value_kept _ _ _ _ _ _ a.w _ c.unescape.ensures refl c.requires.0 c.unwrap_or-n.ensures c.least.ensures c.first-kept.ensures) in
    (c.requires.0, c.requires.1, value_short _ (quoted_value a.text.now) a.w kept, c.requires.2)

pub returns : goal.returns
returns c =
    let a = c.args in
    let kept = value_quoted a.text.now _ _ _ _ c.after-quoted.ensures c.length_before.ensures c.first-raw.ensures a.w
    (value_kept _ _ _ _ _ _ a.w _ c.unescape.ensures refl c.requires.0 c.unwrap_or-n.ensures c.least.ensures c.first-kept.ensures) in
    value_laid a.w a.owner a.name.now _ _ _ kept c.from-code.ensures c.put_attribute.ensures
