-- `attribute_scan::put_attribute_line` meets its contract: the name and what comes after the type stand in the line
-- where the definition has them (`line_laid` of ValueLaws).
use Rattle.attribute_scan.proofs.ValueLaws.{line_laid}
use Rattle.attribute_scan.proofs.put_attribute_line.Goals as goal

pub returns : goal.returns
returns c =
    let a = c.args in
    line_laid a.w a.owner a.line.now _ _ _ _ c.after_declared-content.ensures c.name_here-name.ensures
    c.after_name.ensures c.after-text.ensures c.put_declared.ensures
