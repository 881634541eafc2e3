-- `filling::created_value` meets its contract: the record, sort and value that are read are those of attribute j, so
-- that the result is `value_in` and no longer than w (`created_told` of FillingLaws).
use Rattle.filling.proofs.FillingLaws.{created_told}
use Rattle.filling.proofs.created_value.Goals as goal

pub returns : goal.returns
returns c =
    let a = c.args in
    let at-record = c.attribute_at-record in
    let at-sort = c.from-sort in
    created_told a.w a.attrs.now a.j _ _ _ _ _ at-record.ensures c.attribute_sort.ensures at-sort.ensures c.attribute_value.ensures c.created_value.ensures
