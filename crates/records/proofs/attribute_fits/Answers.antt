-- `records::attribute_fits` meets its contract: the owner, the sort, the length and the value that are read are the
-- record's, so the five tests are those of `attribute_fits` (`attribute_of_lem` of CodeLaws).
use Rattle.records.proofs.CodeLaws.{attribute_of_lem}
use Rattle.records.proofs.attribute_fits.Goals as goal

pub returns : goal.returns
returns c =
    let a = c.args in
    attribute_of_lem a.w a.n a.rec.now _ _ _ _ _ c.attribute_owner-owner.ensures c.attribute_sort-sort.ensures c.attribute_length-used.ensures
    c.attribute_value-value.ensures c.from.ensures c.name_fits.ensures c.value_fits.ensures c.is_fill.ensures
