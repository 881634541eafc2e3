-- `records::value_fits` meets its contract: the bytes read are those used at `at`, so the two tests are `value_fits`
-- (`value_fits_of` of CodeLaws).
use Rattle.records.proofs.CodeLaws.{value_fits_of}
use Rattle.records.proofs.value_fits.Goals as goal

pub returns : goal.returns
returns c =
    let a = c.args in
    value_fits_of a.w a.rec.now a.at a.used _ _ c.after.ensures c.first.ensures c.is_value.ensures c.filled.ensures
