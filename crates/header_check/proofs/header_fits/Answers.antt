-- `header_check::header_fits` meets its contract: size, version, next serial and the answers of the three tests are, by
-- the contracts of the calls, those that `header_fits` joins (`header_of` of CodeLaws in `records`).
use Rattle.records.proofs.CodeLaws.{header_of}
use Rattle.header_check.proofs.header_fits.Goals as goal

pub returns : goal.returns
returns c =
    let a = c.args in
    header_of a.w a.store.now _ _ _ c.through_definitions.ensures.value c.version_in-version.ensures.value c.next_serial-next.ensures.value
    c.counts_fit.ensures c.offsets_fit.ensures c.is_sized.ensures
