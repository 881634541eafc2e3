-- `header_check::counts_fit` meets its contract: the four counts that are read are the string's, so the test is
-- `counts_fit` (`counts_of` of CodeLaws in `records`).
use Rattle.records.proofs.CodeLaws.{counts_of}
use Rattle.header_check.proofs.counts_fit.Goals as goal

pub returns : goal.returns
returns c =
    counts_of c.args.store.now _ _ _ _ c.definition_count-definitions.ensures.value c.particle_count-particles.ensures.value
    c.attribute_count-attributes.ensures.value c.row_count-rows.ensures.value
