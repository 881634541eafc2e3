-- `records::definition_fits` meets its contract: the kind and the number of particles that are read are the record's,
-- so the tests are those of `definition_fits` (`definition_of_lem` of CodeLaws).
use Rattle.records.proofs.CodeLaws.{definition_of_lem}
use Rattle.records.proofs.definition_fits.Goals as goal

pub returns : goal.returns
returns c =
    definition_of_lem c.args.rec.now _ _ c.definition_kind-kind.ensures c.definition_particles-particles.ensures c.name_fits.ensures
