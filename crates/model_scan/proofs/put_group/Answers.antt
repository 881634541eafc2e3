-- `model_scan::put_group` meets its contract: the particle that is written has what `grouped_at` saw (`group_laid`
-- of PutLaws).
use Rattle.model_scan.proofs.PutLaws.{group_laid}
use Rattle.model_scan.proofs.put_group.Goals as goal

pub returns : goal.returns
returns c =
    group_laid c.args.text.now _ c.grouped_at-group.ensures c.put_new_particle.ensures
