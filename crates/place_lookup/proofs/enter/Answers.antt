-- `place_lookup::enter` meets its contract: the member that `reach` gives lies within s (`member_bounded` of
-- ParticleLaws), so that `enter_at` may read it.
use Rattle.model.proofs.ParticleLaws.{member_bounded}
use Rattle.place_lookup.proofs.enter.Goals as goal

pub enter_at-requires : goal.enter_at-requires
enter_at-requires c =
    (member_bounded _ _ c.args.s.now _ _ c.reach.ensures c.in-Member.is, c.requires.0, c.requires.1)
