-- `model_edit::keeps_within` meets its contract: a form with more than 256 particles is past its ceilings (`keeps_not`
-- of FormWriting); else the depths after the edit decide, which `is_within` tests (`keeps`); what it and `own_part`
-- require is `still_within` and `owner_low`.
use native.Mathlib.Omega.{arith}
use Rattle.model_form.proofs.FormWriting.{owner_low, keeps_not, keeps, still_within}
use Rattle.model_edit.proofs.keeps_within.Goals as goal

pub returns-then-p-gt-MAX_PARTICLES : goal.returns-then-p-gt-MAX_PARTICLES
returns-then-p-gt-MAX_PARTICLES c =
    keeps_not c.args.change.now.fits c.requires c.if-p-gt-MAX_PARTICLES.true

pub own_part-part-requires : goal.own_part-part-requires
own_part-part-requires c =
    owner_low c.args.change.now.fits

pub is_within-requires : goal.is_within-requires
is_within-requires c =
    still_within c.args.change.now.fits c.own_part-part.ensures

pub returns : goal.returns
returns c =
    keeps c.args.change.now.fits c.own_part-part.ensures c.requires
    (omega (arith, c.if-p-gt-MAX_PARTICLES.false)) c.is_within.ensures
