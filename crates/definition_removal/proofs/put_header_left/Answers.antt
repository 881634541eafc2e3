-- `definition_removal::put_header_left` meets its contract: the three counts are those of `destroyed`, so the header
-- written with them is `header_left` (`header_left_lem` of Left); that of the definitions is in range by `encoded` of
-- Encoded in `store_laws`, the others by their contracts.
use Rattle.definition_removal.proofs.Left.{header_left_lem}
use Rattle.store_laws.proofs.Encoded.{encoded}
use native.Mathlib.Omega.{arith}
use Rattle.definition_removal.proofs.put_header_left.Goals as goal

pub put_header-requires : goal.put_header-requires
put_header-requires c =
    let x = encoded c.args.store.now c.requires.good in
    omega (
      arith,
      c.particles_left-p.ensures.most,
      c.attributes_left-a.ensures.most,
      c.definition_count-d.ensures.value,
      x.definitions,
      x.few_definitions,
    )

pub returns : goal.returns
returns c =
    header_left_lem c.args.store.now c.requires.good c.args.i c.requires.there c.definition_count-d.ensures
    c.particles_left-p.ensures c.attributes_left-a.ensures c.put_header.ensures
