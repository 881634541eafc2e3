-- `layout::particle_quantifier_at` meets its contract: byte `4 * i + 1` of the body is byte 1 of record i (`field_by`
-- of LayoutLaws).
use native.Mathlib.Omega.{arith}
use Rattle.rules.specs.Layout.{particle_size}
use Rattle.layout.proofs.LayoutLaws.{field_by}
use Rattle.layout.proofs.particle_quantifier_at.Goals as goal

pub returns : goal.returns
returns c =
    let a = c.args in
    field_by particle_size a.i 1 a.parts.now (omega arith) c.byte.ensures c.wide.ensures
