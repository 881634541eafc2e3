-- `layout::particle_sort_at` meets its contract: byte `4 * i` of the body is byte 0 of record i (`first_field_by` of
-- LayoutLaws).
use native.Mathlib.Omega.{arith}
use Rattle.rules.specs.Layout.{particle_size}
use Rattle.layout.proofs.LayoutLaws.{first_field_by}
use Rattle.layout.proofs.particle_sort_at.Goals as goal

pub returns : goal.returns
returns c =
    let a = c.args in
    first_field_by particle_size a.i a.parts.now (omega arith) c.byte.ensures c.wide.ensures
