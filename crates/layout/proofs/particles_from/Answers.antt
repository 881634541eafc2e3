-- `layout::particles_from` meets its contract: the window from particle i on, as long as the body, is all that stands
-- from there on (`cut_past` of LayoutLaws).
use mathlib.Core.Path.{◌∙◌}
use Prim.Native.Nat.{◌*◌}
use Rattle.layout.proofs.LayoutLaws.{cut_past}
use Rattle.rules.specs.Layout.{particle_size}
use Rattle.layout.proofs.particles_from.Goals as goal

pub returns : goal.returns
returns c =
    c.window.ensures ∙ cut_past c.args.parts.now (particle_size * c.args.i)
