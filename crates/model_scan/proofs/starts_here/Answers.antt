-- `model_scan::starts_here` meets its contract: its two tests are those of the definition, one by `in_name`.
use mathlib.Core.Path.{ap}
use mathlib.Core.Bool.{Bool, ◌&&◌, ◌||◌, not}
use lib.Dec.{eqb}
use Rattle.model_scan.proofs.starts_here.Goals as goal

pub returns : goal.returns
returns c =
    let a = c.args in
    ap (λ (b : Bool). eqb a.x 40 || (b && not a.inside)) c.in_name.ensures
