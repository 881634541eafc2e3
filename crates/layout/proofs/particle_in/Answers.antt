-- `layout::particle_in` meets its contract: it is the contract of `window` with the store's `definition_count` put in
-- for the count that was read.
use mathlib.Core.Path.{ap, ◌∙◌}
use Prim.Native.Nat.{ℕ, ◌+◌, ◌*◌}
use Rattle.layout.specs.Bodies.{window_of}
use Rattle.layout.proofs.particle_in.Goals as goal

pub returns : goal.returns
returns c =
    let a = c.args in
    c.window.ensures ∙ ap (λ (d : ℕ). window_of (40 + 20 * d + 4 * a.i) 4 a.store.now) c.definition_count-definitions.ensures.value
