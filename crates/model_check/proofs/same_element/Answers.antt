-- `model_check::same_element` meets its contract. Sorts and indices, compared.
use mathlib.Core.Path.{ap, ap₂}
use mathlib.Core.Bool.{Bool, ◌&&◌}
use Prim.Native.Nat.{ℕ}
use lib.Dec.{eqb}
use Rattle.model_check.proofs.same_element.Goals as goal

pub returns : goal.returns
returns c =
    ap₂ (λ (a b : Bool). a && b) (ap (λ (a : ℕ). eqb a 0) c.particle_sort_at-first.ensures)
    (ap₂ (λ (a b : Bool). a && b) (ap (λ (a : ℕ). eqb a 0) c.particle_sort_at-second.ensures)
    (ap₂ (λ (a b : ℕ). eqb a b) c.particle_index_at.ensures c.particle_index_at-2.ensures))
