-- The particles of a form within the ceilings are bytes.
use Prim.Native.Nat.{ℕ, zero, suc, ◌≤◌}
use native.Mathlib.Omega.{arith}
use mathlib.Core.Path.{◌≡◌, refl, ap}
use mathlib.Core.Bool.{true}
use mathlib.Core.List.{[], ◌∷◌}
use lib.Dec.{leb}
use lib.ListN.{length}
use borrow.Author.Tests.{leb-true}
use Rattle.rules.specs.Bytes.{all}
use Rattle.rules.specs.Store.{Definition, Form}
use Rattle.rules.specs.Preorder.{Deep}
use Rattle.rules.specs.Layout.{FlatParticle, all_particles}
use Rattle.rules.specs.Change.{update}
use Rattle.rules.proofs.BooleanLaws.{Every, every_of, every_zip}
use Rattle.rules.proofs.LayoutLaws.{SmallParticle}
use Rattle.rules.proofs.SmallBytes.{LaidParticle, laid_particles}

module _ (form : Form) (few : length form ≤ 64) where
  pub small_particles : length (all_particles form form) ≤ 256 → all (λ (x : Deep FlatParticle). leb x.depth 4) (all_particles form form) ≡ true → Every SmallParticle (all_particles form form)
  small_particles n d =
      every_zip LaidParticle (λ x. leb x.depth 4 ≡ true) SmallParticle (all_particles form form)
      (λ x a l. record { sort = a.sort; quantifier = a.quantifier; index = a.index; depth = omega (arith, leb-true x.depth 4 l) }) (laid_particles form few form n)
      (every_of (λ (x : Deep FlatParticle). leb x.depth 4) (all_particles form form) d)

pub update_length : (i : ℕ) (u : Definition → Definition) (form : Form) → length (update i u form) ≡ length form
update_length i u [] = refl
update_length zero u (d ∷ ds) = refl
update_length (suc i) u (d ∷ ds) = ap suc (update_length i u ds)
