-- The models of a form, one after the other.
use Prim.Native.Nat.{ℕ, ◌+◌, ◌*◌, ◌-◌, ◌≤◌, ◌<◌}
use native.Mathlib.Omega.{arith}
use mathlib.Core.Path.{◌≡◌, refl, sym, ap, ◌∙◌}
use mathlib.Core.Bool.{Bool, true, false, not}
use mathlib.Core.List.{List, [], ◌∷◌}
use lib.Dec.{eqb}
use lib.ListN.{length, take, drop, length-drop}
use lib.Seq.{drop-drop}
use borrow.Author.Tests.{eq-eqb, ne_eqb, le-leb, lt-leb, eqb-true, eqb-false, not-true, not-false}
use Rattle.rules.specs.Bytes.{Bytes}
use Rattle.rules.specs.Preorder.{Deep}
use Rattle.rules.specs.Layout.{particle_size, FlatParticle, FlatDefinition}
use Rattle.rules.proofs.BooleanLaws.{none_long}
use Rattle.codec.specs.Part.{part_of}
use Rattle.model_check.specs.ModelTests.{model_fits}
use Rattle.model_check.specs.Particles.{particles_read}
use Rattle.form_check.specs.FormTests.{models_fit}
use Rattle.form_check.proofs.Reading.{particles_part}

-- the code's part of the particle body
pub part_fits : (n at k p : ℕ) (parts : Bytes) {s : Bytes} {b : Bool} → s ≡ part_of (particle_size * at) (particle_size * k) parts → b ≡ model_fits n (particles_read k s)
    → at + k ≤ p → particle_size * p ≡ length parts → b ≡ model_fits n (take k (drop at (particles_read p parts)))
part_fits n at k p parts e f h g = f ∙ ap (λ (t : Bytes). model_fits n (particles_read k t)) e ∙ ap (model_fits n) (particles_part at k p parts h g)

module _ (n p at : ℕ) (ps : List (Deep FlatParticle)) (hp : length ps ≡ p) {ds rest : List FlatDefinition} {x : FlatDefinition} {k : ℕ} (e : ds ≡ x ∷ rest) (f : k ≡ x.particles) where
  left : length (drop at ps) ≡ p - at
  left = omega (arith, length-drop at ps)

  pub models_short : p - at < k → models_fit n ds (drop at ps) ≡ false
  unfolding models_fit
  models_short h = rw (e, models_fit, ← f, left, lt-leb k (p - at) h)

  pub models_off : {b : Bool} → k ≤ p - at → b ≡ model_fits n (take k (drop at ps)) → not b ≡ true → models_fit n ds (drop at ps) ≡ false
  unfolding models_fit
  models_off {b} h g z = rw (e, models_fit, ← f, left, le-leb k (p - at) h, ← g, not-true b z)

  pub models_on : {b : Bool} → k ≤ p - at → b ≡ model_fits n (take k (drop at ps)) → not b ≡ false → models_fit n rest (drop (at + k) ps) ≡ models_fit n ds (drop at ps)
  unfolding models_fit
  models_on {b} h g z = rw (e, models_fit, ← f, left, le-leb k (p - at) h, ← g, not-false b z, drop-drop k at ps)

pub models_end : (n p at : ℕ) (ps : List (Deep FlatParticle)) → length ps ≡ p → at ≤ p → {ds : List FlatDefinition} → ds ≡ [] → models_fit n ds (drop at ps) ≡ eqb at p
unfolding models_fit
models_end n p at ps hp h e = rw (e, models_fit) (sym (none_long (drop at ps)) ∙ rw (length-drop at ps, hp) (by (eqb at p) refl))
  where
    by : (b : Bool) → eqb at p ≡ b → eqb (p - at) 0 ≡ b
    by true q = let z : at ≡ p = eqb-true at p q in eq-eqb (p - at) 0 (omega arith)
    by false q = ne_eqb (p - at) 0 (λ z. eqb-false at p q (omega arith))
