-- The part of a definition in the particle body is found by the counts of the definitions before it.
use Prim.Native.Nat.{ℕ, zero, suc, ◌+◌, ◌<◌, ◌≤◌}
use native.Mathlib.Omega.{arith}
use mathlib.Core.Path.{◌≡◌, refl, ap, ◌∙◌, sym}
use mathlib.Core.Bool.{true}
use mathlib.Core.List.{List, [], ◌∷◌}
use lib.Dec.{leb}
use lib.ListN.{length, take, drop, get_or, length-drop}
use lib.Seq.{drop-drop}
use borrow.Author.Tests.{leb-true}
use Rattle.rules.specs.Preorder.{Deep}
use Rattle.rules.specs.Layout.{FlatDefinition, FlatParticle}
use Rattle.rules.proofs.Words.{and_split}
use Rattle.rules.proofs.BooleanLaws.{none_nil}
use Rattle.model.specs.Members.{start_of}
use Rattle.model_check.specs.ModelTests.{model_fits}
use Rattle.form_check.specs.FormTests.{models_fit}
use Rattle.store_check.specs.Reading.{part_at, no_flat_definition}

before_none : (ds : List FlatDefinition) → start_of 0 ds ≡ 0
before_none [] = refl
before_none (d ∷ ds) = refl

before_more : (i : ℕ) (ds : List FlatDefinition) → start_of (suc i) ds ≡ start_of i ds + (get_or ds i no_flat_definition).particles
before_more i [] = refl
before_more zero (d ∷ ds) = omega (arith, before_none ds)
before_more (suc i) (d ∷ ds) = omega (arith, before_more i ds)

pub before_within : (i : ℕ) (ds : List FlatDefinition) → i < length ds → start_of i ds + (get_or ds i no_flat_definition).particles ≤ start_of (length ds) ds
before_within i [] l = absurd (omega arith)
before_within zero (d ∷ ds) l = omega arith
before_within (suc i) (d ∷ ds) l = omega (arith, before_within i ds (omega arith))

-- a sum of the counts, taken from the front on
pub before_is : (sum count : ℕ → ℕ) (n : ℕ) (ds : List FlatDefinition) → sum 0 ≡ 0 → ((i : ℕ) → sum (suc i) ≡ sum i + count i)
    → ((i : ℕ) → i < n → count i ≡ (get_or ds i no_flat_definition).particles) → (i : ℕ) → i ≤ n → sum i ≡ start_of i ds
before_is sum count n ds z s e zero l = z ∙ sym (before_none ds)
before_is sum count n ds z s e (suc i) l = omega (arith, s i, e i (omega arith), before_is sum count n ds z s e i (omega arith), before_more i ds)

pub part_cut : (i : ℕ) (ds : List FlatDefinition) (ps : List (Deep FlatParticle)) → part_at i ds ps ≡ take (get_or ds i no_flat_definition).particles (drop (start_of i ds) ps)
part_cut i [] ps = refl
part_cut zero (d ∷ ds) ps = refl
part_cut (suc i) (d ∷ ds) ps =
    part_cut i ds (drop d.particles ps) ∙ ap (λ (xs : List (Deep FlatParticle)). take (get_or ds i no_flat_definition).particles xs) (drop-drop (start_of i ds) d.particles ps)

-- the parts are the whole body
pub models_whole : (n : ℕ) (ds : List FlatDefinition) (ps : List (Deep FlatParticle)) → models_fit n ds ps ≡ true → start_of (length ds) ds ≡ length ps
unfolding models_fit
models_whole n [] ps h = ap (λ (xs : List (Deep FlatParticle)). length xs) (sym (none_nil ps h))
models_whole n (d ∷ ds) ps h =
    let (x, y) = and_split (leb d.particles (length ps)) _ h in
    let (u, v) = and_split (model_fits n (take d.particles ps)) (models_fit n ds (drop d.particles ps)) y in
    omega (arith, leb-true d.particles (length ps) x, models_whole n ds (drop d.particles ps) v, length-drop d.particles ps)
