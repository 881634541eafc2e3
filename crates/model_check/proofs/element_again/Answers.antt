-- `model_check::element_again` meets its contract: `any` gives whether a later number's particle is that element
-- (`any_from_yields_List` of the library), and so whether a later particle is (`some_from` of ByNumber).
use mathlib.Core.Path.{refl, ◌∙◌}
use native.Mathlib.Omega.{arith}
use borrow.Author.Rules.{rules}
use borrow.Author.Tests.{tests}
use Prim.Native.Nat.{ℕ, ◌-◌, ◌+◌}
use Rattle.std.proofs.lemmas.Iterator.{YieldsList-from_range}
use Rattle.std.proofs.lemmas.Iterator.Search.{any_from_yields_List}
use Rattle.model_check.specs.Particles.{particle_record_at, particles_read, same_element}
use Rattle.model_check.proofs.Reading.{particles_from_lem, particles_length}
use Rattle.model_check.proofs.ByNumber.{some_from}
use Rattle.model_check.proofs.element_again.Goals as goal

pub returns : goal.returns
returns c =
    let a = c.args in
    let particle = λ (j : ℕ). particle_record_at j a.parts.now in
    let is = same_element (particle a.i) in
    let left = a.m - (a.i + 1) in
    any_from_yields_List (λ j. is (particle j)) c.any.new.self _ _ c.any.ensures.ran
    (YieldsList-from_range (a.i + 1) a.m left refl refl) (λ x b q k. search (rules, tests))
    ∙ some_from (particles_read a.m a.parts.now) particle (λ j h. particles_from_lem j a.m a.parts.now (omega (arith, h, particles_length a.m a.parts.now))) is left (a.i + 1)
    (omega (arith, particles_length a.m a.parts.now))
