-- AN ACCEPTED CHANGE LEAVES A STORE THAT PASSES, and so Demand 3.
use Prim.Native.Nat.{ℕ}
use mathlib.Core.Path.{◌≡◌, refl, ◌∙◌, subst}
use mathlib.Core.Bool.{Bool, true, false}
use mathlib.Core.Logic.{inr, ⊎_elim, ◌↔◌}
use mathlib.Core.List.Memᴰ
use mathlib.Core.List.{List, [], map, Memᴰ}
use Rattle.rules.specs.Store.{Store}
use Rattle.rules.specs.Layout.{value_width}
use Rattle.rules.specs.WellFormed.{well_formed}
use Rattle.rules.specs.Conforming.{every_row, conforming}
use Rattle.rules.specs.Passing.{known_version, laid_row, good}
use Rattle.rules.specs.Change.{Call, form_after, docs_after, after}
use Rattle.rules.specs.Refusal.{refusal}
use Rattle.rules.specs.Lines.{Line}
use Rattle.rules.specs.Book.{untaken}
use Rattle.rules.specs.Run.{Asked, Moment, start, run}
use Rattle.rules.proofs.Words.{and_both, and_split}
use Rattle.rules.proofs.SerialLaws.{good_serials_lem}
use Rattle.history.specs.History.{serial_of, serials_in, GoodMoment, moment_of, MadeBy, TakenBy, SomeCall, Demand3}
use Rattle.change_laws.proofs.Conditions.{unmet, ceilings_after, next_after}
use Rattle.change_laws.proofs.WellFormedAfter.{well_formed_after}
use Rattle.history.proofs.Agreement.{serials_after}
use Rattle.change_laws.proofs.AcceptedEdits.{edits_model, accepted_edit}
use Rattle.change_laws.proofs.ConformingEdits.{conforming_edited}
use Rattle.change_laws.proofs.ConformingSimple.{GoodTests, good_tests, conforming_after, conforming_after_simple, values_after}
use Rattle.history.proofs.Moments.{start_good, moment_good}
use Rattle.history.proofs.Theorem.{demand_3_by}

module _ (room : ℕ) (c : Call) (s : Store) (x : GoodTests s) (a : refusal room c s ≡ 0) where
  conforms : (e : Bool) → edits_model c ≡ e → conforming s.version (form_after c s.form) (docs_after c s) ≡ true
  conforms true e = conforming_edited (value_width s.version) s x.form x.serials c (accepted_edit (value_width s.version) s x.form c e (unmet room c s a)) x.docs
  conforms false e = conforming_after_simple room s x c e a

version_of : (s : Store) → good s ≡ true → known_version s.version ≡ true
unfolding good
version_of s g = (and_split (known_version s.version) _ g).0

pub good_after : (room : ℕ) (c : Call) (s : Store) → good s ≡ true → refusal room c s ≡ 0 → good (after c s) ≡ true
unfolding good after
good_after room c s g a =
    let x : GoodTests s = good_tests s g in
    and_both (version_after c s ∙ version_of s g)
    (and_both (ceilings_after room c s a)
    (and_both (form_after_lem c s ∙ well_formed_after room c s x.form a)
    (and_both (conforming_after c s ∙ conforms room c s x a (edits_model c) refl)
    (and_both (values_left c s (values_after room s x c a)) ((good_serials_lem (after c s).next (after c s).docs).1 (serials_after c s x.serials (next_after room c s a)))))))
  where
    version_after : (c : Call) (s : Store) → known_version (after c s).version ≡ known_version s.version
    version_after c s = refl

    form_after_lem : (c : Call) (s : Store) → well_formed (value_width (after c s).version) (after c s).form ≡ well_formed (value_width s.version) (form_after c s.form)
    form_after_lem c s = refl

    values_left : (c : Call) (s : Store) → every_row (λ r below. laid_row (value_width s.version) r) (after c s).docs ≡ true
        → every_row (λ r below. laid_row (value_width (after c s).version) r) (after c s).docs ≡ true
    values_left c s e = e

-- DEMAND 3, from any moment at which the store and the book say the same
pub demand_3_from : (from : Moment) → GoodMoment from → (history later : List Asked) → Demand3 from history later
demand_3_from = demand_3_by good_after

-- DEMAND 3, from the fresh store
pub demand_3 : (history later : List Asked) → Demand3 start history later
demand_3 = demand_3_from start start_good

-- DEMAND 3, from any store that passes
pub demand_3_of : (s : Store) → good s ≡ true → (history later : List Asked) → Demand3 (moment_of s) history later
demand_3_of s g = demand_3_from (moment_of s) (moment_good s g)

-- in the fresh store there is no row, and so: a row is there exactly when an accepted call made it and none took it
none_at_start : (k : ℕ) → Memᴰ k (serials_in start.store) → ⊥
unfolding untaken
none_at_start k i = Memᴰ.not-nil (subst (λ (ls : List Line). Memᴰ k (map serial_of ls)) start_good.rows i)

pub there_from_fresh : (history : List Asked) (k : ℕ) → Memᴰ k (serials_in (run history start).store) ↔ (SomeCall (MadeBy k) history start × (SomeCall (TakenBy k) history start → ⊥))
there_from_fresh history k =
    let there = (demand_3 history []).there k in
    (λ i. let (x, f) = there.0 i in (⊎_elim (λ j. absurd (none_at_start k j)) (λ z. z) x, f), λ (z, f). there.1 (inr z, f))
