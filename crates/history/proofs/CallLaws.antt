-- DEMAND 3 OF THE CALLS: where every call keeps its promise, the store that is
-- left is the one of the rules' history, of which Demand 3 holds.
use Prim.Native.Nat.{ℕ, zero, suc}
use native.Mathlib.Omega.{arith}
use mathlib.Core.Path.{◌≡◌, refl, ap, ap₂, ◌∙◌, subst}
use mathlib.Core.Bool.{true, false}
use mathlib.Core.Option.{Option, none, some}
use mathlib.Core.List.{List, [], ◌∷◌}
use lib.Dec.{eqb}
use lib.ListN.{length, take, drop}
use lib.Seq.{take-append_seam}
use borrow.Author.Tests.{eq-eqb, ne_eqb}
use Rattle.rules.specs.Bytes.{Bytes}
use Rattle.rules.specs.Store.{Store}
use Rattle.rules.specs.Layout.{encode}
use Rattle.rules.specs.Passing.{read_store}
use Rattle.rules.specs.Change.{Call, after}
use Rattle.rules.specs.Refusal.{refusal}
use Rattle.rules.specs.Outcome.{Outcome, refused, wrote, unless_refused, on_store, outcome, Answers}
use Rattle.rules.specs.Run.{Asked, fresh_store, leaves, Moment, start, step, run}
use Rattle.history.specs.History.{GoodMoment}
use Rattle.history.proofs.Moments.{start_good}
use Rattle.history.proofs.Accepted.{demand_3_from}
use Rattle.history.specs.Calls.{Made, asked_of, next, store_after, Promised, history_of, OfTheBox}

-- an outcome that is refused has a number that is not 0
abbrev Numbered : Outcome → Type 0
Numbered (refused zero) = ⊥
Numbered (refused (suc n)) = Unit {0}
Numbered (wrote w) = Unit {0}

numbered : (c : Call) (bs : Bytes) (room : ℕ) → Numbered (outcome c bs room)
unfolding outcome
numbered c bs room = by (read_store bs)
  where
    one : (n : ℕ) (w : Bytes) → Numbered (unless_refused n w)
    one zero w = tt
    one (suc n) w = tt

    by : (s : Option Store) → Numbered (on_store (λ s. unless_refused (refusal room c s) (encode (after c s))) s)
    by none = tt
    by (some s) = one (refusal room c s) (encode (after c s))

-- what a call hands back is the store that the history goes on with
next_is : (o : Outcome) → Numbered o → (m : Made) (bs : Bytes) → Answers o m.out m.number m.len m.left → next m bs ≡ leaves o bs
next_is (refused zero) k m bs a = absurd k
next_is (refused (suc n)) k m bs a = choose (ap (λ (z : ℕ). eqb z 0) a.number_is ∙ ne_eqb (suc n) 0 (λ e. omega arith))
  where
    choose : eqb m.number 0 ≡ false → next m bs ≡ bs
    choose e = rw (e, next)
next_is (wrote w) k m bs a =
    choose (ap (λ (z : ℕ). eqb z 0) a.number_is ∙ eq-eqb 0 0 refl) ∙ ap₂ (λ (n : ℕ) (l : Bytes). take n l) a.length_is a.buffer_is
    ∙ take-append_seam w (drop (length w) m.out)
  where
    choose : eqb m.number 0 ≡ true → next m bs ≡ take m.len m.left
    choose e = rw (e, next)

pub store_is : (ms : List Made) (at : Moment) → Promised ms at.store → store_after ms at.store ≡ (run (history_of ms) at).store
unfolding store_after Promised run step
store_is [] at p = refl
store_is (m ∷ ms) at (a, p) =
    let o : Outcome = outcome m.call at.store (length m.out) in
    let e : next m at.store ≡ (step (asked_of m) at).store = next_is o (numbered m.call at.store (length m.out)) m at.store a in
    ap (store_after ms) e ∙ store_is ms (step (asked_of m) at) (subst (Promised ms) e p)

-- from any moment at which the store and the book say the same
pub demand_3_of_the_box_from : (from : Moment) → GoodMoment from → (ms : List Made) → Promised ms from.store → (later : List Asked) → OfTheBox from ms later
demand_3_of_the_box_from from a ms p later = record { store = store_is ms from p; demand = demand_3_from from a (history_of ms) later }

-- from the fresh store
pub demand_3_of_the_box : (ms : List Made) → Promised ms fresh_store → (later : List Asked) → OfTheBox start ms later
demand_3_of_the_box ms p later = demand_3_of_the_box_from start start_good ms p later
