-- NO HISTORY MAKES A RESERVED NAME (paper 02, W1): where the form has none at some moment, it has none later. A store
-- that holds one passes all the same: `Reserved` of the rules' examples.
use mathlib.Core.Path.{◌≡◌, refl, sym, ap, ◌∙◌}
use mathlib.Core.Bool.{Bool, true, false}
use mathlib.Core.List.{List, [], ◌∷◌}
use Rattle.rules.specs.WellFormed.{none_reserved}
use Rattle.rules.specs.Change.{form_after}
use Rattle.rules.specs.Outcome.{outcome}
use Rattle.rules.specs.Run.{Asked, is_accepted, Moment, start, step, run}
use Rattle.change_laws.proofs.UnreservedAfter.{none_reserved_after}
use Rattle.history.specs.History.{form_in, GoodMoment}
use Rattle.history.proofs.Moments.{Holds, good_holds, step_on, refused_same, accepted_unmet, accepted_by_rules, start_good}
use Rattle.history.proofs.Accepted.{good_after, demand_3_from}

-- by the book's form, which is the store's
step_free : (a : Asked) (m : Moment) → Holds m → none_reserved m.book.form ≡ true → none_reserved (step a m).book.form ≡ true
step_free a m h f = by (is_accepted (outcome a.call m.store a.room)) refl
  where
    by : (b : Bool) → is_accepted (outcome a.call m.store a.room) ≡ b → none_reserved (step a m).book.form ≡ true
    by false e = ap (λ (z : Moment). none_reserved z.book.form) (refused_same m a e) ∙ f
    by true e =
        ap none_reserved ((accepted_by_rules m h a e).form ∙ ap (form_after a.call) h.agree.form)
        ∙ none_reserved_after a.room a.call h.store (accepted_unmet m h a e) (ap none_reserved (sym h.agree.form) ∙ f)

run_free : (history : List Asked) (m : Moment) → Holds m → none_reserved m.book.form ≡ true → none_reserved (run history m).book.form ≡ true
unfolding run
run_free [] m h f = f
run_free (a ∷ history) m h f = run_free history (step a m) (step_on good_after a m h).holds (step_free a m h f)

pub none_reserved_lem : (from : Moment) → GoodMoment from → none_reserved (form_in from.store) ≡ true → (history : List Asked) → none_reserved (form_in (run history from).store) ≡ true
none_reserved_lem from good f history =
    ap none_reserved (demand_3_from from good history []).now.form
    ∙ run_free history from (good_holds from good) (ap none_reserved (sym good.form) ∙ f)

-- from the fresh store, whose form is empty
pub none_reserved_from_fresh : (history : List Asked) → none_reserved (form_in (run history start).store) ≡ true
unfolding none_reserved
none_reserved_from_fresh = none_reserved_lem start start_good (ap none_reserved start_good.form)
