-- Demand 3, from one law: an accepted change leaves a store that passes.
use Prim.Native.Nat.{ℕ, ◌≤◌}
use mathlib.Core.Path.{◌≡◌, sym, ap₂, ◌∙◌, subst}
use mathlib.Core.Bool.{true}
use mathlib.Core.List.{List, ◌++◌, map, Memᴰ}
use Rattle.rules.specs.Store.{Store}
use Rattle.rules.specs.Decode.{next_serial}
use Rattle.rules.specs.Passing.{good}
use Rattle.rules.specs.Lines.{Line}
use Rattle.rules.specs.Change.{Call, after}
use Rattle.rules.specs.Refusal.{refusal}
use Rattle.rules.specs.Run.{Asked, Moment, run}
use Rattle.history.specs.History.{rows_in, serial_of, GoodMoment, serials_in, line_then, Demand3}
use Rattle.history.proofs.Stable.{shared, same_order}
use Rattle.history.proofs.Order.{order_then}
use Rattle.history.proofs.Moments.{Holds, Follows, step_on, run_on, run_append, rows_then, next_then, holds_good, good_holds, there_then, refused_same, accepted_by_rules}
use Rattle.history.proofs.OverHistory.{there_over, line_over}

module _ (good_after : (room : ℕ) (c : Call) (s : Store) → good s ≡ true → refusal room c s ≡ 0 → good (after c s) ≡ true) where
  pub demand_3_by : (from : Moment) → GoodMoment from → (history later : List Asked) → Demand3 from history later
  demand_3_by from good history later =
      record {
        now = holds_good m h;
        never_falls = subst (λ (a : ℕ). a ≤ next_serial n.store) (sym (next_then m h)) (subst (λ (b : ℕ). m.book.next ≤ b) (sym (next_then n k)) f.next);
        there = there_over (step_on good_after) history from begin;
        value = value;
        accepted = accepted_by_rules m h;
        refusal = refused_same m;
        standing = there_then m h;
        lines = f.lines;
        order = order_then (serials_in m.store) (serials_in n.store) order;
      }
    where
      begin : Holds from
      begin = good_holds from good

      m : Moment
      m = run history from

      n : Moment
      n = run (history ++ later) from

      h : Holds m
      h = (run_on (step_on good_after) history from begin).holds

      k : Holds n
      k = (run_on (step_on good_after) (history ++ later) from begin).holds

      f : Follows m n
      f = subst (λ (z : Moment). Follows m z) (sym (run_append history later from)) (run_on (step_on good_after) later m h).follows

      order : shared (serials_in n.store) (serials_in m.store) ≡ shared (serials_in m.store) (serials_in n.store)
      order =
          ap₂ (λ (a b : List Line). shared (map serial_of a) (map serial_of b)) (rows_then n k) (rows_then m h)
          ∙ same_order f.lines k.once.once
          ∙ ap₂ (λ (a b : List Line). shared (map serial_of a) (map serial_of b)) (sym (rows_then m h)) (sym (rows_then n k))

      value : (l x : Line) → Memᴰ l (rows_in m.store) → Memᴰ x (rows_in n.store) → serial_of x ≡ serial_of l → x ≡ line_then later m l
      value =
          subst (λ (z : Moment). (l x : Line) → Memᴰ l (rows_in m.store) → Memᴰ x (rows_in z.store) → serial_of x ≡ serial_of l → x ≡ line_then later m l)
          (sym (run_append history later from)) (line_over (step_on good_after) later m h)
