-- What holds at every moment of a history, and from one moment to a later one; in the words of the statement.
use Prim.Native.Nat.{ℕ, zero, suc, ◌≤◌}
use native.Mathlib.Nat.{le_refl, le_trans}
use mathlib.Core.Path.{◌≡◌, refl, sym, ap, ◌∙◌, subst}
use mathlib.Core.Logic.{◌↔◌}
use mathlib.Core.Bool.{Bool, true, false, false≢true}
use mathlib.Core.Option.{some}
use mathlib.Core.List.{List, [], ◌∷◌, ◌++◌, map, Memᴰ}
use Rattle.rules.specs.Bytes.{Bytes}
use Rattle.rules.specs.Model.{Distinct, distinct}
use Rattle.rules.specs.Store.{Store}
use Rattle.rules.specs.Layout.{FlatStore, value_width, flat, encode}
use Rattle.rules.specs.Decode.{version_in, next_serial}
use Rattle.rules.specs.WellFormed.{well_formed}
use Rattle.rules.specs.Conforming.{conforming}
use Rattle.rules.specs.Passing.{good, good_serials, read_store}
use Rattle.rules.specs.Lines.{Line}
use Rattle.rules.specs.Change.{Call, after}
use Rattle.rules.specs.Refusal.{refusal}
use Rattle.rules.specs.Outcome.{Outcome, refused, wrote, unless_refused, on_store, outcome}
use Rattle.rules.specs.Book.{Entry, stands, taken, Book, untaken, note, follow}
use Rattle.rules.specs.Run.{Asked, empty_store, leaves, is_accepted, Moment, start, step, run}
use Rattle.rules.proofs.LayoutLaws.{read_bytes}
use Rattle.rules.proofs.DecodeLaws.{good_flat, read_encode, read_good}
use Rattle.rules.proofs.PassingLaws.{good_is}
use Rattle.history.specs.History.{lines_in, rows_in, form_of, serial_of, line_of, ever_made, taken_serials, GoodMoment, moment_of, Keeps, serials_in, ByTheRules}
use Rattle.history.proofs.Agreement.{Agree, fresh_agree, book_of_agree, book_of_once}
use Rattle.history.proofs.Stable.{Once, fresh_once, keeps_refl, keeps_trans}
use Rattle.history.proofs.Together.{Together, plan_together}
use Rattle.history.proofs.ByRules.{by_the_rules}

-- what holds at every moment
pub record Holds (m : Moment) : Type 0 where
  pub store : Store
  pub read : read_store m.store ≡ some store
  pub passing : good store ≡ true
  pub agree : Agree store m.book
  pub once : Once m.book

-- from one moment to a later one
pub record Follows (m n : Moment) : Type 0 where
  pub lines : Keeps m.book.entries n.book.entries
  pub next : m.book.next ≤ n.book.next

pub follows_refl : (m : Moment) → Follows m m
follows_refl m = record { lines = keeps_refl m.book.entries; next = le_refl m.book.next }

pub follows_trans : {l m n : Moment} → Follows l m → Follows m n → Follows l n
follows_trans f g = record { lines = keeps_trans f.lines g.lines; next = le_trans f.next g.next }

-- ---- a change that keeps store and book together, and leaves a store that passes
module _ (m : Moment) (h : Holds m) (s : Store) (b : Book) (g : good s ≡ true) (t : Together h.store m.book s b) where
  abbrev pub onward : Moment
  onward = record { store = encode s; book = b }

  pub together_holds : Holds onward
  together_holds = record { store = s; read = read_encode s g; passing = g; agree = t.agree; once = t.once }

  pub together_follows : Follows m onward
  together_follows = record { lines = t.lines; next = t.next }

-- ---- a call of the sixteen
outcome_read : (c : Call) (bs : Bytes) (room : ℕ) (s : Store) → read_store bs ≡ some s → outcome c bs room ≡ unless_refused (refusal room c s) (encode (after c s))
unfolding outcome
outcome_read c bs room s e = ap (on_store (λ s'. unless_refused (refusal room c s') (encode (after c s')))) e

-- the moment that an outcome leads to
abbrev moved : Outcome → Call → Moment → Moment
moved o c m = record { store = leaves o m.store; book = follow (is_accepted o) c m.book }

step_moved : (a : Asked) (m : Moment) → step a m ≡ moved (outcome a.call m.store a.room) a.call m
unfolding step
step_moved a m = refl

-- a moment that follows, and at which the same holds
pub record Onward (m n : Moment) : Type 0 where
  pub holds : Holds n
  pub follows : Follows m n

module _ (good_after : (room : ℕ) (c : Call) (s : Store) → good s ≡ true → refusal room c s ≡ 0 → good (after c s) ≡ true) where
  pub moved_on : (room : ℕ) (c : Call) (m : Moment) (h : Holds m) (n : ℕ) → refusal room c h.store ≡ n → Onward m (moved (unless_refused n (encode (after c h.store))) c m)
  moved_on room c m h zero e = record { holds = together_holds m h (after c h.store) (note c m.book) g t; follows = together_follows m h (after c h.store) (note c m.book) g t }
    where
      g : good (after c h.store) ≡ true
      g = good_after room c h.store h.passing e

      t : Together h.store m.book (after c h.store) (note c m.book)
      t = plan_together c h.store m.book ((good_is h.store).0 h.passing).serials h.agree h.once
  moved_on room c m h (suc n) e = record { holds = h; follows = follows_refl m }

  pub step_on : (a : Asked) (m : Moment) → Holds m → Onward m (step a m)
  step_on a m h =
      subst (λ (z : Moment). Onward m z) (sym (step_moved a m ∙ ap (λ (o : Outcome). moved o a.call m) (outcome_read a.call m.store a.room h.store h.read)))
      (moved_on a.room a.call m h (refusal a.room a.call h.store) refl)

-- a history of steps
module _ (on : (a : Asked) (m : Moment) → Holds m → Onward m (step a m)) where
  pub run_on : (history : List Asked) (m : Moment) → Holds m → Onward m (run history m)
  unfolding run
  run_on [] m h = record { holds = h; follows = follows_refl m }
  run_on (a ∷ history) m h =
      let first : Onward m (step a m) = on a m h in
      let rest : Onward (step a m) (run history (step a m)) = run_on history (step a m) first.holds in
      record { holds = rest.holds; follows = follows_trans first.follows rest.follows }

pub run_append : (history later : List Asked) (m : Moment) → run (history ++ later) m ≡ run later (run history m)
unfolding run
run_append [] later m = refl
run_append (a ∷ history) later m = run_append history later (step a m)

-- ---- what holds, in the words of the statement
flat_read : (s : Store) → good s ≡ true → (version_in (encode s) ≡ s.version) × (next_serial (encode s) ≡ s.next)
flat_read s g =
    let e = read_bytes (value_width s.version) (flat s) (good_flat s g) in
    (ap (λ (f : FlatStore). f.version) e, ap (λ (f : FlatStore). f.next) e)

module _ (m : Moment) (h : Holds m) where
  encoded : encode h.store ≡ m.store
  encoded = (read_good m.store h.store h.read).0

  pub rows_then : rows_in m.store ≡ untaken m.book.entries
  rows_then = ap lines_in h.read ∙ sym h.agree.rows

  pub next_then : next_serial m.store ≡ m.book.next
  next_then = ap next_serial (sym encoded) ∙ (flat_read h.store h.passing).1 ∙ sym h.agree.next

  pub holds_good : GoodMoment m
  holds_good =
      record {
        passing = (h.store, encoded, (good_is h.store).0 h.passing);
        once = h.once.once;
        below = h.once.below;
        next = next_then;
        form = ap form_of h.read ∙ sym h.agree.form;
        version = ap version_in (sym encoded) ∙ (flat_read h.store h.passing).0 ∙ sym h.agree.version;
        rows = rows_then;
      }

pub good_holds : (m : Moment) → GoodMoment m → Holds m
good_holds m a =
    record {
      store = s;
      read = read;
      passing = g;
      agree =
          record {
            version = sym a.version ∙ ap version_in (sym encoded_here) ∙ (flat_read s g).0;
            next = next;
            form = sym a.form ∙ ap form_of read;
            rows = sym a.rows ∙ ap lines_in read;
          };
      once = record { least = subst (λ (n : ℕ). 1 ≤ n) (sym next) a.passing.2.serials.least; once = a.once; below = a.below };
    }
  where
    s : Store
    s = a.passing.0

    encoded_here : encode s ≡ m.store
    encoded_here = a.passing.1

    g : good s ≡ true
    g = (good_is s).1 a.passing.2

    read : read_store m.store ≡ some s
    read = ap read_store (sym encoded_here) ∙ read_encode s g

    next : m.book.next ≡ s.next
    next = sym a.next ∙ ap next_serial (sym encoded_here) ∙ (flat_read s g).1

-- a line is untaken exactly when it was made and not taken
pub standing_made : (es : List Entry) (k : ℕ) → Memᴰ k (map serial_of (untaken es)) → Memᴰ k (map (λ (e : Entry). serial_of (line_of e)) es)
unfolding untaken
standing_made [] k i = elim i [ ]
standing_made (stands l ∷ es) k (mathlib.Core.List.Memᴰ.head e) = mathlib.Core.List.Memᴰ.head e
standing_made (stands l ∷ es) k (mathlib.Core.List.Memᴰ.tail i) = mathlib.Core.List.Memᴰ.tail (standing_made es k i)
standing_made (taken l ∷ es) k i = mathlib.Core.List.Memᴰ.tail (standing_made es k i)

pub taken_made : (es : List Entry) (k : ℕ) → Memᴰ k (taken_serials es) → Memᴰ k (map (λ (e : Entry). serial_of (line_of e)) es)
taken_made [] k i = elim i [ ]
taken_made (stands l ∷ es) k i = mathlib.Core.List.Memᴰ.tail (taken_made es k i)
taken_made (taken l ∷ es) k (mathlib.Core.List.Memᴰ.head e) = mathlib.Core.List.Memᴰ.head e
taken_made (taken l ∷ es) k (mathlib.Core.List.Memᴰ.tail i) = mathlib.Core.List.Memᴰ.tail (taken_made es k i)

pub made_standing : (es : List Entry) (k : ℕ) → Memᴰ k (map (λ (e : Entry). serial_of (line_of e)) es) → (Memᴰ k (taken_serials es) → ⊥) → Memᴰ k (map serial_of (untaken es))
unfolding untaken
made_standing [] k x'' f = elim x'' [ ]
made_standing (stands l ∷ es) k (mathlib.Core.List.Memᴰ.head e) f = mathlib.Core.List.Memᴰ.head e
made_standing (stands l ∷ es) k (mathlib.Core.List.Memᴰ.tail i) f = mathlib.Core.List.Memᴰ.tail (made_standing es k i f)
made_standing (taken l ∷ es) k (mathlib.Core.List.Memᴰ.head e) f = absurd (f (mathlib.Core.List.Memᴰ.head e))
made_standing (taken l ∷ es) k (mathlib.Core.List.Memᴰ.tail i) f = made_standing es k i (λ j. f (mathlib.Core.List.Memᴰ.tail j))

pub standing_untaken : (es : List Entry) (k : ℕ) → Distinct (map (λ (e : Entry). serial_of (line_of e)) es) → Memᴰ k (map serial_of (untaken es)) → Memᴰ k (taken_serials es) → ⊥
unfolding untaken
standing_untaken [] k d i j = elim i [ ]
standing_untaken (stands l ∷ es) k d (mathlib.Core.List.Memᴰ.head e) j = d.0 (subst (λ (z : ℕ). Memᴰ z (map (λ (x : Entry). serial_of (line_of x)) es)) e (taken_made es k j))
standing_untaken (stands l ∷ es) k d (mathlib.Core.List.Memᴰ.tail i) j = standing_untaken es k d.1 i j
standing_untaken (taken l ∷ es) k d i (mathlib.Core.List.Memᴰ.head e) = d.0 (subst (λ (z : ℕ). Memᴰ z (map (λ (x : Entry). serial_of (line_of x)) es)) e (standing_made es k i))
standing_untaken (taken l ∷ es) k d i (mathlib.Core.List.Memᴰ.tail j) = standing_untaken es k d.1 i j

pub there_then : (m : Moment) → Holds m → (k : ℕ) → Memᴰ k (serials_in m.store) ↔ (Memᴰ k (ever_made m.book) × (Memᴰ k (taken_serials m.book.entries) → ⊥))
there_then m h k = (
  λ i.
      let j : Memᴰ k (map serial_of (untaken m.book.entries)) = subst (λ (ls : List Line). Memᴰ k (map serial_of ls)) (rows_then m h) i in
      (standing_made m.book.entries k j, standing_untaken m.book.entries k h.once.once j),
  λ p. subst (λ (ls : List Line). Memᴰ k (map serial_of ls)) (sym (rows_then m h)) (made_standing m.book.entries k p.0 p.1),
)

refused_moved : (o : Outcome) (c : Call) (m : Moment) → is_accepted o ≡ false → moved o c m ≡ m
refused_moved (refused n) c m e = refl
refused_moved (wrote w) c m e = absurd (false≢true (sym e))

pub refused_same : (m : Moment) (a : Asked) → is_accepted (outcome a.call m.store a.room) ≡ false → step a m ≡ m
refused_same m a e = step_moved a m ∙ refused_moved (outcome a.call m.store a.room) a.call m e

-- ---- an accepted call
unrefused : (n : ℕ) (w : Bytes) → is_accepted (unless_refused n w) ≡ true → n ≡ 0
unrefused zero w e = refl
unrefused (suc n) w e = absurd (false≢true e)

pub accepted_unmet : (m : Moment) (h : Holds m) (a : Asked) → is_accepted (outcome a.call m.store a.room) ≡ true → refusal a.room a.call h.store ≡ 0
accepted_unmet m h a e =
    unrefused (refusal a.room a.call h.store) (encode (after a.call h.store)) (ap is_accepted (sym (outcome_read a.call m.store a.room h.store h.read)) ∙ e)

pub accepted_by_rules : (m : Moment) → Holds m → (a : Asked) → is_accepted (outcome a.call m.store a.room) ≡ true → ByTheRules a.call m.book (step a m).book
accepted_by_rules m h a e = subst (λ (z : Book). ByTheRules a.call m.book z) (sym noted) by_note
  where
    by_note : ByTheRules a.call m.book (note a.call m.book)
    by_note = by_the_rules a.room a.call h.store h.passing (accepted_unmet m h a e) m.book h.agree h.once

    noted : (step a m).book ≡ note a.call m.book
    noted = ap (λ (z : Moment). z.book) (step_moved a m) ∙ ap (λ (x : Bool). follow x a.call m.book) e

-- the fresh store
pub start_good : GoodMoment start
unfolding good well_formed conforming good_serials distinct
start_good = holds_good start (record { store = empty_store; read = read_encode empty_store refl; passing = refl; agree = fresh_agree; once = fresh_once })

-- any store that passes
pub moment_good : (s : Store) → good s ≡ true → GoodMoment (moment_of s)
moment_good s g = holds_good (moment_of s) (record { store = s; read = read_encode s g; passing = g; agree = book_of_agree s; once = book_of_once s ((good_is s).0 g).serials })
