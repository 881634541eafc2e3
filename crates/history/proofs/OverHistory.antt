-- Over a whole history: a row is there exactly when a call made it and none took it, and its line is the one it had,
-- with the last value that a call gave it.
use Prim.Native.Nat.{ℕ, ◌≤◌, ◌<◌}
use native.Mathlib.Omega.{arith}
use native.Mathlib.Nat.{le_trans}
use mathlib.Core.Path.{◌≡◌, refl, sym, ap, ◌∙◌, subst}
use mathlib.Core.Logic.{◌⊎◌, inl, inr, ⊎_elim, ◌↔◌}
use mathlib.Core.Bool.{Bool, true, false, false≢true}
use mathlib.Core.List.{List, [], ◌∷◌, Memᴰ}
use lib.Dec.{leb}
use borrow.Author.Tests.{leb-true}
use Rattle.rules.specs.Bytes.{Bytes}
use Rattle.rules.specs.Model.{Distinct}
use Rattle.rules.specs.Lines.{Line}
use Rattle.rules.specs.Outcome.{outcome}
use Rattle.rules.specs.Book.{Entry, stands, taken, untaken}
use Rattle.rules.specs.Run.{Asked, is_accepted, Moment, step, run}
use Rattle.rules.specs.MadeTakenGiven.{value_after, rows_made, lines_made}
use Rattle.history.specs.History.{rows_in, serial_of, line_of, entry_serials, ever_made, taken_serials, serials_in, SameLine, Keeps, none_left, made, kept, took}
use Rattle.history.specs.History.{gone, entries_from, entries_below, ByTheRules, IsAccepted, MadeBy, TakenBy, SomeCall, with_value, line_after, line_then}
use Rattle.history.proofs.Making.{standing, untaken_standing}
use Rattle.history.proofs.Stable.{line_serials, standing_serials, keeps_in, untaken_in}
use Rattle.history.proofs.TakenLines.{line_serial, serial_line, either, not_both, distinct_untaken, same_serial}
use Rattle.history.proofs.Moments.{Holds, Onward, run_on, rows_then, refused_same, accepted_by_rules}

-- ---- lines with serials from a number on
module _ (n k : ℕ) where
  below_or_from : (es : List Entry) → Memᴰ k (entry_serials es) → Memᴰ k (entry_serials (entries_below n es)) ⊎ Memᴰ k (entry_serials (entries_from n es))
  unfolding entries_below entries_from
  below_or_from [] i = absurd (mathlib.Core.List.Memᴰ.not-nil i)
  below_or_from (e ∷ es) i = by (leb n (serial_of (line_of e))) refl (mathlib.Core.List.Memᴰ.cases_cons i) (below_or_from es)
    where
      Parted : List Entry → Type 0
      Parted es = Memᴰ k (entry_serials (entries_below n es)) ⊎ Memᴰ k (entry_serials (entries_from n es))

      by : (c : Bool) → leb n (serial_of (line_of e)) ≡ c → (k ≡ serial_of (line_of e)) ⊎ Memᴰ k (entry_serials es) → (Memᴰ k (entry_serials es) → Parted es) → Parted (e ∷ es)
      by true q (inl h) f = inr (rw (q, entries_from) (mathlib.Core.List.Memᴰ.head h))
      by true q (inr j) f = ⊎_elim (λ x. inl (rw (q, entries_below) x)) (λ x. inr (rw (q, entries_from) (mathlib.Core.List.Memᴰ.tail x))) (f j)
      by false q (inl h) f = inl (rw (q, entries_below) (mathlib.Core.List.Memᴰ.head h))
      by false q (inr j) f = ⊎_elim (λ x. inl (rw (q, entries_below) (mathlib.Core.List.Memᴰ.tail x))) (λ x. inr (rw (q, entries_from) x)) (f j)

  from_least : (es : List Entry) → Memᴰ k (entry_serials (entries_from n es)) → n ≤ k
  unfolding entries_from
  from_least [] i = absurd (mathlib.Core.List.Memᴰ.not-nil i)
  from_least (e ∷ es) i = by (leb n (serial_of (line_of e))) refl (from_least es)
    where
      by : (c : Bool) → leb n (serial_of (line_of e)) ≡ c → (Memᴰ k (entry_serials (entries_from n es)) → n ≤ k) → n ≤ k
      by true q f =
          let j : Memᴰ k (entry_serials (e ∷ entries_from n es)) = rw (q, entries_from) at i in
          ⊎_elim (λ h. subst (λ (z : ℕ). n ≤ z) (sym h) (leb-true n (serial_of (line_of e)) q)) (λ t. f t) (mathlib.Core.List.Memᴰ.cases_cons j)
      by false q f = f (rw (q, entries_from) at i)

  from_untaken : (es : List Entry) → Memᴰ k (line_serials (untaken (entries_from n es))) → Memᴰ k (line_serials (untaken es))
  unfolding entries_from untaken
  from_untaken [] i = i
  from_untaken (taken l ∷ es) i = by (leb n (serial_of l)) refl (from_untaken es)
    where
      by : (c : Bool) → leb n (serial_of l) ≡ c → (Memᴰ k (line_serials (untaken (entries_from n es))) → Memᴰ k (line_serials (untaken es))) → Memᴰ k (line_serials (untaken es))
      by true q f = let j : Memᴰ k (line_serials (untaken (taken l ∷ entries_from n es))) = rw (q, entries_from) at i in f j
      by false q f = f (rw (q, entries_from) at i)
  from_untaken (stands l ∷ es) i = by (leb n (serial_of l)) refl (from_untaken es)
    where
      by : (c : Bool) → leb n (serial_of l) ≡ c → (Memᴰ k (line_serials (untaken (entries_from n es))) → Memᴰ k (line_serials (untaken es))) → Memᴰ k (serial_of l ∷ line_serials (untaken es))
      by true q f =
          let j : Memᴰ k (line_serials (untaken (stands l ∷ entries_from n es))) = rw (q, entries_from) at i in
          ⊎_elim (λ h. mathlib.Core.List.Memᴰ.head h) (λ t. mathlib.Core.List.Memᴰ.tail (f t)) (mathlib.Core.List.Memᴰ.cases_cons j)
      by false q f = mathlib.Core.List.Memᴰ.tail (f (rw (q, entries_from) at i))

  standing_from : (es : List Entry) (ls : List Line) → entries_from n es ≡ standing ls → Memᴰ k (entry_serials (entries_from n es)) → Memᴰ k (line_serials (untaken es))
  standing_from es ls e i =
      from_untaken es
      (subst (λ (z : List ℕ). Memᴰ k z) (ap entry_serials e ∙ standing_serials ls ∙ ap line_serials (sym (untaken_standing ls)) ∙ ap (λ (z : List Entry). line_serials (untaken z)) (sym e)) i)

-- ---- what is taken stays taken, and a line that stands at both moments is the same but for its value
keeps_taken : {es fs : List Entry} (k : ℕ) → Keeps es fs → Memᴰ k (taken_serials es) → Memᴰ k (taken_serials fs)
keeps_taken k none_left i = i
keeps_taken k (made (stands l) x) i = keeps_taken k x i
keeps_taken k (made (taken l) x) i = mathlib.Core.List.Memᴰ.tail (keeps_taken k x i)
keeps_taken k (kept a b q x) i = keeps_taken k x i
keeps_taken k (took a b q x) i = mathlib.Core.List.Memᴰ.tail (keeps_taken k x i)
keeps_taken k (gone l x) i = ⊎_elim (λ e. mathlib.Core.List.Memᴰ.head e) (λ j. mathlib.Core.List.Memᴰ.tail (keeps_taken k x j)) (mathlib.Core.List.Memᴰ.cases_cons i)

in_entries : (l : Line) (es : List Entry) → Memᴰ l (untaken es) → Memᴰ (serial_of l) (entry_serials es)
in_entries l es i = untaken_in (serial_of l) es (line_serial l (untaken es) i)

keeps_line : {es fs : List Entry} → Keeps es fs → Distinct (entry_serials fs) → (l m : Line) → Memᴰ l (untaken es) → Memᴰ m (untaken fs) → serial_of m ≡ serial_of l → SameLine l m
unfolding untaken
keeps_line none_left d l m i j e = absurd (mathlib.Core.List.Memᴰ.not-nil i)
keeps_line (made (taken x) y) d l m i j e = keeps_line y d.1 l m i j e
keeps_line (made {es} {fs} (stands x) y) d l m i j e =
    ⊎_elim (λ h. absurd (d.0 (subst (λ (z : ℕ). Memᴰ z (entry_serials fs)) (sym e ∙ ap (λ (z : Line). serial_of z) h) (keeps_in (serial_of l) y (in_entries l es i)))))
    (λ t. keeps_line y d.1 l m i t e) (mathlib.Core.List.Memᴰ.cases_cons j)
keeps_line (kept {es} {fs} a b q y) d l m i j e = by (mathlib.Core.List.Memᴰ.cases_cons i) (mathlib.Core.List.Memᴰ.cases_cons j) (keeps_line y d.1 l m)
  where
    by : (l ≡ a) ⊎ Memᴰ l (untaken es) → (m ≡ b) ⊎ Memᴰ m (untaken fs) → (Memᴰ l (untaken es) → Memᴰ m (untaken fs) → serial_of m ≡ serial_of l → SameLine l m) → SameLine l m
    by (inl x) (inl z) f = subst (λ (w : Line). SameLine w m) (sym x) (subst (λ (w : Line). SameLine a w) (sym z) q)
    by (inl x) (inr z) f = absurd (d.0 (subst (λ (w : ℕ). Memᴰ w (entry_serials fs)) (e ∙ ap (λ (w : Line). serial_of w) x ∙ q.serial) (in_entries m fs z)))
    by (inr x) (inl z) f = absurd (d.0 (subst (λ (w : ℕ). Memᴰ w (entry_serials fs)) (sym e ∙ ap (λ (w : Line). serial_of w) z) (keeps_in (serial_of l) y (in_entries l es x))))
    by (inr x) (inr z) f = f x z e
keeps_line (took {es} {fs} a b q y) d l m i j e =
    ⊎_elim (λ x. absurd (d.0 (subst (λ (w : ℕ). Memᴰ w (entry_serials fs)) (e ∙ ap (λ (w : Line). serial_of w) x ∙ q.serial) (in_entries m fs j)))) (λ x. keeps_line y d.1 l m x j e)
    (mathlib.Core.List.Memᴰ.cases_cons i)
keeps_line (gone x y) d l m i j e = keeps_line y d.1 l m i j e

valued_line : (l m : Line) → SameLine l m → (v : Bytes) → m.row.value ≡ v → m ≡ with_value v l
valued_line l m q v e = λ i. record { parent = sym q.parent i; row = record { serial = sym q.serial i; sort = sym q.sort i; name = sym q.name i; value = e i } }

-- ---- one call
abbrev StandsAt : ℕ → Moment → Type 0
StandsAt k m = Memᴰ k (line_serials (untaken m.book.entries))

module _ (m : Moment) (h : Holds m) (a : Asked) (o : Onward m (step a m)) where
  still_there : (k : ℕ) → StandsAt k m → Memᴰ k (entry_serials (step a m).book.entries)
  still_there k i = keeps_in k o.follows.lines (untaken_in k m.book.entries i)

  not_taken : (k : ℕ) → StandsAt k (step a m) → Memᴰ k (taken_serials (step a m).book.entries) → ⊥
  not_taken k i t = not_both k (step a m).book.entries o.holds.once.once i t

  module _ (e : IsAccepted a m) where
    rules : ByTheRules a.call m.book (step a m).book
    rules = accepted_by_rules m h a e

    accepted_then : (k : ℕ) → StandsAt k (step a m) → (StandsAt k m ⊎ MadeBy k a m) × (TakenBy k a m → ⊥)
    accepted_then k i = (
      ⊎_elim (λ x. inl (stood (subst (λ (z : List ℕ). Memᴰ k z) rules.makes.others x))) (λ x. inr (e, x))
          (below_or_from m.book.next k (step a m).book.entries (untaken_in k (step a m).book.entries i)),
      λ (e', (l, j, q, t)). not_taken k i (subst (λ (z : ℕ). Memᴰ z (taken_serials (step a m).book.entries)) q ((rules.takes l j).1 t)),
    )
      where
        stood : Memᴰ k (ever_made m.book) → StandsAt k m
        stood x = ⊎_elim (λ t. absurd (not_taken k i (keeps_taken k o.follows.lines t))) (λ s. s) (either k m.book.entries x)

    accepted_back : (k : ℕ) → StandsAt k m ⊎ MadeBy k a m → (TakenBy k a m → ⊥) → StandsAt k (step a m)
    accepted_back k (inr (e', x)) f =
        standing_from m.book.next k (step a m).book.entries (lines_made (rows_made a.call m.book.version m.book.form) m.book.next rules.makes.parents) rules.makes.lines x
    accepted_back k (inl i) f =
        let (l, j, q) = serial_line k (untaken m.book.entries) i in
        ⊎_elim (λ t. absurd (f (e, (l, j, sym q, (rules.takes l j).0 (subst (λ (z : ℕ). Memᴰ z (taken_serials (step a m).book.entries)) q t))))) (λ s. s)
        (either k (step a m).book.entries (still_there k i))

    accepted_line : (l x : Line) → Memᴰ l (untaken m.book.entries) → Memᴰ x (untaken (step a m).book.entries) → serial_of x ≡ serial_of l → x ≡ line_after a m l
    accepted_line l x i j q =
        valued_line l x (keeps_line o.follows.lines o.holds.once.once l x i j q) (value_after a.call m.book.form l) (rules.gives l x i j q)
        ∙ sym after_is
      where
        after_is : line_after a m l ≡ with_value (value_after a.call m.book.form l) l
        after_is = rw (e, line_after)

  -- a row that is there after a call was there or was made by it, and the call did not take it
  step_then : (k : ℕ) → StandsAt k (step a m) → (StandsAt k m ⊎ MadeBy k a m) × (TakenBy k a m → ⊥)
  step_then k i = by (is_accepted (outcome a.call m.store a.room)) refl
    where
      by : (c : Bool) → is_accepted (outcome a.call m.store a.room) ≡ c → (StandsAt k m ⊎ MadeBy k a m) × (TakenBy k a m → ⊥)
      by true e = accepted_then e k i
      by false e = (inl (subst (λ (z : Moment). StandsAt k z) (refused_same m a e) i), λ t. false≢true (sym e ∙ t.0))

  step_back : (k : ℕ) → StandsAt k m ⊎ MadeBy k a m → (TakenBy k a m → ⊥) → StandsAt k (step a m)
  step_back k x f = by (is_accepted (outcome a.call m.store a.room)) refl
    where
      by : (c : Bool) → is_accepted (outcome a.call m.store a.room) ≡ c → StandsAt k (step a m)
      by true e = accepted_back e k x f
      by false e = ⊎_elim (λ i. subst (λ (z : Moment). StandsAt k z) (sym (refused_same m a e)) i) (λ y. absurd (false≢true (sym e ∙ y.0))) x

  step_line : (l x : Line) → Memᴰ l (untaken m.book.entries) → Memᴰ x (untaken (step a m).book.entries) → serial_of x ≡ serial_of l → x ≡ line_after a m l
  step_line l x i j q = by (is_accepted (outcome a.call m.store a.room)) refl
    where
      by : (c : Bool) → is_accepted (outcome a.call m.store a.room) ≡ c → x ≡ line_after a m l
      by true e = accepted_line e l x i j q
      by false e =
          same_serial (untaken m.book.entries) (distinct_untaken m.book.entries h.once.once) x l
          (subst (λ (z : Moment). Memᴰ x (untaken z.book.entries)) (refused_same m a e) j) i q
          ∙ sym after_is
        where
          after_is : line_after a m l ≡ l
          after_is = rw (e, line_after)

-- ---- a history
module _ (on : (a : Asked) (m : Moment) → Holds m → Onward m (step a m)) where
  -- a row that is made later has a serial that no row had
  made_least : (k : ℕ) (history : List Asked) (m : Moment) → Holds m → SomeCall (MadeBy k) history m → m.book.next ≤ k
  unfolding SomeCall
  made_least k [] m h z = absurd z
  made_least k (a ∷ history) m h (inl (e, i)) = from_least m.book.next k (step a m).book.entries i
  made_least k (a ∷ history) m h (inr z) = let o : Onward m (step a m) = on a m h in le_trans o.follows.next (made_least k history (step a m) o.holds z)

  module _ (k : ℕ) (a : Asked) (history : List Asked) (m : Moment) (h : Holds m) where
    o : Onward m (step a m)
    o = on a m h

    later_made : SomeCall (MadeBy k) history (step a m) → TakenBy k a m → ⊥
    later_made z (e, (l, i, q, t)) =
        let small : serial_of l < m.book.next = (h.once.below (serial_of l) (in_entries l m.book.entries i)).1 in
        let big : (step a m).book.next ≤ k = made_least k history (step a m) o.holds z in
        omega (arith, small, big, q, o.follows.next)

    forth : (StandsAt k (step a m) ⊎ SomeCall (MadeBy k) history (step a m)) × (SomeCall (TakenBy k) history (step a m) → ⊥)
        → (StandsAt k m ⊎ (MadeBy k a m ⊎ SomeCall (MadeBy k) history (step a m))) × (TakenBy k a m ⊎ SomeCall (TakenBy k) history (step a m) → ⊥)
    forth (inl i, f) = let s = step_then m h a o k i in (⊎_elim (λ x. inl x) (λ x. inr (inl x)) s.0, λ t. ⊎_elim (λ x. s.1 x) (λ x. f x) t)
    forth (inr z, f) = (inr (inr z), λ t. ⊎_elim (λ x. later_made z x) (λ x. f x) t)

    back : StandsAt k m ⊎ (MadeBy k a m ⊎ SomeCall (MadeBy k) history (step a m)) → (TakenBy k a m ⊎ SomeCall (TakenBy k) history (step a m) → ⊥)
        → StandsAt k (step a m) ⊎ SomeCall (MadeBy k) history (step a m)
    back (inl i) f = inl (step_back m h a o k (inl i) (λ t. f (inl t)))
    back (inr (inl z)) f = inl (step_back m h a o k (inr z) (λ t. f (inl t)))
    back (inr (inr z)) f = inr z

  there_in_book : (k : ℕ) (history : List Asked) (m : Moment) → Holds m → StandsAt k (run history m) ↔ ((StandsAt k m ⊎ SomeCall (MadeBy k) history m) × (SomeCall (TakenBy k) history m → ⊥))
  unfolding run SomeCall
  there_in_book k [] m h = (λ i. (inl i, λ z. z), λ (x, f). ⊎_elim (λ i. i) (λ z. absurd z) x)
  there_in_book k (a ∷ history) m h = (
    λ i. forth k a history m h ((there_in_book k history (step a m) (on a m h).holds).0 i),
    λ (x, f). (there_in_book k history (step a m) (on a m h).holds).1 (back k a history m h x f, λ z. f (inr z)),
  )

  -- a line that stands before a call and after later ones stands after the call
  still : (a : Asked) (later : List Asked) (m : Moment) → Holds m → (l x : Line) → Memᴰ l (untaken m.book.entries) → Memᴰ x (untaken (run later (step a m)).book.entries)
      → serial_of x ≡ serial_of l
      → (y : Line) × Memᴰ y (untaken (step a m).book.entries) × (serial_of l ≡ serial_of y)
  still a later m h l x i j q =
      let o : Onward m (step a m) = on a m h in
      let f : Onward (step a m) (run later (step a m)) = run_on on later (step a m) o.holds in
      let at-end : StandsAt (serial_of l) (run later (step a m)) = subst (λ (z : ℕ). StandsAt z (run later (step a m))) q (line_serial x (untaken (run later (step a m)).book.entries) j) in
      ⊎_elim (λ t. absurd (not_both (serial_of l) (run later (step a m)).book.entries f.holds.once.once at-end (keeps_taken (serial_of l) f.follows.lines t)))
      (λ s. serial_line (serial_of l) (untaken (step a m).book.entries) s)
      (either (serial_of l) (step a m).book.entries (still_there m h a o (serial_of l) (line_serial l (untaken m.book.entries) i)))

  line_in_book : (later : List Asked) (m : Moment) → Holds m → (l x : Line) → Memᴰ l (untaken m.book.entries) → Memᴰ x (untaken (run later m).book.entries) → serial_of x ≡ serial_of l
      → x ≡ line_then later m l
  unfolding run line_then
  line_in_book [] m h l x i j q = same_serial (untaken m.book.entries) (distinct_untaken m.book.entries h.once.once) x l j i q
  line_in_book (a ∷ later) m h l x i j q =
      let o : Onward m (step a m) = on a m h in
      let between : (y : Line) × Memᴰ y (untaken (step a m).book.entries) × (serial_of l ≡ serial_of y) = still a later m h l x i j q in
      line_in_book later (step a m) o.holds between.0 x between.1 j (q ∙ between.2)
      ∙ ap (λ (z : Line). line_then later (step a m) z) (step_line m h a o l between.0 i between.1 (sym between.2))

  -- ---- in the store
  pub there_over : (history : List Asked) (m : Moment) → Holds m → (k : ℕ)
      → Memᴰ k (serials_in (run history m).store) ↔ ((Memᴰ k (serials_in m.store) ⊎ SomeCall (MadeBy k) history m) × (SomeCall (TakenBy k) history m → ⊥))
  there_over history m h k =
      rw (rows_then (run history m) (run_on on history m h).holds, rows_then m h) (there_in_book k history m h)

  pub line_over : (later : List Asked) (m : Moment) → Holds m → (l x : Line) → Memᴰ l (rows_in m.store) → Memᴰ x (rows_in (run later m).store) → serial_of x ≡ serial_of l
      → x ≡ line_then later m l
  line_over later m h l x i j =
      line_in_book later m h l x (subst (λ (z : List Line). Memᴰ l z) (rows_then m h) i) (subst (λ (z : List Line). Memᴰ x z) (rows_then (run later m) (run_on on later m h).holds) j)
