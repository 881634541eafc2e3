-- A HISTORY MAY START WITH A READING. The book of a text is the book of the canonical store (read_book_lem), which
-- passes (canonical_good); so the start is a good moment, and Demand 3 holds of all that comes after it. Two starts of
-- one text are one, since printing is one-to-one up to canonical stores (unique).
use Prim.Native.Nat.{ℕ, zero, suc, ◌+◌, ◌≤◌, ◌<◌}
use native.Mathlib.Omega.{arith}
use native.Mathlib.Decide.{dec_le}
use mathlib.Core.Path.{◌≡◌, refl, sym, ap, ◌∙◌, subst}
use mathlib.Core.Logic.{inl, inr, ◌↔◌}
use mathlib.Core.Bool.{true}
use mathlib.Core.Option.{some}
use mathlib.Core.List.Memᴰ
use mathlib.Core.List.{List, [], ◌∷◌, map, Memᴰ}
use lib.ListN.{length, length-append}
use Rattle.rules.specs.Bytes.{Bytes}
use Rattle.rules.specs.Model.{distinct}
use Rattle.rules.specs.Store.{Row, Forest, bare, tree, Store}
use Rattle.rules.specs.Layout.{base_version}
use Rattle.rules.specs.WellFormed.{well_formed}
use Rattle.rules.specs.Conforming.{conforming}
use Rattle.rules.specs.Passing.{good_serials, good}
use Rattle.rules.specs.Print.{printed}
use Rattle.rules.specs.Lines.{lines}
use Rattle.rules.specs.Change.{each_row, new_rows, number}
use Rattle.rules.specs.Book.{Book}
use Rattle.rules.specs.Run.{Asked, empty_store, Moment, start}
use Rattle.rules.proofs.PassingLaws.{good_is}
use Rattle.history.specs.History.{serial_of, serials_in, GoodMoment, book_of, moment_of, Demand3}
use Rattle.history.proofs.NumberTests.{range}
use Rattle.history.proofs.Numbering.{number_serials, lines_serials}
use Rattle.history.proofs.Making.{untaken_standing}
use Rattle.history.proofs.Moments.{start_good, moment_good}
use Rattle.history.proofs.Accepted.{demand_3_from}
use Rattle.reading_rules.specs.Canonical.{unnumbered, canonical}
use Rattle.reading_rules.specs.Reading.{Prints, read_text}
use Rattle.reading_rules.proofs.CanonicalGood.{canonical_good, unnumbered_blank}
use Rattle.reading_rules.proofs.Theorem.{unique, read_some, read_canonical}
use Rattle.reading_history.specs.ReadStart.{read_book, ReadStart, HistoryStart, MadeByReading, Demand3OfReading}

-- ---- the book of the text is the book of the store that reading builds
lines_new : (up : ℕ) (f : Forest Row) → new_rows (unnumbered f) ≡ length (lines up f)
unfolding new_rows each_row
lines_new up bare = refl
lines_new up (tree r b t) = omega (arith, lines_new r.serial b, lines_new up t, length-append (lines r.serial b) (lines up t))

pub read_book_lem : (s : Store) → read_book s ≡ book_of (canonical s)
unfolding canonical
read_book_lem s =
    λ i. record { version = s.version; next = 1 + sym (lines_new 0 s.docs) i; form = (canonical s).form; entries = (book_of (canonical s)).entries }

-- ---- the start
-- of each store that prints the text
pub start_of : (version : ℕ) (txt : Bytes) (s : Store) → Prints version s txt → ReadStart version txt (moment_of (canonical s))
start_of version txt s p = record { printer = s; prints = p; store = refl; book = sym (read_book_lem s) }

-- of the text, computed
pub start_read : (version : ℕ) (txt : Bytes) (u : Store) → read_text version txt ≡ some u → ReadStart version txt (moment_of u)
start_read version txt u e = subst (λ (z : Store). ReadStart version txt (moment_of z)) (read_canonical version txt u e) (start_of version txt u (read_some version txt u e))

-- the fresh store is the one of the empty text
pub start_empty : ReadStart base_version [] start
unfolding good well_formed conforming good_serials distinct canonical number new_rows each_row printed
start_empty = record { printer = empty_store; prints = (refl, (good_is empty_store).0 refl, refl); store = refl; book = refl }

module _ {version : ℕ} {txt : Bytes} {from : Moment} (x : ReadStart version txt from) where
  -- it is the moment of the canonical store with its own book
  pub start_is : from ≡ moment_of (canonical x.printer)
  start_is = λ i. record { store = x.store i; book = (x.book ∙ read_book_lem x.printer) i }

  passing : good (canonical x.printer) ≡ true
  passing = (good_is (canonical x.printer)).1 (canonical_good x.printer x.prints.1)

  -- the store passes, and the book says the same
  pub read_start_good : GoodMoment from
  read_start_good = subst GoodMoment (sym start_is) (moment_good (canonical x.printer) passing)

-- whichever store printed the text, the store that reading builds and the book are the same
canonical_one : {version : ℕ} {txt : Bytes} (s t : Store) → Prints version s txt → Prints version t txt → canonical s ≡ canonical t
canonical_one s t (v, g, e) (w, h, f) = unique s t g h (v ∙ sym w) (e ∙ sym f)

pub book_one : (version : ℕ) (txt : Bytes) (s t : Store) → Prints version s txt → Prints version t txt → read_book s ≡ read_book t
book_one version txt s t p q = read_book_lem s ∙ ap book_of (canonical_one s t p q) ∙ sym (read_book_lem t)

pub start_one : {version : ℕ} {txt : Bytes} {from other : Moment} → ReadStart version txt from → ReadStart version txt other → from ≡ other
start_one x y = start_is x ∙ ap moment_of (canonical_one x.printer y.printer x.prints y.prints) ∙ sym (start_is y)

-- ---- the rows that the reading made
-- k is one of m numbers from n on
in_range_lem : (k n m : ℕ) → Memᴰ k (range n m) → (n ≤ k) × (k < n + m)
unfolding range
in_range_lem k n zero i = absurd (Memᴰ.not-nil i)
in_range_lem k n (suc m) (Memᴰ.head e) = (omega arith, omega arith)
in_range_lem k n (suc m) (Memᴰ.tail i) = let (a, b) = in_range_lem k (suc n) m i in (omega arith, omega arith)

range_has : (k n m : ℕ) → n ≤ k → k < n + m → Memᴰ k (range n m)
unfolding range
range_has k n zero a b = absurd (let z : ⊥ = omega arith in z)
range_has k n (suc m) a b = by (dec_le (suc n) k) (λ h. range_has k (suc n) m h (omega arith))
  where
    by : Dec (suc n ≤ k) → (suc n ≤ k → Memᴰ k (range (suc n) m)) → Memᴰ k (n ∷ range (suc n) m)
    by (yes h) later = Memᴰ.tail (later h)
    by (no h) later = let e : k ≡ n = omega arith in Memᴰ.head e

-- the rows of a store so read have the serials from 1 on, as many as there are rows
canonical_serials : (s : Store) → map serial_of (lines 0 (canonical s).docs) ≡ range 1 (length (lines 0 s.docs))
unfolding canonical
canonical_serials s =
    lines_serials 0 (canonical s).docs ∙ number_serials 1 (unnumbered s.docs) (unnumbered_blank s.docs) ∙ ap (range 1) (lines_new 0 s.docs)

module _ {version : ℕ} {txt : Bytes} {from : Moment} (x : ReadStart version txt from) where
  pub serials_read : serials_in from.store ≡ range 1 (length (lines 0 x.printer.docs))
  serials_read =
      ap (λ (m : Moment). serials_in m.store) (start_is x)
      ∙ ap (map serial_of) ((moment_good (canonical x.printer) (passing x)).rows ∙ untaken_standing (lines 0 (canonical x.printer).docs))
      ∙ canonical_serials x.printer

  -- exactly the serials from 1 on, up to the next one
  pub made_by_reading : (k : ℕ) → MadeByReading k from ↔ ((1 ≤ k) × (k < from.book.next))
  made_by_reading k =
      let rows : ℕ = length (lines 0 x.printer.docs) in
      let next : from.book.next ≡ 1 + rows = ap (λ (b : Book). b.next) x.book in (
        λ i. let (a, b) = in_range_lem k 1 rows (subst (λ (ks : List ℕ). Memᴰ k ks) serials_read i) in (a, omega arith),
        λ (a, b). subst (λ (ks : List ℕ). Memᴰ k ks) (sym serials_read) (range_has k 1 rows a (omega arith)),
      )

  -- ---- DEMAND 3 OF A HISTORY THAT STARTS WITH A READING
  pub demand_3_of_reading : (history later : List Asked) → Demand3OfReading version txt from history later
  demand_3_of_reading history later =
      let d : Demand3 from history later = demand_3_from from (read_start_good x) history later in
      record { begins = x; made = made_by_reading; there = d.there; demand = d }

-- and of every history, from the fresh store or from a store read
pub demand_3_of_start : (version : ℕ) (from : Moment) → HistoryStart version from → (history later : List Asked) → Demand3 from history later
demand_3_of_start version from (inl e) = demand_3_from from (subst GoodMoment (sym e) start_good)
demand_3_of_start version from (inr (txt, x)) = demand_3_from from (read_start_good x)
