-- The lines that a plan makes in the book: below each row that it fills, once, the rows of its filling with the next
-- serials.
use Prim.Native.Nat.{ℕ, suc, ◌+◌, ◌*◌, ◌≤◌, ◌<◌}
use native.Mathlib.Omega.{arith}
use native.Mathlib.Decide.{dec_le}
use native.Mathlib.Nat.{mul-zero}
use mathlib.Core.Path.{◌≡◌, refl, sym, ap, ◌∙◌, subst}
use mathlib.Core.Logic.{inl, inr, ⊎_elim, ◌↔◌}
use mathlib.Core.Bool.{Bool, true, false, ◌&&◌, not}
use mathlib.Core.List.{List, [], ◌∷◌, ◌++◌, map, map-append, Memᴰ}
use lib.Dec.{eqb, leb}
use lib.ListN.{length}
use borrow.Author.Tests.{le-leb, leb-true}
use Rattle.rules.specs.Bytes.{any, eqb_eq}
use Rattle.rules.specs.Model.{Distinct}
use Rattle.rules.specs.Store.{Row, Forest}
use Rattle.rules.specs.Lines.{Line, lines, ground}
use Rattle.rules.specs.Change.{Plan, new_rows, number}
use Rattle.rules.specs.Book.{Entry, stands, taken, untaken, Mark, old, spot, put_spot, placed, spots, expand, spot_count, marks}
use Rattle.rules.specs.MadeTakenGiven.{lines_made}
use Rattle.rules.proofs.PlanLaws.{Filled}
use Rattle.history.specs.History.{serial_of, line_of, entry_serials, entries_from, entries_below}
use Rattle.history.proofs.NumberTests.{ones, times, times_in, distinct_times, range, range_below}
use Rattle.history.proofs.Making.{standing}
use Rattle.history.proofs.Numbering.{Blank, number_serials, lines_serials}
use Rattle.history.proofs.Stable.{olds, left, line_serials}
use Rattle.history.proofs.TakenLines.{line_serial}

-- ---- the rows below which rows come
unfoldable pub spots_in : List Mark → List ℕ
spots_in [] = []
spots_in (old e ∷ ms) = spots_in ms
spots_in (spot u ∷ ms) = u ∷ spots_in ms

pub spots_length : (ms : List Mark) → spot_count ms ≡ length (spots_in ms)
unfolding spot_count spots_in
spots_length [] = refl
spots_length (old e ∷ ms) = spots_length ms
spots_length (spot u ∷ ms) = ap suc (spots_length ms)

-- ---- the new lines
module _ (least : ℕ) where
  from_new : (ls : List Line) (es : List Entry) → ((l : Line) → Memᴰ l ls → least ≤ serial_of l) → entries_from least (standing ls ++ es) ≡ standing ls ++ entries_from least es
  unfolding entries_from
  from_new [] es f = refl
  from_new (l ∷ ls) es f =
      rw (le-leb least (serial_of l) (f l (mathlib.Core.List.Memᴰ.head refl)), entries_from) (ap (λ (z : List Entry). stands l ∷ z) (from_new ls es (λ m i. f m (mathlib.Core.List.Memᴰ.tail i))))

  from_old : (e : Entry) (es : List Entry) → serial_of (line_of e) < least → entries_from least (e ∷ es) ≡ entries_from least es
  unfolding entries_from
  from_old e es h = by (leb least (serial_of (line_of e))) refl
    where
      by : (c : Bool) → leb least (serial_of (line_of e)) ≡ c → entries_from least (e ∷ es) ≡ entries_from least es
      by true q = absurd (omega (arith, h, leb-true least (serial_of (line_of e)) q))
      by false q = rw (q, entries_from)

range_least : (k n m : ℕ) → Memᴰ k (range n m) → n ≤ k
range_least k n m i = by (dec_le n k)
  where
    by : Dec (n ≤ k) → n ≤ k
    by (yes h) = h
    by (no h) = absurd (omega (arith, times_in k (range n m) i, range_below k n m (omega (arith, h))))

-- each new line has a serial from n on
new_least : (w : Forest Row) → Blank w → (n u : ℕ) (l : Line) → Memᴰ l (lines u (number n w)) → n ≤ serial_of l
new_least w blank n u l i =
    range_least (serial_of l) n (new_rows w) (subst (λ (ks : List ℕ). Memᴰ (serial_of l) ks) (lines_serials u (number n w) ∙ number_serials n w blank) (line_serial l (lines u (number n w)) i))

pub expand_new : (least : ℕ) (w : Forest Row) → Blank w → (n : ℕ) → least ≤ n → (ms : List Mark) → ((k : ℕ) → Memᴰ k (entry_serials (olds ms)) → k < least)
    → entries_from least (expand w n ms) ≡ standing (lines_made w n (spots_in ms))
unfolding olds expand spots_in lines_made entries_from
expand_new least w blank n h [] f = refl
expand_new least w blank n h (old e ∷ ms) f =
    from_old least e (expand w n ms) (f (serial_of (line_of e)) (mathlib.Core.List.Memᴰ.head refl)) ∙ expand_new least w blank n h ms (λ k i. f k (mathlib.Core.List.Memᴰ.tail i))
expand_new least w blank n h (spot u ∷ ms) f =
    from_new least (lines u (number n w)) (expand w (n + new_rows w) ms) (λ l i. let z : n ≤ serial_of l = new_least w blank n u l i in omega arith)
    ∙ ap (λ (z : List Entry). standing (lines u (number n w)) ++ z) (expand_new least w blank (n + new_rows w) (omega arith) ms f)
    ∙ sym (map-append (λ (l : Line). stands l) (lines u (number n w)) (lines_made w (n + new_rows w) (spots_in ms)))

-- ---- the other lines
module _ (least : ℕ) where
  below_new : (ls : List Line) (es : List Entry) → ((l : Line) → Memᴰ l ls → least ≤ serial_of l) → entries_below least (standing ls ++ es) ≡ entries_below least es
  unfolding entries_below
  below_new [] es f = refl
  below_new (l ∷ ls) es f = rw (le-leb least (serial_of l) (f l (mathlib.Core.List.Memᴰ.head refl)), entries_below) (below_new ls es (λ m i. f m (mathlib.Core.List.Memᴰ.tail i)))

  below_old : (e : Entry) (es : List Entry) → serial_of (line_of e) < least → entries_below least (e ∷ es) ≡ e ∷ entries_below least es
  unfolding entries_below
  below_old e es h = by (leb least (serial_of (line_of e))) refl
    where
      by : (c : Bool) → leb least (serial_of (line_of e)) ≡ c → entries_below least (e ∷ es) ≡ e ∷ entries_below least es
      by true q = absurd (omega (arith, h, leb-true least (serial_of (line_of e)) q))
      by false q = rw (q, entries_below)

pub expand_others : (least : ℕ) (w : Forest Row) → Blank w → (n : ℕ) → least ≤ n → (ms : List Mark) → ((k : ℕ) → Memᴰ k (entry_serials (olds ms)) → k < least)
    → entries_below least (expand w n ms) ≡ olds ms
unfolding olds expand entries_below
expand_others least w blank n h [] f = refl
expand_others least w blank n h (old e ∷ ms) f =
    below_old least e (expand w n ms) (f (serial_of (line_of e)) (mathlib.Core.List.Memᴰ.head refl)) ∙ ap (λ (z : List Entry). e ∷ z) (expand_others least w blank n h ms (λ k i. f k (mathlib.Core.List.Memᴰ.tail i)))
expand_others least w blank n h (spot u ∷ ms) f =
    below_new least (lines u (number n w)) (expand w (n + new_rows w) ms) (λ l i. let z : n ≤ serial_of l = new_least w blank n u l i in omega arith)
    ∙ expand_others least w blank (n + new_rows w) (omega arith) ms f

-- ---- each row that is filled, once
unfoldable filled_in : (Row → Bool) → List Row → List ℕ
filled_in fills [] = []
filled_in fills (r ∷ rs) = elim (fills r) [ true ↦ r.serial ∷ filled_in fills rs | false ↦ filled_in fills rs ]

abbrev rows_of : List Line → List Row
rows_of ls = map (λ (l : Line). l.row) ls

module _ (k : ℕ) where
  place_times : (later : Row → Bool) (u : ℕ) (below : List ℕ) (ms : List Mark) → times k (spots_in (put_spot later u below ms)) ≡ ones (eqb k u) + times k (spots_in ms)
  unfolding spots_in put_spot times
  place_times later u below [] = refl
  place_times later u below (spot v ∷ ms) = omega (arith, place_times later u below ms)
  place_times later u below (old (taken l) ∷ ms) = place_times later u below ms
  place_times later u below (old (stands l) ∷ ms) = by (any (eqb l.parent) below && not (eqb l.parent u && later l.row)) refl (place_times later u (l.row.serial ∷ below) ms)
    where
      by : (c : Bool) → (any (eqb l.parent) below && not (eqb l.parent u && later l.row)) ≡ c
          → times k (spots_in (put_spot later u (l.row.serial ∷ below) ms)) ≡ ones (eqb k u) + times k (spots_in ms)
          → times k (spots_in (put_spot later u below (old (stands l) ∷ ms))) ≡ ones (eqb k u) + times k (spots_in ms)
      by true q x = rw (q, put_spot) x
      by false q x = rw (q, put_spot)

  -- a row, and the rows after it
  placed_times : (p : Plan) (r : Row) (rs : List Row) (ms : List Mark) → times k (spots_in ms) ≡ times k (filled_in p.fills rs)
      → times k (spots_in (placed p r ms)) ≡ times k (filled_in p.fills (r ∷ rs))
  unfolding filled_in times
  placed_times p r rs ms x = by (p.fills r) refl
    where
      by : (c : Bool) → p.fills r ≡ c → times k (spots_in (placed p r ms)) ≡ times k (filled_in p.fills (r ∷ rs))
      by true q = rw (q, placed) (rw (q, filled_in) (omega (arith, x, place_times (p.later r) r.serial (r.serial ∷ []) ms)))
      by false q = rw (q, placed) (rw (q, filled_in) x)

  spots_times : (p : Plan) (es : List Entry) → times k (spots_in (spots p es)) ≡ times k (filled_in p.fills (rows_of (untaken es)))
  unfolding spots_in spots untaken filled_in
  spots_times p [] = refl
  spots_times p (taken l ∷ es) = spots_times p es
  spots_times p (stands l ∷ es) = placed_times p l.row (rows_of (untaken es)) (spots p es) (spots_times p es)

  marks_times : (p : Plan) (es : List Entry) → times k (spots_in (marks p es)) ≡ times k (filled_in p.fills (ground ∷ rows_of (untaken (left p es))))
  marks_times p es = placed_times p ground (rows_of (untaken (left p es))) (spots p (left p es)) (spots_times p (left p es))

  filled_most : (fills : Row → Bool) (rs : List Row) → times k (filled_in fills rs) ≤ times k (map (λ (r : Row). r.serial) rs)
  unfolding filled_in times
  filled_most fills [] = omega arith
  filled_most fills (r ∷ rs) = by (fills r) refl (filled_most fills rs)
    where
      by : (c : Bool) → fills r ≡ c → times k (filled_in fills rs) ≤ times k (map (λ (r : Row). r.serial) rs)
          → times k (filled_in fills (r ∷ rs)) ≤ ones (eqb k r.serial) + times k (map (λ (r : Row). r.serial) rs)
      by true q x = rw (q, filled_in) (omega arith)
      by false q x = rw (q, filled_in) (omega arith)

  times_member : (ns : List ℕ) → 1 ≤ times k ns → Memᴰ k ns
  unfolding times
  times_member [] h = absurd (omega (arith, h))
  times_member (n ∷ ns) h = by (eqb k n) refl (times_member ns)
    where
      by : (c : Bool) → eqb k n ≡ c → (1 ≤ times k ns → Memᴰ k ns) → Memᴰ k (n ∷ ns)
      by true q f = mathlib.Core.List.Memᴰ.head (eqb_eq k n q)
      by false q f = mathlib.Core.List.Memᴰ.tail (f (omega (arith, h, ap ones q)))

  -- a serial is listed where a row with it is filled
  abbrev HasRow : (Row → Bool) → List Row → Type 0
  HasRow fills rs = (r : Row) × Memᴰ r rs × (r.serial ≡ k) × (fills r ≡ true)

  filled_row : (fills : Row → Bool) (rs : List Row) → Memᴰ k (filled_in fills rs) → HasRow fills rs
  unfolding filled_in
  filled_row fills [] i = absurd (mathlib.Core.List.Memᴰ.not-nil i)
  filled_row fills (r ∷ rs) i = by (fills r) refl (filled_row fills rs)
    where
      by : (c : Bool) → fills r ≡ c → (Memᴰ k (filled_in fills rs) → HasRow fills rs) → HasRow fills (r ∷ rs)
      by true q f =
          let j : Memᴰ k (r.serial ∷ filled_in fills rs) = rw (q, filled_in) at i in
          ⊎_elim (λ e. (r, mathlib.Core.List.Memᴰ.head refl, sym e, q)) (λ m. let (s, x, e, h) = f m in (s, mathlib.Core.List.Memᴰ.tail x, e, h)) (mathlib.Core.List.Memᴰ.cases_cons j)
      by false q f = let (s, x, e, h) = f (rw (q, filled_in) at i) in (s, mathlib.Core.List.Memᴰ.tail x, e, h)

  row_filled : (fills : Row → Bool) (rs : List Row) (r : Row) → Memᴰ r rs → r.serial ≡ k → fills r ≡ true → Memᴰ k (filled_in fills rs)
  unfolding filled_in
  row_filled fills [] r x3 e h = elim x3 [ ]
  row_filled fills (s ∷ rs) r (mathlib.Core.List.Memᴰ.head g) e h = rw (ap fills (sym g) ∙ h, filled_in) (mathlib.Core.List.Memᴰ.head (sym e ∙ ap (λ (z : Row). z.serial) g))
  row_filled fills (s ∷ rs) r (mathlib.Core.List.Memᴰ.tail i) e h = by (fills s) refl (row_filled fills rs r i e h)
    where
      by : (c : Bool) → fills s ≡ c → Memᴰ k (filled_in fills rs) → Memᴰ k (filled_in fills (s ∷ rs))
      by true q m = rw (q, filled_in) (mathlib.Core.List.Memᴰ.tail m)
      by false q m = rw (q, filled_in) m

row_line : (ls : List Line) (r : Row) → Memᴰ r (rows_of ls) → (l : Line) × Memᴰ l ls × (r ≡ l.row)
row_line [] r x' = elim x' [ ]
row_line (l ∷ ls) r (mathlib.Core.List.Memᴰ.head e) = (l, mathlib.Core.List.Memᴰ.head refl, e)
row_line (l ∷ ls) r (mathlib.Core.List.Memᴰ.tail i) = let (m, j, e) = row_line ls r i in (m, mathlib.Core.List.Memᴰ.tail j, e)

line_row : (ls : List Line) (l : Line) → Memᴰ l ls → Memᴰ l.row (rows_of ls)
line_row [] l x' = elim x' [ ]
line_row (m ∷ ls) l (mathlib.Core.List.Memᴰ.head e) = mathlib.Core.List.Memᴰ.head (ap (λ (z : Line). z.row) e)
line_row (m ∷ ls) l (mathlib.Core.List.Memᴰ.tail i) = mathlib.Core.List.Memᴰ.tail (line_row ls l i)

row_serials : (ls : List Line) → map (λ (r : Row). r.serial) (rows_of ls) ≡ line_serials ls
row_serials [] = refl
row_serials (l ∷ ls) = ap (λ (z : List ℕ). serial_of l ∷ z) (row_serials ls)

-- WHERE: rows come below the rows that are filled
pub spots_filled : (p : Plan) (es : List Entry) (u : ℕ) → Memᴰ u (spots_in (marks p es)) ↔ Filled p.fills (untaken (left p es)) u
spots_filled p es u = (
  λ i. there
      (filled_row u p.fills (ground ∷ rows_of ls) (times_member u (filled_in p.fills (ground ∷ rows_of ls)) (subst (λ (n : ℕ). 1 ≤ n) (marks_times u p es) (times_in u (spots_in (marks p es)) i)))),
  λ f. times_member u (spots_in (marks p es)) (subst (λ (n : ℕ). 1 ≤ n) (sym (marks_times u p es)) (times_in u (filled_in p.fills (ground ∷ rows_of ls)) (back f))),
)
  where
    ls : List Line
    ls = untaken (left p es)

    there : HasRow u p.fills (ground ∷ rows_of ls) → Filled p.fills ls u
    there (r, i, e, h) =
        ⊎_elim (λ g. inl (sym e ∙ ap (λ (z : Row). z.serial) g, ap p.fills (sym g) ∙ h))
        (λ j. let (l, m, g) = row_line ls r j in inr (l, m, ap (λ (z : Row). z.serial) (sym g) ∙ e, ap p.fills (sym g) ∙ h)) (mathlib.Core.List.Memᴰ.cases_cons i)

    back : Filled p.fills ls u → Memᴰ u (filled_in p.fills (ground ∷ rows_of ls))
    back (inl (e, h)) = row_filled u p.fills (ground ∷ rows_of ls) ground (mathlib.Core.List.Memᴰ.head refl) (sym e) h
    back (inr (l, i, e, h)) = row_filled u p.fills (ground ∷ rows_of ls) l.row (mathlib.Core.List.Memᴰ.tail (line_row ls l i)) e h

-- ONCE: below each at most once
pub spots_once : (p : Plan) (es : List Entry) → Distinct (line_serials (untaken (left p es)))
    → ((k : ℕ) → Memᴰ k (line_serials (untaken (left p es))) → 1 ≤ k) → Distinct (spots_in (marks p es))
spots_once p es d big = (distinct_times (spots_in (marks p es))).1 once
  where
    all_once : Distinct (map (λ (r : Row). r.serial) (ground ∷ rows_of (untaken (left p es))))
    all_once = subst (λ (z : List ℕ). Distinct (0 ∷ z)) (sym (row_serials (untaken (left p es)))) (λ i. let z : 1 ≤ 0 = big 0 i in omega (arith, z), d)

    most : (k : ℕ) → times k (map (λ (r : Row). r.serial) (ground ∷ rows_of (untaken (left p es)))) ≤ 1
    most k = (distinct_times (map (λ (r : Row). r.serial) (ground ∷ rows_of (untaken (left p es))))).0 all_once k

    once : (k : ℕ) → times k (spots_in (marks p es)) ≤ 1
    once k = omega (arith, marks_times k p es, filled_most k p.fills (ground ∷ rows_of (untaken (left p es))), most k)

-- the same rows, where any are made
pub made_as : (w v : Forest Row) (us : List ℕ) → ((u : ℕ) → Memᴰ u us → w ≡ v) → (n : ℕ) → lines_made w n us ≡ lines_made v n us
unfolding lines_made
made_as w v [] f n = refl
made_as w v (u ∷ us) f n = ap (λ (z : Forest Row). lines_made z n (u ∷ us)) (f u (mathlib.Core.List.Memᴰ.head refl))

pub count_as : (w v : Forest Row) (us : List ℕ) → ((u : ℕ) → Memᴰ u us → w ≡ v) → new_rows w * length us ≡ new_rows v * length us
count_as w v [] f = mul-zero (new_rows w) ∙ sym (mul-zero (new_rows v))
count_as w v (u ∷ us) f = ap (λ (z : Forest Row). new_rows z * length (u ∷ us)) (f u (mathlib.Core.List.Memᴰ.head refl))
