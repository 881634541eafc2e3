-- The store and the book say the same after each accepted call, and serials stay good.
use Prim.Native.Nat.{ℕ, ◌+◌, ◌*◌, ◌≤◌}
use native.Mathlib.Omega.{arith}
use mathlib.Core.Path.{◌≡◌, refl, ap, ap₂, ◌∙◌, sym}
use mathlib.Core.Bool.{Bool, true, false}
use mathlib.Core.List.{List, [], ◌∷◌, ◌++◌, map, map-append}
use lib.Dec.{eqb}
use Rattle.rules.specs.Bytes.{Bytes, eqb_eq}
use Rattle.rules.specs.Store.{Form, Row, Forest, bare, tree, Store}
use Rattle.rules.specs.WellFormed.{highest_number}
use Rattle.rules.specs.Passing.{serials, GoodSerials}
use Rattle.rules.specs.Lines.{Line, lines, ground}
use Rattle.rules.specs.Change.{Call, form_after, Plan, plan, prune, revalue, each_row, changed, new_rows, number, after}
use Rattle.rules.specs.Book.{Entry, stands, taken, Book, fresh_book, untaken, mark, revalue_entry, expand, spot_count, marks, note}
use Rattle.rules.specs.Run.{empty_store}
use Rattle.history.specs.History.{entry_serials, ever_made, book_of}
use Rattle.history.proofs.NumberTests.{ones, ones_most, times}
use Rattle.history.proofs.Taking
use Rattle.history.proofs.Taking.{occurs, occurs_serials, count, Apart}
use Rattle.history.proofs.Making
use Rattle.history.proofs.Making.{untaken_standing}
use Rattle.history.proofs.Numbering.{lines_serials, Spent, spent, spent_distinct, spent_below, spent_part}
use Rattle.history.proofs.Stable.{line_serials, standing_serials, Once, once_spent, spent_once, once_note}

-- ---- values set
abbrev pub on_line : (Row → Row) → Line → Line
on_line f l = record { parent = l.parent; row = f l.row }

module _ (k : ℕ) (v : Bytes) where
  pub untaken_revalue : (es : List Entry) → untaken (map (revalue_entry k v) es) ≡ map (on_line (revalue k v)) (untaken es)
  unfolding untaken
  untaken_revalue [] = refl
  untaken_revalue (taken l ∷ es) = untaken_revalue es
  untaken_revalue (stands l ∷ es) = ap (λ (z : List Line). on_line (revalue k v) l ∷ z) (untaken_revalue es)

  lines_revalue : (up : ℕ) (f : Forest Row) → lines up (each_row (revalue k v) f) ≡ map (on_line (revalue k v)) (lines up f)
  unfolding each_row
  lines_revalue up bare = refl
  lines_revalue up (tree r b t) =
      ap (λ (z : List Line). record { parent = up; row = revalue k v r } ∷ z)
      (ap₂ (λ (x y : List Line). x ++ y) (lines_revalue r.serial b) (lines_revalue up t) ∙ sym (map-append (on_line (revalue k v)) (lines r.serial b) (lines up t)))

  occurs_revalue : (n : ℕ) (f : Forest Row) → occurs n (each_row (revalue k v) f) ≡ occurs n f
  unfolding occurs each_row
  occurs_revalue n bare = refl
  occurs_revalue n (tree r b t) = omega (arith, occurs_revalue n b, occurs_revalue n t)

occurs_prune : (takes : Row → Row → Bool) (u : Row) (k : ℕ) (f : Forest Row) → occurs k (prune takes u f) ≤ occurs k f
unfolding occurs prune
occurs_prune takes u k bare = omega arith
occurs_prune takes u k (tree r b t) = by (takes u r) refl (occurs_prune takes r k b) (occurs_prune takes u k t)
  where
    by : (c : Bool) → takes u r ≡ c → occurs k (prune takes r b) ≤ occurs k b → occurs k (prune takes u t) ≤ occurs k t → occurs k (prune takes u (tree r b t)) ≤ occurs k (tree r b t)
    by true q x y = rw (q, prune) (omega arith)
    by false q x y = rw (q, prune) (omega arith)

-- ---- a plan carried out on the documents and in the book
module _ (p : Plan) (docs : Forest Row) (es : List Entry) (h : untaken es ≡ lines 0 docs) (a : Apart (ground ∷ []) docs) where
  abbrev left : Forest Row
  left = each_row (revalue p.set p.value) (prune p.takes ground docs)

  abbrev marked : List Entry
  marked = mark p.takes (ground ∷ []) es

  left_apart : Apart (ground ∷ []) left
  unfolding Apart
  left_apart k = omega (arith, a k, occurs_revalue p.set p.value k (prune p.takes ground docs), occurs_prune p.takes ground k docs)

  left_lines : untaken (map (revalue_entry p.set p.value) marked) ≡ lines 0 left
  left_lines =
      untaken_revalue p.set p.value marked
      ∙ ap (map (on_line (revalue p.set p.value))) (Taking.taking p.takes docs es h a)
      ∙ sym (lines_revalue p.set p.value 0 (prune p.takes ground docs))

  pub plan_lines : (n : ℕ) → untaken (expand p.filling n (marks p es)) ≡ lines 0 (number n (changed p docs))
  plan_lines n = Making.making p left (map (revalue_entry p.set p.value) marked) left_lines left_apart n

  pub plan_count : new_rows p.filling * spot_count (marks p es) ≡ new_rows (changed p docs)
  plan_count = Making.making_count p left (map (revalue_entry p.set p.value) marked) left_lines left_apart

-- the store and the book say the same
pub record Agree (s : Store) (b : Book) : Type 0 where
  pub version : b.version ≡ s.version
  pub next : b.next ≡ s.next
  pub form : b.form ≡ s.form
  pub rows : untaken b.entries ≡ lines 0 s.docs

pub fresh_agree : Agree empty_store fresh_book
unfolding untaken
fresh_agree = record { version = refl; next = refl; form = refl; rows = refl }

pub agree_after : (c : Call) (s : Store) (b : Book) → Apart (ground ∷ []) s.docs → Agree s b → Agree (after c s) (note c b)
unfolding after note
agree_after c s b a g =
    record {
      version = g.version;
      next = rw (g.next, g.version, g.form, g.rows) (ap (λ (k : ℕ). s.next + k) (plan_count (plan c s.version s.form (lines 0 s.docs)) s.docs b.entries g.rows a));
      form = ap (λ (f : Form). form_after c f) g.form;
      rows = rw (g.next, g.version, g.form, g.rows) (plan_lines (plan c s.version s.form (lines 0 s.docs)) s.docs b.entries g.rows a s.next);
    }

-- ---- serials
good_spent : (next : ℕ) (docs : Forest Row) → GoodSerials next docs → Spent next (serials docs)
good_spent next docs g = spent g.least g.once g.below

pub good_apart : (s : Store) → GoodSerials s.next s.docs → Apart (ground ∷ []) s.docs
unfolding Apart count
good_apart s g k = by (eqb k 0) refl
  where
    S : Spent s.next (serials s.docs)
    S = good_spent s.next s.docs g

    by : (c : Bool) → eqb k 0 ≡ c → ones (eqb k 0) + 0 + occurs k s.docs ≤ 1
    by true q =
        let e : times k (serials s.docs) ≡ 0 = rw (eqb_eq k 0 q) S.zero in
        omega (arith, ones_most (eqb k 0), occurs_serials k s.docs)
    by false q = omega (arith, ap ones q, occurs_serials k s.docs, S.once k)

-- ---- the book of a store
pub book_of_agree : (s : Store) → Agree s (book_of s)
book_of_agree s = record { version = refl; next = refl; form = refl; rows = untaken_standing (lines 0 s.docs) }

book_of_made : (s : Store) → ever_made (book_of s) ≡ serials s.docs
book_of_made s = standing_serials (lines 0 s.docs) ∙ lines_serials 0 s.docs

pub book_of_once : (s : Store) → GoodSerials s.next s.docs → Once (book_of s)
book_of_once s g = spent_once (book_of s) (rw (book_of_made s) (good_spent s.next s.docs g))

untaken_times : (k : ℕ) (es : List Entry) → times k (line_serials (untaken es)) ≤ times k (entry_serials es)
unfolding times untaken
untaken_times k [] = omega arith
untaken_times k (stands l ∷ es) = omega (arith, untaken_times k es)
untaken_times k (taken l ∷ es) = omega (arith, untaken_times k es)

-- the serials of the untaken lines are the store's, in document order
pub agree_rows : (s : Store) (b : Book) → Agree s b → line_serials (untaken b.entries) ≡ serials s.docs
agree_rows s b g = ap line_serials g.rows ∙ lines_serials 0 s.docs

-- a store whose book has each serial once has good serials
pub agree_serials : (s : Store) (b : Book) → Agree s b → Once b → s.next ≤ highest_number → GoodSerials s.next s.docs
agree_serials s b g o most = record { once = spent_distinct S; below = spent_below S; least = S.least; most = most }
  where
    S : Spent s.next (serials s.docs)
    S = rw (← g.next, ← (agree_rows s b g)) (spent_part (once_spent b o) (λ k. untaken_times k b.entries))

pub serials_after : (c : Call) (s : Store) → GoodSerials s.next s.docs → (after c s).next ≤ highest_number → GoodSerials (after c s).next (after c s).docs
serials_after c s g most =
    agree_serials (after c s) (note c (book_of s)) (agree_after c s (book_of s) (good_apart s g) (book_of_agree s)) (once_note c (book_of s) (book_of_once s g)) most
