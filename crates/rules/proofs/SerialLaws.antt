-- The tests on every row of a forest and on serials: each is true just where what it tests holds.
use Prim.Native.Nat.{ℕ, ◌<◌, ◌≤◌}
use mathlib.Core.Path.{◌≡◌, refl}
use mathlib.Core.Logic.Iff
use mathlib.Core.Logic.{⊎_elim, ◌↔◌}
use mathlib.Core.Bool.{Bool, true, ◌&&◌}
use mathlib.Core.List.Memᴰ
use mathlib.Core.List.{List, Memᴰ}
use lib.Dec.{leb, ltb, leb→le, ltb→lt}
use Rattle.rules.specs.Bytes.{numbers, all, to_T}
use Rattle.rules.specs.Model.{distinct}
use Rattle.rules.specs.Store.{Row, Forest, bare, tree, heads}
use Rattle.rules.specs.WellFormed.{highest_number}
use Rattle.rules.specs.Conforming.{EveryRow, every_row}
use Rattle.rules.specs.Passing.{serials, GoodSerials, good_serials}
use Rattle.rules.proofs.Words.{and_both, and_split}
use Rattle.rules.proofs.TestLaws.{all_test, distinct_test}
use borrow.Author.Tests.{lt-ltb, le-leb}

-- ---- every row
module _ (p : Row → List Row → Bool) (P : Row → List Row → Type 0) (is : (r : Row) (b : List Row) → (p r b ≡ true) ↔ P r b) where
  every→ : (docs : Forest Row) → every_row p docs ≡ true → EveryRow P docs
  every→ bare e = tt
  every→ (tree r b t) e =
      let (x, f) = and_split (p r (heads b)) (every_row p b && every_row p t) e in
      let (y, z) = and_split (every_row p b) (every_row p t) f in
      ((is r (heads b)).0 x, every→ b y, every→ t z)

  every← : (docs : Forest Row) → EveryRow P docs → every_row p docs ≡ true
  every← bare e = refl
  every← (tree r b t) (x, y, z) = and_both ((is r (heads b)).1 x) (and_both (every← b y) (every← t z))

  -- a test that decides what it tests of a row, on every row
  pub every_row_is : (docs : Forest Row) → (every_row p docs ≡ true) ↔ EveryRow P docs
  every_row_is docs = (every→ docs, every← docs)

pub every_row_lem : (p : Row → List Row → Bool) (docs : Forest Row) → (every_row p docs ≡ true) ↔ EveryRow (λ r b. p r b ≡ true) docs
every_row_lem p docs = every_row_is p (λ r b. p r b ≡ true) (λ r b. Iff.rfl) docs

-- ---- serials
serial_in_lem : (next k : ℕ) → (leb 1 k && ltb k next) ≡ true → (1 ≤ k) × (k < next)
serial_in_lem next k e = let (a, b) = and_split (leb 1 k) (ltb k next) e in (leb→le 1 k (to_T a), ltb→lt k next (to_T b))

module _ (P : ℕ → Type 0) where
  serial→ : (f : Forest Row) → EveryRow (λ r b. P r.serial) f → (k : ℕ) → Memᴰ k (serials f) → P k
  serial→ bare x k m = absurd (Memᴰ.not-nil m)
  serial→ (tree r b t) (x, y, z) k m =
      ⊎_elim (λ e. rw e x) (λ n. ⊎_elim (serial→ b y k) (serial→ t z k) (Memᴰ.append_cases (serials b) n)) (Memᴰ.cases_cons m)

  serial← : (f : Forest Row) → ((k : ℕ) → Memᴰ k (serials f) → P k) → EveryRow (λ r b. P r.serial) f
  serial← bare x = tt
  serial← (tree r b t) x = (
    x r.serial (Memᴰ.head refl),
    serial← b (λ k m. x k (Memᴰ.tail (Memᴰ.append_left (serials t) m))),
    serial← t (λ k m. x k (Memᴰ.tail (Memᴰ.append_right (serials b) m))),
  )

  -- what holds of each row's serial holds of the serials, and the other way round
  pub every_serial : (f : Forest Row) → EveryRow (λ r b. P r.serial) f ↔ ((k : ℕ) → Memᴰ k (serials f) → P k)
  every_serial f = (serial→ f, serial← f)

pub good_serials_lem : (next : ℕ) (docs : Forest Row) → (good_serials next docs ≡ true) ↔ GoodSerials next docs
unfolding good_serials
good_serials_lem next docs = (
  λ e.
      let (d, f) = and_split (distinct numbers (serials docs)) (all (λ k. leb 1 k && ltb k next) (serials docs) && (leb 1 next && leb next highest_number)) e in
      let (a, g) = and_split (all (λ k. leb 1 k && ltb k next) (serials docs)) (leb 1 next && leb next highest_number) f in
      let (l, m) = and_split (leb 1 next) (leb next highest_number) g in
      record {
        once = (distinct_test numbers (serials docs)).0 d;
        below = λ k i. serial_in_lem next k ((all_test (λ k. leb 1 k && ltb k next) (serials docs)).0 a k i);
        least = leb→le 1 next (to_T l);
        most = leb→le next highest_number (to_T m);
      },
  λ g.
      and_both ((distinct_test numbers (serials docs)).1 g.once)
      (and_both ((all_test (λ k. leb 1 k && ltb k next) (serials docs)).1 (λ k i. let (a, b) = g.below k i in and_both (le-leb 1 k a) (lt-ltb k next b)))
      (and_both (le-leb 1 next g.least) (le-leb next highest_number g.most))),
)
