-- Rows from a number on: one more is looked at.
use Prim.Native.Nat.{ℕ, suc, ◌+◌, ◌<◌, ◌≤◌}
use borrow.Author.Tests.{lt-ltb, le-ltb}
use mathlib.Core.Path.{◌≡◌, refl, sym, ap, ap₂, ◌∙◌}
use mathlib.Core.Bool.{Bool, true, false, ◌&&◌}
use mathlib.Core.List.{List, [], ◌∷◌}
use lib.Dec.{eqb}
use Rattle.rules.specs.Bytes.{Bytes}
use Rattle.rules.specs.Preorder.{Deep}
use Rattle.rules.specs.Layout.{row_size, FlatRow}
use Rattle.rules.specs.Decode.{read_row}
use Rattle.layout.specs.Bodies.{record_at}
use Rattle.lookup.proofs.Laws.{from_step, from_none}
use Rattle.document_rows.specs.Finding.{BeginsAt, children, Test, seek}
use Rattle.lookup.specs.Bodies.{rows_from}

abbrev pub row_at : ℕ → Bytes → ℕ → Deep FlatRow
row_at w rows i = read_row (record_at (row_size w) i rows)

-- ---- the row that passes a test
pub seek_this : (p : Test) (x : Deep FlatRow) (xs : List (Deep FlatRow)) → p x.row (children 1 (suc x.depth) xs) ≡ true → seek p (x ∷ xs) ≡ x ∷ xs
unfolding seek
seek_this p x xs e = rw (e, seek)

pub seek_other : (p : Test) (x : Deep FlatRow) (xs : List (Deep FlatRow)) → p x.row (children 1 (suc x.depth) xs) ≡ false → seek p (x ∷ xs) ≡ seek p xs
unfolding seek
seek_other p x xs e = rw (e, seek)

seek_nil : (p : Test) → seek p [] ≡ []
unfolding seek
seek_nil p = refl

-- what is left to look through from row i on gives the same rows
abbrev pub Seeking : ℕ → Test → Bytes → ℕ → ℕ → Type 0
Seeking w p rows count i = seek p (rows_from w rows count i) ≡ seek p (rows_from w rows count 0)

module _ (w : ℕ) (p : Test) (rows : Bytes) (count i : ℕ) (s : Seeking w p rows count i) where
  pub seek_past : i < count → p (row_at w rows i).row (children 1 (suc (row_at w rows i).depth) (rows_from w rows count (i + 1))) ≡ false → Seeking w p rows count (i + 1)
  seek_past h e = sym (seek_other p (row_at w rows i) (rows_from w rows count (i + 1)) e) ∙ sym (ap (seek p) (from_step read_row (row_size w) rows count i h)) ∙ s

  pub seek_hit : i < count → p (row_at w rows i).row (children 1 (suc (row_at w rows i).depth) (rows_from w rows count (i + 1))) ≡ true → BeginsAt w rows count i (seek p (rows_from w rows count 0))
  seek_hit h e =
      record {
        from = from_step read_row (row_size w) rows count i h
            ∙ sym (seek_this p (row_at w rows i) (rows_from w rows count (i + 1)) e)
            ∙ sym (ap (seek p) (from_step read_row (row_size w) rows count i h))
            ∙ s;
        within = h;
      }

  pub seek_none : count ≤ i → seek p (rows_from w rows count 0) ≡ []
  seek_none h = sym s ∙ ap (seek p) (from_none read_row (row_size w) rows count i h) ∙ seek_nil p

-- ---- the rows of a depth and a sort
module _ (s d : ℕ) (x : Deep FlatRow) (xs : List (Deep FlatRow)) where
  children_less : x.depth < d → children s d (x ∷ xs) ≡ []
  unfolding children
  children_less l = rw (lt-ltb x.depth d l, children)

  children_this : d ≤ x.depth → (eqb x.depth d && eqb x.row.sort s) ≡ true → children s d (x ∷ xs) ≡ x.row ∷ children s d xs
  unfolding children
  children_this l e = rw (le-ltb x.depth d l, children) (rw e)

  children_other : d ≤ x.depth → (eqb x.depth d && eqb x.row.sort s) ≡ false → children s d (x ∷ xs) ≡ children s d xs
  unfolding children
  children_other l e = rw (le-ltb x.depth d l, children) (rw e)

children_nil : (s d : ℕ) → children s d [] ≡ []
unfolding children
children_nil s d = refl

-- what is read of row i where it is lent
module _ (w i : ℕ) (rows : Bytes) {row : Bytes} (e : row ≡ record_at (row_size w) i rows) {deep : ℕ} (f : deep ≡ (read_row row).depth) where
  pub depth_read : deep ≡ (row_at w rows i).depth
  depth_read = f ∙ ap (λ (b : Bytes). (read_row b).depth) e

  pub test_read : (s d : ℕ) {sort : ℕ} → sort ≡ (read_row row).row.sort → {z : Bool} → (eqb deep d && eqb sort s) ≡ z
      → (eqb (row_at w rows i).depth d && eqb (row_at w rows i).row.sort s) ≡ z
  test_read s d g t = sym (ap₂ (λ (u v : ℕ). eqb u d && eqb v s) depth_read (g ∙ ap (λ (b : Bytes). (read_row b).row.sort) e)) ∙ t

-- .. from number i on
module _ (w s d : ℕ) (rows : Bytes) (count i : ℕ) where
  pub step_past : i < count → d ≤ (row_at w rows i).depth → (eqb (row_at w rows i).depth d && eqb (row_at w rows i).row.sort s) ≡ false
      → children s d (rows_from w rows count i) ≡ children s d (rows_from w rows count (i + 1))
  step_past h l e = ap (children s d) (from_step read_row (row_size w) rows count i h) ∙ children_other s d (row_at w rows i) (rows_from w rows count (i + 1)) l e

  pub step_hit : i < count → d ≤ (row_at w rows i).depth → (eqb (row_at w rows i).depth d && eqb (row_at w rows i).row.sort s) ≡ true
      → children s d (rows_from w rows count i) ≡ (row_at w rows i).row ∷ children s d (rows_from w rows count (i + 1))
  step_hit h l e = ap (children s d) (from_step read_row (row_size w) rows count i h) ∙ children_this s d (row_at w rows i) (rows_from w rows count (i + 1)) l e

  pub step_less : i < count → (row_at w rows i).depth < d → children s d (rows_from w rows count i) ≡ []
  step_less h l = ap (children s d) (from_step read_row (row_size w) rows count i h) ∙ children_less s d (row_at w rows i) (rows_from w rows count (i + 1)) l

  pub step_none : count ≤ i → children s d (rows_from w rows count i) ≡ []
  step_none h = ap (children s d) (from_none read_row (row_size w) rows count i h) ∙ children_nil s d
