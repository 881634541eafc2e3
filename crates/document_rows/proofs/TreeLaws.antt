-- The rows of documents, as they are written: the rows right below one, and the first that passes a test.
use Prim.Native.Nat.{ℕ, suc, ◌<◌, ◌≤◌}
use native.Mathlib.Omega.{arith}
use borrow.Author.Tests.{lt-ltb, le-ltb, ne_eqb}
use mathlib.Core.Path.{◌≡◌, refl, sym, ap, ap₂, ◌∙◌}
use mathlib.Core.Logic.{◌⊎◌, inl, inr}
use mathlib.Core.Bool.{Bool, true, false, ◌&&◌}
use mathlib.Core.List.{List, [], ◌∷◌, ◌++◌, map, append_assoc}
use lib.Dec.{eqb}
use Rattle.rules.specs.Bytes.{Bytes, eqb_of}
use Rattle.rules.specs.Store.{Form, Row, Forest, bare, tree, heads}
use Rattle.rules.specs.Preorder.{Deep, preorder}
use Rattle.rules.specs.Layout.{FlatRow, row_code, indexed}
use Rattle.rules.proofs.PreorderLaws.{Ends, ends_after}
use Rattle.change_laws.proofs.RowEdits.{keep}
use Rattle.change_laws.proofs.Rowwise.{Standing}
use Rattle.store_check.proofs.AttributeRows.{row_written}
use Rattle.document_rows.specs.Finding.{children, Test, seek}
use Rattle.document_rows.proofs.SuffixLaws.{seek_this, seek_other}

-- ---- one row
module _ (s d : ℕ) (x : Deep FlatRow) (xs : List (Deep FlatRow)) where
  children_less : x.depth < d → children s d (x ∷ xs) ≡ []
  unfolding children
  children_less l = rw (lt-ltb x.depth d l, children)

  children_this : d ≤ x.depth → (eqb x.depth d && eqb x.row.sort s) ≡ true → children s d (x ∷ xs) ≡ x.row ∷ children s d xs
  unfolding children
  children_this l e = rw (le-ltb x.depth d l, children) (rw e)

  children_other : d ≤ x.depth → (eqb x.depth d && eqb x.row.sort s) ≡ false → children s d (x ∷ xs) ≡ children s d xs
  unfolding children
  children_other l e = rw (le-ltb x.depth d l, children) (rw e)

children_ends : (s d : ℕ) (xs : List (Deep FlatRow)) → Ends d xs → children s d xs ≡ []
unfolding children
children_ends s d [] e = refl
children_ends s d (x ∷ xs) e = children_less s d x xs e

-- ---- a forest
module _ (form : Form) where
  abbrev written : ℕ → Bytes → Forest Row → List (Deep FlatRow)
  written d owner f = preorder d (indexed form owner f)

  children_deeper : (s d e : ℕ) (owner : Bytes) (f : Forest Row) (more : List (Deep FlatRow)) → d < e → children s d (written e owner f ++ more) ≡ children s d more
  children_deeper s d e owner bare more l = refl
  children_deeper s d e owner (tree r c t) more l =
      children_other s d (record { depth = e; row = row_written form owner r }) ((written (suc e) r.name c ++ written e owner t) ++ more) (omega arith)
      (ap (λ (z : Bool). z && eqb (row_code r.sort) s) (ne_eqb e d (omega arith)))
      ∙ ap (children s d) (append_assoc (written (suc e) r.name c) (written e owner t) more)
      ∙ children_deeper s d (suc e) r.name c (written e owner t ++ more) (omega arith)
      ∙ children_deeper s d e owner t more l

  -- the rows of a sort at the top
  abbrev pub of_sort : ℕ → Row → Bool
  of_sort s r = eqb (row_code r.sort) s

  pub children_tree : (s d : ℕ) (owner : Bytes) (f : Forest Row) (rest : List (Deep FlatRow)) → Ends d rest
      → children s d (written d owner f ++ rest) ≡ map (row_written form owner) (keep (of_sort s) (heads f))
  unfolding keep
  children_tree s d owner bare rest h = children_ends s d rest h
  children_tree s d owner (tree r c t) rest h = by (of_sort s r) refl (below ∙ children_tree s d owner t rest h)
    where
      x : Deep FlatRow
      x = record { depth = d; row = row_written form owner r }

      below : children s d ((written (suc d) r.name c ++ written d owner t) ++ rest) ≡ children s d (written d owner t ++ rest)
      below =
          ap (children s d) (append_assoc (written (suc d) r.name c) (written d owner t) rest)
          ∙ children_deeper s d (suc d) r.name c (written d owner t ++ rest) (omega arith)

      same : (z : Bool) → of_sort s r ≡ z → (eqb d d && eqb (row_code r.sort) s) ≡ z
      same z e = ap₂ (λ (u v : Bool). u && v) (eqb_of d d refl) e

      by : (z : Bool) → of_sort s r ≡ z → children s d ((written (suc d) r.name c ++ written d owner t) ++ rest) ≡ map (row_written form owner) (keep (of_sort s) (heads t))
          → children s d (x ∷ ((written (suc d) r.name c ++ written d owner t) ++ rest)) ≡ map (row_written form owner) (keep (of_sort s) (r ∷ heads t))
      by true e k = children_this s d x ((written (suc d) r.name c ++ written d owner t) ++ rest) (omega arith) (same true e)
          ∙ ap (λ (z : List FlatRow). row_written form owner r ∷ z) k ∙ rw (e, keep)
      by false e k = children_other s d x ((written (suc d) r.name c ++ written d owner t) ++ rest) (omega arith) (same false e) ∙ k ∙ rw (e, keep)

  -- rows that begin with a row of the forest, those below it first
  pub record Located (f : Forest Row) (xs : List (Deep FlatRow)) : Type 0 where
    pub owner : Bytes
    pub row : Row
    pub below : Forest Row
    pub depth : ℕ
    pub rest : List (Deep FlatRow)
    pub stands : Standing f row below
    pub rows : xs ≡ record { depth = depth; row = row_written form owner row } ∷ (preorder (suc depth) (indexed form row.name below) ++ rest)
    pub ends : Ends (suc depth) rest

  -- its children of a sort
  pub located_children : {f : Forest Row} {xs : List (Deep FlatRow)} (l : Located f xs) (s : ℕ)
      → children s (suc l.depth) (preorder (suc l.depth) (indexed form l.row.name l.below) ++ l.rest)
      ≡ map (row_written form l.row.name) (keep (of_sort s) (heads l.below))
  located_children l s = children_tree s (suc l.depth) l.row.name l.below l.rest l.ends

  -- ---- the first row that passes a test
  module _ (p : Test) (q : Row → List Row → Bool)
      (same : (owner : Bytes) (r : Row) (rows : List Row) → p (row_written form owner r) (map (row_written form r.name) (keep (of_sort 1) rows)) ≡ q r rows) where
    abbrev Met : Forest Row → List (Deep FlatRow) → Type 0
    Met f xs = (l : Located f xs) × (q l.row (heads l.below) ≡ true)

    abbrev Unmet : Forest Row → Type 0
    Unmet f = (r : Row) (b : Forest Row) → Standing f r b → q r (heads b) ≡ false

    pub seek_tree : (d : ℕ) (owner : Bytes) (f : Forest Row) (rest : List (Deep FlatRow)) → Ends d rest
        → Met f (seek p (written d owner f ++ rest)) ⊎ (Unmet f × (seek p (written d owner f ++ rest) ≡ seek p rest))
    seek_tree d owner bare rest h = inr (λ r b i. absurd i, refl)
    seek_tree d owner (tree r c t) rest h =
        by (q r (heads c)) refl (seek_tree (suc d) r.name c (written d owner t ++ rest) (ends_after d (indexed form owner t) rest h)) (seek_tree d owner t rest h)
      where
        x : Deep FlatRow
        x = record { depth = d; row = row_written form owner r }

        more : List (Deep FlatRow)
        more = written (suc d) r.name c ++ (written d owner t ++ rest)

        joined : x ∷ ((written (suc d) r.name c ++ written d owner t) ++ rest) ≡ x ∷ more
        joined = ap (λ (z : List (Deep FlatRow)). x ∷ z) (append_assoc (written (suc d) r.name c) (written d owner t) rest)

        test : p (row_written form owner r) (children 1 (suc d) more) ≡ q r (heads c)
        test =
            ap (p (row_written form owner r)) (children_tree 1 (suc d) r.name c (written d owner t ++ rest) (ends_after d (indexed form owner t) rest h))
            ∙ same owner r (heads c)

        lift : (g : Forest Row) → ((s : Row) (b : Forest Row) → Standing g s b → Standing (tree r c t) s b) → {xs ys : List (Deep FlatRow)} → xs ≡ ys → Met g ys → Met (tree r c t) xs
        lift g up e (l, k) =
            (record { owner = l.owner; row = l.row; below = l.below; depth = l.depth; rest = l.rest; stands = up l.row l.below l.stands; rows = e ∙ l.rows; ends = l.ends }, k)

        Goal : Type 0
        Goal = Met (tree r c t) (seek p (x ∷ ((written (suc d) r.name c ++ written d owner t) ++ rest)))
            ⊎ (Unmet (tree r c t) × (seek p (x ∷ ((written (suc d) r.name c ++ written d owner t) ++ rest)) ≡ seek p rest))

        by : (z : Bool) → q r (heads c) ≡ z
            → Met c (seek p more) ⊎ (Unmet c × (seek p more ≡ seek p (written d owner t ++ rest)))
            → Met t (seek p (written d owner t ++ rest)) ⊎ (Unmet t × (seek p (written d owner t ++ rest) ≡ seek p rest))
            → Goal
        by true e m n =
            inl (
              record {
                owner = owner;
                row = r;
                below = c;
                depth = d;
                rest = written d owner t ++ rest;
                stands = inl (refl, refl);
                rows = ap (seek p) joined ∙ seek_this p x more (test ∙ e);
                ends = ends_after d (indexed form owner t) rest h;
              },
              e,
            )
        by false e (inl m) n = inl (lift c (λ s b i. inr (inl i)) (ap (seek p) joined ∙ seek_other p x more (test ∙ e)) m)
        by false e (inr (m, g)) (inl n) = inl (lift t (λ s b i. inr (inr i)) (ap (seek p) joined ∙ seek_other p x more (test ∙ e) ∙ g) n)
        by false e (inr (m, g)) (inr (n, k)) = inr (none, ap (seek p) joined ∙ seek_other p x more (test ∙ e) ∙ g ∙ k)
          where
            none : (s : Row) (b : Forest Row) → Standing (tree r c t) s b → q s (heads b) ≡ false
            none s b (inl (u, v)) = ap₂ (λ (y : Row) (z : Forest Row). q y (heads z)) (sym u) (sym v) ∙ e
            none s b (inr (inl i)) = m s b i
            none s b (inr (inr i)) = n s b i
