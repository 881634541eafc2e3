-- The taking rule, for any rule `takes`: what the book marks as taken and what the store prunes leave the same lines.
use Prim.Native.Nat.{ℕ, zero, suc, ◌+◌, ◌≤◌}
use native.Mathlib.Omega.{arith}
use mathlib.Core.Path.{◌≡◌, refl, ap, ap₂, ◌∙◌}
use mathlib.Core.Bool.{Bool, true, false}
use mathlib.Core.Option.{none, some}
use mathlib.Core.List.{List, [], ◌∷◌, ◌++◌}
use lib.Dec.{eqb}
use Rattle.rules.specs.Bytes.{eqb_of}
use Rattle.rules.specs.Store.{Row, Forest, bare, tree}
use Rattle.rules.specs.Passing.{serials}
use Rattle.rules.specs.Lines.{Line, lines, ground}
use Rattle.rules.specs.Change.{prune}
use Rattle.rules.specs.Book.{Entry, stands, taken, untaken, row_by_serial, falls, mark}
use Rattle.history.proofs.NumberTests.{ones, ones_zero, ones_own, times, times_append}

-- ---- how often a serial stands in a forest and in a list of rows
unfoldable pub occurs : ℕ → Forest Row → ℕ
occurs k bare = 0
occurs k (tree r b t) = ones (eqb k r.serial) + (occurs k b + occurs k t)

pub occurs_serials : (k : ℕ) (f : Forest Row) → occurs k f ≡ times k (serials f)
unfolding occurs times
occurs_serials k bare = refl
occurs_serials k (tree r b t) = omega (arith, occurs_serials k b, occurs_serials k t, times_append k (serials b) (serials t))

unfoldable pub count : ℕ → List Row → ℕ
count k [] = 0
count k (r ∷ rs) = ones (eqb k r.serial) + count k rs

-- no serial twice
unfoldable pub Apart : List Row → Forest Row → Type 0
Apart kept f = (k : ℕ) → count k kept + occurs k f ≤ 1

-- ---- parts of a forest whose serials are apart
module _ (kept : List Row) (r : Row) (b t : Forest Row) (a : Apart kept (tree r b t)) where
  apart_own : count r.serial kept ≡ 0
  unfolding Apart occurs
  apart_own = omega (arith, a r.serial, ones_own r.serial)

  apart_below : Apart kept b
  unfolding Apart occurs
  apart_below k = omega (arith, a k)

  apart_rest : Apart kept t
  unfolding Apart occurs
  apart_rest k = omega (arith, a k)

  apart_in : Apart (r ∷ kept) b
  unfolding Apart occurs count
  apart_in k = omega (arith, a k)

-- ---- rows by serial
by_none : (k : ℕ) (kept : List Row) → count k kept ≡ 0 → row_by_serial k kept ≡ none
unfolding count row_by_serial
by_none k [] h = refl
by_none k (r ∷ rs) h = by (eqb k r.serial) refl (by_none k rs)
  where
    by : (c : Bool) → eqb k r.serial ≡ c → (count k rs ≡ 0 → row_by_serial k rs ≡ none) → row_by_serial k (r ∷ rs) ≡ none
    by true q f = absurd (let z : ones true + count k rs ≡ 0 = rw q at h in omega arith)
    by false q f = rw (q, row_by_serial) (f (let z : ones false + count k rs ≡ 0 = rw q at h in omega arith))

by_some : (k : ℕ) (u : Row) (kept : List Row) → row_by_serial k kept ≡ some u → 1 ≤ count k kept
by_some k u kept h = by (count k kept) refl
  where
    by : (n : ℕ) → count k kept ≡ n → 1 ≤ count k kept
    by zero q = let z : ◌≡◌ {A = ℕ} 0 1 = cc (by_none k kept q) in omega arith
    by (suc n) q = omega arith

by_own : (r : Row) (kept : List Row) → row_by_serial r.serial (r ∷ kept) ≡ some r
unfolding row_by_serial
by_own r kept = rw (eqb_of r.serial r.serial refl, row_by_serial)

by_other : (k : ℕ) (r : Row) (kept : List Row) → ones (eqb k r.serial) ≡ 0 → row_by_serial k (r ∷ kept) ≡ row_by_serial k kept
unfolding row_by_serial
by_other k r kept h = rw (ones_zero (eqb k r.serial) h, row_by_serial)

module _ (takes : Row → Row → Bool) where
  -- what `mark` leaves, on the untaken lines alone
  unfoldable stay : List Row → List Line → List Line
  stay kept [] = []
  stay kept (l ∷ ls) = elim (falls takes kept l) [ true ↦ stay kept ls | false ↦ l ∷ stay (l.row ∷ kept) ls ]

  mark_untaken : (kept : List Row) (es : List Entry) → untaken (mark takes kept es) ≡ stay kept (untaken es)
  unfolding stay mark untaken
  mark_untaken kept [] = refl
  mark_untaken kept (taken l ∷ es) = mark_untaken kept es
  mark_untaken kept (stands l ∷ es) = by (falls takes kept l) refl (mark_untaken kept es) (mark_untaken (l.row ∷ kept) es)
    where
      by : (c : Bool) → falls takes kept l ≡ c → untaken (mark takes kept es) ≡ stay kept (untaken es) → untaken (mark takes (l.row ∷ kept) es) ≡ stay (l.row ∷ kept) (untaken es)
          → untaken (mark takes kept (stands l ∷ es)) ≡ stay kept (l ∷ untaken es)
      by true q x y = rw (q, mark, stay) x
      by false q x y = rw (q, mark, stay) (ap (λ (z : List Line). l ∷ z) y)

  -- the rows kept after the lines are gone through
  unfoldable keeps : List Row → List Line → List Row
  keeps kept [] = kept
  keeps kept (l ∷ ls) = elim (falls takes kept l) [ true ↦ keeps kept ls | false ↦ keeps (l.row ∷ kept) ls ]

  stay_append : (kept : List Row) (xs ys : List Line) → stay kept (xs ++ ys) ≡ stay kept xs ++ stay (keeps kept xs) ys
  unfolding stay keeps
  stay_append kept [] ys = refl
  stay_append kept (x ∷ xs) ys = by (falls takes kept x) refl (stay_append kept xs ys) (stay_append (x.row ∷ kept) xs ys)
    where
      by : (c : Bool) → falls takes kept x ≡ c → stay kept (xs ++ ys) ≡ stay kept xs ++ stay (keeps kept xs) ys
          → stay (x.row ∷ kept) (xs ++ ys) ≡ stay (x.row ∷ kept) xs ++ stay (keeps (x.row ∷ kept) xs) ys → stay kept (x ∷ xs ++ ys) ≡ stay kept (x ∷ xs) ++ stay (keeps kept (x ∷ xs)) ys
      by true q h k = rw (q, stay, keeps) h
      by false q h k = rw (q, stay, keeps) (ap (λ (z : List Line). x ∷ z) k)

  keeps_append : (kept : List Row) (xs ys : List Line) → keeps kept (xs ++ ys) ≡ keeps (keeps kept xs) ys
  unfolding keeps
  keeps_append kept [] ys = refl
  keeps_append kept (x ∷ xs) ys = by (falls takes kept x) refl (keeps_append kept xs ys) (keeps_append (x.row ∷ kept) xs ys)
    where
      by : (c : Bool) → falls takes kept x ≡ c → keeps kept (xs ++ ys) ≡ keeps (keeps kept xs) ys → keeps (x.row ∷ kept) (xs ++ ys) ≡ keeps (keeps (x.row ∷ kept) xs) ys
          → keeps kept (x ∷ xs ++ ys) ≡ keeps (keeps kept (x ∷ xs)) ys
      by true q h k = rw (q, keeps) h
      by false q h k = rw (q, keeps) k

  falls_none : (kept : List Row) (l : Line) → row_by_serial l.parent kept ≡ none → falls takes kept l ≡ true
  unfolding falls
  falls_none kept l h = rw (h, falls)

  falls_some : (kept : List Row) (l : Line) (u : Row) → row_by_serial l.parent kept ≡ some u → falls takes kept l ≡ takes u l.row
  unfolding falls
  falls_some kept l u h = rw (h, falls)

  -- ---- below a row that is not kept, no line is kept
  keeps_gone : (p : ℕ) (f : Forest Row) (kept : List Row) → count p kept ≡ 0 → Apart kept f → keeps kept (lines p f) ≡ kept
  unfolding keeps
  keeps_gone p bare kept h a = refl
  keeps_gone p (tree r b t) kept h a =
      rw (falls_none kept (record { parent = p; row = r }) (by_none p kept h), keeps)
      (keeps_append kept (lines r.serial b) (lines p t)
      ∙ rw (keeps_gone r.serial b kept (apart_own kept r b t a) (apart_below kept r b t a)) (keeps_gone p t kept h (apart_rest kept r b t a)))

  stay_gone : (p : ℕ) (f : Forest Row) (kept : List Row) → count p kept ≡ 0 → Apart kept f → stay kept (lines p f) ≡ []
  unfolding stay
  stay_gone p bare kept h a = refl
  stay_gone p (tree r b t) kept h a =
      rw (falls_none kept (record { parent = p; row = r }) (by_none p kept h), stay)
      (stay_append kept (lines r.serial b) (lines p t)
      ∙ rw (stay_gone r.serial b kept (apart_own kept r b t a) (apart_below kept r b t a), keeps_gone r.serial b kept (apart_own kept r b t a) (apart_below kept r b t a))
      (stay_gone p t kept h (apart_rest kept r b t a)))

  -- ---- the kept rows grow by rows of the forest only
  keeps_count : (k p : ℕ) (f : Forest Row) (kept : List Row) → count k (keeps kept (lines p f)) ≤ count k kept + occurs k f
  unfolding keeps occurs count
  keeps_count k p bare kept = omega arith
  keeps_count k p (tree r b t) kept = by (falls takes kept (record { parent = p; row = r })) refl (keeps_count k r.serial b) (keeps_count k p t)
    where
      by : (c : Bool) → falls takes kept (record { parent = p; row = r }) ≡ c → ((ks : List Row) → count k (keeps ks (lines r.serial b)) ≤ count k ks + occurs k b)
          → ((ks : List Row) → count k (keeps ks (lines p t)) ≤ count k ks + occurs k t) → count k (keeps kept (lines p (tree r b t))) ≤ count k kept + occurs k (tree r b t)
      by true q x y = rw (q, keeps) (rw (keeps_append kept (lines r.serial b) (lines p t)) (omega (arith, x kept, y (keeps kept (lines r.serial b)))))
      by false q x y = rw (q, keeps) (rw (keeps_append (r ∷ kept) (lines r.serial b) (lines p t)) (omega (arith, x (r ∷ kept), y (keeps (r ∷ kept) (lines r.serial b)))))

  keeps_by : (k p : ℕ) (f : Forest Row) (kept : List Row) → occurs k f ≡ 0 → row_by_serial k (keeps kept (lines p f)) ≡ row_by_serial k kept
  unfolding keeps occurs
  keeps_by k p bare kept h = refl
  keeps_by k p (tree r b t) kept h = by (falls takes kept (record { parent = p; row = r })) refl (λ ks. keeps_by k r.serial b ks (omega arith)) (λ ks. keeps_by k p t ks (omega arith))
    where
      by : (c : Bool) → falls takes kept (record { parent = p; row = r }) ≡ c → ((ks : List Row) → row_by_serial k (keeps ks (lines r.serial b)) ≡ row_by_serial k ks)
          → ((ks : List Row) → row_by_serial k (keeps ks (lines p t)) ≡ row_by_serial k ks) → row_by_serial k (keeps kept (lines p (tree r b t))) ≡ row_by_serial k kept
      by true q x y = rw (q, keeps) (rw (keeps_append kept (lines r.serial b) (lines p t)) (y (keeps kept (lines r.serial b)) ∙ x kept))
      by false q x y =
          rw (q, keeps)
          (rw (keeps_append (r ∷ kept) (lines r.serial b) (lines p t)) (y (keeps (r ∷ kept) (lines r.serial b)) ∙ x (r ∷ kept) ∙ by_other k r kept (omega arith)))

  -- what stays of the lines are the lines of what stays
  stay_lines : (u : Row) (f : Forest Row) (kept : List Row) → row_by_serial u.serial kept ≡ some u → Apart kept f → stay kept (lines u.serial f) ≡ lines u.serial (prune takes u f)
  unfolding stay prune Apart occurs count
  stay_lines u bare kept h a = refl
  stay_lines u (tree r b t) kept h a = by (takes u r) refl (stay_lines r b) (stay_lines u t)
    where
      l : Line
      l = record { parent = u.serial; row = r }

      K : List Row
      K = keeps (r ∷ kept) (lines r.serial b)

      found : row_by_serial u.serial K ≡ some u
      found =
          keeps_by u.serial r.serial b (r ∷ kept) (omega (arith, a u.serial, by_some u.serial u kept h))
          ∙ by_other u.serial r kept (omega (arith, a u.serial, by_some u.serial u kept h)) ∙ h

      by : (c : Bool) → takes u r ≡ c → ((ks : List Row) → row_by_serial r.serial ks ≡ some r → Apart ks b → stay ks (lines r.serial b) ≡ lines r.serial (prune takes r b))
          → ((ks : List Row) → row_by_serial u.serial ks ≡ some u → Apart ks t → stay ks (lines u.serial t) ≡ lines u.serial (prune takes u t))
          → stay kept (lines u.serial (tree r b t)) ≡ lines u.serial (prune takes u (tree r b t))
      by true q x y =
          rw (falls_some kept l u h ∙ q, stay)
          (rw (q, prune)
          (stay_append kept (lines r.serial b) (lines u.serial t)
          ∙ rw (stay_gone r.serial b kept (apart_own kept r b t a) (apart_below kept r b t a), keeps_gone r.serial b kept (apart_own kept r b t a) (apart_below kept r b t a))
          (y kept h (apart_rest kept r b t a))))
      by false q x y =
          rw (falls_some kept l u h ∙ q, stay)
          (rw (q, prune)
          (ap (λ (z : List Line). l ∷ z)
          (stay_append (r ∷ kept) (lines r.serial b) (lines u.serial t)
          ∙ ap₂ (λ (v w : List Line). v ++ w) (x (r ∷ kept) (by_own r kept) (apart_in kept r b t a)) (y K found (λ k. omega (arith, keeps_count k r.serial b (r ∷ kept), a k))))))

  -- THE TAKING RULE: the untaken lines after marking are the lines of the pruned documents
  pub taking : (docs : Forest Row) (es : List Entry) → untaken es ≡ lines 0 docs → Apart (ground ∷ []) docs → untaken (mark takes (ground ∷ []) es) ≡ lines 0 (prune takes ground docs)
  taking docs es h a = mark_untaken (ground ∷ []) es ∙ rw h (stay_lines ground docs (ground ∷ []) (by_own ground []) a)
