-- Rows that stand in a forest: their serials, and what the lines say of them.
use Prim.Native.Nat.{ℕ}
use native.Mathlib.Omega.{arith}
use mathlib.Core.Path.{◌≡◌, refl, sym, ap, ap₂, ◌∙◌}
use mathlib.Core.Logic.{◌⊎◌, inl, inr, ⊎_elim}
use mathlib.Core.Bool.{Bool, true, false, ◌&&◌, false≢true}
use mathlib.Core.Option.{some}
use mathlib.Core.List.{List, [], ◌∷◌, ◌++◌, map, append-nil, append_assoc, Memᴰ}
use lib.Dec.{eqb}
use Rattle.rules.specs.Bytes.{numbers, any, eqb_of, eqb_eq}
use Rattle.rules.specs.Model.{Distinct}
use Rattle.rules.specs.Store.{Row, Forest, bare, tree, heads}
use Rattle.rules.specs.Conforming.{EveryRow, is_element}
use Rattle.rules.specs.Lines.{Line, lines, element_with, find_row, children_of, serial_at}
use Rattle.rules.specs.Passing.{serials, GoodSerials}
use Rattle.rules.proofs.Words.{or_left, or_right, or_cases, and_split, either}
use Rattle.rules.proofs.Correct.{distinct_left, distinct_right, distinct_apart}
use Rattle.rules.proofs.Apart.{differs}
use Rattle.change_laws.proofs.RowEdits.{row_serial, keep}
use Rattle.change_laws.proofs.Rowwise.{Standing}

-- ---- standing
-- what holds of every row holds of one that stands there
pub standing_every : (P : Row → List Row → Type 0) (f : Forest Row) → EveryRow P f → (r : Row) (b : Forest Row) → Standing f r b → P r (heads b)
standing_every P bare x r b i = absurd i
standing_every P (tree s c t) (x, y, z) r b (inl (e, g)) = rw (← e, ← g) x
standing_every P (tree s c t) (x, y, z) r b (inr (inl i)) = standing_every P c y r b i
standing_every P (tree s c t) (x, y, z) r b (inr (inr i)) = standing_every P t z r b i

pub standing_serial : (f : Forest Row) (r : Row) (b : Forest Row) → Standing f r b → Memᴰ r.serial (serials f)
standing_serial bare r b i = absurd i
standing_serial (tree s c t) r b (inl (e, g)) = mathlib.Core.List.Memᴰ.head (sym (ap row_serial e))
standing_serial (tree s c t) r b (inr (inl i)) = mathlib.Core.List.Memᴰ.tail (mathlib.Core.List.Memᴰ.append_left (serials t) (standing_serial c r b i))
standing_serial (tree s c t) r b (inr (inr i)) = mathlib.Core.List.Memᴰ.tail (mathlib.Core.List.Memᴰ.append_right (serials c) (standing_serial t r b i))

-- the rows at the top stand there
pub standing_head : (f : Forest Row) (r : Row) → Memᴰ r (heads f) → (b : Forest Row) × Standing f r b
standing_head bare r m = absurd (mathlib.Core.List.Memᴰ.not-nil m)
standing_head (tree s c t) r m = by (mathlib.Core.List.Memᴰ.cases_cons m) (standing_head t r)
  where
    by : (r ≡ s) ⊎ Memᴰ r (heads t) → (Memᴰ r (heads t) → (b : Forest Row) × Standing t r b) → (b : Forest Row) × Standing (tree s c t) r b
    by (inl e) f = (c, inl (sym e, refl))
    by (inr i) f = let (b, j) = f i in (b, inr (inr j))

-- what stands below a row that stands there stands there
pub standing_below : (f : Forest Row) (r : Row) (b : Forest Row) → Standing f r b → (s : Row) (c : Forest Row) → Standing b s c → Standing f s c
standing_below bare r b i s c j = absurd i
standing_below (tree u d t) r b (inl (e, g)) s c j = inr (inl (rw g j))
standing_below (tree u d t) r b (inr (inl i)) s c j = inr (inl (standing_below d r b i s c j))
standing_below (tree u d t) r b (inr (inr i)) s c j = inr (inr (standing_below t r b i s c j))

-- the rows right below a row that stands there stand there
pub standing_child : (f : Forest Row) (r : Row) (b : Forest Row) → Standing f r b → (s : Row) → Memᴰ s (heads b) → (c : Forest Row) × Standing f s c
standing_child f r b i s m = let (c, j) = standing_head b s m in (c, standing_below f r b i s c j)

-- a row stands at the top, or right below one that stands there
pub standing_parent : (f : Forest Row) (r : Row) (b : Forest Row) → Standing f r b → Memᴰ r (heads f) ⊎ ((u : Row) × (c : Forest Row) × Standing f u c × Memᴰ r (heads c))
standing_parent bare r b i = absurd i
standing_parent (tree s c t) r b (inl (e, g)) = inl (mathlib.Core.List.Memᴰ.head (sym e))
standing_parent (tree s c t) r b (inr (inl i)) = inr (⊎_elim (λ m. (s, c, inl (refl, refl), m)) (λ (u, d, j, m). (u, d, inr (inl j), m)) (standing_parent c r b i))
standing_parent (tree s c t) r b (inr (inr i)) = either (λ m. mathlib.Core.List.Memᴰ.tail m) (λ (u, d, j, m). (u, d, inr (inr j), m)) (standing_parent t r b i)

-- ---- serials that stand once
-- a serial has one row
pub standing_once : (f : Forest Row) → Distinct (serials f) → (r s : Row) (b c : Forest Row) → Standing f r b → Standing f s c → r.serial ≡ s.serial → (r ≡ s) × (b ≡ c)
standing_once bare d r s b c i j e = absurd i
standing_once (tree u a t) (n, d) r s b c (inl (g, h)) (inl (k, l)) e = (sym g ∙ k, sym h ∙ l)
standing_once (tree u a t) (n, d) r s b c (inl (g, h)) (inr (inl j)) e =
    absurd (n (mathlib.Core.List.Memᴰ.cast (ap row_serial g ∙ e) (mathlib.Core.List.Memᴰ.append_left (serials t) (standing_serial a s c j))))
standing_once (tree u a t) (n, d) r s b c (inl (g, h)) (inr (inr j)) e =
    absurd (n (mathlib.Core.List.Memᴰ.cast (ap row_serial g ∙ e) (mathlib.Core.List.Memᴰ.append_right (serials a) (standing_serial t s c j))))
standing_once (tree u a t) (n, d) r s b c (inr (inl i)) (inl (k, l)) e =
    absurd (n (mathlib.Core.List.Memᴰ.cast (ap row_serial k ∙ sym e) (mathlib.Core.List.Memᴰ.append_left (serials t) (standing_serial a r b i))))
standing_once (tree u a t) (n, d) r s b c (inr (inl i)) (inr (inl j)) e = standing_once a (distinct_left (serials a) (serials t) d) r s b c i j e
standing_once (tree u a t) (n, d) r s b c (inr (inl i)) (inr (inr j)) e =
    absurd (distinct_apart (serials a) (serials t) d r.serial (standing_serial a r b i) (mathlib.Core.List.Memᴰ.cast e (standing_serial t s c j)))
standing_once (tree u a t) (n, d) r s b c (inr (inr i)) (inl (k, l)) e =
    absurd (n (mathlib.Core.List.Memᴰ.cast (ap row_serial k ∙ sym e) (mathlib.Core.List.Memᴰ.append_right (serials a) (standing_serial t r b i))))
standing_once (tree u a t) (n, d) r s b c (inr (inr i)) (inr (inl j)) e =
    absurd (distinct_apart (serials a) (serials t) d r.serial (mathlib.Core.List.Memᴰ.cast e (standing_serial a s c j)) (standing_serial t r b i))
standing_once (tree u a t) (n, d) r s b c (inr (inr i)) (inr (inr j)) e = standing_once t (distinct_right (serials a) (serials t) d) r s b c i j e

pub heads_serials : (f : Forest Row) (k : ℕ) → Memᴰ k (map row_serial (heads f)) → Memᴰ k (serials f)
heads_serials bare k m = m
heads_serials (tree r b t) k m = ⊎_elim (λ e. mathlib.Core.List.Memᴰ.head e) (λ i. mathlib.Core.List.Memᴰ.tail (mathlib.Core.List.Memᴰ.append_right (serials b) (heads_serials t k i))) (mathlib.Core.List.Memᴰ.cases_cons m)

heads_once : (f : Forest Row) → Distinct (serials f) → Distinct (map row_serial (heads f))
heads_once bare d = tt
heads_once (tree r b t) (n, d) = (λ m. n (mathlib.Core.List.Memᴰ.append_right (serials b) (heads_serials t r.serial m)), heads_once t (distinct_right (serials b) (serials t) d))

below_once : (f : Forest Row) → Distinct (serials f) → (r : Row) (b : Forest Row) → Standing f r b → Distinct (serials b)
below_once bare d r b i = absurd i
below_once (tree s c t) (n, d) r b (inl (e, g)) = rw (← g) (distinct_left (serials c) (serials t) d)
below_once (tree s c t) (n, d) r b (inr (inl i)) = below_once c (distinct_left (serials c) (serials t) d) r b i
below_once (tree s c t) (n, d) r b (inr (inr i)) = below_once t (distinct_right (serials c) (serials t) d) r b i

-- ---- lines
any_both : (test : Line → Bool) (a b : List Line) → (any test a ≡ true) ⊎ (any test b ≡ true) → any test (a ++ b) ≡ true
any_both test [] b (inl e) = absurd (false≢true e)
any_both test [] b (inr e) = e
any_both test (l ∷ a) b (inl e) = ⊎_elim (λ h. or_left (any test (a ++ b)) h) (λ h. or_right (test l) (any_both test a b (inl h))) (or_cases (test l) (any test a) e)
any_both test (l ∷ a) b (inr e) = or_right (test l) (any_both test a b (inr e))

-- a row that stands there has a line
pub standing_line : (test : Row → Bool) (up : ℕ) (f : Forest Row) (r : Row) (b : Forest Row) → Standing f r b → test r ≡ true → any (λ (l : Line). test l.row) (lines up f) ≡ true
standing_line test up bare r b i e = absurd i
standing_line test up (tree s c t) r b (inl (q, g)) e = or_left (any (λ (l : Line). test l.row) (lines s.serial c ++ lines up t)) (ap test q ∙ e)
standing_line test up (tree s c t) r b (inr (inl i)) e =
    or_right (test s) (any_both (λ (l : Line). test l.row) (lines s.serial c) (lines up t) (inl (standing_line test s.serial c r b i e)))
standing_line test up (tree s c t) r b (inr (inr i)) e = or_right (test s) (any_both (λ (l : Line). test l.row) (lines s.serial c) (lines up t) (inr (standing_line test up t r b i e)))

children_append : (test : Row → Bool) (k : ℕ) (a b : List Line) → children_of test k (a ++ b) ≡ children_of test k a ++ children_of test k b
unfolding children_of
children_append test k [] b = refl
children_append test k (l ∷ a) b = by (eqb l.parent k && test l.row) refl (children_append test k a b)
  where
    by : (c : Bool) → (eqb l.parent k && test l.row) ≡ c → children_of test k (a ++ b) ≡ children_of test k a ++ children_of test k b
        → children_of test k (l ∷ (a ++ b)) ≡ children_of test k (l ∷ a) ++ children_of test k b
    by true e x = rw (e, children_of) (ap (λ (z : List ℕ). l.row.serial ∷ z) x)
    by false e x = rw (e, children_of) x

-- the first line's row stands below another row
children_past : (test : Row → Bool) (k : ℕ) (l : Line) (ls : List Line) → (l.parent ≡ k → ⊥) → children_of test k (l ∷ ls) ≡ children_of test k ls
unfolding children_of
children_past test k l ls f = rw (differs numbers l.parent k f, children_of)

module _ (test : Row → Bool) (k : ℕ) where
  children_none : (up : ℕ) (f : Forest Row) → (up ≡ k → ⊥) → (Memᴰ k (serials f) → ⊥) → children_of test k (lines up f) ≡ []
  unfolding children_of
  children_none up bare n m = refl
  children_none up (tree r b t) n m =
      children_past test k (record { parent = up; row = r }) (lines r.serial b ++ lines up t) n
      ∙ children_append test k (lines r.serial b) (lines up t)
      ∙ ap₂ (λ (x y : List ℕ). x ++ y) (children_none r.serial b (λ e. m (mathlib.Core.List.Memᴰ.head (sym e))) (λ i. m (mathlib.Core.List.Memᴰ.tail (mathlib.Core.List.Memᴰ.append_left (serials t) i))))
      (children_none up t n (λ i. m (mathlib.Core.List.Memᴰ.tail (mathlib.Core.List.Memᴰ.append_right (serials b) i))))

  children_here : (f : Forest Row) → (Memᴰ k (serials f) → ⊥) → children_of test k (lines k f) ≡ map row_serial (keep test (heads f))
  unfolding children_of keep
  children_here bare m = refl
  children_here (tree r b t) m = by (test r) refl (rest ∙ children_here t (λ i. m (mathlib.Core.List.Memᴰ.tail (mathlib.Core.List.Memᴰ.append_right (serials b) i))))
    where
      rest : children_of test k (lines r.serial b ++ lines k t) ≡ children_of test k (lines k t)
      rest =
          children_append test k (lines r.serial b) (lines k t)
          ∙ ap (λ (z : List ℕ). z ++ children_of test k (lines k t)) (children_none r.serial b (λ e. m (mathlib.Core.List.Memᴰ.head (sym e))) (λ i. m (mathlib.Core.List.Memᴰ.tail (mathlib.Core.List.Memᴰ.append_left (serials t) i))))

      by : (c : Bool) → test r ≡ c → children_of test k (lines r.serial b ++ lines k t) ≡ map row_serial (keep test (heads t))
          → children_of test k (lines k (tree r b t)) ≡ map row_serial (keep test (heads (tree r b t)))
      by true e x = rw (eqb_of k k refl, children_of) (rw e (ap (λ (z : List ℕ). r.serial ∷ z) x))
      by false e x = rw (eqb_of k k refl, children_of) (rw e x)

children_in : (test : Row → Bool) (up : ℕ) (f : Forest Row) (r : Row) (b : Forest Row) → (up ≡ r.serial → ⊥) → Distinct (serials f) → Standing f r b
    → children_of test r.serial (lines up f) ≡ map row_serial (keep test (heads b))
children_in test up bare r b n d i = absurd i
children_in test up (tree s c t) r b n (m, d) i =
    children_past test r.serial (record { parent = up; row = s }) (lines s.serial c ++ lines up t) n
    ∙ children_append test r.serial (lines s.serial c) (lines up t)
    ∙ by i (children_in test s.serial c r b) (children_in test up t r b)
  where
    by : Standing (tree s c t) r b
        → ((s.serial ≡ r.serial → ⊥) → Distinct (serials c) → Standing c r b → children_of test r.serial (lines s.serial c) ≡ map row_serial (keep test (heads b)))
        → ((up ≡ r.serial → ⊥) → Distinct (serials t) → Standing t r b → children_of test r.serial (lines up t) ≡ map row_serial (keep test (heads b)))
        → children_of test r.serial (lines s.serial c) ++ children_of test r.serial (lines up t) ≡ map row_serial (keep test (heads b))
    by (inl (e, g)) x y =
        ap₂ (λ (u v : List ℕ). u ++ v)
        (ap (λ (z : ℕ). children_of test r.serial (lines z c)) (ap row_serial e)
        ∙ children_here test r.serial c (λ j. m (mathlib.Core.List.Memᴰ.append_left (serials t) (mathlib.Core.List.Memᴰ.cast (ap row_serial e) j)))
        ∙ ap (λ (z : Forest Row). map row_serial (keep test (heads z))) g)
        (children_none test r.serial up t n (λ j. m (mathlib.Core.List.Memᴰ.append_right (serials c) (mathlib.Core.List.Memᴰ.cast (ap row_serial e) j))))
        ∙ append-nil (map row_serial (keep test (heads b)))
    by (inr (inl j)) x y =
        let k : Memᴰ r.serial (serials c) = standing_serial c r b j in
        ap₂ (λ (u v : List ℕ). u ++ v) (x (λ e. m (mathlib.Core.List.Memᴰ.append_left (serials t) (mathlib.Core.List.Memᴰ.cast e k))) (distinct_left (serials c) (serials t) d) j)
        (children_none test r.serial up t n (distinct_apart (serials c) (serials t) d r.serial k))
        ∙ append-nil (map row_serial (keep test (heads b)))
    by (inr (inr j)) x y =
        let k : Memᴰ r.serial (serials t) = standing_serial t r b j in
        ap₂ (λ (u v : List ℕ). u ++ v)
        (children_none test r.serial s.serial c (λ e. m (mathlib.Core.List.Memᴰ.append_right (serials c) (mathlib.Core.List.Memᴰ.cast e k))) (λ h. distinct_apart (serials c) (serials t) d r.serial h k))
        (y n (distinct_right (serials c) (serials t) d) j)

find_in : (test : Row → Bool) (up : ℕ) (f : Forest Row) (rest : List Line) (r : Row) → find_row test (lines up f ++ rest) ≡ some r
    → ((b : Forest Row) × Standing f r b × (test r ≡ true)) ⊎ (find_row test rest ≡ some r)
unfolding find_row
find_in test up bare rest r e = inr e
find_in test up (tree s c t) rest r e = by (test s) refl (find_in test s.serial c (lines up t ++ rest) r) (find_in test up t rest r)
  where
    by : (x : Bool) → test s ≡ x
        → (find_row test (lines s.serial c ++ (lines up t ++ rest)) ≡ some r → ((b : Forest Row) × Standing c r b × (test r ≡ true)) ⊎ (find_row test (lines up t ++ rest) ≡ some r))
        → (find_row test (lines up t ++ rest) ≡ some r → ((b : Forest Row) × Standing t r b × (test r ≡ true)) ⊎ (find_row test rest ≡ some r))
        → ((b : Forest Row) × Standing (tree s c t) r b × (test r ≡ true)) ⊎ (find_row test rest ≡ some r)
    by true q x y = let z : some s ≡ some r = rw (q, find_row) at e in let w : s ≡ r = cc z in inl (c, inl (w, refl), rw (← w) q)
    by false q x y =
        let g : find_row test ((lines s.serial c ++ lines up t) ++ rest) ≡ some r = rw (q, find_row) at e in
        ⊎_elim (λ (b, i, q). inl (b, inr (inl i), q)) (λ h. ⊎_elim (λ (b, i, q). inl (b, inr (inr i), q)) (λ z. inr z) (y h)) (x (rw append_assoc at g))

-- the serials of the rows right below a row are those of rows that stand there
pub child_stands : (test : Row → Bool) (k up : ℕ) (f : Forest Row) (n : ℕ) → Memᴰ n (children_of test k (lines up f))
    → (r : Row) × (b : Forest Row) × Standing f r b × (test r ≡ true) × (r.serial ≡ n)
unfolding children_of
child_stands test k up bare n m = absurd (mathlib.Core.List.Memᴰ.not-nil m)
child_stands test k up (tree s c t) n m = by (eqb up k && test s) refl (child_stands test k s.serial c n) (child_stands test k up t n)
  where
    Found : Forest Row → Type 0
    Found f = (r : Row) × (b : Forest Row) × Standing f r b × (test r ≡ true) × (r.serial ≡ n)

    rest : (Memᴰ n (children_of test k (lines s.serial c)) → Found c) → (Memᴰ n (children_of test k (lines up t)) → Found t)
        → Memᴰ n (children_of test k (lines s.serial c ++ lines up t)) → Found (tree s c t)
    rest x y i =
        ⊎_elim (λ j. let (r, b, g, q, e) = x j in (r, b, inr (inl g), q, e)) (λ j. let (r, b, g, q, e) = y j in (r, b, inr (inr g), q, e))
        (mathlib.Core.List.Memᴰ.append_cases (children_of test k (lines s.serial c)) (rw (children_append test k (lines s.serial c) (lines up t)) at i))

    by : (x : Bool) → (eqb up k && test s) ≡ x → (Memᴰ n (children_of test k (lines s.serial c)) → Found c) → (Memᴰ n (children_of test k (lines up t)) → Found t) → Found (tree s c t)
    by true q x y =
        ⊎_elim (λ e. (s, c, inl (refl, refl), (and_split (eqb up k) (test s) q).1, sym e)) (λ i. rest x y i) (mathlib.Core.List.Memᴰ.cases_cons (rw (q, children_of) at m))
    by false q x y = rest x y (rw (q, children_of) at m)

-- the row that is found stands there
pub found_stands : (test : Row → Bool) (docs : Forest Row) (r : Row) → find_row test (lines 0 docs) ≡ some r → (b : Forest Row) × Standing docs r b × (test r ≡ true)
unfolding find_row
found_stands test docs r e = ⊎_elim (λ x. x) (λ z. let y : false ≡ true = cc z in absurd (false≢true y)) (find_in test 0 docs [] r (rw append-nil e))

pub found_element : (k : ℕ) (docs : Forest Row) (r : Row) → find_row (element_with k) (lines 0 docs) ≡ some r → (b : Forest Row) × Standing docs r b × (is_element r.sort ≡ true) × (r.serial ≡ k)
found_element k docs r e =
    let (b, i, h) = found_stands (element_with k) docs r e in
    let (x, y) = and_split (is_element r.sort) (eqb r.serial k) h in
    (b, i, x, eqb_eq r.serial k y)

-- ---- documents whose serials are good
module _ (next : ℕ) (docs : Forest Row) (good : GoodSerials next docs) where
  pub no_zero : (r : Row) (b : Forest Row) → Standing docs r b → r.serial ≡ 0 → ⊥
  no_zero r b i e = let (l, m) = good.below r.serial (standing_serial docs r b i) in omega arith

  pub children_are : (test : Row → Bool) (r : Row) (b : Forest Row) → Standing docs r b → children_of test r.serial (lines 0 docs) ≡ map row_serial (keep test (heads b))
  children_are test r b i = children_in test 0 docs r b (λ e. no_zero r b i (sym e)) good.once i

  pub one_row_lem : (r s : Row) (b c : Forest Row) → Standing docs r b → Standing docs s c → r.serial ≡ s.serial → (r ≡ s) × (b ≡ c)
  one_row_lem r s b c i j e = standing_once docs good.once r s b c i j e

  -- the rows right below a row have serials that stand once, none of them 0
  pub children_once : (r : Row) (b : Forest Row) → Standing docs r b → Distinct (map row_serial (heads b))
  children_once r b i = heads_once b (below_once docs good.once r b i)

  pub children_given : (r : Row) (b : Forest Row) → Standing docs r b → (s : Row) → Memᴰ s (heads b) → s.serial ≡ 0 → ⊥
  children_given r b i s m = let (c, j) = standing_child docs r b i s m in no_zero s c j

  -- the first of the rows right below a row, if there is one
  pub first_child_lem : (test : Row → Bool) (k : ℕ) (r : Row) (b : Forest Row) → Standing docs r b → r.serial ≡ serial_at 0 (children_of test k (lines 0 docs)) → test r ≡ true
  first_child_lem test k r b i e = by (children_of test k (lines 0 docs)) refl e
    where
      by : (ns : List ℕ) → children_of test k (lines 0 docs) ≡ ns → r.serial ≡ serial_at 0 ns → test r ≡ true
      by [] q e = absurd (no_zero r b i e)
      by (n ∷ ns) q e =
          let (t, c, j, h, g) = child_stands test k 0 docs n (rw q (mathlib.Core.List.Memᴰ.head refl)) in
          ap test (one_row_lem r t b c i j (e ∙ sym g)).0 ∙ h
