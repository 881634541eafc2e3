-- Where serials stand once: a row stands right below one row alone, and not below itself.
use Prim.Native.Nat.{ℕ}
use mathlib.Core.Path.{◌≡◌, sym, ap, ◌∙◌, subst}
use mathlib.Core.Logic.{◌⊎◌, inl, inr}
use mathlib.Core.List.Memᴰ
use mathlib.Core.List.{map, Memᴰ}
use Rattle.rules.specs.Model.{Distinct}
use Rattle.rules.specs.Store.{Row, Forest, bare, tree, heads}
use Rattle.rules.specs.Passing.{serials}
use Rattle.rules.proofs.Correct.{distinct_left, distinct_right, distinct_apart}
use Rattle.change_laws.proofs.Rowwise.{Standing}
use Rattle.change_laws.proofs.RowEdits.{row_serial}
use Rattle.change_laws.proofs.StandingLaws.{heads_serials}

below_in : (f : Forest Row) (s : Row) (c : Forest Row) (k : ℕ) → Standing f s c → Memᴰ k (serials c) → Memᴰ k (serials f)
below_in bare s c k i m = absurd i
below_in (tree r b t) s c k (inl (x, y)) m = Memᴰ.tail (Memᴰ.append_left (serials t) (subst (λ (z : Forest Row). Memᴰ k (serials z)) (sym y) m))
below_in (tree r b t) s c k (inr (inl i)) m = Memᴰ.tail (Memᴰ.append_left (serials t) (below_in b s c k i m))
below_in (tree r b t) s c k (inr (inr i)) m = Memᴰ.tail (Memᴰ.append_right (serials b) (below_in t s c k i m))

pub not_below : (f : Forest Row) → Distinct (serials f) → (r : Row) (b : Forest Row) → Standing f r b → Memᴰ r.serial (serials b) → ⊥
not_below bare d r b i m = absurd i
not_below (tree s c t) (n, d) r b (inl (x, y)) m = n (Memᴰ.append_left (serials t) (Memᴰ.cast (ap row_serial x) (subst (λ (z : Forest Row). Memᴰ r.serial (serials z)) (sym y) m)))
not_below (tree s c t) (n, d) r b (inr (inl i)) m = not_below c (distinct_left (serials c) (serials t) d) r b i m
not_below (tree s c t) (n, d) r b (inr (inr i)) m = not_below t (distinct_right (serials c) (serials t) d) r b i m

-- a row at the top does not stand below another
head_above : (f : Forest Row) → Distinct (serials f) → (k : ℕ) → Memᴰ k (map row_serial (heads f)) → (s : Row) (c : Forest Row) → Standing f s c → Memᴰ k (serials c) → ⊥
head_above bare d k h s c i m = absurd i
head_above (tree r b t) (n, d) k h s c i m = by (Memᴰ.cases_cons h) i (head_above t (distinct_right (serials b) (serials t) d) k)
  where
    in_t : Memᴰ k (map row_serial (heads t)) → Memᴰ k (serials t)
    in_t j = heads_serials t k j

    by : (k ≡ r.serial) ⊎ Memᴰ k (map row_serial (heads t)) → Standing (tree r b t) s c
        → (Memᴰ k (map row_serial (heads t)) → (s : Row) (c : Forest Row) → Standing t s c → Memᴰ k (serials c) → ⊥) → ⊥
    by (inl e) (inl (x, y)) f = n (Memᴰ.append_left (serials t) (Memᴰ.cast (sym e) (subst (λ (z : Forest Row). Memᴰ k (serials z)) (sym y) m)))
    by (inl e) (inr (inl j)) f = n (Memᴰ.append_left (serials t) (Memᴰ.cast (sym e) (below_in b s c k j m)))
    by (inl e) (inr (inr j)) f = n (Memᴰ.append_right (serials b) (Memᴰ.cast (sym e) (below_in t s c k j m)))
    by (inr g) (inl (x, y)) f = distinct_apart (serials b) (serials t) d k (subst (λ (z : Forest Row). Memᴰ k (serials z)) (sym y) m) (in_t g)
    by (inr g) (inr (inl j)) f = distinct_apart (serials b) (serials t) d k (below_in b s c k j m) (in_t g)
    by (inr g) (inr (inr j)) f = f g s c j m

pub one_parent : (f : Forest Row) → Distinct (serials f) → (k : ℕ) (u s : Row) (b c : Forest Row) → Standing f u b → Standing f s c
    → Memᴰ k (map row_serial (heads b)) → Memᴰ k (map row_serial (heads c)) → u ≡ s
one_parent bare d k u s b c i j p q = absurd i
one_parent (tree r a t) (n, d) k u s b c (inl (x, y)) (inl (z, w)) p q = sym x ∙ z
one_parent (tree r a t) (n, d) k u s b c (inl (x, y)) (inr (inl j)) p q =
    absurd (head_above a (distinct_left (serials a) (serials t) d) k (subst (λ (z : Forest Row). Memᴰ k (map row_serial (heads z))) (sym y) p) s c j (heads_serials c k q))
one_parent (tree r a t) (n, d) k u s b c (inl (x, y)) (inr (inr j)) p q =
    absurd (distinct_apart (serials a) (serials t) d k (heads_serials a k (subst (λ (z : Forest Row). Memᴰ k (map row_serial (heads z))) (sym y) p)) (below_in t s c k j (heads_serials c k q)))
one_parent (tree r a t) (n, d) k u s b c (inr (inl i)) (inl (z, w)) p q =
    absurd (head_above a (distinct_left (serials a) (serials t) d) k (subst (λ (z : Forest Row). Memᴰ k (map row_serial (heads z))) (sym w) q) u b i (heads_serials b k p))
one_parent (tree r a t) (n, d) k u s b c (inr (inl i)) (inr (inl j)) p q = one_parent a (distinct_left (serials a) (serials t) d) k u s b c i j p q
one_parent (tree r a t) (n, d) k u s b c (inr (inl i)) (inr (inr j)) p q =
    absurd (distinct_apart (serials a) (serials t) d k (below_in a u b k i (heads_serials b k p)) (below_in t s c k j (heads_serials c k q)))
one_parent (tree r a t) (n, d) k u s b c (inr (inr i)) (inl (z, w)) p q =
    absurd (distinct_apart (serials a) (serials t) d k (heads_serials a k (subst (λ (z : Forest Row). Memᴰ k (map row_serial (heads z))) (sym w) q)) (below_in t u b k i (heads_serials b k p)))
one_parent (tree r a t) (n, d) k u s b c (inr (inr i)) (inr (inl j)) p q =
    absurd (distinct_apart (serials a) (serials t) d k (below_in a s c k j (heads_serials c k q)) (below_in t u b k i (heads_serials b k p)))
one_parent (tree r a t) (n, d) k u s b c (inr (inr i)) (inr (inr j)) p q = one_parent t (distinct_right (serials a) (serials t) d) k u s b c i j p q
