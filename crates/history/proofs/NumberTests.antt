-- Equality of numbers as a test, how often a number stands in a list, and the numbers from one on.
use Prim.Native.Nat.{ℕ, zero, suc, ◌+◌, ◌≤◌, ◌<◌}
use native.Mathlib.Omega.{arith}
use mathlib.Core.Path.{◌≡◌, refl, sym, ap, ◌∙◌}
use mathlib.Core.Logic.{◌≢◌, ◌↔◌, ⊎_elim}
use mathlib.Core.Bool.{Bool, true, false, false≢true}
use mathlib.Core.List.Memᴰ
use mathlib.Core.List.{List, [], ◌∷◌, ◌++◌, Memᴰ}
use lib.Dec.{eqb, lit≤}
use Rattle.rules.specs.Bytes.{eqb_eq, eqb_of}
use Rattle.rules.specs.Model.{Distinct}

pub eqb_other : (m n : ℕ) → m ≢ n → eqb m n ≡ false
eqb_other m n h = by (eqb m n) refl
  where
    by : (c : Bool) → eqb m n ≡ c → eqb m n ≡ false
    by true q = absurd (h (eqb_eq m n q))
    by false q = q

pub eqb_sym : (m n : ℕ) → eqb m n ≡ eqb n m
eqb_sym m n = by (eqb m n) refl
  where
    by : (c : Bool) → eqb m n ≡ c → eqb m n ≡ eqb n m
    by true q = q ∙ sym (eqb_of n m (sym (eqb_eq m n q)))
    by false q = q ∙ sym (eqb_other n m (λ e. false≢true (sym q ∙ eqb_of m n (sym e))))

-- ---- 1 for a test that holds
abbrev pub ones : Bool → ℕ
ones true = 1
ones false = 0

pub ones_most : (c : Bool) → ones c ≤ 1
ones_most true = lit≤ tt
ones_most false = lit≤ tt

pub ones_zero : (c : Bool) → ones c ≡ 0 → c ≡ false
ones_zero true h = absurd (let z : ◌≡◌ {A = ℕ} 1 0 = h in omega arith)
ones_zero false h = refl

pub ones_own : (k : ℕ) → ones (eqb k k) ≡ 1
ones_own k = ap ones (eqb_of k k refl)

pub ones_other : (k n : ℕ) → k ≢ n → ones (eqb k n) ≡ 0
ones_other k n h = ap ones (eqb_other k n h)

-- ---- how often a number stands in a list
unfoldable pub times : ℕ → List ℕ → ℕ
times k [] = 0
times k (n ∷ ns) = ones (eqb k n) + times k ns

pub times_append : (k : ℕ) (xs ys : List ℕ) → times k (xs ++ ys) ≡ times k xs + times k ys
unfolding times
times_append k [] ys = omega arith
times_append k (n ∷ xs) ys = omega (arith, times_append k xs ys)

pub times_in : (k : ℕ) (ns : List ℕ) → Memᴰ k ns → 1 ≤ times k ns
unfolding times
times_in k [] m = absurd (Memᴰ.not-nil m)
times_in k (n ∷ ns) m = ⊎_elim (λ e. omega (arith, ap ones (eqb_of k n e))) (λ i. omega (arith, times_in k ns i)) (Memᴰ.cases_cons m)

pub times_out : (k : ℕ) (ns : List ℕ) → (Memᴰ k ns → ⊥) → times k ns ≡ 0
unfolding times
times_out k [] f = refl
times_out k (n ∷ ns) f = omega (arith, ones_other k n (λ e. f (Memᴰ.head e)), times_out k ns (λ i. f (Memᴰ.tail i)))

-- in a list without doubles nothing stands twice
pub distinct_times : (ns : List ℕ) → Distinct ns ↔ ((k : ℕ) → times k ns ≤ 1)
unfolding times
distinct_times [] = (λ d k. omega arith, λ f. tt)
distinct_times (n ∷ ns) = (
  λ (new, d) k. by k (eqb k n) refl new ((distinct_times ns).0 d k),
  λ f. (λ m. let z : ⊥ = omega (arith, f n, ones_own n, times_in n ns m) in z, (distinct_times ns).1 (λ k. omega (arith, f k))),
)
  where
    by : (k : ℕ) (c : Bool) → eqb k n ≡ c → (Memᴰ n ns → ⊥) → times k ns ≤ 1 → ones (eqb k n) + times k ns ≤ 1
    by k true q new x = omega (arith, ones_most (eqb k n), times_out k ns (rw (eqb_eq k n q) new))
    by k false q new x = omega (arith, ap ones q)

-- ---- the numbers from n on, m of them
unfoldable pub range : ℕ → ℕ → List ℕ
range n zero = []
range n (suc m) = n ∷ range (suc n) m

pub range_append : (n a b : ℕ) → range n (a + b) ≡ range n a ++ range (n + a) b
unfolding range
range_append n zero b =
    let e : zero + b ≡ b = omega arith in
    let f : n + zero ≡ n = omega arith in
    rw (e, f) refl
range_append n (suc a) b =
    let e : suc a + b ≡ suc (a + b) = omega arith in
    let f : n + suc a ≡ suc n + a = omega arith in
    rw (e, f) (ap (λ (z : List ℕ). n ∷ z) (range_append (suc n) a b))

pub range_below : (k n m : ℕ) → k < n → times k (range n m) ≡ 0
unfolding range times
range_below k n zero h = refl
range_below k n (suc m) h = omega (arith, ones_other k n (omega arith), range_below k (suc n) m (omega arith))

pub range_above : (k n m : ℕ) → n + m ≤ k → times k (range n m) ≡ 0
unfolding range times
range_above k n zero h = refl
range_above k n (suc m) h = omega (arith, ones_other k n (omega arith), range_above k (suc n) m (omega arith))

pub range_once : (k n m : ℕ) → times k (range n m) ≤ 1
unfolding range times
range_once k n zero = omega arith
range_once k n (suc m) = by (eqb k n) refl (range_once k (suc n) m)
  where
    by : (c : Bool) → eqb k n ≡ c → times k (range (suc n) m) ≤ 1 → ones (eqb k n) + times k (range (suc n) m) ≤ 1
    by true q x = omega (arith, ap ones q, range_below k (suc n) m (omega (arith, eqb_eq k n q)))
    by false q x = omega (arith, ap ones q)
