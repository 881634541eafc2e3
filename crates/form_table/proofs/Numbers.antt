-- Where a number stands to another, and a test of all numbers from a on below b.
use Prim.Native.Nat.{ℕ, zero, suc, ◌+◌, ◌-◌, ◌≤◌, ◌<◌}
use native.Mathlib.Omega.{arith}
use native.Mathlib.Numerals.{add-one, sub-one}
use native.Mathlib.Nat.{not-suc-le-zero}
use mathlib.Core.Path.{◌≡◌, refl, sym, ap₂, subst, ◌∙◌}
use mathlib.Core.Bool.{Bool, true, false, ◌&&◌, false≢true}
use lib.Dec.{ltb, leb}
use borrow.Author.Tests.{le-leb, lt-leb, leb-true, leb-false, ltb-true, ltb-false}
use Rattle.rules.proofs.Words.{and_both, and_split}
use Rattle.form_table.specs.Every.{every}

-- k is below, at, or above d
pub data Side (k d : ℕ) : Type 0 where
  below : k < d → Side k d
  at : k ≡ d → Side k d
  above : d < k → Side k d

pub side : (k d : ℕ) → Side k d
side k d = by (ltb k d) refl (ltb d k) refl
  where
    by : (a : Bool) → ltb k d ≡ a → (b : Bool) → ltb d k ≡ b → Side k d
    by true e b f = below (ltb-true k d e)
    by false e true f = above (ltb-true d k f)
    by false e false f = let p = ltb-false k d e in let q = ltb-false d k f in at (omega arith)

module _ (p : ℕ → Bool) where
  pub every→ : (n a : ℕ) → every p n a ≡ true → (k : ℕ) → a ≤ k → k < n → p k ≡ true
  unfolding every
  every→ zero a h k u q = absurd (not-suc-le-zero q)
  every→ (suc n) a h k u q = by (side k n) (let e = rw (le-leb a n (omega arith), every) at h in and_split (p n) (every p n a) e) (λ v x. every→ n a v k u x)
    where
      by : Side k n → (p n ≡ true) × (every p n a ≡ true) → (every p n a ≡ true → k < n → p k ≡ true) → p k ≡ true
      by (below x) (c, v) f = f v x
      by (at x) (c, v) f = rw x c
      by (above x) (c, v) f = absurd (omega arith)

  pub every← : (n a : ℕ) → ((k : ℕ) → a ≤ k → k < n → p k ≡ true) → every p n a ≡ true
  unfolding every
  every← zero a h = refl
  every← (suc n) a h = by (leb a n) refl (every← n a (λ k u q. h k u (omega arith)))
    where
      by : (b : Bool) → leb a n ≡ b → every p n a ≡ true → every p (suc n) a ≡ true
      by true e r = rw (e, every) (and_both (h n (leb-true a n e) (omega arith)) r)
      by false e r = rw (e, every)

  -- the last number, and no number
  pub every_step : (a k : ℕ) → a < k → every p k a ≡ (p (k - 1) && every p (k - 1) a)
  unfolding every
  every_step a zero h = absurd (not-suc-le-zero h)
  every_step a (suc k) h = rw (le-leb a k (omega arith), every) (rw sub-one)

  pub every_stop : (a k : ℕ) → k ≤ a → every p k a ≡ true
  unfolding every
  every_stop a zero h = refl
  every_stop a (suc k) h = rw (lt-leb a k h, every)

pub every_same : (p q : ℕ → Bool) (n a : ℕ) → ((k : ℕ) → k < n → p k ≡ q k) → every p n a ≡ every q n a
unfolding every
every_same p q zero a f = refl
every_same p q (suc n) a f = by (leb a n) (every_same p q n a (λ k h. f k (omega arith)))
  where
    by : (b : Bool) → every p n a ≡ every q n a → ◌≡◌ {A = Bool} (elim b [ true ↦ p n && every p n a | false ↦ true ]) (elim b [ true ↦ q n && every q n a | false ↦ true ])
    by true e = ap₂ (λ (i j : Bool). i && j) (f n (omega arith)) e
    by false e = refl

-- ---- a loop over the numbers from a on
module _ (p : ℕ → Bool) (a k : ℕ) where
  pub every_more : every p k a ≡ true → p k ≡ true → every p (k + 1) a ≡ true
  unfolding every
  every_more e h = rw (add-one k) (by (leb a k) refl)
    where
      by : (b : Bool) → leb a k ≡ b → every p (suc k) a ≡ true
      by true q = rw (q, every) (and_both h e)
      by false q = rw (q, every)

  pub every_fails : (n : ℕ) → a ≤ k → k < n → p k ≡ false → false ≡ every p n a
  every_fails n l h f = by (every p n a) refl
    where
      by : (b : Bool) → every p n a ≡ b → false ≡ b
      by true e = absurd (false≢true (sym f ∙ every→ p n a e k l h))
      by false e = refl

  pub every_through : (n : ℕ) → every p k a ≡ true → n ≤ k → (a ≤ n → k ≤ n) → true ≡ every p n a
  every_through n e h l = by (leb a n) refl
    where
      by : (b : Bool) → leb a n ≡ b → true ≡ every p n a
      by true q = let all : k ≡ n = omega (arith, l (leb-true a n q)) in sym (subst (λ (m : ℕ). every p m a ≡ true) all e)
      by false q = sym (every_stop p a n (omega (arith, leb-false a n q)))
