-- The walk over the rows: what a walk through a tree finds, and what the trees of the rows passed hold.
use mathlib.Core.Path.{◌≡◌, refl, ap, ◌∙◌, sym, subst}
use mathlib.Core.Logic.{◌⊎◌, inl, inr}
use Prim.Native.Nat.{ℕ, suc, ◌+◌, ◌/◌, ◌%◌, ◌-◌, ◌≤◌, ◌<◌}
use native.Mathlib.Omega.{arith}
use native.Mathlib.Numerals.{add-one}
use native.Mathlib.Nat.{not-suc-le-zero}
use mathlib.Core.Bool.{Bool, true, false, false≢true, true≢false}
use mathlib.Core.List.{List}
use lib.Dec.{ltb, eqb}
use lib.ListN.{length, get_or, set, length-set, replicate, length-replicate}
use lib.Seq.{get_or-set_same, get_or-set_other}
use borrow.Author.Tests.{ltb-true, ltb-false, eqb-true, eqb-false}
use Rattle.std.specs.Prelude.{None, Some}
use Rattle.rules.specs.Bytes.{Bytes}
use Rattle.codec.proofs.Numbers.{zeros_read}
use Rattle.serial_check.specs.Serials.{serial_at_row, Apart}
use Rattle.serial_check.specs.Trees.{place_below, Met, at_once, there, Comes, last, later, Rising, Sought, Trees, Put}

-- ---- walks
met_none : {below : List ℕ} {i h q : ℕ} → Met below i h q → h ≡ 0 → ⊥
met_none at_once e = omega arith
met_none (there m) e = omega arith

comes_none : {below : List ℕ} {p h q : ℕ} → Comes below p h q → h ≡ 0 → ⊥
comes_none (last n) e = omega arith
comes_none (later c) e = omega arith

-- a walk from a row meets it, and what is met further on
met_cases : {below : List ℕ} {i h q : ℕ} (j : ℕ) → Met below i h q → h ≡ suc j → (i ≡ j) ⊎ Met below i (get_or below (place_below j q) 0) (q / 4)
met_cases j at_once e = inl (omega arith)
met_cases {below} {i} j (there {j = k} {q = q} m) e =
    let g : k ≡ j = omega arith in
    inr (subst (λ (n : ℕ). Met below i (get_or below (place_below n q) 0) (q / 4)) g m)

-- whom a walk meets is one of the first k rows
met_low : {below : List ℕ} {i h q : ℕ} (k : ℕ) → Rising below k → h ≤ k → Met below i h q → i < k
met_low k r l at_once = omega arith
met_low k r l (there {j} {q} m) = met_low k r (r.low (place_below j q)) m

-- the place that a walk comes to is below one of the first k rows
comes_low : {below : List ℕ} {p h q : ℕ} (k : ℕ) → Rising below k → h ≤ k → Comes below p h q → p / 4 < k
comes_low k r l (last e) = omega arith
comes_low k r l (later {j} {q} c) = comes_low k r (r.low (place_below j q)) c

-- a store to an empty place leaves every walk its rows
met_set : {below : List ℕ} {i h q : ℕ} (p v : ℕ) → get_or below p 0 ≡ 0 → Met below i h q → Met (set below p v) i h q
met_set p v z at_once = at_once
met_set {below} {i} p v z (there {j} {q} m) =
    there {j = j} {q = q} (rw (get_or-set_other below p (place_below j q) v 0 (λ e. met_none m (ap (λ (n : ℕ). get_or below n 0) e ∙ z))) (met_set p v z m))

-- .. and a row stored there is met by the walk that comes there
comes_set : {below : List ℕ} {p h q : ℕ} (k : ℕ) → get_or below p 0 ≡ 0 → p < length below → Comes below p h q → Met (set below p (suc k)) k h q
comes_set {below} {p} k z l (last {j} {q} e) =
    there {j = j} {q = q} (rw (← e, get_or-set_same below p (suc k) 0 l) at_once)
comes_set {below} {p} k z l (later {j} {q} c) =
    there {j = j} {q = q} (rw (get_or-set_other below p (place_below j q) (suc k) 0 (λ e. comes_none c (ap (λ (n : ℕ). get_or below n 0) e ∙ z))) (comes_set k z l c))

pub rising_more : {below : List ℕ} (k m : ℕ) → k ≤ m → Rising below k → Rising below m
rising_more k m l r = record { low = λ p. omega (arith, r.low p); up = r.up }

-- ---- the walk for the serial s
-- from h on the walk goes the way that it goes from its start, and no row with the serial was passed
pub record Seek (w : ℕ) (rows : Bytes) (below : List ℕ) (from s h q : ℕ) : Type 0 where
  pub on : (i : ℕ) → Met below i h q → Met below i from (s / 4096)
  pub comes : (p : ℕ) → Comes below p h q → Comes below p from (s / 4096)
  pub rest : (i : ℕ) → Met below i from (s / 4096) → serial_at_row w rows i ≡ s → Met below i h q
  pub low : h ≤ 4096

-- a place that is not empty, as a row's number and 1
seek_row : {w : ℕ} {rows : Bytes} {below : List ℕ} {from s h q : ℕ} → 0 < h → Seek w rows below from s h q → Seek w rows below from s (suc (h - 1)) q
seek_row {w} {rows} {below} {from} {s} {h} {q} l k = let e : h ≡ suc (h - 1) = omega arith in subst (λ (n : ℕ). Seek w rows below from s n q) e k

pub seek_starts : (w : ℕ) (rows : Bytes) (below : List ℕ) (from s : ℕ) → 0 < from → from ≤ 4096 → Seek w rows below from s (suc (from - 1)) (s / 4096)
seek_starts w rows below from s l m = seek_row l (record { on = λ i o. o; comes = λ p o. o; rest = λ i o e. o; low = m })

pub seek_meets : {w : ℕ} {rows : Bytes} {below : List ℕ} {from s j q : ℕ} → Seek w rows below from s (suc j) q → serial_at_row w rows j ≡ s → Sought w rows below from s None
seek_meets {j = j} k e = record { is = (j, k.on j at_once, e) }

module _ {w : ℕ} {rows : Bytes} {below : List ℕ} {from s j q : ℕ} (k : Seek w rows below from s (suc j) q) (n : serial_at_row w rows j ≡ s → ⊥) where
  -- a row that has the serial and was not passed is met further on
  further : (i : ℕ) → Met below i from (s / 4096) → serial_at_row w rows i ≡ s → Met below i (get_or below (place_below j q) 0) (q / 4)
  further i m e = by (met_cases j (k.rest i m e) refl)
    where
      by : (i ≡ j) ⊎ Met below i (get_or below (place_below j q) 0) (q / 4) → Met below i (get_or below (place_below j q) 0) (q / 4)
      by (inl g) = absurd (n (ap (serial_at_row w rows) (sym g) ∙ e))
      by (inr o) = o

  pub seek_ends : j < 4096 → get_or below (place_below j q) 0 ≡ 0 → Sought w rows below from s (Some (place_below j q))
  seek_ends l z =
      record {
        is = (omega arith, record { comes = k.comes (place_below j q) (last refl); empty = z; none = λ i m e. met_none (further i m e) z });
      }

  pub seek_on : Rising below 4096 → (get_or below (place_below j q) 0 ≡ 0 → ⊥) → Seek w rows below from s (suc (get_or below (place_below j q) 0 - 1)) (q / 4)
  seek_on r z =
      seek_row (omega arith)
      (record { on = λ i m. k.on i (there m); comes = λ p c. k.comes p (later c); rest = further; low = r.low (place_below j q) })

-- ---- the rows passed
pub trees_start : (w : ℕ) (rows : Bytes) → Trees w rows (replicate 4096 0) (replicate 16384 0) 0
trees_start w rows =
    record {
      distinct = record { apart = λ i k h g. absurd (not-suc-le-zero g) };
      rising = record { low = λ p. omega (arith, zeros_read 16384 p); up = λ p h. absurd (omega (arith, zeros_read 16384 p)) };
      low = λ b. omega (arith, zeros_read 4096 b);
      covers = λ j h. absurd (not-suc-le-zero h);
      many = length-replicate {A = ℕ} 4096 0;
      long = length-replicate {A = ℕ} 16384 0;
    }

-- a row more, whose serial none before it has
apart_more : {w : ℕ} {rows : Bytes} {k : ℕ} → Apart w rows k → ((i : ℕ) → i < k → serial_at_row w rows i ≡ serial_at_row w rows k → ⊥) → Apart w rows (suc k)
apart_more {w} {rows} {k} a n = record { apart = λ i j h l e. by i j h l e (ltb j k) refl }
  where
    by : (i j : ℕ) → i < j → j < suc k → serial_at_row w rows i ≡ serial_at_row w rows j → (x : Bool) → ltb j k ≡ x → ⊥
    by i j h l e true q = a.apart i j h (ltb-true j k q) e
    by i j h l e false q = let y : j ≡ k = omega (arith, ltb-false j k q) in n i (omega arith) (e ∙ ap (serial_at_row w rows) y)

-- what holds of each row before k, and of k, holds of each before the next
each_more : {P : ℕ → Type 0} (k : ℕ) → ((j : ℕ) → j < k → P j) → P k → (j : ℕ) → j < suc k → P j
each_more {P} k f p j h = by (ltb j k) refl
  where
    by : (x : Bool) → ltb j k ≡ x → P j
    by true q = f j (ltb-true j k q)
    by false q = let y : k ≡ j = omega (arith, ltb-false j k q) in subst P y p

-- stores of the row k
low_set : (l : List ℕ) (k i : ℕ) → ((p : ℕ) → get_or l p 0 ≤ k) → i < length l → (p : ℕ) → get_or (set l i (suc k)) p 0 ≤ suc k
low_set l k i f h p = by (eqb p i) refl
  where
    by : (x : Bool) → eqb p i ≡ x → get_or (set l i (suc k)) p 0 ≤ suc k
    by true q = let y : p ≡ i = eqb-true p i q in rw (y, get_or-set_same l i (suc k) 0 h) (omega arith)
    by false q = rw (get_or-set_other l i p (suc k) 0 (eqb-false p i q)) (omega (arith, f p))

rising_set : {below : List ℕ} (k i : ℕ) → Rising below k → i < length below → i / 4 < k → Rising (set below i (suc k)) (suc k)
rising_set {below} k i r h l = record { low = low_set below k i r.low h; up = λ p. by p (eqb p i) refl }
  where
    by : (p : ℕ) (x : Bool) → eqb p i ≡ x → 0 < get_or (set below i (suc k)) p 0 → p / 4 + 1 < get_or (set below i (suc k)) p 0
    by p true q = let y : p ≡ i = eqb-true p i q in rw (y, get_or-set_same below i (suc k) 0 h) (λ g. omega arith)
    by p false q = rw (get_or-set_other below i p (suc k) 0 (eqb-false p i q)) (r.up p)

-- row k, whose serial is s
module _ {w : ℕ} {rows : Bytes} {heads below : List ℕ} {k : ℕ} (t : Trees w rows heads below k) (s : ℕ) (es : s ≡ serial_at_row w rows k) where
  -- a row with the serial s is met by the walk for s
  covered : (j : ℕ) → j < k → serial_at_row w rows j ≡ s → Met below j (get_or heads (s % 4096) 0) (s / 4096)
  covered j h e = rw e at (t.covers j h)

  -- it is the first with its remainder
  pub put_root : get_or heads (s % 4096) 0 ≡ 0 → Put w rows (set heads (s % 4096) (k + 1)) below k true
  put_root z =
      let b : s % 4096 < length heads = omega (arith, t.many) in
      rw add-one
      (record {
        yes = λ q.
            record {
              distinct = apart_more t.distinct (λ i h e. met_none (covered i h (e ∙ sym es)) z);
              rising = rising_more k (suc k) (omega arith) t.rising;
              low = low_set heads k (s % 4096) t.low b;
              covers = each_more k covers (rw (← es, get_or-set_same heads (s % 4096) (suc k) 0 b) at_once);
              many = simp length-set t.many;
              long = t.long;
            };
        no = λ q. absurd (true≢false q);
      })
    where
      covers : (j : ℕ) → j < k → Met below j (get_or (set heads (s % 4096) (suc k)) (serial_at_row w rows j % 4096) 0) (serial_at_row w rows j / 4096)
      covers j h =
          rw (get_or-set_other heads (s % 4096) (serial_at_row w rows j % 4096) (suc k) 0 (λ e. met_none (t.covers j h) (ap (λ (n : ℕ). get_or heads n 0) e ∙ z)))
          (t.covers j h)

  -- the walk for s comes to an empty place
  pub put_below : {p : ℕ} → Sought w rows below (get_or heads (s % 4096) 0) s (Some p) → Put w rows heads (set below p (k + 1)) k true
  put_below {p} f =
      let g = f.is.1 in
      let b : p < length below = omega (arith, t.long, f.is.0) in
      rw add-one
      (record {
        yes = λ q.
            record {
              distinct = apart_more t.distinct (λ i h e. g.none i (covered i h (e ∙ sym es)) (e ∙ sym es));
              rising = rising_set k p t.rising b (comes_low k t.rising (t.low (s % 4096)) g.comes);
              low = λ i. omega (arith, t.low i);
              covers = each_more k (λ j h. met_set p (suc k) g.empty (t.covers j h)) (rw (← es) (comes_set k g.empty b g.comes));
              many = t.many;
              long = simp length-set t.long;
            };
        no = λ q. absurd (true≢false q);
      })

  -- the walk for s meets a row with that serial
  pub put_twice : Sought w rows below (get_or heads (s % 4096) 0) s None → Put w rows heads below k false
  put_twice f =
      let (j, m, e) = f.is in
      record {
        yes = λ q. absurd (false≢true q);
        no = λ q a. a.apart j k (met_low k t.rising (t.low (s % 4096)) m) (omega arith) (e ∙ es);
      }

-- ---- the walk over the rows
apart_fewer : {w : ℕ} {rows : Bytes} {m n : ℕ} → m ≤ n → Apart w rows n → Apart w rows m
apart_fewer l a = record { apart = λ i k h g e. a.apart i k h (omega arith) e }

-- a row that could not be put: two have one serial
pub put_refutes : {w : ℕ} {rows : Bytes} {heads below : List ℕ} {k count : ℕ} {b : Bool} → Put w rows heads below k b → b ≡ false → k < count → Apart w rows count → ⊥
put_refutes p e l a = p.no e (apart_fewer l a)

-- a row that was put: the trees of a row more
pub put_more : {w : ℕ} {rows : Bytes} {heads below : List ℕ} {k : ℕ} {b : Bool} → Put w rows heads below k b → b ≡ true → Trees w rows heads below (k + 1)
put_more p e = rw add-one (p.yes e)

-- past the last row no two are alike
pub trees_apart : {w : ℕ} {rows : Bytes} {heads below : List ℕ} {k count : ℕ} → Trees w rows heads below k → count ≤ k → Apart w rows count
trees_apart t l = apart_fewer l t.distinct
