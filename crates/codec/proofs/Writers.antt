-- Byte strings written over others: one after the other, and in a tail that was lent.
use mathlib.Core.Path.{◌≡◌, refl, sym, ap, ◌∙◌}
use mathlib.Core.List.{List, [], ◌∷◌, ◌++◌, append-nil}
use Prim.Native.Nat.{ℕ, zero, suc, ◌+◌, ◌-◌, ◌<◌, ◌≤◌}
use native.Mathlib.Nat.{le_of_suc-le-suc, not-suc-le-zero, add-zero, zero-add, add-suc, suc-add}
use native.Mathlib.Omega.{arith}
use native.Mathlib.Numerals.{add-one}
use lib.ListN.{length, take, drop, get_or, set, length-append, length-drop, drop_of_length-le}
use lib.Seq.{sets, sets-eq, length-sets, drop-cons, set_out, take_all}
use Rattle.codec.specs.Laid.{Laid}

-- a loop that stores byte after byte: what is left to store gives the same end
pub lay_step : (src out out' goal : List ℕ) (i x : ℕ) → i < length src → x ≡ get_or src i 0 → out' ≡ set out i x → sets out i (drop i src) ≡ goal → sets out' (i + 1) (drop (i + 1) src) ≡ goal
lay_step src out out' goal i x h ex eo inv = rw (eo, ex, add-one) (rw (drop-cons src i 0 h) at inv)

-- two runs of stores, one after the other
pub sets_append : (a b l : List ℕ) (i : ℕ) → sets (sets l i a) (i + length a) b ≡ sets l i (a ++ b)
sets_append [] b l i = rw add-zero
sets_append (x ∷ a) b l i = rw (add-suc, ← suc-add) (sets_append a b (set l i x) (suc i))

sets_cons : (w : List ℕ) (y : ℕ) (l : List ℕ) (i : ℕ) → sets (y ∷ l) (suc i) w ≡ y ∷ sets l i w
sets_cons [] y l i = refl
sets_cons (x ∷ w) y l i = sets_cons w y (set l i x) (suc i)

-- stores in the tail of a list
pub sets_tail : (l w : List ℕ) (at : ℕ) → at ≤ length l → take at l ++ sets (drop at l) 0 w ≡ sets l at w
sets_tail l w zero h = refl
sets_tail [] w (suc n) h = absurd (not-suc-le-zero h)
sets_tail (y ∷ l) w (suc n) h = ap (λ (t : List ℕ). y ∷ t) (sets_tail l w n (le_of_suc-le-suc h)) ∙ sym (sets_cons w y l n)

-- stores past the end
pub sets_past : (w l : List ℕ) (at : ℕ) → length l ≤ at → sets l at w ≡ l
sets_past [] l at h = refl
sets_past (x ∷ w) l at h = rw (set_out l at x h) (sets_past w l (suc at) (omega arith))

-- a tail `&mut l[at..]` that was lent: what the callee saw, and what the whole is when it is back
pub tail_seen : (l : List ℕ) (at : ℕ) → take (length l - at) (drop at l) ≡ drop at l
tail_seen l at = take_all (length l - at) (drop at l) (omega (arith, length-drop at l))

pub tail_back : (l ys : List ℕ) (at : ℕ) → take at l ++ (ys ++ drop (length l - at) (drop at l)) ≡ take at l ++ ys
tail_back l ys at = rw (drop_of_length-le (drop at l) {i = length l - at} (omega (arith, length-drop at l)), append-nil)

-- .. where the callee stored w at its front
pub tail_sets : (l ys w : List ℕ) (at : ℕ) → at ≤ length l → ys ≡ sets (take (length l - at) (drop at l)) 0 w → take at l ++ (ys ++ drop (length l - at) (drop at l)) ≡ sets l at w
tail_sets l ys w at h e = tail_back l ys at ∙ rw (e, tail_seen l at) (sets_tail l w at h)

-- .. where the callee copied w, which has room there, to its front
pub tail_copied : (l ys w : List ℕ) (at : ℕ) → at + length w ≤ length l → ys ≡ w ++ drop (length w) (take (length l - at) (drop at l))
    → take at l ++ (ys ++ drop (length l - at) (drop at l)) ≡ sets l at w
tail_copied l ys w at h e =
    let room : 0 + length w ≤ length (take (length l - at) (drop at l)) = rw (tail_seen l at) (omega (arith, length-drop at l)) in
    tail_sets l ys w at (omega arith) (e ∙ sym (sets-eq w (take (length l - at) (drop at l)) 0 room ∙ rw zero-add))

-- ---- writers, one after the other
pub laid_none : {out : List ℕ} {at : ℕ} → Laid [] out at at out
laid_none {out} {at} = record { next = sym (add-zero at); stored = refl }

pub laid_then : {a b out : List ℕ} {at r : ℕ} {out' : List ℕ} {r' : ℕ} {out'' : List ℕ} → Laid a out at r out' → Laid b out' r r' out'' → Laid (a ++ b) out at r' out''
laid_then {a} {b} {out} {at} p q =
    record {
      next = omega (arith, p.next, q.next, length-append a b);
      stored = q.stored ∙ rw (p.stored, p.next) (sets_append a b out at);
    }

pub laid_as : {w w' out : List ℕ} {at r : ℕ} {out' : List ℕ} → w ≡ w' → Laid w' out at r out' → Laid w out at r out'
laid_as e p = rw e p

-- a writer keeps the length of its buffer
pub laid_long : {w out : List ℕ} {at r : ℕ} {out' : List ℕ} → Laid w out at r out' → length out' ≡ length out
laid_long {w} {out} {at} l = ap length l.stored ∙ length-sets out at w
