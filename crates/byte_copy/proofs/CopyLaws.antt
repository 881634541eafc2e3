-- Byte strings copied byte by byte, and by eights.
use mathlib.Core.Path.{◌≡◌, refl, sym, ap, ap₂, ◌∙◌}
use mathlib.Core.List.{List, [], ◌∷◌, ◌++◌}
use Prim.Native.Nat.{ℕ, zero, suc, ◌+◌, ◌-◌, ◌<◌, ◌≤◌}
use native.Mathlib.Nat.{le_of_suc-le-suc, not-suc-le-zero}
use native.Mathlib.Omega.{arith}
use lib.ListN.{length, take, drop, get_or, set, length-append, length-drop}
use lib.Seq.{sets, sets-eq, drop-drop, drop-append-add, take-add, take-take, take-append-le, length-take-le}

-- one byte more is copied
pub copy_more : (src out : List ℕ) (i : ℕ) → i < length src → i < length out → set (take i src ++ drop i out) i (get_or src i 0) ≡ take (suc i) src ++ drop (suc i) out
copy_more [] out i h k = absurd (not-suc-le-zero h)
copy_more (x ∷ xs) [] i h k = absurd (not-suc-le-zero k)
copy_more (x ∷ xs) (y ∷ ys) zero h k = refl
copy_more (x ∷ xs) (y ∷ ys) (suc i) h k = ap (λ (l : List ℕ). x ∷ l) (copy_more xs ys i (le_of_suc-le-suc h) (le_of_suc-le-suc k))

-- k bytes more are copied, from a place up to which all is copied; some of them may be copied again
pub copy_part : (src out : List ℕ) (i at k : ℕ) → at ≤ i → i ≤ at + k → at + k ≤ length src → length src ≤ length out
    → sets (take i src ++ drop i out) at (take k (drop at src)) ≡ take (at + k) src ++ drop (at + k) out
copy_part src out i at k a b c d =
    let n : length (take k (drop at src)) ≡ k = length-take-le k (drop at src) (omega (arith, length-drop at src)) in
    let m : length (take i src) ≡ i = length-take-le i src (omega arith) in
    let room : at + length (take k (drop at src)) ≤ length (take i src ++ drop i out) = omega (arith, n, m, length-append (take i src) (drop i out), length-drop i out) in
    let front : take at (take i src ++ drop i out) ≡ take at src = take-append-le at (take i src) (drop i out) (omega (arith, m)) ∙ take-take at i src a in
    let past : at + length (take k (drop at src)) ≡ length (take i src) + (at + k - i) = omega (arith, n, m) in
    let whole : i + (at + k - i) ≡ at + k = omega arith in
    let back : drop (at + length (take k (drop at src))) (take i src ++ drop i out) ≡ drop (at + k) out =
    ap (λ (j : ℕ). drop j (take i src ++ drop i out)) past ∙ drop-append-add (take i src) (drop i out) (at + k - i) ∙ drop-drop (at + k - i) i out ∙ ap (λ (j : ℕ). drop j out) whole in
    sets-eq (take k (drop at src)) (take i src ++ drop i out) at room
    ∙ ap₂ (λ (x y : List ℕ). x ++ take k (drop at src) ++ y) front back
    ∙ ap (λ (x : List ℕ). x ++ drop (at + k) out) (sym (take-add at k src))
