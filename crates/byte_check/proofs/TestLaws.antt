-- What a loop that tests each byte has left, from byte i on.
use Prim.Native.Nat.{ℕ, zero, suc, ◌+◌, ◌-◌, ◌≤◌, ◌<◌}
use native.Mathlib.Numerals.{add-one}
use native.Mathlib.Omega.{arith}
use mathlib.Core.List.{List, [], ◌∷◌, ◌++◌}
use Rattle.std.specs.List.{list_all}
use mathlib.Core.Path.{◌≡◌, refl, sym, ap, ap₂, ◌∙◌}
use mathlib.Core.Bool.{Bool, true, false, ◌&&◌}
use lib.ListN.{length, take, drop, get_or, length-take, length-drop, length-append, take-append-drop, drop_of_length-le}
use lib.Seq.{drop-cons, drop-drop, take_all, take-add, take-take, take-append_seam, drop-append_seam}
use Rattle.rules.specs.Bytes.{Bytes, all}
use Rattle.rules.proofs.Words.{and_split}
use Rattle.rules.proofs.BooleanLaws.{all_append}

-- ---- the test of each item, as std has it and as the rules have it
pub all_list : {A : Type 0} (p : A → Bool) (xs : List A) → list_all p xs ≡ all p xs
all_list p [] = refl
all_list p (x ∷ xs) = ap (λ (b : Bool). p x && b) (all_list p xs)

-- ---- each byte
module _ (p : ℕ → Bool) (bs : Bytes) (i : ℕ) where
  all_here : i < length bs → all p (drop i bs) ≡ (p (get_or bs i 0) && all p (drop (i + 1) bs))
  all_here h = rw (add-one, drop-cons bs i 0 h)

  -- a loop that tests each byte: a is what those before i answer, w what all do
  pub passes_on : (a : Bool) {w b : Bool} → w ≡ (a && all p (drop i bs)) → i < length bs → b ≡ p (get_or bs i 0) → w ≡ ((a && b) && all p (drop (i + 1) bs))
  passes_on a {w} {b} e h t = e ∙ ap (λ (x : Bool). a && x) (all_here h ∙ ap (λ (x : Bool). x && all p (drop (i + 1) bs)) (sym t)) ∙ joined a
    where
      joined : (a : Bool) → (a && (b && all p (drop (i + 1) bs))) ≡ ((a && b) && all p (drop (i + 1) bs))
      joined true = refl
      joined false = refl

  pub passes_end : {w a : Bool} → w ≡ (a && all p (drop i bs)) → length bs ≤ i → a ≡ w
  passes_end {w} {a} e h = sym (e ∙ ap (λ (x : Bool). a && x) (ap (all p) (drop_of_length-le bs h)) ∙ alone a)
    where
      alone : (a : Bool) → (a && true) ≡ a
      alone true = refl
      alone false = refl

-- ---- eight bytes
module _ (p : ℕ → Bool) where
  -- of a string that is cut
  all_cut : (i : ℕ) (bs : Bytes) → all p bs ≡ (all p (take i bs) && all p (drop i bs))
  all_cut i bs = ap (all p) (sym (take-append-drop i bs)) ∙ all_append p (take i bs) (drop i bs)

  -- what a loop that tests k bytes at a time has left, the first i having passed
  module _ (bs : Bytes) (i : ℕ) (inv : all p (take i bs) ≡ true) where
    pub part_on : (k : ℕ) {t : Bool} → t ≡ all p (take k (drop i bs)) → t ≡ true → all p (take (i + k) bs) ≡ true
    part_on k e t = ap (all p) (take-add i k bs) ∙ all_append p (take i bs) (take k (drop i bs)) ∙ ap₂ (λ (x y : Bool). x && y) inv (sym e ∙ t)

    pub part_off : (k : ℕ) {t : Bool} → t ≡ all p (take k (drop i bs)) → t ≡ false → false ≡ all p bs
    part_off k e t =
        sym (all_cut i bs ∙ ap₂ (λ (x y : Bool). x && y) inv (all_cut k (drop i bs) ∙ ap (λ (x : Bool). x && all p (drop k (drop i bs))) (sym e ∙ t)))

    -- the last k bytes, some of which may have passed before
    pub part_end : (at k : ℕ) {t : Bool} → at ≤ i → at + k ≡ length bs → t ≡ all p (take k (drop at bs)) → t ≡ all p bs
    part_end at k h l e =
        let passed : all p (take at (take i bs)) ≡ true = (and_split (all p (take at (take i bs))) (all p (drop at (take i bs))) (sym (all_cut at (take i bs)) ∙ inv)).0 in
        let front : all p (take at bs) ≡ true = ap (all p) (sym (take-take at i bs h)) ∙ passed in
        let last : take k (drop at bs) ≡ drop at bs = take_all k (drop at bs) (omega (arith, length-drop at bs)) in
        e ∙ ap (all p) last ∙ sym (all_cut at bs ∙ ap (λ (x : Bool). x && all p (drop at bs)) front)

-- n bytes inside the first k
inner : (n i k : ℕ) (bs : Bytes) → i + n ≤ k → take n (drop i (take k bs)) ≡ take n (drop i bs)
inner n zero k bs h = take-take n k bs (omega (arith, h))
inner n (suc i) zero bs h = absurd (omega arith)
inner n (suc i) (suc k) [] h = refl
inner n (suc i) (suc k) (x ∷ bs) h = inner n i k bs (omega (arith, h))

-- rest are the last of all bytes but one, and those before it pass
pub record Eights (p : ℕ → Bool) (bs rest : Bytes) : Type 0 where
  pub tested : ℕ
  pub rest_is : rest ≡ drop tested (take (length bs - 1) bs)
  pub inside : tested + length rest ≡ length bs - 1
  pub passed : all p (take tested bs) ≡ true

pub eights_all : (p : ℕ → Bool) (bs : Bytes) → Eights p bs (take (length bs - 1) bs)
eights_all p bs = record { tested = 0; rest_is = refl; inside = omega (arith, length-take (length bs - 1) bs); passed = refl }

module _ {p : ℕ → Bool} {bs rest : Bytes} (l : Eights p bs rest) where
  module _ (x later : Bytes) (e : rest ≡ x ++ later) (h : length x ≡ 8) {b : Bool} (t : b ≡ all p x) where
    long : length rest ≡ 8 + length later
    long = omega (arith, ap (λ (ys : Bytes). length ys) e, length-append x later, h)

    part_is : x ≡ take 8 (drop l.tested bs)
    part_is =
        sym (ap (λ (k : ℕ). take k (x ++ later)) (sym h) ∙ take-append_seam x later) ∙ ap (take 8) (sym e ∙ l.rest_is)
        ∙ inner 8 l.tested (length bs - 1) bs (omega (arith, l.inside, long))

    pub eights_off : b ≡ false → false ≡ all p bs
    eights_off f = part_off p bs l.tested l.passed 8 (t ∙ ap (all p) part_is) f

    pub eights_on : b ≡ true → Eights p bs later
    eights_on f =
        record {
          tested = l.tested + 8;
          rest_is = sym (drop-append_seam x later) ∙ ap (λ (k : ℕ). drop k (x ++ later)) h ∙ ap (drop 8) (sym e ∙ l.rest_is) ∙ drop-drop 8 l.tested (take (length bs - 1) bs);
          inside = omega (arith, l.inside, long);
          passed = part_on p bs l.tested l.passed 8 (t ∙ ap (all p) part_is) f;
        }

  pub eights_end : length rest < 8 → 8 ≤ length bs → {b : Bool} → b ≡ all p (take 8 (drop (length bs - 8) bs)) → b ≡ all p bs
  eights_end h k e = part_end p bs l.tested l.passed (length bs - 8) 8 (omega (arith, l.inside)) (omega arith) e
