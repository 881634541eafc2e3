-- What is read of marks: the value of the last list of indices that has the definition's.
use Prim.Native.Nat.{ℕ, ◌*◌, ◌<◌}
use native.Mathlib.Omega.{arith}
use mathlib.Core.Path.{◌≡◌, refl, sym, ap, ◌∙◌}
use mathlib.Core.Bool.{Bool, true, false, ◌||◌, false≢true}
use mathlib.Core.List.{List, [], ◌∷◌}
use lib.Dec.{eqb}
use lib.ListN.{length, get_or, set, take, drop, replicate, length-set, length-replicate, get_or-replicate}
use lib.Seq.{get_or-set_same, get_or-set_other}
use Rattle.rules.specs.Bytes.{Bytes, any, eqb_eq, eqb_of}
use Rattle.rules.specs.Layout.{particle_size}
use Rattle.circle_check.specs.Members.{elements_of}
use Rattle.plans.specs.CallPlans.{unmarked}
use Rattle.place_marks.specs.Marking.{marked, marks_at}

-- definition i is one of some indices
abbrev pub among : ℕ → List ℕ → Bool
among i is = any (λ j. eqb j i) is

-- v if a test holds, else w
abbrev pub value_by : Bool → ℕ → ℕ → ℕ
value_by true v w = v
value_by false v w = w

set_read : (m : Bytes) (i j v : ℕ) → i < length m → get_or (set m j v) i 0 ≡ value_by (eqb j i) v (get_or m i 0)
set_read m i j v h = by (eqb j i) refl
  where
    by : (b : Bool) → eqb j i ≡ b → get_or (set m j v) i 0 ≡ value_by b v (get_or m i 0)
    by true e = ap (λ (k : ℕ). get_or (set m k v) i 0) (eqb_eq j i e) ∙ get_or-set_same m i v 0 h
    by false e = get_or-set_other m j i v 0 (λ z. false≢true (sym e ∙ eqb_of j i (sym z)))

marked_read : (v : ℕ) (is : List ℕ) (m : Bytes) (i : ℕ) → i < length m → get_or (marked v is m) i 0 ≡ value_by (among i is) v (get_or m i 0)
marked_read v [] m i h = refl
marked_read v (j ∷ is) m i h =
    marked_read v is (set m j v) i (omega (arith, length-set m j v))
    ∙ ap (λ (x : ℕ). value_by (among i is) v x) (set_read m i j v h)
    ∙ by (eqb j i) (among i is)
  where
    by : (a b : Bool) → value_by b v (value_by a v (get_or m i 0)) ≡ value_by (a || b) v (get_or m i 0)
    by true true = refl
    by true false = refl
    by false true = refl
    by false false = refl

marked_length : (v : ℕ) (is : List ℕ) (m : Bytes) → length (marked v is m) ≡ length m
marked_length v [] m = refl
marked_length v (j ∷ is) m = marked_length v is (set m j v) ∙ length-set m j v

-- THE MARK of definition i, with b: it is before the place, a: it is at it
abbrev pub mark_by : Bool → Bool → ℕ
mark_by b a = value_by a 2 (value_by b 1 0)

pub marks_read : (n p : ℕ) (part : Bytes) (i : ℕ) → i < 64
    → get_or (marks_at n p part) i 0 ≡ mark_by (among i (elements_of (take (particle_size * p) part))) (among i (elements_of (take (particle_size * n) (drop (particle_size * p) part))))
unfolding marks_at unmarked
marks_read n p part i h =
    let l : length (marked 1 (elements_of (take (particle_size * p) part)) (replicate 64 0)) ≡ 64 =
    marked_length 1 (elements_of (take (particle_size * p) part)) (replicate 64 0) ∙ length-replicate {A = ℕ} 64 0 in
    marked_read 2 (elements_of (take (particle_size * n) (drop (particle_size * p) part))) (marked 1 (elements_of (take (particle_size * p) part)) (replicate 64 0)) i (omega arith)
    ∙ ap (λ (x : ℕ). value_by (among i (elements_of (take (particle_size * n) (drop (particle_size * p) part)))) 2 x)
    (marked_read 1 (elements_of (take (particle_size * p) part)) (replicate 64 0) i (omega (arith, length-replicate {A = ℕ} 64 0))
    ∙ ap (λ (x : ℕ). value_by (among i (elements_of (take (particle_size * p) part))) 1 x) (get_or-replicate {A = ℕ} 64 i 0 0 h))

pub mark_two : (b a : Bool) → eqb (mark_by b a) 2 ≡ a
mark_two true true = refl
mark_two true false = refl
mark_two false true = refl
mark_two false false = refl

pub mark_one : (b a : Bool) → (b ≡ true → a ≡ true → ⊥) → eqb (mark_by b a) 1 ≡ b
mark_one true true n = absurd (n refl refl)
mark_one true false n = refl
mark_one false true n = refl
mark_one false false n = refl
