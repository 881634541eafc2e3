-- Records of one size, one after the other: how many, which stands where, and those of a part.
use mathlib.Core.Path.{◌≡◌, refl, sym, ap, ◌∙◌}
use mathlib.Core.List.{List, [], ◌∷◌}
use Prim.Native.Nat.{ℕ, zero, suc, ◌+◌, ◌-◌, ◌*◌, ◌<◌, ◌≤◌}
use native.Mathlib.Omega.{arith}
use native.Mathlib.Nat.{mul-suc, mul-zero, zero-add, suc-add, le_of_suc-le-suc, not-suc-le-zero}
use lib.ListN.{length, take, drop, get_or}
use lib.Seq.{drop-drop, take-nil, take-take}
use Rattle.rules.specs.Bytes.{Bytes}
use Rattle.rules.specs.Decode.{read_many}

times : (size k : ℕ) → size * suc k ≡ size + size * k
times size k = omega (arith, mul-suc size k)

pub drop_take : {A : Type 0} (k n : ℕ) (l : List A) → drop k (take (k + n) l) ≡ take n (drop k l)
drop_take zero n l = rw zero-add
drop_take (suc k) n [] = ap (λ l. drop (suc k) l) (take-nil (suc k + n)) ∙ sym (take-nil n)
drop_take (suc k) n (x ∷ l) = rw suc-add (drop_take k n l)

module _ {A : Type 0} (f : Bytes → A) (size : ℕ) where
  pub length_many : (count : ℕ) (s : Bytes) → length (read_many f size count s) ≡ count
  length_many zero s = refl
  length_many (suc n) s = ap suc (length_many n (drop size s))

  -- the record with number i
  pub many_at : (i count : ℕ) (s : Bytes) (none : A) → i < count → get_or (read_many f size count s) i none ≡ f (take size (drop (size * i) s))
  many_at i zero s none h = absurd (not-suc-le-zero h)
  many_at zero (suc n) s none h = rw mul-zero
  many_at (suc i) (suc n) s none h = many_at i n (drop size s) none (le_of_suc-le-suc h) ∙ rw (drop-drop (size * i) size s, times size i)

  -- the first n
  pub many_take : (n count : ℕ) (s : Bytes) → n ≤ count → take n (read_many f size count s) ≡ read_many f size n s
  many_take zero count s h = refl
  many_take (suc n) zero s h = absurd (not-suc-le-zero h)
  many_take (suc n) (suc c) s h = ap (λ (l : List A). f (take size s) ∷ l) (many_take n c (drop size s) (le_of_suc-le-suc h))

  -- those after the first n
  pub many_drop : (n count : ℕ) (s : Bytes) → drop n (read_many f size count s) ≡ read_many f size (count - n) (drop (size * n) s)
  many_drop zero count s = let e : count - 0 ≡ count = omega arith in rw (mul-zero, e)
  many_drop (suc n) zero s = let e : 0 - suc n ≡ 0 = omega arith in rw e
  many_drop (suc n) (suc c) s =
      let e : suc c - suc n ≡ c - n = omega arith in
      many_drop n c (drop size s) ∙ rw (e, drop-drop (size * n) size s, times size n)

  -- only their bytes matter
  pub many_within : (n : ℕ) (s : Bytes) → read_many f size n (take (size * n) s) ≡ read_many f size n s
  many_within zero s = refl
  many_within (suc n) s =
      let g : size ≤ size + size * n = omega arith in
      rw (times size n, take-take size (size + size * n) s g, drop_take size (size * n) s) (ap (λ (l : List A). f (take size s) ∷ l) (many_within n (drop size s)))

  -- n of them from number m on are those of a part of the bytes
  pub many_part : (m n count : ℕ) (s : Bytes) → m + n ≤ count → take n (drop m (read_many f size count s)) ≡ read_many f size n (take (size * n) (drop (size * m) s))
  many_part m n count s h =
      rw (many_drop m count s, many_take n (count - m) (drop (size * m) s) (omega arith)) (sym (many_within n (drop (size * m) s)))
