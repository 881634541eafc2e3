-- Facts on tests over lists: entry by entry, by membership, of lists one after the other, and of a value behind a test.
use Prim.Native.Nat.{ℕ, zero, suc}
use native.Mathlib.Omega.{arith}
use mathlib.Core.Path.{◌≡◌, refl, ap, sym, ◌∙◌}
use mathlib.Core.Logic.{⊎_elim}
use mathlib.Core.Bool.{Bool, true, false, ◌&&◌, ◌||◌, false≢true, and_assoc}
use mathlib.Core.Option.{Option, none, some}
use mathlib.Core.List.Memᴰ
use mathlib.Core.List.{List, [], ◌∷◌, ◌++◌, map, append_assoc, map-append, Memᴰ}
use lib.Dec.{eqb}
use lib.ListN.{length, take, drop}
use borrow.Author.Tests.{ne_eqb}
use Rattle.rules.specs.Bytes.{Bytes, same, bytes, all, any, concat, is_none, and_left, and_right}
use Rattle.rules.specs.Model.{member}
use Rattle.rules.proofs.Words.{and_both, and_split, or_left, or_right, or_cases}

-- ---- every entry
abbrev pub Every : {A : Type 0} → (A → Type 0) → List A → Type 0
Every P [] = Unit {0}
Every P (x ∷ xs) = P x × Every P xs

pub every_of : {A : Type 0} (p : A → Bool) (xs : List A) → all p xs ≡ true → Every (λ x. p x ≡ true) xs
every_of p [] h = tt
every_of p (x ∷ xs) h = (and_left (p x) (all p xs) h, every_of p xs (and_right (p x) (all p xs) h))

pub every_map : {A : Type 0} (P Q : A → Type 0) (xs : List A) → ((x : A) → P x → Q x) → Every P xs → Every Q xs
every_map P Q [] f a = tt
every_map P Q (x ∷ xs) f a = (f x a.0, every_map P Q xs f a.1)

pub every_append : {A : Type 0} (P : A → Type 0) (xs ys : List A) → Every P xs → Every P ys → Every P (xs ++ ys)
every_append P [] ys a b = b
every_append P (x ∷ xs) ys a b = (a.0, every_append P xs ys a.1 b)

pub every_left : {A : Type 0} (P : A → Type 0) (xs ys : List A) → Every P (xs ++ ys) → Every P xs
every_left P [] ys a = tt
every_left P (x ∷ xs) ys a = (a.0, every_left P xs ys a.1)

pub every_right : {A : Type 0} (P : A → Type 0) (xs ys : List A) → Every P (xs ++ ys) → Every P ys
every_right P [] ys a = a
every_right P (x ∷ xs) ys a = every_right P xs ys a.1

pub every_take : {A : Type 0} (P : A → Type 0) (k : ℕ) (xs : List A) → Every P xs → Every P (take k xs)
every_take P zero xs a = tt
every_take P (suc k) [] a = tt
every_take P (suc k) (x ∷ xs) a = (a.0, every_take P k xs a.1)

pub every_drop : {A : Type 0} (P : A → Type 0) (k : ℕ) (xs : List A) → Every P xs → Every P (drop k xs)
every_drop P zero xs a = a
every_drop P (suc k) [] a = tt
every_drop P (suc k) (x ∷ xs) a = every_drop P k xs a.1

pub every_zip : {A : Type 0} (P Q R : A → Type 0) (xs : List A) → ((x : A) → P x → Q x → R x) → Every P xs → Every Q xs → Every R xs
every_zip P Q R [] f a b = tt
every_zip P Q R (x ∷ xs) f a b = (f x a.0 b.0, every_zip P Q R xs f a.1 b.1)

pub every_in : {A : Type 0} (P : A → Type 0) (xs : List A) → ((x : A) → Memᴰ x xs → P x) → Every P xs
every_in P [] f = tt
every_in P (x ∷ xs) f = (f x (Memᴰ.head refl), every_in P xs (λ y m. f y (Memᴰ.tail m)))

pub every_at : {A : Type 0} (P : A → Type 0) (x : A) (xs : List A) → Every P xs → Memᴰ x xs → P x
every_at P x [] a m = absurd (Memᴰ.not-nil m)
every_at P x (y ∷ ys) a m = ⊎_elim (λ e. rw e a.0) (every_at P x ys a.1) (Memᴰ.cases_cons m)

pub every_any : {A : Type 0} (xs : List A) → Every (λ x. Unit {0}) xs
every_any [] = tt
every_any (x ∷ xs) = (tt, every_any xs)

-- ---- the tests
pub all_left : {A : Type 0} (p : A → Bool) (xs ys : List A) → all p (xs ++ ys) ≡ true → all p xs ≡ true
all_left p [] ys h = refl
all_left p (x ∷ xs) ys h = rw (and_left (p x) (all p (xs ++ ys)) h) (all_left p xs ys (and_right (p x) (all p (xs ++ ys)) h))

pub all_right : {A : Type 0} (p : A → Bool) (xs ys : List A) → all p (xs ++ ys) ≡ true → all p ys ≡ true
all_right p [] ys h = h
all_right p (x ∷ xs) ys h = all_right p xs ys (and_right (p x) (all p (xs ++ ys)) h)

pub all_of : {A : Type 0} (p : A → Bool) (xs : List A) → ((x : A) → Memᴰ x xs → p x ≡ true) → all p xs ≡ true
all_of p [] f = refl
all_of p (x ∷ xs) f = and_both (f x (Memᴰ.head refl)) (all_of p xs (λ y m. f y (Memᴰ.tail m)))

pub all_in : {A : Type 0} (p : A → Bool) (x : A) (xs : List A) → all p xs ≡ true → Memᴰ x xs → p x ≡ true
all_in p x [] h m = absurd (Memᴰ.not-nil m)
all_in p x (y ∷ ys) h m =
    let (a, b) = and_split (p y) (all p ys) h in
    ⊎_elim (λ e. ap p e ∙ a) (all_in p x ys b) (Memᴰ.cases_cons m)

pub any_in : {A : Type 0} (p : A → Bool) (x : A) (xs : List A) → Memᴰ x xs → p x ≡ true → any p xs ≡ true
any_in p x [] m h = absurd (Memᴰ.not-nil m)
any_in p x (y ∷ ys) m h = ⊎_elim (λ e. or_left (any p ys) (ap p (sym e) ∙ h)) (λ k. or_right (p y) (any_in p x ys k h)) (Memᴰ.cases_cons m)

pub any_more : {A : Type 0} (p q : A → Bool) (xs : List A) → ((x : A) → p x ≡ true → q x ≡ true) → any p xs ≡ true → any q xs ≡ true
any_more p q [] f h = h
any_more p q (x ∷ xs) f h = ⊎_elim (λ e. or_left (any q xs) (f x e)) (λ k. or_right (q x) (any_more p q xs f k)) (or_cases (p x) (any p xs) h)

pub all_map : {A B : Type 0} (p : B → Bool) (f : A → B) (xs : List A) → all p (map f xs) ≡ all (λ x. p (f x)) xs
all_map p f [] = refl
all_map p f (x ∷ xs) = ap (λ (b : Bool). p (f x) && b) (all_map p f xs)

pub any_map : {A B : Type 0} (p : B → Bool) (f : A → B) (xs : List A) → any p (map f xs) ≡ any (λ x. p (f x)) xs
any_map p f [] = refl
any_map p f (x ∷ xs) = ap (λ (b : Bool). p (f x) || b) (any_map p f xs)

pub none_nil : {A : Type 0} (xs : List A) → is_none xs ≡ true → xs ≡ []
none_nil [] h = refl
none_nil (x ∷ xs) h = absurd (false≢true h)

pub none_long : {A : Type 0} (xs : List A) → eqb (length xs) 0 ≡ is_none xs
none_long [] = refl
none_long (x ∷ xs) = ne_eqb (suc (length xs)) 0 (λ e. omega arith)

-- a value behind a test is there if and only if the test holds
pub guard_true : {A : Type 0} (b : Bool) (o : Option A) → b ≡ true → elim b [ true ↦ o | false ↦ none ] ≡ o
guard_true true o e = refl
guard_true false o e = absurd (false≢true e)

pub guard_some : {A : Type 0} (b : Bool) (o : Option A) (x : A) → elim b [ true ↦ o | false ↦ none ] ≡ some x → (b ≡ true) × (o ≡ some x)
guard_some true o x h = (refl, h)
guard_some false o x h = let e : ◌≡◌ {A = ℕ} 0 1 = cc in absurd (omega arith)

-- ---- of two lists
pub all_append : {A : Type 0} (p : A → Bool) (xs ys : List A) → all p (xs ++ ys) ≡ (all p xs && all p ys)
all_append p [] ys = refl
all_append p (x ∷ xs) ys = ap (λ (b : Bool). p x && b) (all_append p xs ys) ∙ sym (and_assoc (p x) (all p xs) (all p ys))

pub any_append : {A : Type 0} (p : A → Bool) (xs ys : List A) → any p (xs ++ ys) ≡ (any p xs || any p ys)
any_append p [] ys = refl
any_append p (x ∷ xs) ys = by (p x) (any_append p xs ys)
  where
    by : (b : Bool) → any p (xs ++ ys) ≡ (any p xs || any p ys) → (b || any p (xs ++ ys)) ≡ ((b || any p xs) || any p ys)
    by true e = refl
    by false e = e

pub member_append : (n : Bytes) (xs ys : List Bytes) → member bytes n (xs ++ ys) ≡ (member bytes n xs || member bytes n ys)
unfolding member
member_append n [] ys = refl
member_append n (x ∷ xs) ys = by (same n x) (member_append n xs ys)
  where
    by : (b : Bool) → member bytes n (xs ++ ys) ≡ (member bytes n xs || member bytes n ys)
        → elim b as (λ z. Bool) [ true ↦ true | false ↦ member bytes n (xs ++ ys) ] ≡ (elim b as (λ z. Bool) [ true ↦ true | false ↦ member bytes n xs ] || member bytes n ys)
    by true e = refl
    by false e = e

-- ---- of many lists, one after the other
pub concat_append : {A : Type 0} (xs ys : List (List A)) → concat (xs ++ ys) ≡ concat xs ++ concat ys
concat_append [] ys = refl
concat_append (x ∷ xs) ys = ap (λ (l : List _). x ++ l) (concat_append xs ys) ∙ sym (append_assoc x (concat xs) (concat ys))

pub lines_append : (xs ys : List (List Bytes)) → concat (map concat (xs ++ ys)) ≡ concat (map concat xs) ++ concat (map concat ys)
lines_append xs ys = ap concat (map-append concat xs ys) ∙ concat_append (map concat xs) (map concat ys)
