-- Byte strings, as lists of numbers, and words on lists.
use Rattle.std.specs.Prelude.{ℕ, ◌≡◌, refl, Bool, true, false, ◌&&◌, ◌||◌, List, [], ◌∷◌, ◌++◌, eqb, leb, T}
use Prim.Native.String.{String}
use Prim.Native.Char.{code}
use Rattle.std.proofs.Common.{ap, ap₂, ◌∙◌, sym, eqb→eq}
use Rattle.std.proofs.lemmas.Bool.{false≢true}
use Rattle.std.proofs.Math.Dec.{eqb_refl}
use Rattle.rules.specs.Model.{Equality}

abbrev pub Bytes : Type 0
Bytes = List ℕ

-- two byte strings are equal, byte by byte
abbrev pub same : Bytes → Bytes → Bool
same [] [] = true
same [] (y ∷ ys) = false
same (x ∷ xs) [] = false
same (x ∷ xs) (y ∷ ys) = eqb x y && same xs ys

-- the bytes of a text of ASCII
abbrev pub ascii : String → Bytes
ascii String.[] = []
ascii (String.◌∷◌ c s) = code c ∷ ascii s

-- every entry passes a test; some entry does
abbrev pub all : {A : Type 0} → (A → Bool) → List A → Bool
all p [] = true
all p (x ∷ xs) = p x && all p xs

abbrev pub any : {A : Type 0} → (A → Bool) → List A → Bool
any p [] = false
any p (x ∷ xs) = p x || any p xs

abbrev pub concat : {A : Type 0} → List (List A) → List A
concat [] = []
concat (x ∷ xs) = x ++ concat xs

abbrev pub between : ℕ → ℕ → ℕ → Bool
between a b x = leb a x && leb x b

abbrev pub is_none : {A : Type 0} → List A → Bool
is_none [] = true
is_none (x ∷ xs) = false

-- ---- the test decides equality
pub of_T : {b : Bool} → T b → b ≡ true
of_T {b = true} t = refl
of_T {b = false} t = absurd t

pub to_T : {b : Bool} → b ≡ true → T b
to_T {b = true} e = tt
to_T {b = false} e = absurd (false≢true e)

pub and_left : (a b : Bool) → (a && b) ≡ true → a ≡ true
and_left true b h = refl
and_left false b h = h

pub and_right : (a b : Bool) → (a && b) ≡ true → b ≡ true
and_right true b h = h
and_right false b h = absurd (false≢true h)

pub and_both : {a b : Bool} → a ≡ true → b ≡ true → (a && b) ≡ true
and_both {a = true} x y = y
and_both {a = false} x y = x

pub eqb_eq : (m n : ℕ) → eqb m n ≡ true → m ≡ n
eqb_eq m n h = eqb→eq m n (to_T h)

pub same_eq : (x y : Bytes) → same x y ≡ true → x ≡ y
same_eq [] [] h = refl
same_eq [] (y ∷ ys) h = absurd (false≢true h)
same_eq (x ∷ xs) [] h = absurd (false≢true h)
same_eq (x ∷ xs) (y ∷ ys) h = ap₂ (λ (a : ℕ) (b : Bytes). a ∷ b) (eqb_eq x y (and_left (eqb x y) (same xs ys) h)) (same_eq xs ys (and_right (eqb x y) (same xs ys) h))

pub same_refl : (n : Bytes) → same n n ≡ true
same_refl [] = refl
same_refl (x ∷ xs) = and_both {a = eqb x x} (of_T (eqb_refl x)) (same_refl xs)

abbrev pub bytes : Equality Bytes
bytes = record { same = same; same→ = same_eq; same← = λ x y e. ap (λ (z : Bytes). same x z) (sym e) ∙ same_refl x }

pub eqb_of : (x y : ℕ) → x ≡ y → eqb x y ≡ true
eqb_of x y e = ap (λ (z : ℕ). eqb x z) (sym e) ∙ of_T (eqb_refl x)

abbrev pub numbers : Equality ℕ
numbers = record { same = eqb; same→ = eqb_eq; same← = eqb_of }
