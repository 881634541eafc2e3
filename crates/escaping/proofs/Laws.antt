-- The escape of a value: byte by byte, and of a value with nothing to escape.
use mathlib.Core.Path.{◌≡◌, refl, sym, ap, ap₂, ◌∙◌}
use mathlib.Core.Bool.{Bool, true, false, ◌||◌, false≢true}
use mathlib.Core.List.{[], ◌∷◌, ◌++◌}
use Prim.Native.Nat.{ℕ, suc, ◌+◌, ◌*◌, ◌<◌, ◌≤◌}
use native.Mathlib.Omega.{arith}
use native.Mathlib.Numerals.{add-one}
use borrow.Author.Tests.{ne_eqb}
use lib.Dec.{eqb}
use lib.ListN.{length, drop, get_or, length-append, drop_of_length-le}
use lib.Seq.{drop-cons}
use Rattle.rules.specs.Bytes.{Bytes, ascii}
use Rattle.rules.specs.Print.{escape_byte, escape}
use Rattle.codec.specs.Laid.{Laid}
use Rattle.codec.proofs.Writers.{laid_none, laid_then, laid_as, laid_long}

-- an escape, by the four tests
abbrev escape_by : ℕ → Bool → Bool → Bool → Bool → Bytes
escape_by x a b c d =
    elim a [ true ↦ ascii "&amp;" | false ↦ elim b [ true ↦ ascii "&lt;" | false ↦ elim c [ true ↦ ascii "&gt;" | false ↦ elim d [ true ↦ ascii "&quot;" | false ↦ x ∷ [] ] ] ] ]

pub escape_other : (x : ℕ) → (x ≡ 38 → ⊥) → (x ≡ 60 → ⊥) → (x ≡ 62 → ⊥) → (x ≡ 34 → ⊥) → escape_byte x ≡ x ∷ []
escape_other x a b c d = λ i. escape_by x (ne_eqb x 38 a i) (ne_eqb x 60 b i) (ne_eqb x 62 c i) (ne_eqb x 34 d i)

escape_one : (x : ℕ) → length (escape_byte x) ≤ 6
escape_one x = by (eqb x 38) (eqb x 60) (eqb x 62) (eqb x 34)
  where
    by : (a b c d : Bool) → length (escape_by x a b c d) ≤ 6
    by true b c d = omega arith
    by false true c d = omega arith
    by false false true d = omega arith
    by false false false true = omega arith
    by false false false false = omega arith

pub escape_length : (v : Bytes) → length (escape v) ≤ 6 * length v
escape_length [] = omega arith
escape_length (x ∷ v) = omega (arith, length-append (escape_byte x) (escape v), escape_one x, escape_length v)

-- a byte that is not escaped
escape_plain : (x : ℕ) → (((eqb x 38 || eqb x 60) || eqb x 62) || eqb x 34) ≡ false → escape_byte x ≡ x ∷ []
escape_plain x e = by (eqb x 38) (eqb x 60) (eqb x 62) (eqb x 34) e
  where
    by : (a b c d : Bool) → (((a || b) || c) || d) ≡ false → escape_by x a b c d ≡ x ∷ []
    by true b c d e = absurd (false≢true (sym e))
    by false true c d e = absurd (false≢true (sym e))
    by false false true d e = absurd (false≢true (sym e))
    by false false false true e = absurd (false≢true (sym e))
    by false false false false e = refl

-- the loop that looks for a byte that is escaped: if the rest has none, the whole has none
pub plain_on : (v : Bytes) (i : ℕ) → i < length v → (((eqb (get_or v i 0) 38 || eqb (get_or v i 0) 60) || eqb (get_or v i 0) 62) || eqb (get_or v i 0) 34) ≡ false
    → (escape (drop i v) ≡ drop i v → escape v ≡ v) → escape (drop (i + 1) v) ≡ drop (i + 1) v → escape v ≡ v
plain_on v i h e inv p =
    let one : drop i v ≡ get_or v i 0 ∷ drop (i + 1) v = drop-cons v i 0 h ∙ ap (λ (k : ℕ). get_or v i 0 ∷ drop k v) (sym (add-one i)) in
    inv (ap escape one ∙ ap₂ (λ (a b : Bytes). a ++ b) (escape_plain (get_or v i 0) e) p ∙ sym one)

pub plain_end : (v : Bytes) (i : ℕ) → length v ≤ i → (escape (drop i v) ≡ drop i v → escape v ≡ v) → escape v ≡ v
plain_end v i h inv = inv (ap escape (drop_of_length-le v {i = i} h) ∙ sym (drop_of_length-le v {i = i} h))

-- the loop over a value's bytes: once what is left is written, all is
pub record Escaping (v out₀ : Bytes) (at₀ : ℕ) (out : Bytes) (at i : ℕ) : Type 0 where
  pub goes : (r : ℕ) (out'' : Bytes) → Laid (escape (drop i v)) out at r out'' → Laid (escape v) out₀ at₀ r out''
  pub small : at ≤ at₀ + 6 * i
  pub inside : i ≤ length v
  pub long : length out ≡ length out₀

pub escaping_on : (v : Bytes) {out₀ : Bytes} {at₀ : ℕ} {out : Bytes} {at i : ℕ} {at' : ℕ} {out' : Bytes} (x : ℕ) → Escaping v out₀ at₀ out at i → i < length v
    → x ≡ get_or v i 0 → Laid (escape_byte x) out at at' out' → Escaping v out₀ at₀ out' at' (i + 1)
escaping_on v {i = i} x s h e l =
    record {
      goes = λ r o m. s.goes r o
          (laid_as
          (ap escape (drop-cons v i 0 h) ∙ ap (λ (z : ℕ). escape_byte z ++ escape (drop (suc i) v)) (sym e)
          ∙ ap (λ (k : ℕ). escape_byte x ++ escape (drop k v)) (sym (add-one i)))
          (laid_then l m));
      small = omega (arith, s.small, l.next, escape_one x);
      inside = omega arith;
      long = laid_long l ∙ s.long;
    }

pub escaping_done : (v : Bytes) {out₀ : Bytes} {at₀ : ℕ} {out : Bytes} {at i : ℕ} → Escaping v out₀ at₀ out at i → length v ≤ i → Laid (escape v) out₀ at₀ at out
escaping_done v {at = at} {i = i} s h = s.goes at _ (laid_as (ap escape (drop_of_length-le v {i = i} h)) laid_none)
