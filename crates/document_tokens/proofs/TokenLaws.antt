-- A token that is exact: where it ends, and what its numbers are at most.
use mathlib.Core.Path.{◌≡◌, refl, sym, ap, ◌∙◌}
use mathlib.Core.Bool.{Bool, true, false, ◌&&◌, false≢true}
use mathlib.Core.Option.{Option, none, some}
use mathlib.Core.List.{List, [], ◌∷◌, ◌++◌, append_assoc}
use Prim.Native.Nat.{ℕ, zero, suc, ◌+◌, ◌<◌, ◌≤◌}
use native.Mathlib.Omega.{arith}
use borrow.Author.Tests.{leb-true, ltb-true}
use lib.Dec.{eqb, ltb}
use lib.ListN.{length, drop, length-append, length-drop}
use Rattle.rules.specs.Bytes.{Bytes, ascii, eqb_eq}
use Rattle.rules.specs.Preorder.{Deep}
use Rattle.rules.specs.Layout.{FlatRow}
use Rattle.rules.specs.WellFormed.{in_name}
use Rattle.rules.proofs.Words.{and_split}
use Rattle.text_scan.specs.Scan.{first_byte, starts_with, front_while, after_while, no_quote, no_tag, unescaped, value_or}
use Rattle.text_scan.proofs.ScanLaws.{leading_trailing, starts_long}
use Rattle.document_tokens.specs.Tokens.{Declared, Token, kind_of_definition, short_value, token_at, with_rows}
use Rattle.document_tokens.specs.Tokens.{element_token, attribute_token, text_token, start_end_token, end_tag, end_token, no_token, tag_token}

-- ---- fronts
pub leading_short : (p : ℕ → Bool) (txt : Bytes) → length (front_while p txt) + length (after_while p txt) ≡ length txt
leading_short p txt = sym (length-append (front_while p txt) (after_while p txt)) ∙ ap length (leading_trailing p txt)

-- a word in two parts
pub starts_both : (v w txt : Bytes) → starts_with (v ++ w) txt ≡ (starts_with v txt && starts_with w (drop (length v) txt))
unfolding starts_with
starts_both [] w txt = refl
starts_both (x ∷ v) w [] = refl
starts_both (x ∷ v) w (y ∷ txt) = ap (λ (b : Bool). eqb x y && b) (starts_both v w txt) ∙ sym (and_assoc (eqb x y) (starts_with v txt) (starts_with w (drop (length v) txt)))
  where
    and_assoc : (a b c : Bool) → ((a && b) && c) ≡ (a && (b && c))
    and_assoc true b c = refl
    and_assoc false b c = refl

-- a text whose first byte is not 0 is not empty
pub first_there : (k : ℕ) (txt : Bytes) → eqb (first_byte txt) (suc k) ≡ true → 0 < length txt
first_there k [] e = absurd (omega (arith, eqb_eq 0 (suc k) e))
first_there k (x ∷ xs) e = omega arith

pub value_short : (w : ℕ) (o : Option Bytes) → short_value w o ≡ true → length (value_or o) ≤ w
value_short w none e = absurd (false≢true e)
value_short w (some v) e = leb-true (length v) w e

-- ---- an exact token
pub record TokenFits (f : Declared) (w : ℕ) (opened : List ℕ) (txt : Bytes) (t : Token) : Type 0 where
  pub onward : 0 < t.size
  pub within : t.size ≤ length txt
  pub low : t.index ≤ length f.definitions + length f.attributes
  pub short : length t.value ≤ w
  pub deep : t.sort ≡ 1 → length opened < 255

-- the token by the tests that choose it
abbrev in_tag : Declared → ℕ → ℕ → Bytes → Bool → Bool → Token
in_tag f w o txt a b = elim a [ true ↦ attribute_token f w o txt | false ↦ elim b [ true ↦ text_token w txt | false ↦ start_end_token txt ] ]

abbrev pub of_tag : Declared → ℕ → Bytes → List ℕ → Token
of_tag f w txt l = elim l [ [] ↦ no_token | o ∷ others ↦ tag_token f w o txt ]

abbrev pub out_of_tag : Declared → Bytes → List ℕ → Bool → Bool → Token
out_of_tag f txt l a b = elim a [ true ↦ elim l [ [] ↦ no_token | o ∷ others ↦ end_token f o (length others) txt ] | false ↦ elim b [ true ↦ element_token f txt | false ↦ no_token ] ]

module _ (f : Declared) (w : ℕ) (opened : List ℕ) (txt : Bytes) where
  element_fits_lem : length opened < 255 → (element_token f txt).exact ≡ true → TokenFits f w opened txt (element_token f txt)
  element_fits_lem d e =
      let (a, b) = and_split (eqb (first_byte txt) 60) _ e in
      record {
        onward = omega arith;
        within = omega (arith, first_there 59 txt a, leading_short in_name (drop 1 txt), length-drop 1 txt);
        low = omega (arith, ltb-true (element_token f txt).index (length f.definitions) b);
        short = omega arith;
        deep = λ s. d;
      }

  attribute_fits_lem : (o : ℕ) → (attribute_token f w o txt).exact ≡ true → TokenFits f w opened txt (attribute_token f w o txt)
  attribute_fits_lem o e =
      let t : Bytes = after_while in_name (drop 1 txt) in
      let (a, b) = and_split (starts_with (ascii "=\"") t) _ e in
      let (b, x) = and_split (eqb (first_byte (after_while no_quote (drop 2 t))) 34) _ b in
      let (x, y) = and_split (ltb (attribute_token f w o txt).index (length f.attributes)) _ x in
      record {
        onward = omega arith;
        within = omega (
          arith,
          starts_long (ascii "=\"") t a,
          first_there 33 (after_while no_quote (drop 2 t)) b,
          leading_short no_quote (drop 2 t),
          length-drop 2 t,
          leading_short in_name (drop 1 txt),
          length-drop 1 txt,
        );
        low = omega (arith, ltb-true (attribute_token f w o txt).index (length f.attributes) x);
        short = value_short w (unescaped 0 (front_while no_quote (drop 2 t))) y;
        deep = λ s. absurd (omega arith);
      }

  text_fits : (text_token w txt).exact ≡ true → TokenFits f w opened txt (text_token w txt)
  text_fits e =
      let (a, b) = and_split (eqb (first_byte txt) 62) _ e in
      record {
        onward = omega arith;
        within = omega (arith, first_there 61 txt a, leading_short no_tag (drop 1 txt), length-drop 1 txt);
        low = omega arith;
        short = value_short w (unescaped 0 (front_while no_tag (drop 1 txt))) b;
        deep = λ s. absurd (omega arith);
      }

  start_end_fits : (start_end_token txt).exact ≡ true → TokenFits f w opened txt (start_end_token txt)
  start_end_fits e = record { onward = omega arith; within = omega (arith, first_there 61 txt e); low = omega arith; short = omega arith; deep = λ s. absurd (omega arith) }

  end_some : (o others : ℕ) → 0 < length (end_tag f o others)
  end_some o zero = omega arith
  end_some o (suc others) = omega arith

  end_fits : (o others : ℕ) → (end_token f o others txt).exact ≡ true → TokenFits f w opened txt (end_token f o others txt)
  end_fits o others e = record { onward = end_some o others; within = starts_long (end_tag f o others) txt e; low = omega arith; short = omega arith; deep = λ s. absurd (omega arith) }

  tag_fits : (o : ℕ) → (tag_token f w o txt).exact ≡ true → TokenFits f w opened txt (tag_token f w o txt)
  tag_fits o e = by (eqb (first_byte txt) 32) (eqb (kind_of_definition o f.definitions) 1) e
    where
      by : (a b : Bool) → (in_tag f w o txt a b).exact ≡ true → TokenFits f w opened txt (in_tag f w o txt a b)
      by true b e = attribute_fits_lem o e
      by false true e = text_fits e
      by false false e = start_end_fits e

pub token_fits : (f : Declared) (w : ℕ) (opened : List ℕ) (tag : Bool) (txt : Bytes) → (token_at f w opened tag txt).exact ≡ true → TokenFits f w opened txt (token_at f w opened tag txt)
unfolding token_at
token_fits f w opened true txt = by opened
  where
    by : (l : List ℕ) → (of_tag f w txt l).exact ≡ true → TokenFits f w l txt (of_tag f w txt l)
    by [] e = absurd (false≢true e)
    by (o ∷ others) e = tag_fits f w (o ∷ others) txt o e
token_fits f w opened false txt = by (starts_with (ascii "</") txt) (ltb (length opened) 255) refl opened
  where
    by : (a b : Bool) → ltb (length opened) 255 ≡ b → (l : List ℕ) → (out_of_tag f txt l a b).exact ≡ true → TokenFits f w opened txt (out_of_tag f txt l a b)
    by true b d [] e = absurd (false≢true e)
    by true b d (o ∷ others) e = end_fits f w opened txt o (length others) e
    by false true d l e = element_fits_lem f w opened txt (ltb-true _ _ d) e
    by false false d l e = absurd (false≢true e)

-- ---- rows put together
pub with_none : (o : Option (List (Deep FlatRow))) → with_rows [] o ≡ o
with_none none = refl
with_none (some ys) = refl

pub with_append : (a b : List (Deep FlatRow)) (o : Option (List (Deep FlatRow))) → with_rows a (with_rows b o) ≡ with_rows (a ++ b) o
with_append a b none = refl
with_append a b (some ys) = ap (λ (z : List (Deep FlatRow)). some z) (sym (append_assoc a b ys))
