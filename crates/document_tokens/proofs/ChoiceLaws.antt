-- Which token stands at a place, by the tests that the code makes, and the definitions that are opened.
use mathlib.Core.Path.{◌≡◌, refl, sym, ap, ap₂, ◌∙◌}
use mathlib.Core.Bool.{Bool, true, false, ◌&&◌, not, false≢true}
use mathlib.Core.List.{List, [], ◌∷◌}
use Prim.Native.Nat.{ℕ, zero, suc, ◌-◌, ◌<◌, ◌≤◌}
use native.Mathlib.Omega.{arith}
use native.Mathlib.Numerals.{sub-one}
use borrow.Author.Tests.{not-true, not-false, eq-eqb, ne_eqb, lt-ltb, le-ltb}
use lib.Dec.{eqb, ltb}
use lib.ListN.{length, get_or}
use Rattle.rules.specs.Bytes.{Bytes, ascii}
use Rattle.text_scan.specs.Scan.{starts_with}
use Rattle.document_tokens.specs.Tokens.{Declared, kind_of_definition, element_token, attribute_token, text_token, start_end_token, end_token, no_token, tag_token, token_at}
use Rattle.document_tokens.specs.Telling.{stack_of}
use Rattle.document_tokens.proofs.TokenLaws.{of_tag, out_of_tag}

-- ---- in a start tag
module _ (f : Declared) (w o : ℕ) (txt : Bytes) {x : ℕ} (e : x ≡ get_or txt 0 0) where
  pub tag_attribute : x ≡ 32 → tag_token f w o txt ≡ attribute_token f w o txt
  tag_attribute h = rw (eq-eqb (get_or txt 0 0) 32 (sym e ∙ h), tag_token)

  module _ (h : x ≡ 32 → ⊥) {b : Bool} (g : b ≡ eqb (kind_of_definition o f.definitions) 1) where
    pub tag_text : b ≡ true → tag_token f w o txt ≡ text_token w txt
    tag_text q = rw (ne_eqb (get_or txt 0 0) 32 (λ z. h (e ∙ z)), sym g ∙ q, tag_token)

    pub tag_ends : b ≡ false → tag_token f w o txt ≡ start_end_token txt
    tag_ends q = rw (ne_eqb (get_or txt 0 0) 32 (λ z. h (e ∙ z)), sym g ∙ q, tag_token)

-- ---- the definitions that are opened
pub stack_size : (d : ℕ) (a : Bytes) → length (stack_of d a) ≡ d
unfolding stack_of
stack_size zero a = refl
stack_size (suc d) a = ap suc (stack_size d a)

pub stack_top : (d : ℕ) (a : Bytes) {o : ℕ} → (d ≡ 0 → ⊥) → o ≡ get_or a (d - 1) 0 → stack_of d a ≡ o ∷ stack_of (d - 1) a
unfolding stack_of
stack_top zero a h e = absurd (h refl)
stack_top (suc d) a h e = rw (e, sub-one)

pub stack_none : (d : ℕ) (a : Bytes) → d ≡ 0 → stack_of d a ≡ []
unfolding stack_of
stack_none zero a h = refl
stack_none (suc d) a h = absurd (omega arith)

-- ---- the token
module _ (f : Declared) (w : ℕ) (opened : List ℕ) (txt : Bytes) {s : Bool} (e : s ≡ starts_with (ascii "</") txt) where
  -- an element begins, unless too many are opened
  begins : (tag : Bool) → (not tag && not s) ≡ true → token_at f w opened tag txt ≡ out_of_tag f txt opened false (ltb (length opened) 255)
  unfolding token_at
  begins true b = absurd (false≢true b)
  begins false b = ap (λ (a : Bool). out_of_tag f txt opened a (ltb (length opened) 255)) (sym e ∙ not-true s b)

  pub begins_element : (tag : Bool) → (not tag && not s) ≡ true → length opened < 255 → token_at f w opened tag txt ≡ element_token f txt
  begins_element tag b h = begins tag b ∙ ap (out_of_tag f txt opened false) (lt-ltb (length opened) 255 h)

  pub begins_deep : (tag : Bool) → (not tag && not s) ≡ true → 255 ≤ length opened → token_at f w opened tag txt ≡ no_token
  begins_deep tag b h = begins tag b ∙ ap (out_of_tag f txt opened false) (le-ltb (length opened) 255 h)

  -- nothing is opened that could go on or end
  pub goes_nowhere : (tag : Bool) → (not tag && not s) ≡ false → opened ≡ [] → token_at f w opened tag txt ≡ no_token
  unfolding token_at
  goes_nowhere true b h = ap (of_tag f w txt) h
  goes_nowhere false b h = ap₂ (λ (a : Bool) (l : List ℕ). out_of_tag f txt l a (ltb (length opened) 255)) (sym e ∙ not-false s b) h

  pub goes_on : (tag : Bool) {o : ℕ} {others : List ℕ} → tag ≡ true → opened ≡ o ∷ others → token_at f w opened tag txt ≡ tag_token f w o txt
  unfolding token_at
  goes_on true t h = ap (of_tag f w txt) h
  goes_on false t h = absurd (false≢true t)

  pub goes_to_end : (tag : Bool) {o : ℕ} {others : List ℕ} → (not tag && not s) ≡ false → tag ≡ false → opened ≡ o ∷ others → token_at f w opened tag txt ≡ end_token f o (length others) txt
  unfolding token_at
  goes_to_end true b t h = absurd (false≢true (sym t))
  goes_to_end false b t h = ap₂ (λ (a : Bool) (l : List ℕ). out_of_tag f txt l a (ltb (length opened) 255)) (sym e ∙ not-false s b) h
