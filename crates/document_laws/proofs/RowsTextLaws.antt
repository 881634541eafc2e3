-- Laws on the text of rows, one for each token.
use Prim.Native.Nat.{ℕ, suc, ◌≤◌, ◌<◌}
use native.Mathlib.Omega.{arith}
use mathlib.Core.Path.{◌≡◌, refl, sym, ap, ◌∙◌}
use mathlib.Core.Bool.{Bool, true, false}
use mathlib.Core.List.{List, [], ◌∷◌, ◌++◌, append_assoc}
use lib.Dec.{ltb}
use lib.ListN.{length}
use borrow.Author.Tests.{lt-ltb, le-ltb, ltb-true, ltb-false}
use Rattle.rules.specs.Bytes.{Bytes}
use Rattle.rules.specs.Store.{RowSort, element, attribute, text}
use Rattle.rules.specs.Preorder.{Deep}
use Rattle.rules.specs.Layout.{FlatRow}
use Rattle.rules.specs.Decode.{row_sort_of, name_at}
use Rattle.rules.specs.Print.{escape}
use Rattle.rules.proofs.PreorderLaws.{Ends}
use Rattle.reading_rules.proofs.Models.{NameStops}
use Rattle.reading_rules.proofs.Declarations.{name_stops}
use Rattle.reading_rules.proofs.Documents.{start_sign}
use Rattle.document_tokens.specs.Tokens.{Declared, declared_names, end_tag}
use Rattle.document_laws.specs.RowsText.{end_tags, opened_above, attribute_names_in, text_of_row, text_of_rows}

-- the first row is no deeper than what is opened, and an element where it is as deep and the start tag is ended
pub record Next (opened : List ℕ) (tag : Bool) (x : Deep FlatRow) : Type 0 where
  pub depth : x.depth ≤ length opened
  pub sort : tag ≡ false → x.depth ≡ length opened → row_sort_of x.row.sort ≡ element

abbrev pub Follows : List ℕ → Bool → List (Deep FlatRow) → Type 0
Follows opened tag [] = Unit {0}
Follows opened tag (x ∷ xs) = Next opened tag x

-- ---- a row by its sort
module _ (f : Declared) (opened : List ℕ) (tag : Bool) (r : FlatRow) (rest : List ℕ → Bool → Bytes) where
  element_text_lem : row_sort_of r.sort ≡ element → text_of_row f opened tag r rest ≡ start_sign tag ++ (60 ∷ (name_at r.index (declared_names f) ++ rest (r.index ∷ opened) true))
  element_text_lem e = rw (e, text_of_row)

  attribute_text_lem : row_sort_of r.sort ≡ attribute
      → text_of_row f opened tag r rest ≡ 32 ∷ (name_at r.index (attribute_names_in f) ++ (61 ∷ 34 ∷ (escape r.value ++ (34 ∷ rest opened tag))))
  attribute_text_lem e = rw (e, text_of_row)

  content_text_lem : row_sort_of r.sort ≡ text → text_of_row f opened tag r rest ≡ start_sign tag ++ (escape r.value ++ rest opened false)
  content_text_lem e = rw (e, text_of_row)

-- ---- what is ended before a row
ended_none : (f : Declared) (d : ℕ) (opened : List ℕ) → length opened ≤ d → end_tags f d opened ≡ []
unfolding end_tags
ended_none f d [] l = refl
ended_none f d (o ∷ others) l = rw (le-ltb d (suc (length others)) l, end_tags)

kept_all : (d : ℕ) (opened : List ℕ) → length opened ≤ d → opened_above d opened ≡ opened
unfolding opened_above
kept_all d [] l = refl
kept_all d (o ∷ others) l = rw (le-ltb d (suc (length others)) l, opened_above)

ended_one : (f : Declared) (d o : ℕ) (others : List ℕ) → d < suc (length others) → end_tags f d (o ∷ others) ≡ end_tag f o (length others) ++ end_tags f d others
unfolding end_tags
ended_one f d o others l = rw (lt-ltb d (suc (length others)) l, end_tags)

kept_less : (d o : ℕ) (others : List ℕ) → d < suc (length others) → opened_above d (o ∷ others) ≡ opened_above d others
unfolding opened_above
kept_less d o others l = rw (lt-ltb d (suc (length others)) l, opened_above)

-- ---- a row that is as deep as what is opened, and one that is not
pub text_deep : (f : Declared) (opened : List ℕ) (tag : Bool) (x : Deep FlatRow) (xs : List (Deep FlatRow)) → length opened ≤ x.depth
    → text_of_rows f opened tag (x ∷ xs) ≡ text_of_row f opened tag x.row (λ o t. text_of_rows f o t xs)
unfolding text_of_rows
text_deep f opened tag x xs l = rw (le-ltb x.depth (length opened) l, text_of_rows)

text_shallow : (f : Declared) (opened : List ℕ) (tag : Bool) (x : Deep FlatRow) (xs : List (Deep FlatRow)) → x.depth < length opened
    → text_of_rows f opened tag (x ∷ xs) ≡ start_sign tag ++ (end_tags f x.depth opened ++ text_of_row f (opened_above x.depth opened) false x.row (λ o t. text_of_rows f o t xs))
unfolding text_of_rows
text_shallow f opened tag x xs l = rw (lt-ltb x.depth (length opened) l, text_of_rows)

-- .. which are one where the start tag is ended
text_ended : (f : Declared) (opened : List ℕ) (x : Deep FlatRow) (xs : List (Deep FlatRow))
    → text_of_rows f opened false (x ∷ xs) ≡ end_tags f x.depth opened ++ text_of_row f (opened_above x.depth opened) false x.row (λ o t. text_of_rows f o t xs)
text_ended f opened x xs = by (ltb x.depth (length opened)) refl
  where
    by : (b : Bool) → ltb x.depth (length opened) ≡ b
        → text_of_rows f opened false (x ∷ xs) ≡ end_tags f x.depth opened ++ text_of_row f (opened_above x.depth opened) false x.row (λ o t. text_of_rows f o t xs)
    by true e = text_shallow f opened false x xs (omega (arith, ltb-true x.depth (length opened) e))
    by false e =
        let l : length opened ≤ x.depth = ltb-false x.depth (length opened) e in
        rw (ended_none f x.depth opened l, kept_all x.depth opened l) (text_deep f opened false x xs l)

-- ---- tokens
pub ends_none : (f : Declared) (others : List ℕ) → text_of_rows f others false [] ≡ end_tags f 0 others
unfolding text_of_rows end_tags
ends_none f [] = refl
ends_none f (o ∷ others) = refl

pub text_end : (f : Declared) (o : ℕ) (others : List ℕ) (tag : Bool) (rows : List (Deep FlatRow)) → Ends (suc (length others)) rows
    → text_of_rows f (o ∷ others) tag rows ≡ start_sign tag ++ (end_tag f o (length others) ++ text_of_rows f others false rows)
text_end f o others tag [] l = rw (ends_none f others) (last f o others tag)
  where
    last : (f : Declared) (o : ℕ) (others : List ℕ) (tag : Bool) → text_of_rows f (o ∷ others) tag [] ≡ start_sign tag ++ (end_tag f o (length others) ++ end_tags f 0 others)
    last f o others tag = unfold text_of_rows in ap (λ (z : Bytes). start_sign tag ++ z) (ended_one f 0 o others (omega arith))
text_end f o others tag (x ∷ xs) l =
    rw (text_shallow f (o ∷ others) tag x xs l, ended_one f x.depth o others l, kept_less x.depth o others l, text_ended f others x xs)
    (ap (λ (z : Bytes). start_sign tag ++ z) (append_assoc (end_tag f o (length others)) (end_tags f x.depth others) _))

pub text_start : (f : Declared) (o : ℕ) (others : List ℕ) (rows : List (Deep FlatRow)) → Follows (o ∷ others) false rows
    → text_of_rows f (o ∷ others) true rows ≡ 62 ∷ text_of_rows f (o ∷ others) false rows
text_start f o others [] n = unfold text_of_rows in refl
text_start f o others (x ∷ xs) n = by (ltb x.depth (suc (length others))) refl
  where
    by : (b : Bool) → ltb x.depth (suc (length others)) ≡ b → text_of_rows f (o ∷ others) true (x ∷ xs) ≡ 62 ∷ text_of_rows f (o ∷ others) false (x ∷ xs)
    by true e =
        let l : x.depth < suc (length others) = ltb-true x.depth (suc (length others)) e in
        rw (text_shallow f (o ∷ others) true x xs l, text_shallow f (o ∷ others) false x xs l)
    by false e =
        let l : suc (length others) ≤ x.depth = ltb-false x.depth (suc (length others)) e in
        let q : row_sort_of x.row.sort ≡ element = n.sort refl (omega arith) in
        rw (text_deep f (o ∷ others) true x xs l, text_deep f (o ∷ others) false x xs l)
        (element_text_lem f (o ∷ others) true x.row (λ p t. text_of_rows f p t xs) q ∙ ap (λ (z : Bytes). 62 ∷ z) (sym (element_text_lem f (o ∷ others) false x.row (λ p t. text_of_rows f p t xs) q)))

module _ (f : Declared) (opened : List ℕ) (x : Deep FlatRow) (xs : List (Deep FlatRow)) (deep : length opened ≤ x.depth) where
  pub text_element : (tag : Bool) → row_sort_of x.row.sort ≡ element
      → text_of_rows f opened tag (x ∷ xs) ≡ start_sign tag ++ (60 ∷ (name_at x.row.index (declared_names f) ++ text_of_rows f (x.row.index ∷ opened) true xs))
  text_element tag e = text_deep f opened tag x xs deep ∙ element_text_lem f opened tag x.row (λ o t. text_of_rows f o t xs) e

  pub text_attribute : (tag : Bool) → row_sort_of x.row.sort ≡ attribute
      → text_of_rows f opened tag (x ∷ xs) ≡ 32 ∷ (name_at x.row.index (attribute_names_in f) ++ (61 ∷ 34 ∷ (escape x.row.value ++ (34 ∷ text_of_rows f opened tag xs))))
  text_attribute tag e = text_deep f opened tag x xs deep ∙ attribute_text_lem f opened tag x.row (λ o t. text_of_rows f o t xs) e

  pub text_content : (tag : Bool) → row_sort_of x.row.sort ≡ text → text_of_rows f opened tag (x ∷ xs) ≡ start_sign tag ++ (escape x.row.value ++ text_of_rows f opened false xs)
  text_content tag e = text_deep f opened tag x xs deep ∙ content_text_lem f opened tag x.row (λ o t. text_of_rows f o t xs) e

-- after the name in a start tag no byte of a name comes
pub text_stops : (f : Declared) (o : ℕ) (others : List ℕ) (rows : List (Deep FlatRow)) → NameStops (text_of_rows f (o ∷ others) true rows)
text_stops f o others [] = unfold text_of_rows in name_stops 62 _ refl
text_stops f o others (x ∷ xs) = by (ltb x.depth (suc (length others))) refl
  where
    by : (b : Bool) → ltb x.depth (suc (length others)) ≡ b → NameStops (text_of_rows f (o ∷ others) true (x ∷ xs))
    by true e = rw (text_shallow f (o ∷ others) true x xs (ltb-true x.depth (suc (length others)) e)) (name_stops 62 _ refl)
    by false e = sorted (row_sort_of x.row.sort) refl
      where
        deep : suc (length others) ≤ x.depth
        deep = ltb-false x.depth (suc (length others)) e

        sorted : (s : RowSort) → row_sort_of x.row.sort ≡ s → NameStops (text_of_rows f (o ∷ others) true (x ∷ xs))
        sorted element q = rw (text_element f (o ∷ others) x xs deep true q) (name_stops 62 _ refl)
        sorted attribute q = rw (text_attribute f (o ∷ others) x xs deep true q) (name_stops 32 _ refl)
        sorted text q = rw (text_content f (o ∷ others) x xs deep true q) (name_stops 62 _ refl)
