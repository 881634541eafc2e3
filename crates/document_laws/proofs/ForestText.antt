-- The text of the rows of a forest is what the forest is printed as: by induction over the forest, with the laws for
-- each token.
use Prim.Native.Nat.{ℕ, suc}
use native.Mathlib.Omega.{arith}
use mathlib.Core.Path.{◌≡◌, refl, sym, ap, ◌∙◌}
use mathlib.Core.Bool.{Bool, true, false}
use mathlib.Core.List.{List, [], ◌∷◌, ◌++◌, map, append_assoc}
use lib.ListN.{length}
use Rattle.rules.specs.Bytes.{Bytes, ascii, concat}
use Rattle.rules.specs.Store.{RowSort, element, attribute, text, Row, Forest, bare, tree}
use Rattle.rules.specs.Preorder.{Deep, preorder}
use Rattle.rules.specs.Layout.{FlatRow}
use Rattle.rules.specs.Decode.{name_at, row_sort_of, row_name, read_rows}
use Rattle.rules.specs.Print.{Tokens, escape, row_tokens, document_lines}
use Rattle.rules.proofs.PreorderLaws.{Ends, ends_after}
use Rattle.rules.proofs.BooleanLaws.{concat_append}
use Rattle.reading_rules.proofs.Documents.{start_sign}
use Rattle.document_tokens.specs.Tokens.{Declared, declared_names}
use Rattle.document_laws.specs.RowsText.{attribute_names_in, text_of_rows}
use Rattle.document_laws.proofs.RowsTextLaws.{text_end, text_element, text_attribute, text_content}

-- ---- tokens before a rest
module _ (sign : Bytes) (r : Row) (b t : Forest Row) (z : Bytes) where
  element_printed : r.sort ≡ element
      → concat (row_tokens sign (tree r b t)) ++ z ≡ sign ++ (60 ∷ (r.name ++ (concat (row_tokens (ascii ">") b) ++ (60 ∷ 47 ∷ (r.name ++ (62 ∷ (concat (row_tokens [] t) ++ z)))))))
  element_printed e = rw (e, row_tokens) (simp (concat_append, append_assoc))

  attribute_printed : r.sort ≡ attribute
      → concat (row_tokens sign (tree r b t)) ++ z ≡ 32 ∷ (r.name ++ (61 ∷ 34 ∷ (escape r.value ++ (34 ∷ (concat (row_tokens sign t) ++ z)))))
  attribute_printed e = rw (e, row_tokens) (simp append_assoc)

  text_printed : r.sort ≡ text → concat (row_tokens sign (tree r b t)) ++ z ≡ sign ++ (escape r.value ++ (concat (row_tokens [] t) ++ z))
  text_printed e = rw (e, row_tokens) (simp append_assoc)

line_printed : (n : Bytes) (ws : Tokens) (z : Bytes)
    → concat (ascii "<" ∷ n ∷ ws ++ (ascii "</" ∷ n ∷ ascii ">\n" ∷ [])) ++ z ≡ 60 ∷ (n ++ (concat ws ++ (60 ∷ 47 ∷ (n ++ (62 ∷ 10 ∷ z)))))
line_printed n ws z =
    let e : concat (ws ++ (ascii "</" ∷ n ∷ ascii ">\n" ∷ [])) ≡ concat ws ++ (60 ∷ 47 ∷ (n ++ (62 ∷ 10 ∷ []))) = concat_append ws (ascii "</" ∷ n ∷ ascii ">\n" ∷ []) in
    let h : (n ++ (62 ∷ 10 ∷ [])) ++ z ≡ n ++ (62 ∷ 10 ∷ z) = append_assoc n (62 ∷ 10 ∷ []) z in
    ap (λ (y : Bytes). 60 ∷ ((n ++ y) ++ z)) e
    ∙ ap (λ (y : Bytes). 60 ∷ y) (append_assoc n (concat ws ++ (60 ∷ 47 ∷ (n ++ (62 ∷ 10 ∷ [])))) z)
    ∙ ap (λ (y : Bytes). 60 ∷ (n ++ y)) (append_assoc (concat ws) (60 ∷ 47 ∷ (n ++ (62 ∷ 10 ∷ []))) z)
    ∙ ap (λ (y : Bytes). 60 ∷ (n ++ (concat ws ++ (60 ∷ 47 ∷ y)))) h

document_printed : (r : Row) (b t : Forest Row)
    → concat (map concat (document_lines (tree r b t))) ≡ 60 ∷ (r.name ++ (concat (row_tokens (ascii ">") b) ++ (60 ∷ 47 ∷ (r.name ++ (62 ∷ 10 ∷ concat (map concat (document_lines t)))))))
document_printed r b t = line_printed r.name (row_tokens (ascii ">") b) (concat (map concat (document_lines t)))

-- ---- rows below an element
-- only elements hold rows
unfoldable pub Leaves : Forest FlatRow → Type 0
Leaves bare = Unit {0}
Leaves (tree r b t) = ((row_sort_of r.sort ≡ element → ⊥) → b ≡ bare) × Leaves b × Leaves t

-- all roots are elements
abbrev pub Roots : Forest FlatRow → Type 0
Roots bare = Unit {0}
Roots (tree r b t) = (row_sort_of r.sort ≡ element) × Roots t

element_apart : element ≡ attribute → ⊥
element_apart e = let z : ◌≡◌ {A = ℕ} 0 1 = cc in omega arith

text_apart : element ≡ text → ⊥
text_apart e = let z : ◌≡◌ {A = ℕ} 0 1 = cc in omega arith

pub shallow_root : (t : Forest FlatRow) → Ends 1 (preorder 0 t)
shallow_root bare = tt
shallow_root (tree r b t) = omega arith

module _ (f : Declared) where
  abbrev named : Forest FlatRow → Forest Row
  named g = read_rows (declared_names f) (attribute_names_in f) g

  abbrev row_read : FlatRow → Row
  row_read r = record { serial = r.serial; sort = row_sort_of r.sort; name = row_name (declared_names f) (attribute_names_in f) (row_sort_of r.sort) r.index; value = r.value }

  abbrev below_row : List ℕ → FlatRow → Deep FlatRow
  below_row others r = record { depth = suc (length others); row = r }

  -- rows below the innermost element, before rows that are less deep
  abbrev Printed : ℕ → List ℕ → Bool → Forest FlatRow → List (Deep FlatRow) → Type 0
  Printed o others tag g more =
      text_of_rows f (o ∷ others) tag (preorder (suc (length others)) g ++ more) ≡ concat (row_tokens (start_sign tag) (named g)) ++ text_of_rows f (o ∷ others) false more

  nothing_left : (o : ℕ) (others : List ℕ) (tag : Bool) (more : List (Deep FlatRow)) → Ends (suc (length others)) more → Printed o others tag bare more
  nothing_left o others tag more l = rw (text_end f o others tag more l, text_end f o others false more l) (simp append_assoc)

  row_left : (o : ℕ) (others : List ℕ) (tag : Bool) (r : FlatRow) (b t : Forest FlatRow) (more : List (Deep FlatRow))
      → ((row_sort_of r.sort ≡ element → ⊥) → b ≡ bare)
      → ((i : ℕ) (rows : List (Deep FlatRow)) → Ends (suc (suc (length others))) rows → Printed i (o ∷ others) true b rows)
      → ((u : Bool) → Printed o others u t more)
      → Ends (suc (length others)) more
      → (s : RowSort) → row_sort_of r.sort ≡ s → Printed o others tag (tree r b t) more
  row_left o others tag r b t more leaf below after l element e =
      let later : List (Deep FlatRow) = preorder (suc (length others)) t ++ more in
      let i : ℕ = r.index in
      let n : Bytes = name_at i (declared_names f) in
      let short : Ends (suc (suc (length others))) later = ends_after (suc (length others)) t more l in
      let is : (row_read r).name ≡ n = ap (λ (s : RowSort). row_name (declared_names f) (attribute_names_in f) s i) e in
      let ended : text_of_rows f (i ∷ o ∷ others) false later ≡ 60 ∷ 47 ∷ (n ++ (62 ∷ text_of_rows f (o ∷ others) false later)) =
      text_end f i (o ∷ others) false later short ∙ ap (λ (z : Bytes). 60 ∷ 47 ∷ z) (append_assoc n (62 ∷ []) (text_of_rows f (o ∷ others) false later)) in
      text_element f (o ∷ others) (below_row others r) ((preorder (suc (suc (length others))) b ++ preorder (suc (length others)) t) ++ more) (omega arith) tag e
      ∙ rw (append_assoc (preorder (suc (suc (length others))) b) (preorder (suc (length others)) t) more, below i later short, ended, after false)
      (rw is refl ∙ sym (element_printed (start_sign tag) (row_read r) (named b) (named t) (text_of_rows f (o ∷ others) false more) e))
  row_left o others tag r b t more leaf below after l attribute e =
      let is : (row_read r).name ≡ name_at r.index (attribute_names_in f) = ap (λ (s : RowSort). row_name (declared_names f) (attribute_names_in f) s r.index) e in
      rw (leaf (λ h. let z : element ≡ attribute = sym h ∙ e in absurd (element_apart z)))
      (text_attribute f (o ∷ others) (below_row others r) (preorder (suc (length others)) t ++ more) (omega arith) tag e
      ∙ rw (after tag) (rw is refl)
      ∙ sym (attribute_printed (start_sign tag) (row_read r) bare (named t) (text_of_rows f (o ∷ others) false more) e))
  row_left o others tag r b t more leaf below after l text e =
      rw (leaf (λ h. let z : element ≡ text = sym h ∙ e in absurd (text_apart z)))
      (text_content f (o ∷ others) (below_row others r) (preorder (suc (length others)) t ++ more) (omega arith) tag e
      ∙ rw (after false) refl
      ∙ sym (text_printed (start_sign tag) (row_read r) bare (named t) (text_of_rows f (o ∷ others) false more) e))

  pub rows_printed : (g : Forest FlatRow) → Leaves g → (o : ℕ) (others : List ℕ) (tag : Bool) (more : List (Deep FlatRow)) → Ends (suc (length others)) more → Printed o others tag g more
  unfolding Leaves
  rows_printed bare h o others tag more l = nothing_left o others tag more l
  rows_printed (tree r b t) (leaf, h, k) o others tag more l =
      row_left o others tag r b t more leaf (λ i rows m. rows_printed b h i (o ∷ others) true rows m) (λ u. rows_printed t k o others u more l) l (row_sort_of r.sort) refl

  -- ---- documents
  pub documents_printed : (g : Forest FlatRow) → Leaves g → Roots g → text_of_rows f [] false (preorder 0 g) ≡ concat (map concat (document_lines (named g)))
  unfolding Leaves
  documents_printed bare h k = unfold text_of_rows in refl
  documents_printed (tree r b t) (leaf, h₀, h₁) (e, k) =
      let i : ℕ = r.index in
      let n : Bytes = name_at i (declared_names f) in
      let later : List (Deep FlatRow) = preorder 0 t in
      let is : (row_read r).name ≡ n = ap (λ (s : RowSort). row_name (declared_names f) (attribute_names_in f) s i) e in
      let ended : text_of_rows f (i ∷ []) false later ≡ 60 ∷ 47 ∷ (n ++ (62 ∷ 10 ∷ text_of_rows f [] false later)) =
      text_end f i [] false later (shallow_root t) ∙ ap (λ (z : Bytes). 60 ∷ 47 ∷ z) (append_assoc n (62 ∷ 10 ∷ []) (text_of_rows f [] false later)) in
      text_element f [] (record { depth = 0; row = r }) (preorder 1 b ++ later) (omega arith) false e
      ∙ rw (rows_printed b h₀ i [] true later (shallow_root t), ended, documents_printed t h₁ k)
      (rw is refl ∙ sym (document_printed (row_read r) (named b) (named t)))
