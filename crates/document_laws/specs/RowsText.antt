-- The text that rows stand for where some elements are opened before them, row by row.
use Rattle.std.specs.Prelude.{ℕ, suc, Bool, true, false, List, [], ◌∷◌, ◌++◌, map, ltb, length}
use Rattle.rules.specs.Bytes.{Bytes}
use Rattle.rules.specs.Store.{element, attribute, text}
use Rattle.rules.specs.Preorder.{Deep}
use Rattle.rules.specs.Layout.{FlatRow}
use Rattle.rules.specs.Decode.{name_at, flat_attribute_name, row_sort_of}
use Rattle.rules.specs.Print.{escape}
use Rattle.reading_rules.proofs.Documents.{start_sign}
use Rattle.document_tokens.specs.Tokens.{Declared, declared_names, end_tag}

-- the end tags of the elements that are opened at depth d and below, the innermost first, and the elements above
unfoldable pub end_tags : Declared → ℕ → List ℕ → Bytes
end_tags f d [] = []
end_tags f d (o ∷ others) = elim (ltb d (suc (length others))) [ true ↦ end_tag f o (length others) ++ end_tags f d others | false ↦ [] ]

unfoldable pub opened_above : ℕ → List ℕ → List ℕ
opened_above d [] = []
opened_above d (o ∷ others) = elim (ltb d (suc (length others))) [ true ↦ opened_above d others | false ↦ o ∷ others ]

abbrev pub attribute_names_in : Declared → List Bytes
attribute_names_in f = map flat_attribute_name f.attributes

-- a row right below the innermost element; `rest`: what comes after it, by what is opened then
abbrev pub text_of_row : Declared → List ℕ → Bool → FlatRow → (List ℕ → Bool → Bytes) → Bytes
text_of_row f opened tag r rest =
    elim (row_sort_of r.sort) [
      | element ↦ start_sign tag ++ (60 ∷ (name_at r.index (declared_names f) ++ rest (r.index ∷ opened) true))
      | attribute ↦ 32 ∷ (name_at r.index (attribute_names_in f) ++ (61 ∷ 34 ∷ (escape r.value ++ (34 ∷ rest opened tag))))
      | text ↦ start_sign tag ++ (escape r.value ++ rest opened false)
    ]

-- before a row that is less deep, elements are ended
unfoldable pub text_of_rows : Declared → List ℕ → Bool → List (Deep FlatRow) → Bytes
text_of_rows f opened tag [] = elim opened [ [] ↦ [] | o ∷ others ↦ start_sign tag ++ end_tags f 0 (o ∷ others) ]
text_of_rows f opened tag (x ∷ xs) =
    elim (ltb x.depth (length opened)) [
      | true ↦ start_sign tag ++ (end_tags f x.depth opened ++ text_of_row f (opened_above x.depth opened) false x.row (λ o t. text_of_rows f o t xs))
      | false ↦ text_of_row f opened tag x.row (λ o t. text_of_rows f o t xs)
    ]
