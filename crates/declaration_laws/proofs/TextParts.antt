-- A printed text is the form's, then the documents'; the form's is that of the canonical form.
use mathlib.Core.Path.{◌≡◌, sym, ap, ◌∙◌}
use mathlib.Core.List.{List, ◌++◌, map, append-nil}
use Rattle.rules.specs.Bytes.{Bytes, concat}
use Rattle.rules.specs.Store.{bare, Store}
use Rattle.rules.specs.Print.{Tokens, form_lines, document_lines, printed}
use Rattle.rules.proofs.BooleanLaws.{lines_append}
use Rattle.reading_rules.specs.Canonical.{canonical_definition}
use Rattle.reading_rules.proofs.SameText.{form_text_lem}

-- the store without its documents
abbrev pub form_only : Store → Store
form_only s = record { version = s.version; next = s.next; form = s.form; docs = bare }

-- the store of the canonical form, without documents
abbrev pub form_store : Store → Store
form_store s = record { version = s.version; next = 1; form = map canonical_definition s.form; docs = bare }

form_only_text : (s : Store) → printed (form_only s) ≡ concat (map concat (form_lines s.form))
unfolding printed
form_only_text s = ap (λ (z : List Tokens). concat (map concat z)) (append-nil (form_lines s.form))

-- the canonical form prints the same text
pub form_store_text : (s : Store) → printed (form_store s) ≡ printed (form_only s)
unfolding printed
form_store_text s = ap (λ (z : List Tokens). concat (map concat (z ++ document_lines bare))) (form_text_lem s.form)

-- THE TEXT IS THE FORM'S AND THE DOCUMENTS'
pub text_parts : (s : Store) → printed s ≡ printed (form_only s) ++ concat (map concat (document_lines s.docs))
unfolding printed
text_parts s =
    let documents : Bytes = concat (map concat (document_lines s.docs)) in
    lines_append (form_lines s.form) (document_lines s.docs) ∙ ap (λ (z : Bytes). z ++ documents) (sym (form_only_text s))

pub text_parts_canonical : (s : Store) → printed s ≡ printed (form_store s) ++ concat (map concat (document_lines s.docs))
text_parts_canonical s =
    let documents : Bytes = concat (map concat (document_lines s.docs)) in
    text_parts s ∙ ap (λ (z : Bytes). z ++ documents) (sym (form_store_text s))
