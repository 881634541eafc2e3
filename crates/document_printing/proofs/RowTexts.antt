-- The text of rows is the texts of the rows, one after the other, and that of documents their lines.
use mathlib.Core.Bool.{Bool}
use mathlib.Core.List.{List, [], ◌∷◌, ◌++◌, map, append-nil, append_assoc}
use mathlib.Core.Path.{◌≡◌, refl, sym, ap, ◌∙◌}
use Rattle.rules.specs.Bytes.{Bytes, ascii, concat}
use Rattle.rules.specs.Store.{RowSort, element, attribute, text, Forest, bare, tree}
use Rattle.rules.specs.Layout.{FlatRow}
use Rattle.rules.specs.Decode.{row_sort_of, row_name, read_rows}
use Rattle.rules.specs.Print.{row_tokens, document_lines, Tokens}
use Rattle.rules.proofs.BooleanLaws.{concat_append}
use Rattle.document_printing.specs.Documents.{end_text, rows_text, element_text, row_body_text, row_text, stays, documents_text}

rows_step : (ns cs : List Bytes) (opened : Bool) (x : FlatRow) (b t : Forest FlatRow) (s : RowSort)
    → concat (row_tokens (end_text opened)
    (tree (record { serial = x.serial; sort = s; name = row_name ns cs s x.index; value = x.value }) (read_rows ns cs b) (read_rows ns cs t)))
    ≡ row_body_text ns cs s opened x b ++ rows_text ns cs (stays s opened) t
unfolding rows_text element_text
rows_step ns cs opened x b t element = simp (concat_append, append_assoc, append-nil)
rows_step ns cs opened x b t attribute = simp (append_assoc, append-nil)
rows_step ns cs opened x b t text = simp (append_assoc, append-nil)

pub rows_tree : (ns cs : List Bytes) (opened : Bool) (x : FlatRow) (b t : Forest FlatRow)
    → rows_text ns cs opened (tree x b t) ≡ row_text ns cs opened x b ++ rows_text ns cs (stays (row_sort_of x.sort) opened) t
unfolding row_text rows_text
rows_tree ns cs opened x b t = rows_step ns cs opened x b t (row_sort_of x.sort)

pub rows_bare : (ns cs : List Bytes) (opened : Bool) → rows_text ns cs opened bare ≡ end_text opened
unfolding rows_text
rows_bare ns cs opened = append-nil (end_text opened)

document_line : (n rest : Bytes) (below : Tokens)
    → concat (ascii "<" ∷ n ∷ below ++ (ascii "</" ∷ n ∷ ascii ">\n" ∷ [])) ++ rest
    ≡ ((ascii "<" ++ (n ++ (concat below ++ (ascii "</" ++ (n ++ (ascii ">" ++ [])))))) ++ ascii "\n") ++ rest
document_line n rest below =
    ap (λ (l : Bytes). (ascii "<" ++ (n ++ l)) ++ rest) (concat_append below (ascii "</" ∷ n ∷ ascii ">\n" ∷ []))
    ∙ ap (λ (l : Bytes). (ascii "<" ++ (n ++ (concat below ++ (ascii "</" ++ l)))) ++ rest) (sym (append_assoc n (ascii ">") (ascii "\n")))
    ∙ sym (regroup (ascii "<") n (concat below) (ascii "</" ++ (n ++ (ascii ">" ++ []))) (ascii "\n") rest)
  where
    regroup : (a b c d z r : Bytes) → ((a ++ (b ++ (c ++ d))) ++ z) ++ r ≡ (a ++ (b ++ (c ++ (d ++ z)))) ++ r
    regroup a b c d z r = simp append_assoc

pub documents_tree : (ns cs : List Bytes) (x : FlatRow) (b t : Forest FlatRow)
    → documents_text ns cs (tree x b t) ≡ (element_text ns cs (row_name ns cs (row_sort_of x.sort) x.index) b ++ ascii "\n") ++ documents_text ns cs t
unfolding documents_text element_text rows_text
documents_tree ns cs x b t = document_line (row_name ns cs (row_sort_of x.sort) x.index) (concat (map concat (document_lines (read_rows ns cs t)))) (row_tokens (ascii ">") (read_rows ns cs b))

pub documents_bare : (ns cs : List Bytes) → documents_text ns cs bare ≡ []
unfolding documents_text
documents_bare ns cs = refl
