-- The text of documents in terms of their rows.
use Rattle.std.specs.Prelude.{ℕ, suc, ◌+◌, ◌≤◌, ◌-◌, ◌*◌, ◌<◌, Bool, true, false, List, [], ◌++◌, map, ◌≡◌}
use Rattle.rules.specs.Bytes.{Bytes, ascii, concat}
use Rattle.rules.specs.Store.{RowSort, element, attribute, text, Forest}
use Rattle.rules.specs.Preorder.{Deep, build}
use Rattle.rules.specs.Layout.{FlatRow}
use Rattle.rules.specs.Decode.{name_at, row_sort_of, row_name, read_rows}
use Rattle.rules.specs.Print.{escape, row_tokens, document_lines}
use Rattle.codec.specs.Laid.{Laid}
use Rattle.printing_parts.specs.Parts.{names_of, attribute_names_of}

-- what ends a start tag that is still open
abbrev pub end_text : Bool → Bytes
end_text true = ascii ">"
end_text false = []

unfoldable pub rows_text : List Bytes → List Bytes → Bool → Forest FlatRow → Bytes
rows_text ns cs opened f = concat (row_tokens (end_text opened) (read_rows ns cs f))

-- an element with the rows below it
unfoldable pub element_text : List Bytes → List Bytes → Bytes → Forest FlatRow → Bytes
element_text ns cs name b = ascii "<" ++ (name ++ (rows_text ns cs true b ++ (ascii "</" ++ (name ++ (ascii ">" ++ [])))))

abbrev pub attribute_text : Bytes → Bytes → Bytes
attribute_text name v = ascii " " ++ (name ++ (ascii "=\"" ++ (escape v ++ (ascii "\"" ++ []))))

abbrev pub row_body_text : List Bytes → List Bytes → RowSort → Bool → FlatRow → Forest FlatRow → Bytes
row_body_text ns cs element opened x b = end_text opened ++ element_text ns cs (name_at x.index ns) b
row_body_text ns cs attribute opened x b = attribute_text (name_at x.index cs) x.value
row_body_text ns cs text opened x b = end_text opened ++ escape x.value

unfoldable pub row_text : List Bytes → List Bytes → Bool → FlatRow → Forest FlatRow → Bytes
row_text ns cs opened x b = row_body_text ns cs (row_sort_of x.sort) opened x b

-- after a row: a start tag stays open behind an attribute row
abbrev pub stays : RowSort → Bool → Bool
stays element opened = false
stays attribute opened = opened
stays text opened = false

unfoldable pub documents_text : List Bytes → List Bytes → Forest FlatRow → Bytes
documents_text ns cs f = concat (map concat (document_lines (read_rows ns cs f)))

-- the line of a document
unfoldable pub document_text : Bytes → FlatRow → Forest FlatRow → Bytes
document_text bs x b = element_text (names_of bs) (attribute_names_of bs) (row_name (names_of bs) (attribute_names_of bs) (row_sort_of x.sort) x.index) b ++ (ascii "\n" ++ [])

-- The text w of record number i and those below it is written, with at most 1000 bytes more than theirs below.
pub record Enclosed {A : Type 0} (records : ℕ → List (Deep A)) (w : Bytes) (end i depth at : ℕ) (out : Bytes) (next r : ℕ) (out' : Bytes) : Type 0 where
  pub laid : Laid w out at r out'
  pub skips : (j : ℕ) → j < suc depth → build (records (i + 1)) j ≡ build (records next) j
  pub onward : i < next
  pub small : r + 2500 * (end - next) ≤ at + 2500 * (end - (i + 1)) + 1000
