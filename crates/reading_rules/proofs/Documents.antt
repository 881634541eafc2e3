-- Documents that are printed are read without their serials: by induction on rows in the order in which a text shows
-- them (ShownBelow), a row off the text at each step. No row takes more steps than three for each of its bytes.
use Prim.Native.Nat.{ℕ, zero, suc, ◌+◌, ◌*◌, ◌≤◌}
use native.Mathlib.Omega.{arith}
use mathlib.Core.Path.{◌≡◌, refl, ap, ◌∙◌}
use mathlib.Core.Bool.{Bool, true, false, ◌&&◌}
use mathlib.Core.List.{[], ◌∷◌, ◌++◌}
use lib.ListN.{length, length-append}
use Rattle.rules.specs.Bytes.{Bytes, ascii}
use Rattle.rules.specs.Store.{Form, RowSort, element, attribute, text, Row, Forest, bare, tree}
use Rattle.rules.specs.WellFormed.{starts_name, is_name}
use Rattle.rules.specs.Change.{each_row}
use Rattle.rules.specs.Print.{escape, row_tokens, document_lines}
use Rattle.text_scan.specs.Scan.{starts_with, no_quote, no_tag}
use Rattle.text_scan.proofs.ScanLaws.{leading_of, trailing_of, escape_quoted, escape_untagged, value_escape, naming, apart'}
use Rattle.reading_rules.specs.Canonical.{unnumbered}
use Rattle.reading_rules.specs.Reader.{holds_text, rows_of_text, documents_of_text}
use Rattle.reading_rules.proofs.Pieces.{put_tokens, put_lines, tokens_append}
use Rattle.reading_rules.proofs.Models.{NameStops, leading_name, trailing_name, starts_with_more, starts_with_name}
use Rattle.reading_rules.proofs.Declarations.{name_stops}

abbrev pub row_of_parts : ℕ → RowSort → Bytes → Bytes → Row
row_of_parts k s n v = record { serial = k; sort = s; name = n; value = v }

-- the rows below an element, as a text shows them: attribute rows, then (`opened` no more) the one text where `pc`,
-- else elements
pub data ShownBelow (form : Form) : Bool → Bool → Forest Row → Type 0 where
  an_attribute : {pc : Bool} {k : ℕ} {n v : Bytes} {t : Forest Row} → is_name n ≡ true → ShownBelow form true pc t → ShownBelow form true pc (tree (row_of_parts k attribute n v) bare t)
  start_ended : {pc : Bool} {f : Forest Row} → ShownBelow form false pc f → ShownBelow form true pc f
  a_text : {k : ℕ} {v : Bytes} → ShownBelow form false true (tree (row_of_parts k text [] v) bare bare)
  no_more : ShownBelow form false false bare
  an_element : {k : ℕ} {n : Bytes} {b t : Forest Row} → is_name n ≡ true → ShownBelow form true (holds_text form n) b → ShownBelow form false false t
      → ShownBelow form false false (tree (row_of_parts k element n []) b t)

-- the end of a start tag, where it is still to come
abbrev pub start_sign : Bool → Bytes
start_sign true = ascii ">"
start_sign false = []

-- the rows' text before an end tag
unfoldable pub text_below : Bool → Forest Row → Bytes → Bytes
text_below opened f r = put_tokens (row_tokens (start_sign opened) f) (60 ∷ 47 ∷ r)

-- steps that reading takes
unfoldable pub reading_steps : Forest Row → ℕ
reading_steps bare = 2
reading_steps (tree r b t) = 2 + (reading_steps b + reading_steps t)

-- a step less where the start tag is ended
abbrev pub step_spared : Bool → ℕ
step_spared true = 0
step_spared false = 1

-- ---- what stands in the text
attribute_below : (k : ℕ) (n v : Bytes) (t : Forest Row) (r : Bytes) → text_below true (tree (row_of_parts k attribute n v) bare t) r ≡ 32 ∷ (n ++ (61 ∷ 34 ∷ (escape v ++ (34 ∷ text_below true t r))))
unfolding text_below put_tokens
attribute_below k n v t r = refl

content_below : {form : Form} {pc : Bool} {f : Forest Row} (r : Bytes) → ShownBelow form false pc f → text_below true f r ≡ 62 ∷ text_below false f r
unfolding text_below put_tokens
content_below r a_text = refl
content_below r no_more = refl
content_below r (an_element h b t) = refl

text_below_lem : (k : ℕ) (v r : Bytes) → text_below false (tree (row_of_parts k text [] v) bare bare) r ≡ escape v ++ (60 ∷ 47 ∷ r)
unfolding text_below put_tokens
text_below_lem k v r = refl

nothing_left : (r : Bytes) → text_below false bare r ≡ 60 ∷ 47 ∷ r
unfolding text_below put_tokens
nothing_left r = refl

element_below : (k : ℕ) (n : Bytes) (b t : Forest Row) (r : Bytes) → text_below false (tree (row_of_parts k element n []) b t) r ≡ 60 ∷ (n ++ text_below true b (n ++ (62 ∷ text_below false t r)))
unfolding text_below put_tokens
element_below k n b t r = rw (tokens_append (row_tokens (ascii ">") b) (ascii "</" ∷ n ∷ ascii ">" ∷ row_tokens [] t) (60 ∷ 47 ∷ r))

-- after the name in a start tag
below_stops : {form : Form} {pc : Bool} {f : Forest Row} (r : Bytes) → ShownBelow form true pc f → NameStops (text_below true f r)
below_stops r (an_attribute {k = k} {n = n} {v = v} {t = t} h s) = rw (attribute_below k n v t r) (name_stops 32 _ refl)
below_stops r (start_ended s) = rw (content_below r s) (name_stops 62 _ refl)

-- ---- one step each
module _ (form : Form) (n : ℕ) where
  next_attribute_row : (pc : Bool) (k : ℕ) (x v : Bytes) (t : Forest Row) (r : Bytes) → is_name x ≡ true
      → rows_of_text form n true pc (text_below true t r) ≡ record { value = unnumbered t; rest = 60 ∷ 47 ∷ r }
      → rows_of_text form (suc n) true pc (text_below true (tree (row_of_parts k attribute x v) bare t) r) ≡ record { value = unnumbered (tree (row_of_parts k attribute x v) bare t); rest = 60 ∷ 47 ∷ r }
  unfolding rows_of_text each_row
  next_attribute_row pc k x v t r h e =
      let u : Bytes = 34 ∷ text_below true t r in
      let w : Bytes = 61 ∷ 34 ∷ (escape v ++ u) in
      let value_read = leading_of no_quote (escape v) 34 (text_below true t r) (escape_quoted v) refl in
      let value-past = trailing_of no_quote (escape v) 34 (text_below true t r) (escape_quoted v) refl in
      let name_read = leading_name x w h (name_stops 61 _ refl) in
      let name_past = trailing_name x w h (name_stops 61 _ refl) in
      rw (attribute_below k x v t r, name_read, name_past, value_read, value-past, value_escape v, e)

  next_content : (pc : Bool) (f : Forest Row) (r : Bytes) → ShownBelow form false pc f → rows_of_text form n false pc (text_below false f r) ≡ record { value = unnumbered f; rest = 60 ∷ 47 ∷ r }
      → rows_of_text form (suc n) true pc (text_below true f r) ≡ record { value = unnumbered f; rest = 60 ∷ 47 ∷ r }
  unfolding rows_of_text
  next_content pc f r s e = rw (content_below r s) e

  next_text : (k : ℕ) (v r : Bytes)
      → rows_of_text form (suc n) false true (text_below false (tree (row_of_parts k text [] v) bare bare) r)
      ≡ record { value = unnumbered (tree (row_of_parts k text [] v) bare bare); rest = 60 ∷ 47 ∷ r }
  unfolding rows_of_text each_row
  next_text k v r = rw (text_below_lem k v r, leading_of no_tag (escape v) 60 (47 ∷ r) (escape_untagged v) refl, trailing_of no_tag (escape v) 60 (47 ∷ r) (escape_untagged v) refl, value_escape v)

  next_none : (r : Bytes) → rows_of_text form (suc n) false false (text_below false bare r) ≡ record { value = bare; rest = 60 ∷ 47 ∷ r }
  unfolding rows_of_text starts_with
  next_none r = rw (nothing_left r)

  next_element : (k : ℕ) (x : Bytes) (b t : Forest Row) (r : Bytes) → is_name x ≡ true → NameStops (text_below true b (x ++ (62 ∷ text_below false t r)))
      → rows_of_text form n true (holds_text form x) (text_below true b (x ++ (62 ∷ text_below false t r))) ≡ record { value = unnumbered b; rest = 60 ∷ 47 ∷ (x ++ (62 ∷ text_below false t r)) }
      → rows_of_text form n false false (text_below false t r) ≡ record { value = unnumbered t; rest = 60 ∷ 47 ∷ r }
      → rows_of_text form (suc n) false false (60 ∷ (x ++ text_below true b (x ++ (62 ∷ text_below false t r)))) ≡ record { value = unnumbered (tree (row_of_parts k element x []) b t); rest = 60 ∷ 47 ∷ r }
  unfolding rows_of_text each_row
  next_element k x b t r h s e g =
      let u : Bytes = text_below true b (x ++ (62 ∷ text_below false t r)) in
      let o : starts_with (ascii "</") (60 ∷ (x ++ u)) ≡ false = starts_with_more 60 (ascii "/") 60 (x ++ u) ∙ starts_with_name 47 x u h refl in
      rw (o, rows_of_text, leading_name x u h s, trailing_name x u h s, e, trailing_name x (62 ∷ text_below false t r) h (name_stops 62 _ refl), g)

two_steps : (f : Forest Row) → 2 ≤ reading_steps f
unfolding reading_steps
two_steps bare = omega arith
two_steps (tree r b t) = omega arith

-- the rows before an end tag
pub rows_of_text_lem : {form : Form} {opened pc : Bool} {f : Forest Row} (n : ℕ) (r : Bytes) → ShownBelow form opened pc f → reading_steps f ≤ step_spared opened + n
    → rows_of_text form n opened pc (text_below opened f r) ≡ record { value = unnumbered f; rest = 60 ∷ 47 ∷ r }
unfolding reading_steps
rows_of_text_lem zero r (an_attribute h s) l = absurd (let z : ⊥ = omega arith in z)
rows_of_text_lem zero r (start_ended {f = f} s) l = absurd (let z : ⊥ = omega (arith, two_steps f) in z)
rows_of_text_lem zero r a_text l = absurd (let z : ⊥ = omega arith in z)
rows_of_text_lem zero r no_more l = absurd (let z : ⊥ = omega arith in z)
rows_of_text_lem zero r (an_element h b t) l = absurd (let z : ⊥ = omega arith in z)
rows_of_text_lem {form} (suc n) r (an_attribute {pc = pc} {k = k} {n = x} {v = v} {t = t} h s) l = next_attribute_row form n pc k x v t r h (rows_of_text_lem {opened = true} {pc = pc} {f = t} n r s (omega arith))
rows_of_text_lem {form} (suc n) r (start_ended {pc = pc} {f = f} s) l = next_content form n pc f r s (rows_of_text_lem {opened = false} {pc = pc} {f = f} n r s (omega arith))
rows_of_text_lem {form} (suc n) r (a_text {k = k} {v = v}) l = next_text form n k v r
rows_of_text_lem {form} (suc n) r no_more l = unfold each_row in next_none form n r
rows_of_text_lem {form} (suc n) r (an_element {k = k} {n = x} {b = b} {t = t} h s q) l =
    ap (λ (z : Bytes). rows_of_text form (suc n) false false z) (element_below k x b t r)
    ∙ next_element form n k x b t r h (below_stops _ s) (rows_of_text_lem {opened = true} {pc = holds_text form x} {f = b} n _ s (omega arith)) (rows_of_text_lem {opened = false} {pc = false} {f = t} n r q (omega arith))

-- ---- no more steps than three a byte
pub steps_few : {form : Form} {opened pc : Bool} {f : Forest Row} (r : Bytes) → ShownBelow form opened pc f → reading_steps f + 3 * length r ≤ 3 * length (text_below opened f r)
unfolding reading_steps
steps_few r (an_attribute {k = k} {n = x} {v = v} {t = t} h s) =
    let l : reading_steps t + 3 * length r ≤ 3 * length (text_below true t r) = steps_few r s in
    rw (attribute_below k x v t r) (simp length-append (omega arith))
steps_few r (start_ended {f = f} s) =
    let l : reading_steps f + 3 * length r ≤ 3 * length (text_below false f r) = steps_few r s in
    rw (content_below r s) (omega arith)
steps_few r (a_text {k = k} {v = v}) = rw (text_below_lem k v r) (simp length-append (omega arith))
steps_few r no_more = rw (nothing_left r) (omega arith)
steps_few r (an_element {k = k} {n = x} {b = b} {t = t} h s q) =
    let u : Bytes = x ++ (62 ∷ text_below false t r) in
    let v : length u ≡ length x + suc (length (text_below false t r)) = length-append x (62 ∷ text_below false t r) in
    let l : reading_steps b + 3 * length u ≤ 3 * length (text_below true b u) = steps_few u s in
    let m : reading_steps t + 3 * length r ≤ 3 * length (text_below false t r) = steps_few r q in
    rw (element_below k x b t r) (simp length-append (omega arith))

-- ---- documents
-- documents as a text shows them
pub data ShownDocuments (form : Form) : Forest Row → Type 0 where
  no_document : ShownDocuments form bare
  a_document : {k : ℕ} {n : Bytes} {b t : Forest Row} → is_name n ≡ true → ShownBelow form true (holds_text form n) b → ShownDocuments form t → ShownDocuments form (tree (row_of_parts k element n []) b t)

unfoldable pub lines_of_documents : Forest Row → Bytes
lines_of_documents f = put_lines (document_lines f) []

-- as many as lines
pub document_count : Forest Row → ℕ
document_count bare = 0
document_count (tree r b t) = suc (document_count t)

document_put : (k : ℕ) (n : Bytes) (b t : Forest Row) → lines_of_documents (tree (row_of_parts k element n []) b t) ≡ 60 ∷ (n ++ text_below true b (n ++ (62 ∷ 10 ∷ lines_of_documents t)))
unfolding lines_of_documents put_lines put_tokens text_below
document_put k n b t = rw (tokens_append (row_tokens (ascii ">") b) (ascii "</" ∷ n ∷ ascii ">\n" ∷ []) (put_lines (document_lines t) []))

next_document : (form : Form) (n k : ℕ) (x : Bytes) (b t : Forest Row) → is_name x ≡ true → ShownBelow form true (holds_text form x) b → documents_of_text form n (lines_of_documents t) ≡ unnumbered t
    → documents_of_text form (suc n) (60 ∷ (x ++ text_below true b (x ++ (62 ∷ 10 ∷ lines_of_documents t)))) ≡ unnumbered (tree (row_of_parts k element x []) b t)
unfolding documents_of_text each_row
next_document form n k x b t h s e =
    let r : Bytes = x ++ (62 ∷ 10 ∷ lines_of_documents t) in
    let u : Bytes = text_below true b r in
    let l : reading_steps b + 3 * length r ≤ 3 * length u = steps_few r s in
    let m : length (x ++ u) ≡ length x + length u = length-append x u in
    let g : rows_of_text form (3 * suc (length (x ++ u))) true (holds_text form x) u ≡ record { value = unnumbered b; rest = 60 ∷ 47 ∷ r } = rows_of_text_lem _ r s (omega arith) in
    rw (leading_name x u h (below_stops r s), trailing_name x u h (below_stops r s), g, trailing_name x (62 ∷ 10 ∷ lines_of_documents t) h (name_stops 62 _ refl), e)

-- the documents' lines
pub documents_of_text_lem : {form : Form} {f : Forest Row} (n : ℕ) → ShownDocuments form f → document_count f ≤ n → documents_of_text form n (lines_of_documents f) ≡ unnumbered f
unfolding document_count
documents_of_text_lem zero no_document l = unfold documents_of_text lines_of_documents put_lines each_row in refl
documents_of_text_lem (suc n) no_document l = unfold documents_of_text lines_of_documents put_lines each_row in refl
documents_of_text_lem zero (a_document h s q) l = absurd (let z : ⊥ = omega arith in z)
documents_of_text_lem {form} (suc n) (a_document {k = k} {n = x} {b = b} {t = t} h s q) l =
    ap (λ (z : Bytes). documents_of_text form (suc n) z) (document_put k x b t) ∙ next_document form n k x b t h s (documents_of_text_lem n q (omega arith))

pub documents_long : {form : Form} {f : Forest Row} → ShownDocuments form f → document_count f ≤ length (lines_of_documents f)
unfolding document_count
documents_long no_document = omega arith
documents_long (a_document {k = k} {n = x} {b = b} {t = t} h s q) =
    let l : document_count t ≤ length (lines_of_documents t) = documents_long q in
    let r : Bytes = x ++ (62 ∷ 10 ∷ lines_of_documents t) in
    let m : length r ≡ length x + suc (suc (length (lines_of_documents t))) = length-append x (62 ∷ 10 ∷ lines_of_documents t) in
    let o : reading_steps b + 3 * length r ≤ 3 * length (text_below true b r) = steps_few r s in
    rw (document_put k x b t) (simp length-append (omega arith))

-- no document begins as a declaration
pub documents_apart : {form : Form} {f : Forest Row} (c : ℕ) → ShownDocuments form f → starts_with (60 ∷ 33 ∷ c ∷ []) (lines_of_documents f) ≡ false
documents_apart c no_document = unfold starts_with lines_of_documents put_lines in refl
documents_apart c (a_document {k = k} {n = x} {b = b} {t = t} h s q) =
    let m = naming x h in
    let u : Bytes = text_below true b (x ++ (62 ∷ 10 ∷ lines_of_documents t)) in
    rw (document_put k x b t) (starts_with_more 60 (33 ∷ c ∷ []) 60 (x ++ u) ∙ not_name x u h)
  where
    not_name : (x u : Bytes) → is_name x ≡ true → starts_with (33 ∷ c ∷ []) (x ++ u) ≡ false
    not_name x u h =
        let m = naming x h in
        ap (λ (z : Bytes). starts_with (33 ∷ c ∷ []) (z ++ u)) m.is
        ∙ starts_with_more 33 (c ∷ []) m.head (m.tail ++ u)
        ∙ ap (λ (z : Bool). z && starts_with (c ∷ []) (m.tail ++ u)) (apart' starts_name m.head 33 m.starts refl)
