-- The declarations of a printed text are the lines of its form: no token has a line feed but for the one at the end of
-- a line, and the documents do not begin with `<!`.
use Prim.Native.Nat.{ℕ, ◌≤◌}
use mathlib.Core.Path.{◌≡◌, refl, sym, ap, ◌∙◌}
use mathlib.Core.Bool.{Bool, true, false, ◌&&◌, not}
use mathlib.Core.List.{List, [], ◌∷◌, ◌++◌, map, append_assoc, append-nil}
use lib.Dec.{eqb, leb}
use lib.ListN.{length}
use borrow.Author.Tests.{leb-true}
use Rattle.rules.specs.declared.Quantifier.{Quantifier}
use Rattle.rules.specs.declared.Quantifier.TheVariants.{None, Qmark, Star, Plus}
use Rattle.rules.specs.declared.GroupKind.{GroupKind}
use Rattle.rules.specs.declared.GroupKind.TheVariants.{Sequence, Choice}
use Rattle.rules.specs.declared.AttributeSort.{AttributeSort}
use Rattle.rules.specs.declared.AttributeSort.TheVariants.{Implied, Required, Fixed}
use Rattle.rules.specs.Bytes.{Bytes, ascii, all, between}
use Rattle.rules.specs.Model.{Members, done, el, group, names, Full}
use Rattle.rules.specs.Store.{Content, empty, pcdata, complex, Attribute, Definition, Form, Row, Forest, bare, tree, model_of, members}
use Rattle.rules.specs.WellFormed.{starts_name, in_name, is_name, stored_name, is_value, is_fill, is_attribute_of}
use Rattle.rules.specs.Print.{Tokens, escape_byte, escape, mark_of, separator, member_tokens, content_tokens, definition_line, default_tokens, attribute_line, attribute_lines, form_lines}
use Rattle.rules.proofs.Words.{and_split, and_both}
use Rattle.rules.proofs.BooleanLaws.{Every, every_append, all_left, all_right, all_append}
use Rattle.text_scan.specs.Scan.{starts_with, no_line_feed, on_line, split_lines}
use Rattle.text_scan.proofs.ScanLaws.{apart, apart', naming, lines_of}
use Rattle.reading_rules.proofs.Pieces.{put_tokens, tokens_append, put_lines, put_lines_append}
use Rattle.reading_rules.proofs.Models.{members_in_all}
use Rattle.reading_rules.proofs.Documents.{lines_of_documents}
use Rattle.declaration_scan.specs.Declared.{declarations_of, declarations}

-- what a definition must be to be read off its lines
pub record Declarable (w : ℕ) (d : Definition) : Type 0 where
  pub name : is_name d.name ≡ true
  pub groups : Full (members d)
  pub member_names : all is_name (names (members d)) ≡ true
  pub small : members_in_all (members d) ≤ 256
  pub attributes : Every (λ a. is_attribute_of w a ≡ true) d.attributes

pub record GoodAttribute (w : ℕ) (a : Attribute) : Type 0 where
  pub name : is_name a.name ≡ true
  pub short : length a.value ≤ w
  pub bytes : all (between 0x20 0x7E) a.value ≡ true

pub attribute_good : (w : ℕ) (a : Attribute) → is_attribute_of w a ≡ true → GoodAttribute w a
attribute_good w a h =
    let (n, v) = and_split (stored_name a.name) (is_value w a.value && is_fill a.sort a.value) h in
    let (u, f) = and_split (is_value w a.value) (is_fill a.sort a.value) v in
    let (l, b) = and_split (leb (length a.value) w) (all (between 0x20 0x7E) a.value) u in
    record { name = n; short = leb-true (length a.value) w l; bytes = b }

-- ---- tokens without a line feed
abbrev pub OneLine : Bytes → Type 0
OneLine l = all no_line_feed l ≡ true

one_line_append : (u v : Bytes) → OneLine u → OneLine v → OneLine (u ++ v)
one_line_append u v a b = all_append no_line_feed u v ∙ and_both a b

one_line_put : (ws : Tokens) (r : Bytes) → Every OneLine ws → OneLine r → OneLine (put_tokens ws r)
unfolding put_tokens
one_line_put [] r a b = b
one_line_put (w ∷ ws) r (a₀, a₁) b = one_line_append w (put_tokens ws r) a₀ (one_line_put ws r a₁ b)

one_line_if : (p : ℕ → Bool) → p 10 ≡ false → (v : Bytes) → all p v ≡ true → OneLine v
one_line_if p n [] h = refl
one_line_if p n (x ∷ v) h =
    let (a, b) = and_split (p x) (all p v) h in
    and_both (ap not (apart p x 10 a n)) (one_line_if p n v b)

name_one_line : (n : Bytes) → is_name n ≡ true → OneLine n
name_one_line n h = one_line_if in_name refl n (naming n h).bytes

escape_byte_one_line : (x : ℕ) → no_line_feed x ≡ true → OneLine (escape_byte x)
escape_byte_one_line x h = by (eqb x 38) (eqb x 60) (eqb x 62) (eqb x 34)
  where
    by : (a b c d : Bool)
        → OneLine (elim a [ true ↦ escape_byte 38 | false ↦ elim b [ true ↦ escape_byte 60 | false ↦ elim c [ true ↦ escape_byte 62 | false ↦ elim d [ true ↦ escape_byte 34 | false ↦ x ∷ [] ] ] ] ])
    by true b c d = refl
    by false true c d = refl
    by false false true d = refl
    by false false false true = refl
    by false false false false = and_both h refl

escape_one_line : (v : Bytes) → OneLine v → OneLine (escape v)
escape_one_line [] h = refl
escape_one_line (x ∷ v) h =
    let (a, b) = and_split (no_line_feed x) (all no_line_feed v) h in
    one_line_append (escape_byte x) (escape v) (escape_byte_one_line x a) (escape_one_line v b)

mark_one_line : (q : Quantifier) → OneLine (mark_of q)
mark_one_line None = refl
mark_one_line Qmark = refl
mark_one_line Star = refl
mark_one_line Plus = refl

separator_one_line : (k : GroupKind) → OneLine (separator k)
separator_one_line Sequence = refl
separator_one_line Choice = refl

members_one_line : (k : GroupKind) (sign : Bytes) (ms : Members Bytes) → OneLine sign → all is_name (names ms) ≡ true → Every OneLine (member_tokens k sign ms)
unfolding names
members_one_line k sign done s h = tt
members_one_line k sign (el q n rest) s h =
    let (a, b) = and_split (is_name n) (all is_name (names rest)) h in
    (s, (name_one_line n a, (mark_one_line q, members_one_line k (separator k) rest (separator_one_line k) b)))
members_one_line k sign (group q j ms rest) s h =
    let a = all_left is_name (names ms) (names rest) h in
    let b = all_right is_name (names ms) (names rest) h in
    let others : Every OneLine (ascii ")" ∷ mark_of q ∷ member_tokens k (separator k) rest) = (refl, (mark_one_line q, members_one_line k (separator k) rest (separator_one_line k) b)) in
    (s, (refl, every_append OneLine (member_tokens j [] ms) (ascii ")" ∷ mark_of q ∷ member_tokens k (separator k) rest) (members_one_line j [] ms refl a) others))

content_one_line : (c : Content) → all is_name (names (model_of c)) ≡ true → Every OneLine (content_tokens c)
content_one_line empty h = (refl, tt)
content_one_line pcdata h = (refl, tt)
content_one_line (complex done) h = (refl, tt)
content_one_line (complex (el q n rest)) h =
    (refl, every_append OneLine (member_tokens Sequence [] (el q n rest)) (ascii ")" ∷ []) (members_one_line Sequence [] (el q n rest) refl h) (refl, tt))
content_one_line (complex (group q k ms rest)) h =
    (refl, every_append OneLine (member_tokens Sequence [] (group q k ms rest)) (ascii ")" ∷ []) (members_one_line Sequence [] (group q k ms rest) refl h) (refl, tt))

default_one_line : (n : Bytes) (k : AttributeSort) (v : Bytes) → OneLine v → Every OneLine (default_tokens (record { name = n; sort = k; value = v }))
default_one_line n Implied v h = (refl, tt)
default_one_line n Required v h = (refl, tt)
default_one_line n Fixed v h = (refl, (escape_one_line v h, (refl, tt)))

-- ---- the lines of a form, each without its line feed
abbrev definition_words : Definition → Tokens
definition_words d = ascii "<!ELEMENT " ∷ d.name ∷ ascii " " ∷ content_tokens d.content

abbrev attribute_words : Bytes → Attribute → Tokens
attribute_words owner a = ascii "<!ATTLIST " ∷ owner ∷ ascii " " ∷ a.name ∷ ascii " CDATA " ∷ default_tokens a

unfoldable pub definition_text : Definition → Bytes
definition_text d = put_tokens (definition_words d) (62 ∷ [])

unfoldable pub attribute_text : Bytes → Attribute → Bytes
attribute_text owner a = put_tokens (attribute_words owner a) (62 ∷ [])

abbrev pub form_texts : Form → List Bytes
form_texts [] = []
form_texts (d ∷ ds) = definition_text d ∷ map (attribute_text d.name) d.attributes ++ form_texts ds

put_more : (ws : Tokens) (u r : Bytes) → put_tokens ws (u ++ r) ≡ put_tokens ws u ++ r
unfolding put_tokens
put_more [] u r = refl
put_more (w ∷ ws) u r = ap (λ (z : Bytes). w ++ z) (put_more ws u r) ∙ sym (append_assoc w (put_tokens ws u) r)

-- tokens and the end of a line are a line
line_put : (ws : Tokens) (r : Bytes) → put_tokens (ws ++ (ascii ">\n" ∷ [])) r ≡ put_tokens ws (62 ∷ []) ++ (10 ∷ r)
unfolding put_tokens
line_put ws r = tokens_append ws (ascii ">\n" ∷ []) r ∙ put_more ws (62 ∷ []) (10 ∷ r)

line_split : (ws : Tokens) (r : Bytes) → Every OneLine ws → split_lines (put_tokens (ws ++ (ascii ">\n" ∷ [])) r) ≡ put_tokens ws (62 ∷ []) ∷ split_lines r
line_split ws r h = ap split_lines (line_put ws r) ∙ lines_of (put_tokens ws (62 ∷ [])) r (one_line_put ws (62 ∷ []) h refl)

definition_split : (w : ℕ) (d : Definition) (r : Bytes) → Declarable w d → split_lines (put_tokens (definition_line d) r) ≡ definition_text d ∷ split_lines r
unfolding definition_text
definition_split w d r h = line_split (definition_words d) r (refl, (name_one_line d.name h.name, (refl, content_one_line d.content h.member_names)))

attribute_split : (w : ℕ) (owner : Bytes) (a : Attribute) (r : Bytes) → is_name owner ≡ true → is_attribute_of w a ≡ true
    → split_lines (put_tokens (attribute_line owner a) r) ≡ attribute_text owner a ∷ split_lines r
unfolding attribute_text
attribute_split w owner a r h i =
    let g = attribute_good w a i in
    let plain : OneLine a.value = one_line_if (between 0x20 0x7E) refl a.value g.bytes in
    line_split (attribute_words owner a) r (refl, (name_one_line owner h, (refl, (name_one_line a.name g.name, (refl, default_one_line a.name a.sort a.value plain)))))

attributes_split : (w : ℕ) (owner : Bytes) (table : List Attribute) (r : Bytes) → is_name owner ≡ true → Every (λ a. is_attribute_of w a ≡ true) table
    → split_lines (put_lines (attribute_lines owner table) r) ≡ map (attribute_text owner) table ++ split_lines r
unfolding put_lines
attributes_split w owner [] r h i = refl
attributes_split w owner (a ∷ table) r h (i₀, i₁) =
    attribute_split w owner a (put_lines (attribute_lines owner table) r) h i₀
    ∙ ap (λ (z : List Bytes). attribute_text owner a ∷ z) (attributes_split w owner table r h i₁)

form_split : (w : ℕ) (form : Form) (r : Bytes) → Every (Declarable w) form → split_lines (put_lines (form_lines form) r) ≡ form_texts form ++ split_lines r
unfolding put_lines
form_split w [] r h = refl
form_split w (d ∷ ds) r (h₀, h₁) =
    let table : List Bytes = map (attribute_text d.name) d.attributes in
    ap (λ (z : Bytes). split_lines (put_tokens (definition_line d) z)) (put_lines_append (attribute_lines d.name d.attributes) (form_lines ds) r)
    ∙ definition_split w d _ h₀
    ∙ ap (λ (z : List Bytes). definition_text d ∷ z)
    (attributes_split w d.name d.attributes (put_lines (form_lines ds) r) h₀.name h₀.attributes
    ∙ ap (λ (z : List Bytes). table ++ z) (form_split w ds r h₁)
    ∙ sym (append_assoc table (form_texts ds) (split_lines r)))

-- ---- up to the first line that is no declaration
definition_declares : (d : Definition) (ls : List Bytes) → declarations_of (definition_text d ∷ ls) ≡ definition_text d ∷ declarations_of ls
unfolding declarations_of definition_text put_tokens starts_with
definition_declares d ls = refl

attributes_declare : (owner : Bytes) (table : List Attribute) (ls : List Bytes) → declarations_of (map (attribute_text owner) table ++ ls) ≡ map (attribute_text owner) table ++ declarations_of ls
unfolding declarations_of attribute_text put_tokens starts_with
attributes_declare owner [] ls = refl
attributes_declare owner (a ∷ table) ls = ap (λ (z : List Bytes). attribute_text owner a ∷ z) (attributes_declare owner table ls)

form_declares : (form : Form) (ls : List Bytes) → declarations_of (form_texts form ++ ls) ≡ form_texts form ++ declarations_of ls
form_declares [] ls = refl
form_declares (d ∷ ds) ls =
    let table : List Bytes = map (attribute_text d.name) d.attributes in
    definition_declares d ((table ++ form_texts ds) ++ ls)
    ∙ ap (λ (z : List Bytes). definition_text d ∷ z)
    (ap declarations_of (append_assoc table (form_texts ds) ls)
    ∙ attributes_declare d.name d.attributes (form_texts ds ++ ls)
    ∙ ap (λ (z : List Bytes). table ++ z) (form_declares ds ls)
    ∙ sym (append_assoc table (form_texts ds) (declarations_of ls)))

-- a tag declares nothing
tag_declares : (x : ℕ) (xs : Bytes) → starts_name x ≡ true → declarations_of (split_lines (60 ∷ x ∷ xs)) ≡ []
unfolding declarations_of split_lines starts_with
tag_declares x xs h = rw (apart starts_name x 10 h refl, split_lines) (by (split_lines xs))
  where
    by : (ls : List Bytes) → declarations_of (on_line 60 (on_line x ls)) ≡ []
    by [] = rw (apart' starts_name x 33 h refl, declarations_of)
    by (l ∷ ls) = rw (apart' starts_name x 33 h refl, declarations_of)

abbrev pub RootNamed : Forest Row → Type 0
RootNamed bare = Unit {0}
RootNamed (tree r b t) = is_name r.name ≡ true

documents_declare : (docs : Forest Row) → RootNamed docs → declarations_of (split_lines (lines_of_documents docs)) ≡ []
unfolding lines_of_documents put_lines put_tokens
documents_declare bare h = unfold split_lines declarations_of in refl
documents_declare (tree r b t) h = let m = naming r.name h in rw m.is (tag_declares m.head _ m.starts)

-- THE DECLARATIONS OF A TEXT ARE THE FORM'S LINES
pub declarations_text_lem : (w : ℕ) (form : Form) (docs : Forest Row) → Every (Declarable w) form → RootNamed docs → declarations (put_lines (form_lines form) (lines_of_documents docs)) ≡ form_texts form
declarations_text_lem w form docs h n =
    ap declarations_of (form_split w form (lines_of_documents docs) h)
    ∙ form_declares form (split_lines (lines_of_documents docs))
    ∙ ap (λ (z : List Bytes). form_texts form ++ z) (documents_declare docs n)
    ∙ append-nil (form_texts form)
