-- A form that is printed is read as the canonical one: by induction on tables and forms, a line off the text at each
-- step. A line is longer than nothing, so the counts are enough; where other declarations follow, the text begins as
-- they do.
use Prim.Native.Nat.{ℕ, zero, suc, ◌+◌, ◌≤◌}
use native.Mathlib.Omega.{arith}
use mathlib.Core.Path.{◌≡◌, refl, ap, ◌∙◌}
use mathlib.Core.Bool.{true, false}
use mathlib.Core.List.{List, [], ◌∷◌, ◌++◌, map}
use lib.ListN.{length, length-append}
use Rattle.rules.specs.declared.AttributeSort.{AttributeSort}
use Rattle.rules.specs.declared.AttributeSort.TheVariants.{Implied, Required, Fixed}
use Rattle.rules.specs.Bytes.{Bytes, ascii, all}
use Rattle.rules.specs.Model.{names, Full}
use Rattle.rules.specs.Store.{Attribute, Definition, Form, members}
use Rattle.rules.specs.WellFormed.{in_name, is_name}
use Rattle.rules.specs.Print.{Tokens, escape, content_tokens, definition_line, default_tokens, attribute_line, attribute_lines, form_lines}
use Rattle.rules.proofs.BooleanLaws.{Every}
use Rattle.text_scan.specs.Scan.{starts_with, no_quote}
use Rattle.text_scan.proofs.ScanLaws.{leading_of, trailing_of, escape_quoted, value_escape}
use Rattle.reading_rules.specs.Canonical.{canonical_fill, canonical_attribute, canonical_definition}
use Rattle.reading_rules.specs.Reader.{default_of_text, attribute_of_text, attributes_of_text, definition_of_text, form_of_text}
use Rattle.reading_rules.proofs.Pieces.{put_tokens, put_lines, tokens_append, put_lines_append}
use Rattle.reading_rules.proofs.Models.{NameStops, leading_name, trailing_name, content_of_text_lem}

pub tokens_long : (ws : Tokens) (r : Bytes) → length r ≤ length (put_tokens ws r)
unfolding put_tokens
tokens_long [] r = omega arith
tokens_long (w ∷ ws) r = let l : length r ≤ length (put_tokens ws r) = tokens_long ws r in simp length-append (omega arith)

pub name_stops : (x : ℕ) (r : Bytes) → in_name x ≡ false → NameStops (x ∷ r)
name_stops x r e = record { head = x; tail = r; is = refl; name = e }

-- ---- attributes
-- a default declaration: the fill that no text shows is the canonical one
default_of_text_lem : (n : Bytes) (k : AttributeSort) (v r : Bytes)
    → default_of_text (put_tokens (default_tokens (record { name = n; sort = k; value = v })) r) ≡ record { value = record { sort = k; value = canonical_fill k v }; rest = r }
unfolding default_of_text starts_with put_tokens
default_of_text_lem n Implied v r = refl
default_of_text_lem n Required v r = refl
default_of_text_lem n Fixed v r = rw (leading_of no_quote (escape v) 34 r (escape_quoted v) refl, trailing_of no_quote (escape v) 34 r (escape_quoted v) refl, value_escape v)

-- an attribute line after its owner's name
pub attribute_of_text_lem : (a : Attribute) (r : Bytes) → is_name a.name ≡ true
    → attribute_of_text (a.name ++ (ascii " CDATA " ++ put_tokens (default_tokens a) (ascii ">\n" ++ r))) ≡ record { value = canonical_attribute a; rest = r }
unfolding attribute_of_text
attribute_of_text_lem a r h =
    let t : Bytes = ascii " CDATA " ++ put_tokens (default_tokens a) (ascii ">\n" ++ r) in
    let s : NameStops t = name_stops 32 _ refl in
    let e : Bytes = ascii ">\n" ++ r in
    let d : default_of_text (put_tokens (default_tokens a) e) ≡ record { value = record { sort = a.sort; value = canonical_fill a.sort a.value }; rest = e } =
    default_of_text_lem a.name a.sort a.value e in
    rw (trailing_name a.name t h s, leading_name a.name t h s, d)

attribute_put : (owner : Bytes) (a : Attribute) (r : Bytes)
    → put_tokens (attribute_line owner a) r ≡ ascii "<!ATTLIST " ++ (owner ++ (ascii " " ++ (a.name ++ (ascii " CDATA " ++ put_tokens (default_tokens a) (ascii ">\n" ++ r)))))
unfolding put_tokens
attribute_put owner a r = rw (tokens_append (default_tokens a) (ascii ">\n" ∷ []) r)

next_attribute : (n : ℕ) (owner : Bytes) (a : Attribute) (more : List Attribute) (t r : Bytes)
    → is_name owner ≡ true → is_name a.name ≡ true → attributes_of_text n t ≡ record { value = more; rest = r }
    → attributes_of_text (suc n) (put_tokens (attribute_line owner a) t) ≡ record { value = canonical_attribute a ∷ more; rest = r }
unfolding attributes_of_text starts_with
next_attribute n owner a more t r h i e =
    let u : Bytes = a.name ++ (ascii " CDATA " ++ put_tokens (default_tokens a) (ascii ">\n" ++ t)) in
    rw (attribute_put owner a t, trailing_name owner (ascii " " ++ u) h (name_stops 32 u refl), attribute_of_text_lem a t i, e)

-- a table, before what is no attribute line
pub attributes_of_text_lem : (n : ℕ) (owner : Bytes) (table : List Attribute) (r : Bytes)
    → is_name owner ≡ true → Every (λ a. is_name a.name ≡ true) table → starts_with (ascii "<!A") r ≡ false → length table ≤ n
    → attributes_of_text n (put_lines (attribute_lines owner table) r) ≡ record { value = map canonical_attribute table; rest = r }
unfolding put_lines
attributes_of_text_lem zero owner [] r h a e l = unfold attributes_of_text in refl
attributes_of_text_lem (suc n) owner [] r h a e l = unfold attributes_of_text in rw (e, attributes_of_text)
attributes_of_text_lem zero owner (a ∷ table) r h x e l = absurd (let z : ⊥ = omega arith in z)
attributes_of_text_lem (suc n) owner (a ∷ table) r h (x, y) e l =
    next_attribute n owner a (map canonical_attribute table) (put_lines (attribute_lines owner table) r) r h x (attributes_of_text_lem n owner table r h y e (omega arith))

-- each attribute has a line
attributes_long : (owner : Bytes) (table : List Attribute) (r : Bytes) → length table + length r ≤ length (put_lines (attribute_lines owner table) r)
unfolding put_lines put_tokens
attributes_long owner [] r = omega arith
attributes_long owner (a ∷ table) r =
    let t : Bytes = put_lines (attribute_lines owner table) r in
    let l : length table + length r ≤ length t = attributes_long owner table r in
    let ws : Tokens = owner ∷ ascii " " ∷ a.name ∷ ascii " CDATA " ∷ default_tokens a ++ (ascii ">\n" ∷ []) in
    let m : length t ≤ length (put_tokens ws t) = tokens_long ws t in
    omega arith

-- ---- definitions
-- what reading needs of a definition: names are names, groups have members
pub record ReadableDefinition (d : Definition) : Type 0 where
  pub name : is_name d.name ≡ true
  pub groups : Full (members d)
  pub members : all is_name (names (members d)) ≡ true
  pub attributes : Every (λ a. is_name a.name ≡ true) d.attributes

definition_put : (d : Definition) (r : Bytes) → put_tokens (definition_line d) r ≡ ascii "<!ELEMENT " ++ (d.name ++ (ascii " " ++ put_tokens (content_tokens d.content) (ascii ">\n" ++ r)))
unfolding put_tokens
definition_put d r = rw (tokens_append (content_tokens d.content) (ascii ">\n" ∷ []) r)

-- a definition's lines, before what is no attribute line
pub definition_of_text_lem : (d : Definition) (r : Bytes) → ReadableDefinition d → starts_with (ascii "<!A") r ≡ false
    → definition_of_text (put_tokens (definition_line d) (put_lines (attribute_lines d.name d.attributes) r)) ≡ record { value = canonical_definition d; rest = r }
unfolding definition_of_text
definition_of_text_lem d r x e =
    let t : Bytes = put_lines (attribute_lines d.name d.attributes) r in
    let u : Bytes = put_tokens (content_tokens d.content) (ascii ">\n" ++ t) in
    let long : length d.attributes + length r ≤ length t = attributes_long d.name d.attributes r in
    let more : length t ≤ length (put_tokens (definition_line d) t) = tokens_long (definition_line d) t in
    let g : attributes_of_text (length (put_tokens (definition_line d) t)) t ≡ record { value = map canonical_attribute d.attributes; rest = r } =
    attributes_of_text_lem _ d.name d.attributes r x.name x.attributes e (omega arith) in
    let g' = rw (definition_put d t) at g in
    let name_read = leading_name d.name (ascii " " ++ u) x.name (name_stops 32 u refl) in
    let name_past = trailing_name d.name (ascii " " ++ u) x.name (name_stops 32 u refl) in
    rw (definition_put d t, name_past, name_read, content_of_text_lem d.content (ascii ">\n" ++ t) x.groups x.members, g')

-- ---- the form
-- after a table comes a definition or what comes after the form
form_apart : (form : Form) (r : Bytes) → starts_with (ascii "<!A") r ≡ false → starts_with (ascii "<!A") (put_lines (form_lines form) r) ≡ false
form_apart [] r e = unfold put_lines in e
form_apart (d ∷ ds) r e = unfold put_lines put_tokens starts_with in refl

definition_starts : (d : Definition) (t : Bytes) → starts_with (ascii "<!E") (put_tokens (definition_line d) t) ≡ true
unfolding put_tokens starts_with
definition_starts d t = refl

next_definition : (n : ℕ) (d : Definition) (more : Form) (t r : Bytes) → ReadableDefinition d → starts_with (ascii "<!A") t ≡ false → form_of_text n t ≡ record { value = more; rest = r }
    → form_of_text (suc n) (put_tokens (definition_line d) (put_lines (attribute_lines d.name d.attributes) t)) ≡ record { value = canonical_definition d ∷ more; rest = r }
unfolding form_of_text
next_definition n d more t r x a g = rw (definition_starts d (put_lines (attribute_lines d.name d.attributes) t), form_of_text, definition_of_text_lem d t x a, g)

-- the declarations, before what is no declaration
pub form_of_text_lem : (n : ℕ) (form : Form) (r : Bytes) → Every ReadableDefinition form → starts_with (ascii "<!A") r ≡ false → starts_with (ascii "<!E") r ≡ false → length form ≤ n
    → form_of_text n (put_lines (form_lines form) r) ≡ record { value = map canonical_definition form; rest = r }
unfolding put_lines
form_of_text_lem zero [] r x a e l = unfold form_of_text in refl
form_of_text_lem (suc n) [] r x a e l = unfold form_of_text in rw (e, form_of_text)
form_of_text_lem zero (d ∷ ds) r x a e l = absurd (let z : ⊥ = omega arith in z)
form_of_text_lem (suc n) (d ∷ ds) r (x, y) a e l =
    ap (λ (z : Bytes). form_of_text (suc n) (put_tokens (definition_line d) z)) (put_lines_append (attribute_lines d.name d.attributes) (form_lines ds) r)
    ∙ next_definition n d (map canonical_definition ds) (put_lines (form_lines ds) r) r x (form_apart ds r a) (form_of_text_lem n ds r y a e (omega arith))

line_long : (d : Definition) (u : Bytes) → suc (length u) ≤ length (put_tokens (definition_line d) u)
unfolding put_tokens
line_long d u =
    let ws : Tokens = d.name ∷ ascii " " ∷ content_tokens d.content ++ (ascii ">\n" ∷ []) in
    let m : length u ≤ length (put_tokens ws u) = tokens_long ws u in
    omega arith

-- each definition has a line
pub form_long : (form : Form) (r : Bytes) → length form + length r ≤ length (put_lines (form_lines form) r)
unfolding put_lines
form_long [] r = omega arith
form_long (d ∷ ds) r =
    let t : Bytes = put_lines (form_lines ds) r in
    let u : Bytes = put_lines (attribute_lines d.name d.attributes) t in
    let l : length ds + length r ≤ length t = form_long ds r in
    let m : length d.attributes + length t ≤ length u = attributes_long d.name d.attributes t in
    let o : suc (length u) ≤ length (put_tokens (definition_line d) u) = line_long d u in
    rw (put_lines_append (attribute_lines d.name d.attributes) (form_lines ds) r) (omega arith)
