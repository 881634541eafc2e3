-- How long the text of a form can be: line by line, then by the ceilings.
use Prim.Native.Nat.{ℕ, suc, ◌+◌, ◌*◌, ◌≤◌}
use native.Mathlib.Nat.{mul-suc, mul-add, mul-le-mul_left}
use native.Mathlib.Omega.{arith}
use mathlib.Core.Path.{◌≡◌, refl, ap, ◌∙◌}
use mathlib.Core.Bool.{true}
use mathlib.Core.List.{List, [], ◌∷◌, ◌++◌}
use lib.ListN.{length, length-append, length-map}
use Rattle.rules.specs.declared.Quantifier.{Quantifier}
use Rattle.rules.specs.declared.Quantifier.TheVariants.{None, Qmark, Star, Plus}
use Rattle.rules.specs.declared.GroupKind.{GroupKind}
use Rattle.rules.specs.declared.GroupKind.TheVariants.{Sequence, Choice}
use Rattle.rules.specs.declared.AttributeSort.{AttributeSort}
use Rattle.rules.specs.declared.AttributeSort.TheVariants.{Implied, Required, Fixed}
use Rattle.rules.specs.Bytes.{Bytes, ascii, all}
use Rattle.rules.specs.Model.{Members, done, el, group, names}
use Rattle.rules.specs.Store.{Content, empty, pcdata, complex, Attribute, Definition, Form, Store, model_of, members}
use Rattle.rules.specs.Layout.{value_width, content_particles, flat_definition, all_particles, own_attributes, all_attributes, flat}
use Rattle.rules.specs.WellFormed.{is_name, is_attribute_of}
use Rattle.rules.specs.Passing.{Good}
use Rattle.rules.specs.Print.{escape, mark_of, separator, member_tokens, content_tokens, definition_line, default_tokens, attribute_line, attribute_lines, form_lines, printed}
use Rattle.rules.proofs.Words.{and_split}
use Rattle.rules.proofs.BooleanLaws.{Every, all_left, all_right}
use Rattle.rules.proofs.DecodeLaws.{name_width_lem, length_own}
use Rattle.escaping.proofs.Laws.{escape_length}
use Rattle.store_laws.proofs.FormBytesLaws.{Few, few_of, few_definitions, few_particles, few_attributes}
use Rattle.reading_rules.proofs.Pieces.{put_tokens, tokens_append, put_lines, put_lines_append}
use Rattle.reading_rules.proofs.Models.{members_in_all}
use Rattle.reading_rules.proofs.Documents.{lines_of_documents}
use Rattle.reading_rules.proofs.Parsing.{text_of}
use Rattle.declaration_laws.proofs.TextParts.{form_only, form_store, form_store_text}
use Rattle.declaration_laws.proofs.GroupText.{element_put, group_put, no_members_put}
use Rattle.declaration_laws.proofs.LineText.{Declarable, attribute_good}
use Rattle.declaration_laws.proofs.LinesRead.{content_many}
use Rattle.declaration_laws.proofs.Declaring.{form_declarable}

-- ---- content models: a sign, a name and a mark for each particle
mark_short : (q : Quantifier) → length (mark_of q) ≤ 1
mark_short None = omega arith
mark_short Qmark = omega arith
mark_short Star = omega arith
mark_short Plus = omega arith

separator_short : (k : GroupKind) → length (separator k) ≤ 1
separator_short Sequence = omega arith
separator_short Choice = omega arith

element_length : (sign n : Bytes) (q : Quantifier) (t : Bytes) → length sign ≤ 1 → length n ≤ 16 → length (sign ++ (n ++ (mark_of q ++ t))) ≤ 18 + length t
element_length sign n q t s l = omega (arith, length-append sign (n ++ (mark_of q ++ t)), length-append n (mark_of q ++ t), length-append (mark_of q) t, mark_short q, s, l)

group_length : (sign u v : Bytes) (q : Quantifier) (t : Bytes) (n : ℕ) → length sign ≤ 1 → v ≡ 41 ∷ (mark_of q ++ t) → length u ≤ n + length v → length (sign ++ (40 ∷ u)) ≤ 4 + (n + length t)
group_length sign u v q t n s e l =
    let m : length v ≡ suc (length (mark_of q) + length t) = ap (λ (z : Bytes). length z) e ∙ ap suc (length-append (mark_of q) t) in
    omega (arith, length-append sign (40 ∷ u), m, mark_short q, s, l)

members_length : (k : GroupKind) (sign : Bytes) (ms : Members Bytes) (r : Bytes) → length sign ≤ 1 → all is_name (names ms) ≡ true
    → length (put_tokens (member_tokens k sign ms) r) ≤ 18 * members_in_all ms + length r
unfolding names members_in_all
members_length k sign done r s h = rw (no_members_put k sign r) (omega arith)
members_length k sign (el q n rest) r s h =
    let (a, b) = and_split (is_name n) (all is_name (names rest)) h in
    let t : Bytes = put_tokens (member_tokens k (separator k) rest) r in
    let others : length t ≤ 18 * members_in_all rest + length r = members_length k (separator k) rest r (separator_short k) b in
    rw (element_put k sign q n rest r) (omega (arith, element_length sign n q t s (name_width_lem n a), others))
members_length k sign (group q j ms rest) r s h =
    let a = all_left is_name (names ms) (names rest) h in
    let b = all_right is_name (names ms) (names rest) h in
    let t : Bytes = put_tokens (member_tokens k (separator k) rest) r in
    let v : Bytes = 41 ∷ (mark_of q ++ t) in
    let others : length t ≤ 18 * members_in_all rest + length r = members_length k (separator k) rest r (separator_short k) b in
    let inner : length (put_tokens (member_tokens j [] ms) v) ≤ 18 * members_in_all ms + length v = members_length j [] ms v (omega arith) a in
    let whole : length (sign ++ (40 ∷ put_tokens (member_tokens j [] ms) v)) ≤ 4 + (18 * members_in_all ms + length t) =
    group_length sign (put_tokens (member_tokens j [] ms) v) v q t (18 * members_in_all ms) s refl inner in
    rw (group_put k sign q j ms rest r) (omega (arith, whole, others))

model_length_lem : (ms : Members Bytes) (r : Bytes) → all is_name (names ms) ≡ true → length (40 ∷ put_tokens (member_tokens Sequence [] ms ++ (ascii ")" ∷ [])) r) ≤ 9 + 18 * members_in_all ms + length r
unfolding put_tokens
model_length_lem ms r h =
    let inner : length (put_tokens (member_tokens Sequence [] ms) (41 ∷ r)) ≤ 18 * members_in_all ms + length (41 ∷ r) = members_length Sequence [] ms (41 ∷ r) (omega arith) h in
    let e : length (put_tokens (member_tokens Sequence [] ms ++ (ascii ")" ∷ [])) r) ≡ length (put_tokens (member_tokens Sequence [] ms) (41 ∷ r)) =
    ap (λ (z : Bytes). length z) (tokens_append (member_tokens Sequence [] ms) (ascii ")" ∷ []) r) in
    omega (arith, inner, e)

content_length : (c : Content) (r : Bytes) → all is_name (names (model_of c)) ≡ true → length (put_tokens (content_tokens c) r) ≤ 9 + 18 * members_in_all (model_of c) + length r
unfolding put_tokens
content_length empty r h = omega arith
content_length pcdata r h = omega arith
content_length (complex done) r h = omega arith
content_length (complex (el q n rest)) r h = model_length_lem (el q n rest) r h
content_length (complex (group q k ms rest)) r h = model_length_lem (group q k ms rest) r h

-- ---- lines
definition_length : (w : ℕ) (d : Definition) (r : Bytes) → Declarable w d → length (put_tokens (definition_line d) r) ≤ 38 + 18 * members_in_all (members d) + length r
unfolding put_tokens
definition_length w d r h =
    let u : Bytes = put_tokens (content_tokens d.content) (62 ∷ 10 ∷ r) in
    let e : length (put_tokens (content_tokens d.content ++ (ascii ">\n" ∷ [])) r) ≡ length u = ap (λ (z : Bytes). length z) (tokens_append (content_tokens d.content) (ascii ">\n" ∷ []) r) in
    let c : length u ≤ 9 + 18 * members_in_all (members d) + length (62 ∷ 10 ∷ r) = content_length d.content (62 ∷ 10 ∷ r) h.member_names in
    let v : Bytes = 32 ∷ put_tokens (content_tokens d.content ++ (ascii ">\n" ∷ [])) r in
    omega (arith, length-append d.name v, e, c, name_width_lem d.name h.name)

default_length : (w : ℕ) (n : Bytes) (k : AttributeSort) (v r : Bytes) → length v ≤ w → length (put_tokens (default_tokens (record { name = n; sort = k; value = v })) r) ≤ 9 + 6 * w + length r
unfolding put_tokens
default_length w n Implied v r l = omega arith
default_length w n Required v r l = omega arith
default_length w n Fixed v r l = omega (arith, length-append (escape v) (34 ∷ r), escape_length v, l)

attribute_length_lem : (w : ℕ) (owner : Bytes) (a : Attribute) (r : Bytes) → is_name owner ≡ true → is_attribute_of w a ≡ true → length (put_tokens (attribute_line owner a) r) ≤ 61 + 6 * w + length r
unfolding put_tokens
attribute_length_lem w owner a r h i =
    let g = attribute_good w a i in
    let u : Bytes = put_tokens (default_tokens a) (62 ∷ 10 ∷ r) in
    let e : length (put_tokens (default_tokens a ++ (ascii ">\n" ∷ [])) r) ≡ length u = ap (λ (z : Bytes). length z) (tokens_append (default_tokens a) (ascii ">\n" ∷ []) r) in
    let c : length u ≤ 9 + 6 * w + length (62 ∷ 10 ∷ r) = default_length w a.name a.sort a.value (62 ∷ 10 ∷ r) g.short in
    let x : Bytes = ascii " CDATA " ++ put_tokens (default_tokens a ++ (ascii ">\n" ∷ [])) r in
    let y : Bytes = 32 ∷ (a.name ++ x) in
    omega (arith, length-append owner y, length-append a.name x, e, c, name_width_lem owner h, name_width_lem a.name g.name)

attributes_length : (w : ℕ) (owner : Bytes) (table : List Attribute) (r : Bytes) → is_name owner ≡ true → Every (λ a. is_attribute_of w a ≡ true) table
    → length (put_lines (attribute_lines owner table) r) ≤ (61 + 6 * w) * length table + length r
unfolding put_lines
attributes_length w owner [] r h i = omega arith
attributes_length w owner (a ∷ table) r h (i₀, i₁) =
    let t : Bytes = put_lines (attribute_lines owner table) r in
    let others : length t ≤ (61 + 6 * w) * length table + length r = attributes_length w owner table r h i₁ in
    omega (arith, attribute_length_lem w owner a t h i₀, others, mul-suc (61 + 6 * w) (length table))

-- ---- the form
form_length : (w o : ℕ) (form ds : Form) (r : Bytes) → Every (Declarable w) ds
    → length (put_lines (form_lines ds) r) ≤ 38 * length ds + 18 * length (all_particles form ds) + (61 + 6 * w) * length (all_attributes o ds) + length r
unfolding put_lines
form_length w o form [] r h = omega arith
form_length w o form (d ∷ ds) r (h₀, h₁) =
    let t : Bytes = put_lines (form_lines ds) r in
    let u : Bytes = put_lines (attribute_lines d.name d.attributes) t in
    let others : length t ≤ 38 * length ds + 18 * length (all_particles form ds) + (61 + 6 * w) * length (all_attributes (suc o) ds) + length r = form_length w (suc o) form ds r h₁ in
    let table : length u ≤ (61 + 6 * w) * length d.attributes + length t = attributes_length w d.name d.attributes t h₀.name h₀.attributes in
    let line : length (put_tokens (definition_line d) u) ≤ 38 + 18 * members_in_all (members d) + length u = definition_length w d u h₀ in
    let many : length (all_particles form (d ∷ ds)) ≡ members_in_all (members d) + length (all_particles form ds) =
    length-append (content_particles form d.content) (all_particles form ds) ∙ ap (λ (z : ℕ). z + length (all_particles form ds)) (content_many form d.content) in
    let owned : (61 + 6 * w) * length (all_attributes o (d ∷ ds)) ≡ (61 + 6 * w) * length d.attributes + (61 + 6 * w) * length (all_attributes (suc o) ds) =
    ap (λ (z : ℕ). (61 + 6 * w) * z) (length-append (own_attributes o d.attributes) (all_attributes (suc o) ds) ∙ ap (λ (z : ℕ). z + length (all_attributes (suc o) ds)) (length_own o d.attributes))
    ∙ mul-add (61 + 6 * w) (length d.attributes) (length (all_attributes (suc o) ds)) in
    rw (put_lines_append (attribute_lines d.name d.attributes) (form_lines ds) r) (omega (arith, others, table, line, many, owned))

-- ---- a store that passes
-- the bytes of a form's text at most, by the width of a value
abbrev pub form_text_ceiling : ℕ → ℕ
form_text_ceiling w = 64 * 38 + 256 * 18 + 64 * (61 + 6 * w)

form_only_lines : (s : Store) → printed (form_only s) ≡ put_lines (form_lines s.form) []
form_only_lines s = text_of (form_only s) ∙ ap (put_lines (form_lines s.form)) (unfold lines_of_documents put_lines in refl)

-- THE TEXT OF A FORM IS SHORT
pub form_text_short : (s : Store) → Good s → length (printed (form_store s)) ≤ form_text_ceiling (value_width s.version)
form_text_short s g =
    let w : ℕ = value_width s.version in
    let few : Few (flat s) = few_of (flat s) g.ceilings in
    let t : Bytes = put_lines (form_lines s.form) [] in
    let e : length (printed (form_store s)) ≡ length t = ap (λ (z : Bytes). length z) (form_store_text s ∙ form_only_lines s) in
    let l : length t ≤ 38 * length s.form + 18 * length (all_particles s.form s.form) + (61 + 6 * w) * length (all_attributes 0 s.form) + length {A = ℕ} [] =
    form_length w 0 s.form s.form [] (form_declarable s g) in
    let m : (61 + 6 * w) * length (all_attributes 0 s.form) ≤ (61 + 6 * w) * 64 = mul-le-mul_left (61 + 6 * w) (few_attributes few) in
    omega (arith, e, l, m, few_definitions few, length-map s.form (flat_definition s.form), few_particles few)

pub form_text_bytes : (s : Store) → Good s → length (printed (form_store s)) ≤ 23232
unfolding value_width
form_text_bytes s g = form_text_short s g
