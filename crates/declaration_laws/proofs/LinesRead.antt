-- A line of a form is read as the canonical definition or attribute that it is the line of.
use Prim.Native.Nat.{ℕ, suc, ◌+◌, ◌≤◌}
use native.Mathlib.Omega.{arith}
use mathlib.Core.Path.{◌≡◌, refl, sym, ap, ap₂, ◌∙◌}
use mathlib.Core.Bool.{true, false}
use mathlib.Core.List.{List, [], ◌∷◌, ◌++◌, map}
use lib.ListN.{length, length-append, take, drop}
use lib.Seq.{take_all}
use Rattle.rules.specs.declared.GroupKind.TheVariants.{Sequence}
use Rattle.rules.specs.declared.AttributeSort.{AttributeSort}
use Rattle.rules.specs.declared.AttributeSort.TheVariants.{Implied, Required, Fixed}
use Rattle.rules.specs.Bytes.{Bytes, ascii, all}
use Rattle.rules.specs.Model.{Members, done, el, group, names, Some, Full}
use Rattle.rules.specs.Store.{Content, empty, pcdata, complex, Attribute, Definition, Form, bare, tree, model_of}
use Rattle.rules.specs.Preorder.{Deep, preorder}
use Rattle.rules.specs.Layout.{FlatParticle, quantifier_code, group_code, how_many, kind_code, sort_code, particles, content_particles, flat_definition}
use Rattle.rules.specs.WellFormed.{is_name, is_attribute_of, definition_name}
use Rattle.rules.specs.Print.{escape, member_tokens, content_tokens, default_tokens}
use Rattle.rules.proofs.Words.{and_split}
use Rattle.layout.specs.RecordBytes.{definition_of, attribute_of}
use Rattle.text_scan.specs.Scan.{starts_with, no_quote, value_of_raw}
use Rattle.text_scan.proofs.ScanLaws.{leading_of, escape_quoted, value_escape}
use Rattle.reading_rules.specs.Canonical.{canonical_members, canonical_content, canonical_fill, canonical_definition}
use Rattle.reading_rules.proofs.Pieces.{put_tokens, tokens_append}
use Rattle.reading_rules.proofs.Models.{trailing_name, members_in_all, starts_with_name}
use Rattle.reading_rules.proofs.Declarations.{name_stops}
use Rattle.declaration_scan.specs.Declared.{name_here, declared_name, after_declared, declared_kind, model_of_content}
use Rattle.declaration_scan.specs.Declared.{definition_of_line, declared_sort, declared_value, after_type, attribute_of_line, model_from}
use Rattle.declaration_scan.proofs.Laws.{place_index}
use Rattle.declaration_laws.proofs.ModelText.{placed, name_here_lem, model_text}
use Rattle.declaration_laws.proofs.LineText.{Declarable, attribute_good, definition_text, attribute_text}

-- ---- names and their places
placed_particles : (form : Form) (ms : Members Bytes) → placed (map definition_name form) ms ≡ particles form ms
placed_particles form done = refl
placed_particles form (el q n rest) =
    λ i. tree (record { sort = 0; quantifier = quantifier_code q; index = place_index n form i }) bare (placed_particles form rest i)
placed_particles form (group q k ms rest) =
    λ i. tree (record { sort = group_code k; quantifier = quantifier_code q; index = how_many ms }) (placed_particles form ms i) (placed_particles form rest i)

-- ---- how many particles
placed_many : (ns : List Bytes) (d : ℕ) (ms : Members Bytes) → length (preorder d (placed ns ms)) ≡ members_in_all ms
unfolding members_in_all
placed_many ns d done = refl
placed_many ns d (el q n rest) = ap suc (placed_many ns d rest)
placed_many ns d (group q k ms rest) =
    ap suc (length-append (preorder (suc d) (placed ns ms)) (preorder d (placed ns rest)) ∙ ap₂ (λ (x y : ℕ). x + y) (placed_many ns (suc d) ms) (placed_many ns d rest))

abbrev content_placed : List Bytes → Content → List (Deep FlatParticle)
content_placed ns empty = []
content_placed ns pcdata = []
content_placed ns (complex ms) = preorder 0 (placed ns ms)

content_placed_lem : (form : Form) (c : Content) → content_placed (map definition_name form) c ≡ content_particles form c
content_placed_lem form empty = refl
content_placed_lem form pcdata = refl
content_placed_lem form (complex ms) = ap (preorder 0) (placed_particles form ms)

content_placed_many : (ns : List Bytes) (c : Content) → length (content_placed ns c) ≡ members_in_all (model_of c)
unfolding members_in_all
content_placed_many ns empty = refl
content_placed_many ns pcdata = refl
content_placed_many ns (complex ms) = placed_many ns 0 ms

pub content_many : (form : Form) (c : Content) → length (content_particles form c) ≡ members_in_all (model_of c)
content_many form c = ap (λ (z : List (Deep FlatParticle)). length z) (sym (content_placed_lem form c)) ∙ content_placed_many (map definition_name form) c

-- ---- content, with the `>` behind it
abbrev content_text : Content → Bytes
content_text c = put_tokens (content_tokens c) (62 ∷ [])

abbrev model_bytes : Members Bytes → Bytes
model_bytes ms = put_tokens (member_tokens Sequence [] ms) (41 ∷ 62 ∷ [])

content_put : (ms : Members Bytes) → Some ms → content_text (complex ms) ≡ 40 ∷ model_bytes ms
unfolding put_tokens
content_put done o = absurd o
content_put (el q n rest) o = ap (λ (z : Bytes). 40 ∷ z) (tokens_append (member_tokens Sequence [] (el q n rest)) (ascii ")" ∷ []) (62 ∷ []))
content_put (group q k ms rest) o = ap (λ (z : Bytes). 40 ∷ z) (tokens_append (member_tokens Sequence [] (group q k ms rest)) (ascii ")" ∷ []) (62 ∷ []))

-- a model does not begin with `#`
model_apart : (ms : Members Bytes) → Some ms → all is_name (names ms) ≡ true → starts_with (ascii "#") (model_bytes ms) ≡ false
unfolding put_tokens names
model_apart done o h = absurd o
model_apart (el q n rest) o h = starts_with_name 35 n _ (and_split (is_name n) (all is_name (names rest)) h).0 refl
model_apart (group q k ms rest) o h = unfold starts_with in refl

model_kind : (t : Bytes) → starts_with (ascii "#") t ≡ false → declared_kind (40 ∷ t) ≡ 2
unfolding starts_with
model_kind t e = rw e

content_kind : (c : Content) → all is_name (names (model_of c)) ≡ true → declared_kind (content_text c) ≡ kind_code (canonical_content c)
content_kind empty h = unfold put_tokens in refl
content_kind pcdata h = unfold put_tokens starts_with in refl
content_kind (complex done) h = unfold put_tokens in refl
content_kind (complex (el q n rest)) h = ap declared_kind (content_put (el q n rest) tt) ∙ model_kind (model_bytes (el q n rest)) (model_apart (el q n rest) tt h)
content_kind (complex (group q k ms rest)) h = ap declared_kind (content_put (group q k ms rest) tt) ∙ model_kind (model_bytes (group q k ms rest)) (model_apart (group q k ms rest) tt h)

model_in_lem : (ns : List Bytes) (t : Bytes) → starts_with (ascii "#") t ≡ false → model_of_content ns (40 ∷ t) ≡ model_from ns 0 false t
model_in_lem ns t e = rw (model_kind t e, model_of_content)

members_in_lem : (ns : List Bytes) (ms : Members Bytes) → Some ms → Full ms → all is_name (names ms) ≡ true → members_in_all ms ≤ 256
    → model_of_content ns (content_text (complex ms)) ≡ preorder 0 (placed ns (canonical_members ms))
members_in_lem ns ms o f h l = ap (model_of_content ns) (content_put ms o) ∙ model_in_lem ns (model_bytes ms) (model_apart ms o h) ∙ model_text ns ms f h l

content_in : (ns : List Bytes) (c : Content) → Full (model_of c) → all is_name (names (model_of c)) ≡ true → members_in_all (model_of c) ≤ 256
    → model_of_content ns (content_text c) ≡ content_placed ns (canonical_content c)
content_in ns empty f h l = unfold put_tokens in refl
content_in ns pcdata f h l = unfold put_tokens starts_with in refl
content_in ns (complex done) f h l = unfold put_tokens in refl
content_in ns (complex (el q n rest)) f h l = members_in_lem ns (el q n rest) tt f h l
content_in ns (complex (group q k ms rest)) f h l = members_in_lem ns (group q k ms rest) tt f h l

-- ---- a definition line
definition_name_lem : (d : Definition) → is_name d.name ≡ true → declared_name (definition_text d) ≡ d.name
unfolding definition_text put_tokens
definition_name_lem d h = name_here_lem d.name (32 ∷ content_text d.content) h (name_stops 32 _ refl)

after_definition : (d : Definition) → is_name d.name ≡ true → after_declared (definition_text d) ≡ content_text d.content
unfolding definition_text put_tokens
after_definition d h = ap (drop 1) (trailing_name d.name (32 ∷ content_text d.content) h (name_stops 32 _ refl))

definition_model : (ns : List Bytes) (w : ℕ) (d : Definition) → Declarable w d → model_of_content ns (after_declared (definition_text d)) ≡ content_placed ns (canonical_content d.content)
definition_model ns w d h = ap (model_of_content ns) (after_definition d h.name) ∙ content_in ns d.content h.groups h.member_names h.small

pub definition_particles : (form : Form) (w : ℕ) (d : Definition) → Declarable w d
    → model_of_content (map definition_name form) (after_declared (definition_text d)) ≡ content_particles form (canonical_content d.content)
definition_particles form w d h = definition_model (map definition_name form) w d h ∙ content_placed_lem form (canonical_content d.content)

pub definition_in_lem : (form : Form) (w : ℕ) (d : Definition) → Declarable w d → definition_of_line (definition_text d) ≡ flat_definition form (canonical_definition d)
definition_in_lem form w d h =
    let c : Content = canonical_content d.content in
    let kind : declared_kind (after_declared (definition_text d)) ≡ kind_code c = ap declared_kind (after_definition d h.name) ∙ content_kind d.content h.member_names in
    let many : length (model_of_content [] (after_declared (definition_text d))) ≡ length (content_particles form c) =
    ap (λ (z : List (Deep FlatParticle)). length z) (definition_model [] w d h) ∙ content_placed_many [] c ∙ sym (content_many form c) in
    λ i. definition_of (definition_name_lem d h.name i) (kind i) (many i)

-- ---- an attribute line
abbrev default_text : Attribute → Bytes
default_text a = put_tokens (default_tokens a) (62 ∷ [])

after_owner : (owner : Bytes) (a : Attribute) → is_name owner ≡ true → after_declared (attribute_text owner a) ≡ a.name ++ (ascii " CDATA " ++ default_text a)
unfolding attribute_text put_tokens
after_owner owner a h = ap (drop 1) (trailing_name owner (32 ∷ (a.name ++ (ascii " CDATA " ++ default_text a))) h (name_stops 32 _ refl))

after_type_lem : (n t : Bytes) → is_name n ≡ true → after_type (n ++ (ascii " CDATA " ++ t)) ≡ t
after_type_lem n t h = ap (drop 7) (trailing_name n (ascii " CDATA " ++ t) h (name_stops 32 _ refl))

default_sort : (n : Bytes) (k : AttributeSort) (v : Bytes) → declared_sort (default_text (record { name = n; sort = k; value = v })) ≡ sort_code k
unfolding put_tokens starts_with
default_sort n Implied v = refl
default_sort n Required v = refl
default_sort n Fixed v = refl

default_value : (n : Bytes) (k : AttributeSort) (v : Bytes) → declared_value (default_text (record { name = n; sort = k; value = v })) ≡ canonical_fill k v
unfolding put_tokens starts_with
default_value n Implied v = refl
default_value n Required v = refl
default_value n Fixed v = ap value_of_raw (leading_of no_quote (escape v) 34 (62 ∷ []) (escape_quoted v) refl) ∙ value_escape v

fill_short : (w : ℕ) (k : AttributeSort) (v : Bytes) → 1 ≤ w → length v ≤ w → length (canonical_fill k v) ≤ w
fill_short w Implied v r l = omega arith
fill_short w Required v r l = r
fill_short w Fixed v r l = l

pub attribute_in_lem : (w o : ℕ) (owner : Bytes) (a : Attribute) → 1 ≤ w → is_name owner ≡ true → is_attribute_of w a ≡ true
    → attribute_of_line w o (attribute_text owner a) ≡ attribute_of o a.name (sort_code a.sort) (canonical_fill a.sort a.value)
attribute_in_lem w o owner a room h i =
    let g = attribute_good w a i in
    let l : Bytes = attribute_text owner a in
    let t : after_declared l ≡ a.name ++ (ascii " CDATA " ++ default_text a) = after_owner owner a h in
    let name : name_here (after_declared l) ≡ a.name = ap name_here t ∙ name_here_lem a.name (ascii " CDATA " ++ default_text a) g.name (name_stops 32 _ refl) in
    let u : after_type (after_declared l) ≡ default_text a = ap after_type t ∙ after_type_lem a.name (default_text a) g.name in
    let sort : declared_sort (after_type (after_declared l)) ≡ sort_code a.sort = ap declared_sort u ∙ default_sort a.name a.sort a.value in
    let value : take w (declared_value (after_type (after_declared l))) ≡ canonical_fill a.sort a.value =
    ap (λ (z : Bytes). take w (declared_value z)) u
    ∙ ap (take w) (default_value a.name a.sort a.value)
    ∙ take_all w (canonical_fill a.sort a.value) (fill_short w a.sort a.value room g.short) in
    λ j. attribute_of o (name j) (sort j) (value j)
