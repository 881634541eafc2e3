-- THE FORM THAT A PRINTED TEXT DECLARES IS THE CANONICAL ONE, line by line.
use Prim.Native.Nat.{ℕ, suc, ◌-◌, ◌≤◌}
use native.Mathlib.Omega.{arith}
use mathlib.Core.Path.{◌≡◌, refl, ap, ap₂, ◌∙◌}
use mathlib.Core.Bool.{true}
use mathlib.Core.List.{List, [], ◌∷◌, ◌++◌, map, Memᴰ}
use lib.ListN.{length, length-append}
use Rattle.rules.specs.Bytes.{Bytes}
use Rattle.rules.specs.Store.{Attribute, Definition, Form, element, Row, Forest, bare, tree, Store, members}
use Rattle.rules.specs.Preorder.{Deep}
use Rattle.rules.specs.Layout.{value_width, FlatDefinition, FlatParticle, FlatAttribute, content_particles, flat_definition, all_particles, own_attributes, all_attributes, flat}
use Rattle.rules.specs.Decode.{flat_name}
use Rattle.rules.specs.WellFormed.{is_name, is_attribute_of, definition_name, WellFormed}
use Rattle.rules.specs.Conforming.{Conforming}
use Rattle.rules.specs.Passing.{Good}
use Rattle.rules.specs.Print.{printed}
use Rattle.rules.proofs.BooleanLaws.{Every, every_zip, every_in}
use Rattle.rules.proofs.DecodeLaws.{flat_names}
use Rattle.store_laws.proofs.FormBytesLaws.{few_of, few_particles}
use Rattle.text_scan.specs.Scan.{starts_with}
use Rattle.reading_rules.specs.Canonical.{canonical_attribute, canonical_definition}
use Rattle.reading_rules.proofs.Pieces.{put_tokens}
use Rattle.reading_rules.proofs.Models.{members_in_all}
use Rattle.reading_rules.proofs.Parsing.{found_named, readable, text_of}
use Rattle.declaration_scan.specs.Declared.{after_declared, model_of_content, definition_of_line, attribute_of_line, definitions_of_lines, particles_of_lines, attributes_of_lines, declarations, declared_form}
use Rattle.declaration_laws.proofs.TextParts.{form_store}
use Rattle.declaration_laws.proofs.LineText.{Declarable, definition_text, attribute_text, form_texts, RootNamed, declarations_text_lem}
use Rattle.declaration_laws.proofs.LinesRead.{content_many, definition_particles, definition_in_lem, attribute_in_lem}

-- ---- definitions
definitions_first : (d : Definition) (ls : List Bytes) → definitions_of_lines (definition_text d ∷ ls) ≡ definition_of_line (definition_text d) ∷ definitions_of_lines ls
unfolding definitions_of_lines definition_text put_tokens starts_with
definitions_first d ls = refl

definitions_past : (owner : Bytes) (table : List Attribute) (ls : List Bytes) → definitions_of_lines (map (attribute_text owner) table ++ ls) ≡ definitions_of_lines ls
unfolding definitions_of_lines attribute_text put_tokens starts_with
definitions_past owner [] ls = refl
definitions_past owner (a ∷ table) ls = definitions_past owner table ls

definitions_text : (form : Form) (w : ℕ) (ds : Form) → Every (Declarable w) ds → definitions_of_lines (form_texts ds) ≡ map (flat_definition form) (map canonical_definition ds)
definitions_text form w [] h = unfold definitions_of_lines in refl
definitions_text form w (d ∷ ds) (h₀, h₁) =
    definitions_first d (map (attribute_text d.name) d.attributes ++ form_texts ds)
    ∙ ap₂ (λ (x : FlatDefinition) (xs : List FlatDefinition). x ∷ xs) (definition_in_lem form w d h₀)
    (definitions_past d.name d.attributes (form_texts ds) ∙ definitions_text form w ds h₁)

-- ---- particles
particles_first : (ns : List Bytes) (d : Definition) (ls : List Bytes) → particles_of_lines ns (definition_text d ∷ ls) ≡ model_of_content ns (after_declared (definition_text d)) ++ particles_of_lines ns ls
unfolding particles_of_lines definition_text put_tokens starts_with
particles_first ns d ls = refl

particles_past : (ns : List Bytes) (owner : Bytes) (table : List Attribute) (ls : List Bytes) → particles_of_lines ns (map (attribute_text owner) table ++ ls) ≡ particles_of_lines ns ls
unfolding particles_of_lines attribute_text put_tokens starts_with
particles_past ns owner [] ls = refl
particles_past ns owner (a ∷ table) ls = particles_past ns owner table ls

particles_text : (form : Form) (w : ℕ) (ds : Form) → Every (Declarable w) ds → particles_of_lines (map definition_name form) (form_texts ds) ≡ all_particles form (map canonical_definition ds)
particles_text form w [] h = unfold particles_of_lines in refl
particles_text form w (d ∷ ds) (h₀, h₁) =
    particles_first (map definition_name form) d (map (attribute_text d.name) d.attributes ++ form_texts ds)
    ∙ ap₂ (λ (x y : List (Deep FlatParticle)). x ++ y) (definition_particles form w d h₀)
    (particles_past (map definition_name form) d.name d.attributes (form_texts ds) ∙ particles_text form w ds h₁)

-- ---- attributes
attributes_first : (w o : ℕ) (d : Definition) (ls : List Bytes) → attributes_of_lines w o (definition_text d ∷ ls) ≡ attributes_of_lines w (suc o) ls
unfolding attributes_of_lines definition_text put_tokens starts_with
attributes_first w o d ls = refl

attributes_next : (w o : ℕ) (owner : Bytes) (a : Attribute) (ls : List Bytes)
    → attributes_of_lines w (suc o) (attribute_text owner a ∷ ls) ≡ attribute_of_line w o (attribute_text owner a) ∷ attributes_of_lines w (suc o) ls
unfolding attributes_of_lines attribute_text put_tokens starts_with
attributes_next w o owner a ls = ap (λ (z : ℕ). attribute_of_line w z (attribute_text owner a) ∷ attributes_of_lines w (suc o) ls) (let e : suc o - 1 ≡ o = omega arith in e)

attributes_own : (w o : ℕ) (owner : Bytes) (table : List Attribute) (ls : List Bytes) → 1 ≤ w → is_name owner ≡ true → Every (λ a. is_attribute_of w a ≡ true) table
    → attributes_of_lines w (suc o) (map (attribute_text owner) table ++ ls) ≡ own_attributes o (map canonical_attribute table) ++ attributes_of_lines w (suc o) ls
attributes_own w o owner [] ls room h i = refl
attributes_own w o owner (a ∷ table) ls room h (i₀, i₁) =
    attributes_next w o owner a (map (attribute_text owner) table ++ ls)
    ∙ ap₂ (λ (x : FlatAttribute) (xs : List FlatAttribute). x ∷ xs) (attribute_in_lem w o owner a room h i₀) (attributes_own w o owner table ls room h i₁)

attributes_text_lem : (w o : ℕ) (ds : Form) → 1 ≤ w → Every (Declarable w) ds → attributes_of_lines w o (form_texts ds) ≡ all_attributes o (map canonical_definition ds)
attributes_text_lem w o [] room h = unfold attributes_of_lines in refl
attributes_text_lem w o (d ∷ ds) room (h₀, h₁) =
    attributes_first w o d (map (attribute_text d.name) d.attributes ++ form_texts ds)
    ∙ attributes_own w o d.name d.attributes (form_texts ds) room h₀.name h₀.attributes
    ∙ ap (λ (z : List FlatAttribute). own_attributes o (map canonical_attribute d.attributes) ++ z) (attributes_text_lem w (suc o) ds room h₁)

-- ---- a store that passes
definitions_small : (form ds : Form) (n : ℕ) → length (all_particles form ds) ≤ n → Every (λ d. members_in_all (members d) ≤ n) ds
definitions_small form [] n l = tt
definitions_small form (d ∷ ds) n l =
    let e : length (content_particles form d.content) ≡ members_in_all (members d) = content_many form d.content in
    let s = length-append (content_particles form d.content) (all_particles form ds) in
    (omega (arith, e, s, l), definitions_small form ds n (omega (arith, s, l)))

declarable : (w : ℕ) (form : Form) → WellFormed w form → (d : Definition) → Memᴰ d form → members_in_all (members d) ≤ 256 → Declarable w d
declarable w form ok d m l =
    let g = ok.definitions d m in
    record {
      name = g.name;
      groups = g.groups;
      member_names = (readable w form ok d m).members;
      small = l;
      attributes = every_in (λ a. is_attribute_of w a ≡ true) d.attributes g.attributes;
    }

pub form_declarable : (s : Store) → Good s → Every (Declarable (value_width s.version)) s.form
form_declarable s g =
    every_zip (λ d. Memᴰ d s.form) (λ d. members_in_all (members d) ≤ 256) (Declarable (value_width s.version)) s.form
    (declarable (value_width s.version) s.form g.form)
    (every_in (λ d. Memᴰ d s.form) s.form (λ d m. m))
    (definitions_small s.form s.form 256 (few_particles (few_of (flat s) g.ceilings)))

root_named : (version w : ℕ) (form : Form) (docs : Forest Row) → WellFormed w form → Conforming version form docs → RootNamed docs
root_named version w form bare ok c = tt
root_named version w form (tree r b t) ok c =
    let k : r.sort ≡ element = c.roots r (Memᴰ.head refl) in
    let (d, e, x) = rw k at c.rows.0 in
    found_named w form ok r.name d e

-- ---- the whole
declared_lines : (s : Store) → Good s → declarations (printed s) ≡ form_texts s.form
declared_lines s g =
    let w : ℕ = value_width s.version in
    ap declarations (text_of s) ∙ declarations_text_lem w s.form s.docs (form_declarable s g) (root_named s.version w s.form s.docs g.form g.docs)

room : (version : ℕ) → 1 ≤ value_width version
unfolding value_width
room version = omega arith

pub declared_form_lem : (s : Store) → Good s → declared_form s.version (value_width s.version) (printed s) ≡ flat (form_store s)
unfolding declared_form
declared_form_lem s g =
    let w : ℕ = value_width s.version in
    let form : Form = map canonical_definition s.form in
    let h : Every (Declarable w) s.form = form_declarable s g in
    let lines : declarations (printed s) ≡ form_texts s.form = declared_lines s g in
    let definitions : definitions_of_lines (declarations (printed s)) ≡ map (flat_definition form) form = ap definitions_of_lines lines ∙ definitions_text form w s.form h in
    let particles : particles_of_lines (map flat_name (definitions_of_lines (declarations (printed s)))) (declarations (printed s)) ≡ all_particles form form =
    ap₂ (λ (ds : List FlatDefinition) (ls : List Bytes). particles_of_lines (map flat_name ds) ls) definitions lines
    ∙ ap (λ (ns : List Bytes). particles_of_lines ns (form_texts s.form)) (flat_names form form)
    ∙ particles_text form w s.form h in
    let attributes : attributes_of_lines w 0 (declarations (printed s)) ≡ all_attributes 0 form = ap (attributes_of_lines w 0) lines ∙ attributes_text_lem w 0 s.form (room s.version) h in
    λ i. record { version = s.version; next = 1; definitions = definitions i; particles = particles i; attributes = attributes i; rows = [] }
