-- What a store that passes looks like in print. The canonical form looks up and holds texts as the form does, by cases;
-- rows that conform stand as a text shows them (ShownBelow), by induction on the forest along the order of each row's
-- children (Order).
use mathlib.Core.Path.{◌≡◌, refl, sym, ap, ◌∙◌, subst}
use mathlib.Core.Bool.{Bool, true, false}
use mathlib.Core.Option
use mathlib.Core.Option.{Option, some}
use mathlib.Core.List.Memᴰ
use mathlib.Core.List.{List, [], ◌∷◌, map, cons≢nil, head-eq_of_cons-eq, tail-eq_of_cons-eq}
use Rattle.rules.specs.Bytes.{Bytes, same}
use Rattle.rules.specs.Model.{done, el, group}
use Rattle.rules.specs.Store.{Content, empty, pcdata, complex, Definition, Form, element, attribute, text, Row, Forest, bare, tree, heads}
use Rattle.rules.specs.WellFormed.{is_name, lookup}
use Rattle.rules.specs.Conforming.{EveryRow, Sorted}
use Rattle.rules.specs.Refusal.{is_pcdata}
use Rattle.reading_rules.specs.Canonical.{canonical_content, canonical_definition}
use Rattle.reading_rules.specs.Reader.{holds_text}
use Rattle.reading_rules.proofs.Documents.{row_of_parts, ShownBelow, an_attribute, start_ended, a_text, no_more, an_element, ShownDocuments, no_document, a_document}

-- ---- the canonical form knows the same names
pub lookup_canonical : (n : Bytes) (form : Form) → lookup n (map canonical_definition form) ≡ Option.map canonical_definition (lookup n form)
lookup_canonical n [] = refl
lookup_canonical n (d ∷ ds) = by (same n d.name) (lookup_canonical n ds)
  where
    by : (b : Bool) → lookup n (map canonical_definition ds) ≡ Option.map canonical_definition (lookup n ds)
        → elim b as (λ z. Option Definition) [ true ↦ some (canonical_definition d) | false ↦ lookup n (map canonical_definition ds) ]
        ≡ Option.map canonical_definition (elim b as (λ z. Option Definition) [ true ↦ some d | false ↦ lookup n ds ])
    by true e = refl
    by false e = e

-- `is_pcdata` of a definition with this content
abbrev pub is_textual : Content → Bool
is_textual c = elim c [ empty ↦ false | pcdata ↦ true | complex ms ↦ false ]

textual_canonical : (c : Content) → is_textual (canonical_content c) ≡ is_textual c
textual_canonical empty = refl
textual_canonical pcdata = refl
textual_canonical (complex done) = refl
textual_canonical (complex (el q n rest)) = refl
textual_canonical (complex (group q k ms rest)) = refl

pub holds_canonical : (form : Form) (n : Bytes) (d : Definition) → lookup n form ≡ some d → holds_text (map canonical_definition form) n ≡ is_textual d.content
holds_canonical form n d e =
    ap is_pcdata (lookup_canonical n form ∙ ap (λ (o : Option Definition). Option.map canonical_definition o) e)
    ∙ textual_canonical d.content

-- ---- rows beside one another: attributes, then a text or elements
pub data Order : Bool → Bool → List Row → Type 0 where
  attribute_first : {pc : Bool} {r : Row} {rs : List Row} → r.sort ≡ attribute → is_name r.name ≡ true → Order true pc rs → Order true pc (r ∷ rs)
  then_content : {pc : Bool} {rs : List Row} → Order false pc rs → Order true pc rs
  the_text : {r : Row} → r.sort ≡ text → Order false true (r ∷ [])
  nothing_more : Order false false []
  element_first : {r : Row} {rs : List Row} → r.sort ≡ element → Order false false rs → Order false false (r ∷ rs)

-- a row with its children, by its sort
pub record RowStands (form : Form) (r : Row) (below : List Row) : Type 0 where
  pub element : r.sort ≡ element → (is_name r.name ≡ true) × (r.value ≡ []) × Order true (holds_text form r.name) below
  pub attribute : r.sort ≡ attribute → below ≡ []
  pub text : r.sort ≡ text → (below ≡ []) × (r.name ≡ [])

pub nothing_below : (f : Forest Row) → heads f ≡ [] → f ≡ bare
nothing_below bare e = refl
nothing_below (tree r b t) e = absurd (cons≢nil e)

as_attribute : (r : Row) → r.sort ≡ attribute → r ≡ row_of_parts r.serial attribute r.name r.value
as_attribute r e = λ i. record { serial = r.serial; sort = e i; name = r.name; value = r.value }

as_text : (r : Row) → r.sort ≡ text → r.name ≡ [] → r ≡ row_of_parts r.serial text [] r.value
as_text r e f = λ i. record { serial = r.serial; sort = e i; name = f i; value = r.value }

as_element : (r : Row) → r.sort ≡ element → r.value ≡ [] → r ≡ row_of_parts r.serial element r.name []
as_element r e f = λ i. record { serial = r.serial; sort = e i; name = r.name; value = f i }

module _ (form : Form) where
  -- rows are shown before and after the end of the start tag above them, if their order allows it
  pub record ShownEither (f : Forest Row) : Type 0 where
    pub closed : (pc : Bool) → Order false pc (heads f) → ShownBelow form false pc f
    pub opened : (pc : Bool) → Order true pc (heads f) → ShownBelow form true pc f

  -- the children's order is told of a list that is theirs, so that it can be taken apart
  closed_tree : (r : Row) (b t : Forest Row) → RowStands form r (heads b) → ShownEither b → ShownEither t
      → {pc : Bool} {rs : List Row} → rs ≡ r ∷ heads t → Order false pc rs → ShownBelow form false pc (tree r b t)
  closed_tree r b t s x y e (the_text {r = r'} q) =
      let e₁ : r' ≡ r = head-eq_of_cons-eq e in
      let k : r.sort ≡ text = ap (λ (z : Row). z.sort) (sym e₁) ∙ q in
      let (n, m) = s.text k in
      let p : tree r b t ≡ tree (row_of_parts r.serial text [] r.value) bare bare = λ i. tree (as_text r k m i) (nothing_below b n i) (nothing_below t (sym (tail-eq_of_cons-eq e)) i) in
      subst (λ (z : Forest Row). ShownBelow form false true z) (sym p) a_text
  closed_tree r b t s x y e nothing_more = absurd (cons≢nil (sym e))
  closed_tree r b t s x y e (element_first {r = r'} {rs = rs} q o) =
      let e₁ : r' ≡ r = head-eq_of_cons-eq e in
      let k : r.sort ≡ element = ap (λ (z : Row). z.sort) (sym e₁) ∙ q in
      let (h, v, below) = s.element k in
      let p : tree r b t ≡ tree (row_of_parts r.serial element r.name []) b t = λ i. tree (as_element r k v i) b t in
      subst (λ (z : Forest Row). ShownBelow form false false z) (sym p)
      (an_element h (x.opened (holds_text form r.name) below) (y.closed false (subst (λ (z : List Row). Order false false z) (tail-eq_of_cons-eq e) o)))

  opened_tree : (r : Row) (b t : Forest Row) → RowStands form r (heads b) → ShownEither b → ShownEither t
      → {pc : Bool} {rs : List Row} → rs ≡ r ∷ heads t → Order true pc rs → ShownBelow form true pc (tree r b t)
  opened_tree r b t s x y e (attribute_first {pc = pc} {r = r'} {rs = rs} q h o) =
      let e₁ : r' ≡ r = head-eq_of_cons-eq e in
      let k : r.sort ≡ attribute = ap (λ (z : Row). z.sort) (sym e₁) ∙ q in
      let g : is_name r.name ≡ true = ap (λ (z : Row). is_name z.name) (sym e₁) ∙ h in
      let p : tree r b t ≡ tree (row_of_parts r.serial attribute r.name r.value) bare t = λ i. tree (as_attribute r k i) (nothing_below b (s.attribute k) i) t in
      subst (λ (z : Forest Row). ShownBelow form true pc z) (sym p) (an_attribute g (y.opened pc (subst (λ (z : List Row). Order true pc z) (tail-eq_of_cons-eq e) o)))
  opened_tree r b t s x y e (then_content o) = start_ended (closed_tree r b t s x y e o)

  bare_closed : {pc : Bool} {rs : List Row} → rs ≡ [] → Order false pc rs → ShownBelow form false pc bare
  bare_closed e (the_text q) = absurd (cons≢nil e)
  bare_closed e nothing_more = no_more
  bare_closed e (element_first q o) = absurd (cons≢nil e)

  bare_opened : {pc : Bool} {rs : List Row} → rs ≡ [] → Order true pc rs → ShownBelow form true pc bare
  bare_opened e (attribute_first q h o) = absurd (cons≢nil e)
  bare_opened e (then_content o) = start_ended (bare_closed e o)

  -- below an element
  pub shown_both : (f : Forest Row) → EveryRow (λ r below. RowStands form r below) f → ShownEither f
  shown_both bare x = record { closed = λ pc o. bare_closed refl o; opened = λ pc o. bare_opened refl o }
  shown_both (tree r b t) (s, x, y) =
      let u = shown_both b x in
      let v = shown_both t y in
      record { closed = λ pc o. closed_tree r b t s u v refl o; opened = λ pc o. opened_tree r b t s u v refl o }

  -- at the top
  pub shown_documents : (f : Forest Row) → EveryRow (λ r below. RowStands form r below) f → Sorted element (heads f) → ShownDocuments form f
  shown_documents bare x q = no_document
  shown_documents (tree r b t) (s, x, y) q =
      let k : r.sort ≡ element = q r (Memᴰ.head refl) in
      let (h, v, below) = s.element k in
      let p : tree r b t ≡ tree (row_of_parts r.serial element r.name []) b t = λ i. tree (as_element r k v i) b t in
      subst (λ (z : Forest Row). ShownDocuments form z) (sym p) (a_document h ((shown_both b x).opened (holds_text form r.name) below) (shown_documents t y (λ u m. q u (Memᴰ.tail m))))
