-- Documents that conform are read off the text of their rows: by induction over the forest, with the laws that reading
-- goes on behind each token. What is said of a level is said before rows that are less deep.
use Prim.Native.Nat.{ℕ, suc, ◌+◌, ◌≤◌, ◌<◌}
use native.Mathlib.Omega.{arith}
use mathlib.Core.Path.{◌≡◌, refl, sym, ap, ap₂, ◌∙◌, subst}
use mathlib.Core.Bool.{Bool, true, false, ◌&&◌}
use mathlib.Core.Option.{Option, some}
use mathlib.Core.List.{List, [], ◌∷◌, ◌++◌, map, append_assoc, cons≢nil, head-eq_of_cons-eq, tail-eq_of_cons-eq, Memᴰ}
use lib.Dec.{eqb}
use lib.ListN.{length, length-map, drop}
use Rattle.rules.specs.Bytes.{Bytes, is_none}
use Rattle.rules.specs.Store.{Definition, Form, element, attribute, text, Row, Forest, bare, tree, heads}
use Rattle.rules.specs.Preorder.{Deep, preorder}
use Rattle.rules.specs.Layout.{FlatRow, index_of, attribute_index, kind_code, flat_definition, indexed}
use Rattle.rules.specs.Decode.{name_at}
use Rattle.rules.specs.WellFormed.{is_name, is_value, attribute_name, definition_name, lookup, WellFormed}
use Rattle.rules.specs.Conforming.{EveryRow, Sorted, RowConforms}
use Rattle.rules.specs.Passing.{laid_row}
use Rattle.rules.specs.Print.{escape}
use Rattle.rules.proofs.Words.{and_split}
use Rattle.rules.proofs.BooleanLaws.{Every, every_left, every_right, none_nil}
use Rattle.rules.proofs.PreorderLaws.{Ends, ends_after}
use Rattle.rules.proofs.WellFormedLaws.{lookup_member}
use Rattle.rules.proofs.DecodeLaws.{row_code_lem, flat_names, laid_value}
use Rattle.change_laws.proofs.FormLaws.{index_found}
use Rattle.reading_rules.proofs.Documents.{row_of_parts}
use Rattle.reading_rules.proofs.Shapes.{nothing_below}
use Rattle.reading_rules.proofs.Parsing.{found_named, attribute_named_lem}
use Rattle.layout.specs.RowBytes.{row_of}
use Rattle.declaration_scan.specs.Declared.{place_among}
use Rattle.document_tokens.specs.Tokens.{Declared, declared_names, kind_of_definition, end_tag, with_rows, document_rows}
use Rattle.document_laws.specs.RowsText.{attribute_names_in, text_of_rows}
use Rattle.document_laws.specs.Declares.{Declares}
use Rattle.document_laws.proofs.RowsTextLaws.{Follows, text_end, text_start, text_element, text_attribute, text_content, text_stops}
use Rattle.document_laws.proofs.ForestText.{shallow_root}
use Rattle.document_laws.proofs.TokenText.{place_name, attribute_name_lem}
use Rattle.document_tokens.proofs.TokenLaws.{with_none, with_append}
use Rattle.document_laws.proofs.Steps.{element_read, attribute_read_lem, text_read, start_read, end_split, end_read, none_read}
use Rattle.declaration_scan.proofs.Laws.{place_index}
use Rattle.document_laws.proofs.Places.{kind_index, InTable, attribute_among_lem}
use Rattle.document_laws.proofs.Kids.{Kids, attribute_kid, text_kid, start_ended, no_kid, element_kid, element_rows}

-- ---- serials in document order
unfoldable pub rows_in : Forest Row → ℕ
rows_in bare = 0
rows_in (tree r b t) = suc (rows_in b + rows_in t)

-- from k on
unfoldable pub Counted : ℕ → Forest Row → Type 0
Counted k bare = Unit {0}
Counted k (tree r b t) = (r.serial ≡ k) × Counted (k + 1) b × Counted (k + 1 + rows_in b) t

no_text : (f : Declared) → text_of_rows f [] false [] ≡ []
unfolding text_of_rows
no_text f = refl

module _ (f : Declared) (w : ℕ) (form : Form) (says : Declares f form) (ok : WellFormed w form) where
  -- ---- the tables
  names_are : declared_names f ≡ map definition_name form
  names_are = rw says.definitions (flat_names form form)

  place_is : (n : Bytes) → place_among n (declared_names f) ≡ index_of n form
  place_is n = rw names_are (place_index n form)

  place_less : (n : Bytes) (d : Definition) → lookup n form ≡ some d → index_of n form < length f.definitions
  place_less n d e = rw (says.definitions, length-map form (flat_definition form)) (index_found n form d e).0

  name_is : (n : Bytes) (d : Definition) → lookup n form ≡ some d → name_at (index_of n form) (declared_names f) ≡ n
  name_is n d e =
      let less : place_among n (declared_names f) < length (declared_names f) = rw (place_is n, names_are, length-map form definition_name) (index_found n form d e).0 in
      ap (λ (i : ℕ). name_at i (declared_names f)) (sym (place_is n)) ∙ place_name n (declared_names f) less

  kind_is : (n : Bytes) (d : Definition) → lookup n form ≡ some d → eqb (kind_of_definition (index_of n form) f.definitions) 1 ≡ eqb (kind_code d.content) 1
  kind_is n d e =
      let k : kind_of_definition (index_of n form) f.definitions ≡ kind_code d.content = rw says.definitions (kind_index n form form d e) in
      ap (λ (j : ℕ). eqb j 1) k

  attribute_is : (owner n : Bytes) (d : Definition) → lookup owner form ≡ some d → Memᴰ n (map attribute_name d.attributes)
      → InTable (index_of owner form) n f.attributes (attribute_index owner n form)
  attribute_is owner n d e m = let first : 0 + index_of owner form ≡ index_of owner form = omega arith in rw says.attributes (rw first at (attribute_among_lem 0 form owner n d e m))

  attribute_name_is : (owner n : Bytes) (d : Definition) → lookup owner form ≡ some d → Memᴰ n (map attribute_name d.attributes) → name_at (attribute_index owner n form) (attribute_names_in f) ≡ n
  attribute_name_is owner n d e m =
      let t = attribute_is owner n d e m in
      ap (λ (i : ℕ). name_at i (attribute_names_in f)) (sym t.place) ∙ attribute_name_lem (index_of owner form) n f.attributes (rw t.place t.there)

  -- ---- names
  owned_named : (owner n : Bytes) (d : Definition) → lookup owner form ≡ some d → Memᴰ n (map attribute_name d.attributes) → is_name n ≡ true
  owned_named owner n d e m =
      let (a, i, q) = mathlib.Core.List.Memᴰ.of_map attribute_name d.attributes m in
      subst (λ (z : Bytes). is_name z ≡ true) q (attribute_named_lem w a ((ok.definitions d (lookup_member owner form d e).0).attributes a i))

  -- ---- rows right below an element, and what is deeper
  abbrev rows_at : ℕ → Bytes → Forest Row → List (Deep FlatRow)
  rows_at d owner g = preorder d (indexed form owner g)

  -- they are read, and reading goes on behind them
  abbrev ReadsBelow : Bytes → List ℕ → Bool → Forest Row → List (Deep FlatRow) → ℕ → Type 0
  ReadsBelow owner others tag g more k =
      document_rows f w k (index_of owner form ∷ others) tag 0 (text_of_rows f (index_of owner form ∷ others) tag (rows_at (suc (length others)) owner g ++ more))
      ≡ with_rows (rows_at (suc (length others)) owner g) (document_rows f w (k + rows_in g) (index_of owner form ∷ others) false 0 (text_of_rows f (index_of owner form ∷ others) false more))

  none_below : (owner : Bytes) (others : List ℕ) (more : List (Deep FlatRow)) (k : ℕ) → ReadsBelow owner others false bare more k
  unfolding rows_in
  none_below owner others more k =
      let opened : List ℕ = index_of owner form ∷ others in
      let same : k ≡ k + 0 = omega arith in
      ap (λ (j : ℕ). document_rows f w j opened false 0 (text_of_rows f opened false more)) same
      ∙ sym (with_none (document_rows f w (k + 0) opened false 0 (text_of_rows f opened false more)))

  start_below : (owner : Bytes) (others : List ℕ) (g : Forest Row) (more : List (Deep FlatRow)) (k : ℕ) → eqb (kind_of_definition (index_of owner form) f.definitions) 1 ≡ false
      → Follows (index_of owner form ∷ others) false (rows_at (suc (length others)) owner g ++ more) → ReadsBelow owner others false g more k → ReadsBelow owner others true g more k
  start_below owner others g more k q n h =
      let o : ℕ = index_of owner form in
      let rows : List (Deep FlatRow) = rows_at (suc (length others)) owner g ++ more in
      ap (λ (z : Bytes). document_rows f w k (o ∷ others) true 0 z) (text_start f o others rows n) ∙ start_read f w k o others (text_of_rows f (o ∷ others) false rows) q ∙ h

  attribute_below : (owner : Bytes) (d : Definition) (others : List ℕ) (n v : Bytes) (t : Forest Row) (more : List (Deep FlatRow)) (k : ℕ) → lookup owner form ≡ some d
      → Memᴰ n (map attribute_name d.attributes) → length v ≤ w → ReadsBelow owner others true t more (k + 1) → ReadsBelow owner others true (tree (row_of_parts k attribute n v) bare t) more k
  unfolding rows_in
  attribute_below owner d others n v t more k e m l h =
      let o : ℕ = index_of owner form in
      let i : ℕ = attribute_index owner n form in
      let x : Deep FlatRow = row_of 2 (suc (length others)) i k v in
      let after : List (Deep FlatRow) = rows_at (suc (length others)) owner t in
      let place = attribute_is owner n d e m in
      let rest : Bytes = text_of_rows f (o ∷ others) true (after ++ more) in
      let count : (k + 1) + rows_in t ≡ k + suc (0 + rows_in t) = omega arith in
      ap (λ (z : Bytes). document_rows f w k (o ∷ others) true 0 z)
      (text_attribute f (o ∷ others) x (after ++ more) (omega arith) true refl ∙ ap (λ (z : Bytes). 32 ∷ (z ++ (61 ∷ 34 ∷ (escape v ++ (34 ∷ rest))))) (attribute_name_is owner n d e m))
      ∙ attribute_read_lem f w k o others n v rest i (owned_named owner n d e m) l place.place place.there
      ∙ ap (λ (z : Option (List (Deep FlatRow))). with_rows (x ∷ []) z) h
      ∙ with_append (x ∷ []) after (document_rows f w ((k + 1) + rows_in t) (o ∷ others) false 0 (text_of_rows f (o ∷ others) false more))
      ∙ ap (λ (j : ℕ). with_rows (x ∷ after) (document_rows f w j (o ∷ others) false 0 (text_of_rows f (o ∷ others) false more))) count

  text_below_lem : (owner : Bytes) (others : List ℕ) (v : Bytes) (more : List (Deep FlatRow)) (k : ℕ) → eqb (kind_of_definition (index_of owner form) f.definitions) 1 ≡ true → length v ≤ w
      → Ends (suc (length others)) more → ReadsBelow owner others true (tree (row_of_parts k text [] v) bare bare) more k
  unfolding rows_in
  text_below_lem owner others v more k q l short =
      let o : ℕ = index_of owner form in
      let x : Deep FlatRow = row_of 3 (suc (length others)) 0 k v in
      let rest : Bytes = 47 ∷ (drop 2 (end_tag f o (length others)) ++ text_of_rows f others false more) in
      let ended : text_of_rows f (o ∷ others) false more ≡ 60 ∷ rest = text_end f o others false more short ∙ ap (λ (z : Bytes). z ++ text_of_rows f others false more) (end_split f w o (length others)) in
      let count : k + 1 ≡ k + suc (0 + 0) = omega arith in
      ap (λ (z : Bytes). document_rows f w k (o ∷ others) true 0 z) (text_content f (o ∷ others) x more (omega arith) true refl ∙ ap (λ (z : Bytes). 62 ∷ (escape v ++ z)) ended)
      ∙ text_read f w k o others v rest q l
      ∙ ap₂ (λ (j : ℕ) (z : Bytes). with_rows (x ∷ []) (document_rows f w j (o ∷ others) false 0 z)) count (sym ended)

  -- from a start tag's name on to behind the end tag, with the rows `later` after it
  element_whole : (opened : List ℕ) (n : Bytes) (d : Definition) (b : Forest Row) (later : List (Deep FlatRow)) (k : ℕ) → lookup n form ≡ some d → length opened ≤ 64
      → Ends (suc (length opened)) later → ReadsBelow n opened true b later (k + 1)
      → document_rows f w k opened false 0 (text_of_rows f opened false (row_of 1 (length opened) (index_of n form) k [] ∷ (rows_at (suc (length opened)) n b ++ later)))
      ≡ with_rows (row_of 1 (length opened) (index_of n form) k [] ∷ rows_at (suc (length opened)) n b) (document_rows f w (k + 1 + rows_in b) opened false 0 (text_of_rows f opened false later))
  element_whole opened n d b later k e l short h =
      let i : ℕ = index_of n form in
      let x : Deep FlatRow = row_of 1 (length opened) i k [] in
      let below : List (Deep FlatRow) = rows_at (suc (length opened)) n b in
      let inner : Bytes = text_of_rows f (i ∷ opened) true (below ++ later) in
      let behind : Option (List (Deep FlatRow)) = document_rows f w (k + 1 + rows_in b) opened false 0 (text_of_rows f opened false later) in
      ap (λ (z : Bytes). document_rows f w k opened false 0 z) (text_element f opened x (below ++ later) (omega arith) false refl ∙ ap (λ (z : Bytes). 60 ∷ (z ++ inner)) (name_is n d e))
      ∙ element_read f w k opened n inner i (found_named w form ok n d e) (text_stops f i opened (below ++ later)) (omega arith) (place_is n) (place_less n d e)
      ∙ ap (λ (z : Option (List (Deep FlatRow))). with_rows (x ∷ []) z)
      (h
      ∙ ap (λ (z : Option (List (Deep FlatRow))). with_rows below z)
      (ap (λ (z : Bytes). document_rows f w (k + 1 + rows_in b) (i ∷ opened) false 0 z) (text_end f i opened false later short)
      ∙ end_read f w (k + 1 + rows_in b) i opened (text_of_rows f opened false later)))
      ∙ with_append (x ∷ []) below behind

  element_below : (owner : Bytes) (others : List ℕ) (n : Bytes) (d : Definition) (b t : Forest Row) (more : List (Deep FlatRow)) (k : ℕ) → lookup n form ≡ some d → suc (length others) ≤ 64
      → Ends (suc (length others)) more → ReadsBelow n (index_of owner form ∷ others) true b (rows_at (suc (length others)) owner t ++ more) (k + 1)
      → ReadsBelow owner others false t more (k + 1 + rows_in b)
      → ReadsBelow owner others false (tree (row_of_parts k element n []) b t) more k
  unfolding rows_in
  element_below owner others n d b t more k e l short h g =
      let opened : List ℕ = index_of owner form ∷ others in
      let x : Deep FlatRow = row_of 1 (suc (length others)) (index_of n form) k [] in
      let below : List (Deep FlatRow) = rows_at (suc (suc (length others))) n b in
      let after : List (Deep FlatRow) = rows_at (suc (length others)) owner t in
      let count : (k + 1 + rows_in b) + rows_in t ≡ k + suc (rows_in b + rows_in t) = omega arith in
      ap (λ (z : List (Deep FlatRow)). document_rows f w k opened false 0 (text_of_rows f opened false (x ∷ z))) (append_assoc below after more)
      ∙ element_whole opened n d b (after ++ more) k e l (ends_after (suc (length others)) (indexed form owner t) more short) h
      ∙ ap (λ (z : Option (List (Deep FlatRow))). with_rows (x ∷ below) z) g
      ∙ with_append (x ∷ below) after (document_rows f w ((k + 1 + rows_in b) + rows_in t) opened false 0 (text_of_rows f opened false more))
      ∙ ap (λ (j : ℕ). with_rows (x ∷ (below ++ after)) (document_rows f w j opened false 0 (text_of_rows f opened false more))) count

  -- ---- where the rows of g stand: below an owner, counted from k on, no deeper than 64, before rows less deep
  record At (owner : Bytes) (d : Definition) (others : List ℕ) (k : ℕ) (g : Forest Row) (more : List (Deep FlatRow)) : Type 0 where
    pub found : lookup owner form ≡ some d
    pub deep : Every (λ x. x.depth ≤ 64) (rows_at (suc (length others)) owner g)
    pub counted : Counted k g
    pub short : Ends (suc (length others)) more

  record BothBelow (g : Forest Row) : Type 0 where
    pub closed : (owner : Bytes) (d : Definition) (others : List ℕ) (k : ℕ) (more : List (Deep FlatRow)) → At owner d others k g more → Kids d false (heads g) → ReadsBelow owner others false g more k
    pub opened : (owner : Bytes) (d : Definition) (others : List ℕ) (k : ℕ) (more : List (Deep FlatRow)) → At owner d others k g more → Kids d true (heads g) → ReadsBelow owner others true g more k

  -- the first row after an ended start tag is an element
  follows_closed : (owner : Bytes) (d : Definition) (others : List ℕ) (g : Forest Row) (more : List (Deep FlatRow)) → Ends (suc (length others)) more
      → {rs : List Row} → rs ≡ heads g → Kids d false rs → Follows (index_of owner form ∷ others) false (rows_at (suc (length others)) owner g ++ more)
  follows_closed owner d others bare [] l e n = tt
  follows_closed owner d others bare (x ∷ xs) l e n = record { depth = omega arith; sort = λ a b. absurd (let z : ⊥ = omega arith in z) }
  follows_closed owner d others (tree r b t) more l e no_kid = absurd (cons≢nil (sym e))
  follows_closed owner d others (tree r b t) more l e (element_kid {r = r'} q n) =
      record { depth = omega arith; sort = λ x y. row_code_lem r.sort ∙ ap (λ (z : Row). z.sort) (sym (head-eq_of_cons-eq e)) ∙ q }

  module _ (version : ℕ) where
    module _ (r : Row) (b t : Forest Row) (c : RowConforms version form r (heads b)) (v : laid_row w r ≡ true) (x : BothBelow b) (y : BothBelow t)
        (owner : Bytes) (d : Definition) (others : List ℕ) (k : ℕ) (more : List (Deep FlatRow)) (at : At owner d others k (tree r b t) more) where
      closed_tree : {rs : List Row} → rs ≡ r ∷ heads t → Kids d false rs → ReadsBelow owner others false (tree r b t) more k
      unfolding Counted
      closed_tree e no_kid = absurd (cons≢nil (sym e))
      closed_tree e (element_kid {r = r'} {rs = rs} q ks) =
          let s : r.sort ≡ element = ap (λ (z : Row). z.sort) (sym (head-eq_of_cons-eq e)) ∙ q in
          let (d', found, rows) = rw s at c in
          let (n₀, n₁, n₂) = at.counted in
          let (l, deep) = at.deep in
          let below : List (Deep FlatRow) = rows_at (suc (suc (length others))) r.name b in
          let after : List (Deep FlatRow) = rows_at (suc (length others)) owner t in
          let none : r.value ≡ [] = none_nil r.value (rw s at v) in
          let is : tree r b t ≡ tree (row_of_parts k element r.name []) b t = λ i. tree (record { serial = n₀ i; sort = s i; name = r.name; value = none i }) b t in
          let in_b : At r.name d' (index_of owner form ∷ others) (k + 1) b (after ++ more) =
          record { found = found; deep = every_left (λ x. x.depth ≤ 64) below after deep; counted = n₁; short = ends_after (suc (length others)) (indexed form owner t) more at.short } in
          let in_t : At owner d others (k + 1 + rows_in b) t more = record { found = at.found; deep = every_right (λ x. x.depth ≤ 64) below after deep; counted = n₂; short = at.short } in
          let read-b = x.opened r.name d' (index_of owner form ∷ others) (k + 1) (after ++ more) in_b (element_rows version d' (heads b) rows) in
          let read-t = y.closed owner d others (k + 1 + rows_in b) more in_t (subst (λ (z : List Row). Kids d false z) (tail-eq_of_cons-eq e) ks) in
          subst (λ (z : Forest Row). ReadsBelow owner others false z more k) (sym is) (element_below owner others r.name d' b t more k found l at.short read-b read-t)

      opened_tree : {rs : List Row} → rs ≡ r ∷ heads t → Kids d true rs → ReadsBelow owner others true (tree r b t) more k
      unfolding Counted rows_in
      opened_tree e (attribute_kid {r = r'} {rs = rs} q m ks) =
          let same : r' ≡ r = head-eq_of_cons-eq e in
          let s : r.sort ≡ attribute = ap (λ (z : Row). z.sort) (sym same) ∙ q in
          let none : heads b ≡ [] = rw s at c in
          let leaf : b ≡ bare = nothing_below b none in
          let (n₀, n₁, n₂) = at.counted in
          let few : rows_in b ≡ 0 = ap rows_in leaf in
          let count : k + 1 + rows_in b ≡ k + 1 = omega arith in
          let is : tree r b t ≡ tree (row_of_parts k attribute r.name r.value) bare t = λ i. tree (record { serial = n₀ i; sort = s i; name = r.name; value = r.value }) (leaf i) t in
          let owned : Memᴰ r.name (map attribute_name d.attributes) = subst (λ (z : Row). Memᴰ z.name (map attribute_name d.attributes)) same m in
          let deep : Every (λ x. x.depth ≤ 64) (rows_at (suc (length others)) owner t) = every_right (λ x. x.depth ≤ 64) (rows_at (suc (suc (length others))) r.name b) _ at.deep.1 in
          let in_t : At owner d others (k + 1) t more = record { found = at.found; deep = deep; counted = subst (λ (j : ℕ). Counted j t) count n₂; short = at.short } in
          let read-t = y.opened owner d others (k + 1) more in_t (subst (λ (z : List Row). Kids d true z) (tail-eq_of_cons-eq e) ks) in
          subst (λ (z : Forest Row). ReadsBelow owner others true z more k) (sym is) (attribute_below owner d others r.name r.value t more k at.found owned (laid_value w r v) read-t)
      opened_tree e (text_kid {r = r'} h q) =
          let s : r.sort ≡ text = ap (λ (z : Row). z.sort) (sym (head-eq_of_cons-eq e)) ∙ q in
          let none : heads b ≡ [] = rw s at c in
          let unnamed : (is_value w r.value && is_none r.name) ≡ true = rw s at v in
          let name : r.name ≡ [] = none_nil r.name (and_split (is_value w r.value) (is_none r.name) unnamed).1 in
          let (n₀, n₁, n₂) = at.counted in
          let is : tree r b t ≡ tree (row_of_parts k text [] r.value) bare bare =
          λ i. tree (record { serial = n₀ i; sort = s i; name = name i; value = r.value }) (nothing_below b none i) (nothing_below t (sym (tail-eq_of_cons-eq e)) i) in
          subst (λ (z : Forest Row). ReadsBelow owner others true z more k) (sym is) (text_below_lem owner others r.value more k (kind_is owner d at.found ∙ h) (laid_value w r v) at.short)
      opened_tree e (start_ended h ks) =
          start_below owner others (tree r b t) more k (kind_is owner d at.found ∙ h) (follows_closed owner d others (tree r b t) more at.short e ks) (closed_tree e ks)

    bare_opened : (owner : Bytes) (d : Definition) (others : List ℕ) (k : ℕ) (more : List (Deep FlatRow)) → At owner d others k bare more
        → {rs : List Row} → rs ≡ [] → Kids d true rs → ReadsBelow owner others true bare more k
    bare_opened owner d others k more at e (attribute_kid q m ks) = absurd (cons≢nil e)
    bare_opened owner d others k more at e (text_kid h q) = absurd (cons≢nil e)
    bare_opened owner d others k more at e (start_ended h ks) =
        start_below owner others bare more k (kind_is owner d at.found ∙ h) (follows_closed owner d others bare more at.short e ks) (none_below owner others more k)

    both_below : (g : Forest Row) → EveryRow (λ r below. RowConforms version form r below) g → EveryRow (λ r below. laid_row w r ≡ true) g → BothBelow g
    both_below bare c v = record { closed = λ owner d others k more at n. none_below owner others more k; opened = λ owner d others k more at n. bare_opened owner d others k more at refl n }
    both_below (tree r b t) (c, c₀, c₁) (v, v₀, v₁) =
        let x = both_below b c₀ v₀ in
        let y = both_below t c₁ v₁ in
        record {
          closed = λ owner d others k more at n. closed_tree r b t c v x y owner d others k more at refl n;
          opened = λ owner d others k more at n. opened_tree r b t c v x y owner d others k more at refl n;
        }

    -- ---- documents
    pub documents_read : (g : Forest Row) (k : ℕ) → EveryRow (λ r below. RowConforms version form r below) g → EveryRow (λ r below. laid_row w r ≡ true) g → Sorted element (heads g)
        → Every (λ x. x.depth ≤ 64) (rows_at 0 [] g) → Counted k g → document_rows f w k [] false 0 (text_of_rows f [] false (rows_at 0 [] g)) ≡ some (rows_at 0 [] g)
    unfolding Counted
    documents_read bare k c v q deep n = ap (λ (z : Bytes). document_rows f w k [] false 0 z) (no_text f) ∙ none_read f w k
    documents_read (tree r b t) k (c, c₀, c₁) (v, v₀, v₁) q (l, deep) (n₀, n₁, n₂) =
        let s : r.sort ≡ element = q r (mathlib.Core.List.Memᴰ.head refl) in
        let (d, found, rows) = rw s at c in
        let below : List (Deep FlatRow) = rows_at 1 r.name b in
        let after : List (Deep FlatRow) = rows_at 0 [] t in
        let x : Deep FlatRow = row_of 1 0 (index_of r.name form) k [] in
        let none : r.value ≡ [] = none_nil r.value (rw s at v) in
        let is : tree r b t ≡ tree (row_of_parts k element r.name []) b t = λ i. tree (record { serial = n₀ i; sort = s i; name = r.name; value = none i }) b t in
        let in_b : At r.name d [] (k + 1) b after = record { found = found; deep = every_left (λ x. x.depth ≤ 64) below after deep; counted = n₁; short = shallow_root (indexed form [] t) } in
        let read-b = (both_below b c₀ v₀).opened r.name d [] (k + 1) after in_b (element_rows version d (heads b) rows) in
        let read-t = documents_read t (k + 1 + rows_in b) c₁ v₁ (λ u m. q u (mathlib.Core.List.Memᴰ.tail m)) (every_right (λ x. x.depth ≤ 64) below after deep) n₂ in
        subst (λ (z : Forest Row). document_rows f w k [] false 0 (text_of_rows f [] false (rows_at 0 [] z)) ≡ some (rows_at 0 [] z)) (sym is)
        (element_whole [] r.name d b after k found l (shallow_root (indexed form [] t)) read-b ∙ ap (λ (z : Option (List (Deep FlatRow))). with_rows (x ∷ below) z) read-t)
