-- Fillings: the rows they are made of, that they conform, and that a larger height changes nothing.
use Prim.Native.Nat.{ℕ, zero, suc, ◌≤◌}
use native.Mathlib.Omega.{arith}
use mathlib.Core.Path.{◌≡◌, refl, sym, ap, ap₂, ◌∙◌}
use mathlib.Core.Logic.{◌⊎◌, inl, ⊎_elim}
use mathlib.Core.Bool.{Bool, true, false, ◌||◌, false≢true}
use mathlib.Core.Option.{Option, none, some}
use mathlib.Core.List.Memᴰ
use mathlib.Core.List.{List, [], ◌∷◌, ◌++◌, map, Memᴰ}
use Rattle.rules.specs.declared.GroupKind.{GroupKind}
use Rattle.rules.specs.declared.GroupKind.TheVariants.{Sequence, Choice}
use Rattle.rules.specs.declared.AttributeSort.{AttributeSort}
use Rattle.rules.specs.declared.AttributeSort.TheVariants.{Implied, Required, Fixed}
use Rattle.rules.specs.Bytes.{Bytes, bytes, same_refl, all}
use Rattle.rules.specs.Model.{Members, done, el, group, names, Distinct, Full, skips, nothing, unless, beside, filling}
use Rattle.rules.specs.Automaton.{accepts}
use Rattle.rules.specs.Store.{Content, empty, pcdata, complex, Attribute, Definition, Form, text, Row, Forest, bare, tree, model_of, members, ◌⧺◌, heads}
use Rattle.rules.specs.WellFormed.{is_value, lookup, attribute_name}
use Rattle.rules.specs.Conforming.{name_of, EveryRow, is_element, every_row, must_be_present, allows, strip, fits, fits_stripped, fits_definition, fits_row, conforming}
use Rattle.rules.specs.Filling.{created_value, attribute_row, fill_attributes, fill_each, fill_content, element_row, fill_within}
use Rattle.rules.specs.Passing.{laid_row}
use Rattle.rules.proofs.Words.{and_both, and_split}
use Rattle.rules.proofs.Correct.{accepts_conforms}
use Rattle.rules.proofs.Filled.{filling_conforms as filling-in-language}
use Rattle.rules.proofs.Height.{deep}
use Rattle.rules.proofs.SerialLaws.{every_row_lem}
use Rattle.rules.proofs.ConformingLaws.{head_attribute, begins, begins_none, begins_other, begins_this, strip_past, strip_take, content_is, content_head}
use Rattle.rules.proofs.TestLaws.{all_test}

-- ---- the names of a filling are names of its model
module _ {A : Type 0} (x : A) where
  in_beside : (k : GroupKind) (u v : List A) → Memᴰ x (beside k u v) → Memᴰ x u ⊎ Memᴰ x v
  in_beside Sequence u v m = Memᴰ.append_cases u m
  in_beside Choice u v m = inl m

  in_unless : (b : Bool) (w : List A) → Memᴰ x (unless b w) → Memᴰ x w
  in_unless true w m = absurd (Memᴰ.not-nil m)
  in_unless false w m = m

  pub in_filling : (k : GroupKind) (ms : Members A) → Memᴰ x (filling k ms) → Memᴰ x (names ms)
  unfolding filling names
  in_filling k done m = m
  in_filling k (el q n rest) m =
      ⊎_elim (λ i. Memᴰ.head (Memᴰ.eq_of_singleton (in_unless (skips q) (n ∷ []) i))) (λ i. Memᴰ.tail (in_filling k rest i))
      (in_beside k (unless (skips q) (n ∷ [])) (filling k rest) m)
  in_filling k (group q j ms rest) m =
      ⊎_elim (λ i. Memᴰ.append_left (names rest) (in_filling j ms (in_unless (skips q || nothing j ms) (filling j ms) i))) (λ i. Memᴰ.append_right (names ms) (in_filling k rest i))
      (in_beside k (unless (skips q || nothing j ms) (filling j ms)) (filling k rest) m)

-- ---- what holds of every row
module _ (P : Row → List Row → Type 0) where
  pub every_beside : (f g : Forest Row) → EveryRow P f → EveryRow P g → EveryRow P (f ⧺ g)
  every_beside bare g x y = y
  every_beside (tree r b t) g (a, x, z) y = (a, x, every_beside t g z y)

  pub every_each : (fill : Bytes → Forest Row) (ns : List Bytes) → ((n : Bytes) → Memᴰ n ns → EveryRow P (fill n)) → EveryRow P (fill_each fill ns)
  unfolding fill_each
  every_each fill [] x = tt
  every_each fill (n ∷ ns) x = every_beside (fill n) (fill_each fill ns) (x n (Memᴰ.head refl)) (every_each fill ns (λ m i. x m (Memᴰ.tail i)))

  every_attributes : (version : ℕ) (table : List Attribute) (f : Forest Row) → ((a : Attribute) → Memᴰ a table → P (attribute_row a) []) → EveryRow P f
      → EveryRow P (fill_attributes version table f)
  unfolding fill_attributes
  every_attributes version [] f x y = y
  every_attributes version (a ∷ table) f x y = by (must_be_present version a.sort) (every_attributes version table f (λ b i. x b (Memᴰ.tail i)) y)
    where
      by : (c : Bool) → EveryRow P (fill_attributes version table f)
          → EveryRow P (elim c as (λ z. Forest Row) [ true ↦ tree (attribute_row a) bare (fill_attributes version table f) | false ↦ fill_attributes version table f ])
      by true z = (x a (Memᴰ.head refl), tt, z)
      by false z = z

-- ---- one definition's filling
abbrev pub text_row : Bytes → Row
text_row txt = record { serial = 0; sort = text; name = []; value = txt }

-- the rows below its element
abbrev pub fill_below : ℕ → ℕ → Form → Bytes → Definition → Forest Row
fill_below version h form txt d = fill_attributes version d.attributes (fill_content (λ m. fill_within version h form txt m) txt d.content)

pub fill_known : (version h : ℕ) (form : Form) (txt n : Bytes) (d : Definition) → lookup n form ≡ some d
    → fill_within version (suc h) form txt n ≡ tree (element_row n) (fill_below version h form txt d) bare
unfolding fill_within
fill_known version h form txt n d q = rw (q, fill_within)

pub fill_unknown : (version h : ℕ) (form : Form) (txt n : Bytes) → lookup n form ≡ none → fill_within version (suc h) form txt n ≡ bare
unfolding fill_within
fill_unknown version h form txt n q = rw (q, fill_within)

-- a deep definition is there, and its members are deep
deep_there : (h : ℕ) (form : Form) (n : Bytes) → deep (suc h) form n ≡ true → (d : Definition) × (lookup n form ≡ some d)
unfolding deep
deep_there h form n e = by (lookup n form) refl
  where
    by : (o : Option Definition) → lookup n form ≡ o → (d : Definition) × (lookup n form ≡ some d)
    by none q = absurd (false≢true (rw (q, deep) at e))
    by (some d) q = (d, q)

deep_below : (h : ℕ) (form : Form) (n : Bytes) (d : Definition) → deep (suc h) form n ≡ true → lookup n form ≡ some d → (m : Bytes) → Memᴰ m (names (members d)) → deep h form m ≡ true
unfolding deep
deep_below h form n d e q = (all_test (λ m. deep h form m) (names (members d))).0 (rw (q, deep) at e)

not_deep : (form : Form) (n : Bytes) → deep zero form n ≡ true → ⊥
unfolding deep
not_deep form n e = false≢true e

-- What holds of the element's, the attributes' and the text's rows
-- holds of every row. Q says of which heights and names.
module _ (version : ℕ) (form : Form) (txt : Bytes) (P : Row → List Row → Type 0) (Q : ℕ → Bytes → Type 0)
    (down : (h : ℕ) (n : Bytes) (d : Definition) → Q (suc h) n → lookup n form ≡ some d → (m : Bytes) → Memᴰ m (names (members d)) → Q h m)
    (elements : (h : ℕ) (n : Bytes) (d : Definition) → Q (suc h) n → lookup n form ≡ some d → P (element_row n) (heads (fill_below version h form txt d)))
    (attributes : (n : Bytes) (d : Definition) → lookup n form ≡ some d → (a : Attribute) → Memᴰ a d.attributes → P (attribute_row a) [])
    (texts : P (text_row txt) []) where
  every_content : (h : ℕ) (c : Content) → ((m : Bytes) → Memᴰ m (names (model_of c)) → EveryRow P (fill_within version h form txt m))
      → EveryRow P (fill_content (λ m. fill_within version h form txt m) txt c)
  unfolding fill_content
  every_content h empty f = tt
  every_content h pcdata f = (texts, tt, tt)
  every_content h (complex ms) f = every_each P (λ m. fill_within version h form txt m) (filling Sequence ms) (λ m i. f m (in_filling m Sequence ms i))

  pub every_filled : (h : ℕ) (n : Bytes) → Q h n → EveryRow P (fill_within version h form txt n)
  unfolding fill_within
  every_filled zero n x = tt
  every_filled (suc h) n x = by (lookup n form) refl (every_filled h)
    where
      by : (o : Option Definition) → lookup n form ≡ o → ((m : Bytes) → Q h m → EveryRow P (fill_within version h form txt m)) → EveryRow P (fill_within version (suc h) form txt n)
      by none q f = rw (fill_unknown version h form txt n q) tt
      by (some d) q f =
          rw (fill_known version h form txt n d q) (
            elements h n d x q,
            every_attributes P version d.attributes (fill_content (λ m. fill_within version h form txt m) txt d.content) (attributes n d q)
                (every_content h d.content (λ m i. f m (down h n d x q m i))),
            tt,
          )

-- no row has a serial yet
pub filling_serials : (version h : ℕ) (form : Form) (txt n : Bytes) → EveryRow (λ r b. r.serial ≡ 0) (fill_within version h form txt n)
filling_serials version h form txt n = every_filled version form txt (λ r b. r.serial ≡ 0) (λ k m. Unit {0}) (λ k m d x q i j. tt) (λ k m d x q. refl) (λ m d q a i. refl) refl h n tt

-- the rows of a filling can be laid
pub filling_laid : (version w h : ℕ) (form : Form) (txt n : Bytes)
    → ((m : Bytes) (d : Definition) → lookup m form ≡ some d → (a : Attribute) → Memᴰ a d.attributes → is_value w a.value ≡ true)
    → is_value w txt ≡ true → EveryRow (λ r b. laid_row w r ≡ true) (fill_within version h form txt n)
filling_laid version w h form txt n values v =
    every_filled version form txt (λ r b. laid_row w r ≡ true) (λ k m. Unit {0}) (λ k m d x q i j. tt) (λ k m d x q. refl) values (and_both v refl) h n tt

-- ---- the rows at the top
pub heads_beside : (f g : Forest Row) → heads (f ⧺ g) ≡ heads f ++ heads g
heads_beside bare g = refl
heads_beside (tree r b t) g = ap (λ (z : List Row). r ∷ z) (heads_beside t g)

module _ (version h : ℕ) (form : Form) (txt : Bytes) where
  pub filling_heads : (n : Bytes) → deep h form n ≡ true → heads (fill_within version h form txt n) ≡ element_row n ∷ []
  filling_heads n = by h
    where
      by : (k : ℕ) → deep k form n ≡ true → heads (fill_within version k form txt n) ≡ element_row n ∷ []
      by zero e = absurd (not_deep form n e)
      by (suc k) e = let (d, q) = deep_there k form n e in ap heads (fill_known version k form txt n d q)

  -- one element a name
  pub each_heads : (ns : List Bytes) → all (λ m. deep h form m) ns ≡ true → heads (fill_each (λ m. fill_within version h form txt m) ns) ≡ map element_row ns
  unfolding fill_each
  each_heads [] e = refl
  each_heads (n ∷ ns) e =
      let (a, b) = and_split (deep h form n) (all (λ m. deep h form m) ns) e in
      heads_beside (fill_within version h form txt n) (fill_each (λ m. fill_within version h form txt m) ns) ∙ ap₂ (λ (u v : List Row). u ++ v) (filling_heads n a) (each_heads ns b)

  pub each_names : (ns : List Bytes) → all (λ m. deep h form m) ns ≡ true → map name_of (heads (fill_each (λ m. fill_within version h form txt m) ns)) ≡ ns
  each_names ns e = ap (map name_of) (each_heads ns e) ∙ named ns
    where
      named : (ns : List Bytes) → map name_of (map element_row ns) ≡ ns
      named [] = refl
      named (n ∷ ns) = ap (λ (z : List Bytes). n ∷ z) (named ns)

  pub each_elements : (ns : List Bytes) → all (λ m. deep h form m) ns ≡ true → all (λ (r : Row). is_element r.sort) (heads (fill_each (λ m. fill_within version h form txt m) ns)) ≡ true
  each_elements ns e = ap (all (λ (r : Row). is_element r.sort)) (each_heads ns e) ∙ sorted ns
    where
      sorted : (ns : List Bytes) → all (λ (r : Row). is_element r.sort) (map element_row ns) ≡ true
      sorted [] = refl
      sorted (n ∷ ns) = sorted ns

-- ---- the attribute rows of a filling are those that must be present
fill_present : (version : ℕ) (a : Attribute) (table : List Attribute) (f : Forest Row) → must_be_present version a.sort ≡ true
    → fill_attributes version (a ∷ table) f ≡ tree (attribute_row a) bare (fill_attributes version table f)
unfolding fill_attributes
fill_present version a table f q = rw (q, fill_attributes)

fill_absent : (version : ℕ) (a : Attribute) (table : List Attribute) (f : Forest Row) → must_be_present version a.sort ≡ false → fill_attributes version (a ∷ table) f ≡ fill_attributes version table f
unfolding fill_attributes
fill_absent version a table f q = rw (q, fill_attributes)

-- a created row's value is right for its attribute
pub created_allows : (s : AttributeSort) (fill : Bytes) → allows s fill (created_value s fill) ≡ true
created_allows Implied fill = refl
created_allows Required fill = refl
created_allows Fixed fill = cc (same_refl fill)

begins_fill : (version : ℕ) (n : Bytes) (table : List Attribute) (f : Forest Row) → (Memᴰ n (map attribute_name table) → ⊥) → head_attribute (heads f) ≡ false
    → begins n (heads (fill_attributes version table f)) ≡ false
unfolding fill_attributes
begins_fill version n [] f new h = begins_none n (heads f) h
begins_fill version n (a ∷ table) f new h = by (must_be_present version a.sort) refl (begins_fill version n table f (λ m. new (Memᴰ.tail m)) h)
  where
    by : (c : Bool) → must_be_present version a.sort ≡ c → begins n (heads (fill_attributes version table f)) ≡ false → begins n (heads (fill_attributes version (a ∷ table) f)) ≡ false
    by true q x =
        ap (λ (g : Forest Row). begins n (heads g)) (fill_present version a table f q) ∙ begins_other n (attribute_row a) (heads (fill_attributes version table f)) refl (λ e. new (Memᴰ.head e))
    by false q x = ap (λ (g : Forest Row). begins n (heads g)) (fill_absent version a table f q) ∙ x

pub strip_fill : (version : ℕ) (table : List Attribute) (f : Forest Row) → Distinct (map attribute_name table) → head_attribute (heads f) ≡ false
    → strip version table (heads (fill_attributes version table f)) ≡ some (heads f)
unfolding fill_attributes strip
strip_fill version [] f d h = refl
strip_fill version (a ∷ table) f (new, d) h = by (must_be_present version a.sort) refl (strip_fill version table f d h)
  where
    by : (c : Bool) → must_be_present version a.sort ≡ c → strip version table (heads (fill_attributes version table f)) ≡ some (heads f)
        → strip version (a ∷ table) (heads (fill_attributes version (a ∷ table) f)) ≡ some (heads f)
    by true q x =
        ap (λ (g : Forest Row). strip version (a ∷ table) (heads g)) (fill_present version a table f q)
        ∙ strip_take version a table (attribute_row a) (heads (fill_attributes version table f)) (begins_this a.name (attribute_row a) (heads (fill_attributes version table f)) refl refl)
        (created_allows a.sort a.value)
        ∙ x
    by false q x =
        ap (λ (g : Forest Row). strip version (a ∷ table) (heads g)) (fill_absent version a table f q)
        ∙ strip_past version a table (heads (fill_attributes version table f)) (begins_fill version a.name table f new h) q
        ∙ x

-- ---- fillings conform
module _ (version : ℕ) (form : Form) (once : (n : Bytes) (d : Definition) → lookup n form ≡ some d → Distinct (names (members d)))
    (apart : (n : Bytes) (d : Definition) → lookup n form ≡ some d → Distinct (map attribute_name d.attributes))
    (groups : (n : Bytes) (d : Definition) → lookup n form ≡ some d → Full (members d)) (txt : Bytes) where
  content_fits : (h : ℕ) (c : Content) → Distinct (names (model_of c)) → Full (model_of c) → ((m : Bytes) → Memᴰ m (names (model_of c)) → deep h form m ≡ true)
      → fits c (heads (fill_content (λ m. fill_within version h form txt m) txt c)) ≡ true
  unfolding fill_content
  content_fits h empty o g f = refl
  content_fits h pcdata o g f = refl
  content_fits h (complex ms) o g f =
      and_both (each_elements version h form txt (filling Sequence ms) all_deep)
      (ap (accepts bytes ms) (each_names version h form txt (filling Sequence ms) all_deep) ∙ (accepts_conforms bytes ms o (filling Sequence ms)).1 (filling-in-language ms g))
    where
      all_deep : all (λ m. deep h form m) (filling Sequence ms) ≡ true
      all_deep = (all_test (λ m. deep h form m) (filling Sequence ms)).1 (λ m i. f m (in_filling m Sequence ms i))

  definition_fits_lem : (h : ℕ) (d : Definition) → Distinct (names (members d)) → Distinct (map attribute_name d.attributes)
      → fits d.content (heads (fill_content (λ m. fill_within version h form txt m) txt d.content)) ≡ true
      → fits_definition version (some d) (heads (fill_below version h form txt d)) ≡ true
  definition_fits_lem h d o p f =
      ap (fits_stripped d.content) (strip_fill version d.attributes content p (content_head d.content (heads content) ((content_is d.content o (heads content)).0 f))) ∙ f
    where
      content : Forest Row
      content = fill_content (λ m. fill_within version h form txt m) txt d.content

  element_fits_lem : (h : ℕ) (n : Bytes) (d : Definition) → deep (suc h) form n ≡ true → lookup n form ≡ some d → fits_row version form (element_row n) (heads (fill_below version h form txt d)) ≡ true
  unfolding fits_row
  element_fits_lem h n d e q =
      ap (λ (o : Option Definition). fits_definition version o (heads (fill_below version h form txt d))) q
      ∙ definition_fits_lem h d (once n d q) (apart n d q) (content_fits h d.content (once n d q) (groups n d q) (deep_below h form n d e q))

  pub filling_fits : (h : ℕ) (n : Bytes) → deep h form n ≡ true → every_row (λ r below. fits_row version form r below) (fill_within version h form txt n) ≡ true
  unfolding fits_row
  filling_fits h n e =
      (every_row_lem (λ r below. fits_row version form r below) (fill_within version h form txt n)).1
      (every_filled version form txt (λ r below. fits_row version form r below ≡ true) (λ k m. deep k form m ≡ true) (λ k. deep_below k form) element_fits_lem (λ m d q a i. refl) refl h n e)

  pub fillings_fit : (h : ℕ) (ns : List Bytes) → all (λ m. deep h form m) ns ≡ true → every_row (λ r below. fits_row version form r below) (fill_each (λ m. fill_within version h form txt m) ns) ≡ true
  fillings_fit h ns e =
      (every_row_lem (λ r below. fits_row version form r below) (fill_each (λ m. fill_within version h form txt m) ns)).1
      (every_each (λ r below. fits_row version form r below ≡ true) (λ m. fill_within version h form txt m) ns
      (λ m i. (every_row_lem (λ r below. fits_row version form r below) (fill_within version h form txt m)).0 (filling_fits h m ((all_test (λ m. deep h form m) ns).0 e m i))))

  pub fillings_conform : (h : ℕ) (ns : List Bytes) → all (λ m. deep h form m) ns ≡ true → conforming version form (fill_each (λ m. fill_within version h form txt m) ns) ≡ true
  unfolding conforming
  fillings_conform h ns e = and_both (each_elements version h form txt ns e) (fillings_fit h ns e)

  pub filling_conforms : (h : ℕ) (n : Bytes) → deep h form n ≡ true → conforming version form (fill_within version h form txt n) ≡ true
  unfolding conforming
  filling_conforms h n e = and_both (ap (all (λ (r : Row). is_element r.sort)) (filling_heads version h form txt n e)) (filling_fits h n e)

-- ---- a larger height
module _ (f g : Bytes → Forest Row) where
  pub each_same : (ns : List Bytes) → ((m : Bytes) → Memᴰ m ns → f m ≡ g m) → fill_each f ns ≡ fill_each g ns
  unfolding fill_each
  each_same [] x = refl
  each_same (n ∷ ns) x = ap₂ (λ (u v : Forest Row). u ⧺ v) (x n (Memᴰ.head refl)) (each_same ns (λ m i. x m (Memᴰ.tail i)))

  content_same : (txt : Bytes) (c : Content) → ((m : Bytes) → Memᴰ m (names (model_of c)) → f m ≡ g m) → fill_content f txt c ≡ fill_content g txt c
  unfolding fill_content
  content_same txt empty x = refl
  content_same txt pcdata x = refl
  content_same txt (complex ms) x = each_same (filling Sequence ms) (λ m i. x m (in_filling m Sequence ms i))

pub fill_more : (version h k : ℕ) (form : Form) (txt n : Bytes) → h ≤ k → deep h form n ≡ true → fill_within version k form txt n ≡ fill_within version h form txt n
fill_more version zero k form txt n l e = absurd (not_deep form n e)
fill_more version (suc h) zero form txt n l e = absurd (omega arith)
fill_more version (suc h) (suc k) form txt n l e = by (deep_there h form n e) (fill_more version h k form txt)
  where
    by : (d : Definition) × (lookup n form ≡ some d) → ((m : Bytes) → h ≤ k → deep h form m ≡ true → fill_within version k form txt m ≡ fill_within version h form txt m)
        → fill_within version (suc k) form txt n ≡ fill_within version (suc h) form txt n
    by (d, q) x =
        fill_known version k form txt n d q
        ∙ ap (λ (z : Forest Row). tree (element_row n) (fill_attributes version d.attributes z) bare)
        (content_same (λ m. fill_within version k form txt m) (λ m. fill_within version h form txt m) txt d.content (λ m i. x m (omega arith) (deep_below h form n d e q m i)))
        ∙ sym (fill_known version h form txt n d q)
