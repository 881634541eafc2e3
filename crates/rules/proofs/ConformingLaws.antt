-- The test for conforming is true just where the documents conform.
use Prim.Native.Nat.{ℕ}
use mathlib.Core.Path.{◌≡◌, refl, sym, ap, ap₂, ◌∙◌}
use mathlib.Core.Logic.{◌⊎◌, inl, inr, ⊎_elim, ◌↔◌}
use mathlib.Core.Bool.{Bool, true, false, ◌&&◌, false≢true}
use mathlib.Core.Option.{Option, none, some, none-ne-some}
use mathlib.Core.List.Memᴰ
use mathlib.Core.List.{List, [], ◌∷◌, ◌++◌, map, Memᴰ}
use Rattle.std.proofs.lemmas.Bool.{false_from_ne_true}
use Rattle.rules.specs.Bytes.{Bytes, same, bytes, same_eq, same_refl, all, is_none}
use Rattle.rules.specs.Model.{names, Distinct}
use Rattle.rules.specs.Automaton.{accepts}
use Rattle.rules.specs.Store.{Content, empty, pcdata, complex, Attribute, Definition, Form, RowSort, element, attribute, text, Row, Forest, model_of, members, heads}
use Rattle.rules.specs.WellFormed.{lookup, attribute_name}
use Rattle.rules.specs.Conforming.{name_of, Sorted, InOrder, AttributeRows, ContentRows, ElementRows, RowConforms, EveryRow, Conforming, is_element}
use Rattle.rules.specs.Conforming.{is_attribute, is_text, every_row, must_be_present, allows, strip, fits, fits_stripped, fits_definition, fits_row, conforming}
use Rattle.rules.proofs.Words.{and_both, and_split}
use Rattle.rules.proofs.Apart.{differs}
use Rattle.rules.proofs.Correct.{accepts_conforms}
use Rattle.rules.proofs.SerialLaws.{every_row_is}
use Rattle.rules.proofs.BooleanLaws.{none_nil}

-- ---- sorts
pub is_element_lem : (s : RowSort) → is_element s ≡ true → s ≡ element
is_element_lem element e = refl
is_element_lem attribute e = absurd (false≢true e)
is_element_lem text e = absurd (false≢true e)

pub is_attribute_lem : (s : RowSort) → is_attribute s ≡ true → s ≡ attribute
is_attribute_lem element e = absurd (false≢true e)
is_attribute_lem attribute e = refl
is_attribute_lem text e = absurd (false≢true e)

pub is_text_lem : (s : RowSort) → is_text s ≡ true → s ≡ text
is_text_lem element e = absurd (false≢true e)
is_text_lem attribute e = absurd (false≢true e)
is_text_lem text e = refl

sorted→ : (rs : List Row) → all (λ (r : Row). is_element r.sort) rs ≡ true → Sorted element rs
sorted→ [] e r m = absurd (Memᴰ.not-nil m)
sorted→ (x ∷ rs) e r m =
    let (a, b) = and_split (is_element x.sort) (all (λ (r : Row). is_element r.sort) rs) e in
    ⊎_elim (λ q. rw q (is_element_lem x.sort a)) (λ n. sorted→ rs b r n) (Memᴰ.cases_cons m)

sorted← : (rs : List Row) → Sorted element rs → all (λ (r : Row). is_element r.sort) rs ≡ true
sorted← [] f = refl
sorted← (x ∷ rs) f = and_both (ap is_element (f x (Memᴰ.head refl))) (sorted← rs (λ r m. f r (Memᴰ.tail m)))

pub sorted_is : (rs : List Row) → (all (λ (r : Row). is_element r.sort) rs ≡ true) ↔ Sorted element rs
sorted_is rs = (sorted→ rs, sorted← rs)

-- ---- one attribute of the table
pub in_order_lem : (xs table : List Bytes) → InOrder xs table → (x : Bytes) → Memᴰ x xs → Memᴰ x table
in_order_lem [] table o x m = absurd (Memᴰ.not-nil m)
in_order_lem (y ∷ xs) [] o x m = absurd o
in_order_lem (y ∷ xs) (z ∷ table) (inl (e, o)) x m = ⊎_elim (λ q. Memᴰ.head (q ∙ e)) (λ n. Memᴰ.tail (in_order_lem xs table o x n)) (Memᴰ.cases_cons m)
in_order_lem (y ∷ xs) (z ∷ table) (inr o) x m = Memᴰ.tail (in_order_lem (y ∷ xs) table o x m)

module _ (version : ℕ) (a : Attribute) (table : List Attribute) where
  -- rows of the other attributes alone
  rows_past : (front : List Row) → (Memᴰ a.name (map attribute_name table) → ⊥) → must_be_present version a.sort ≡ false → AttributeRows version table front
      → AttributeRows version (a ∷ table) front
  rows_past front new may x =
      record {
        sorts = x.sorts;
        owned = order front x.owned;
        present = λ b m q. ⊎_elim (λ e. absurd (false≢true (sym may ∙ ap (λ (z : Attribute). must_be_present version z.sort) (sym e) ∙ q))) (λ n. x.present b n q) (Memᴰ.cases_cons m);
        equal = λ b m r i e. ⊎_elim (λ p. absurd (out r i (e ∙ ap attribute_name p))) (λ n. x.equal b n r i e) (Memᴰ.cases_cons m);
      }
    where
      out : (r : Row) → Memᴰ r front → r.name ≡ a.name → ⊥
      out r i e = new (in_order_lem (map name_of front) (map attribute_name table) x.owned a.name (Memᴰ.cast (sym e) (Memᴰ.map name_of i)))

      order : (rows : List Row) → InOrder (map name_of rows) (map attribute_name table) → InOrder (map name_of rows) (map attribute_name (a ∷ table))
      order [] o = tt
      order (r ∷ rows) o = inr o

  rows_back : (front : List Row) → InOrder (map name_of front) (map attribute_name table) → AttributeRows version (a ∷ table) front → AttributeRows version table front
  rows_back front o x =
      record {
        sorts = x.sorts;
        owned = o;
        present = λ b m. x.present b (Memᴰ.tail m);
        equal = λ b m. x.equal b (Memᴰ.tail m);
      }

  module _ (r : Row) (front : List Row) (new : Memᴰ a.name (map attribute_name table) → ⊥) (named : r.name ≡ a.name) where
    -- a row of this attribute, then rows of the others
    rows_add : r.sort ≡ attribute → allows a.sort a.value r.value ≡ true → AttributeRows version table front → AttributeRows version (a ∷ table) (r ∷ front)
    rows_add s v x =
        record {
          sorts = λ t m. ⊎_elim (λ e. rw e s) (λ n. x.sorts t n) (Memᴰ.cases_cons m);
          owned = inl (named, x.owned);
          present = λ b m q. ⊎_elim (λ e. Memᴰ.head (ap attribute_name e ∙ sym named)) (λ n. Memᴰ.tail (x.present b n q)) (Memᴰ.cases_cons m);
          equal = λ b m t i e. pair b t e (Memᴰ.cases_cons m) (Memᴰ.cases_cons i);
        }
      where
        pair : (b : Attribute) (t : Row) → t.name ≡ b.name → (b ≡ a) ⊎ Memᴰ b table → (t ≡ r) ⊎ Memᴰ t front → allows b.sort b.value t.value ≡ true
        pair b t e (inl p) (inl i) = ap₂ (λ (y : Attribute) (z : Row). allows y.sort y.value z.value) p i ∙ v
        pair b t e (inl p) (inr i) = absurd (new (in_order_lem (map name_of front) (map attribute_name table) x.owned a.name (Memᴰ.cast (sym (e ∙ ap attribute_name p)) (Memᴰ.map name_of i))))
        pair b t e (inr m) (inl i) = absurd (new (Memᴰ.cast (sym named ∙ sym (ap name_of i) ∙ e) (Memᴰ.map attribute_name m)))
        pair b t e (inr m) (inr i) = x.equal b m t i e

    rows_take : InOrder (map name_of front) (map attribute_name table) → AttributeRows version (a ∷ table) (r ∷ front) → AttributeRows version table front
    rows_take o x =
        record {
          sorts = λ t m. x.sorts t (Memᴰ.tail m);
          owned = o;
          present = λ b m q. ⊎_elim (λ e. absurd (new (Memᴰ.cast (sym (e ∙ named)) (Memᴰ.map attribute_name m)))) (λ n. n) (Memᴰ.cases_cons (x.present b (Memᴰ.tail m) q));
          equal = λ b m t i. x.equal b (Memᴰ.tail m) t (Memᴰ.tail i);
        }

-- ---- the attribute rows are taken off the front
-- does it begin with an attribute row
unfoldable pub head_attribute : List Row → Bool
head_attribute [] = false
head_attribute (r ∷ rows) = is_attribute r.sort

-- does the first row belong to the attribute of this name
unfoldable pub begins : Bytes → List Row → Bool
begins n [] = false
begins n (r ∷ rows) = is_attribute r.sort && same n r.name

pub strip_past : (version : ℕ) (a : Attribute) (table : List Attribute) (rows : List Row) → begins a.name rows ≡ false → must_be_present version a.sort ≡ false
    → strip version (a ∷ table) rows ≡ strip version table rows
unfolding strip begins
strip_past version a table [] h m = rw (m, strip)
strip_past version a table (r ∷ rows) h m = rw (h, strip) (rw m)

pub strip_lacks : (version : ℕ) (a : Attribute) (table : List Attribute) (rows : List Row) → begins a.name rows ≡ false
    → must_be_present version a.sort ≡ true → strip version (a ∷ table) rows ≡ none
unfolding strip begins
strip_lacks version a table [] h m = rw (m, strip)
strip_lacks version a table (r ∷ rows) h m = rw (h, strip) (rw m)

pub strip_take : (version : ℕ) (a : Attribute) (table : List Attribute) (r : Row) (rows : List Row) → begins a.name (r ∷ rows) ≡ true → allows a.sort a.value r.value ≡ true
    → strip version (a ∷ table) (r ∷ rows) ≡ strip version table rows
unfolding strip begins
strip_take version a table r rows h m = rw (h, strip) (rw m)

pub strip_wrong : (version : ℕ) (a : Attribute) (table : List Attribute) (r : Row) (rows : List Row) → begins a.name (r ∷ rows) ≡ true → allows a.sort a.value r.value ≡ false
    → strip version (a ∷ table) (r ∷ rows) ≡ none
unfolding strip begins
strip_wrong version a table r rows h m = rw (h, strip) (rw m)

-- the rows, cut behind the attribute rows
pub record Cut (version : ℕ) (table : List Attribute) (rows rest : List Row) : Type 0 where
  pub front : List Row
  pub split : front ++ rest ≡ rows
  pub attributes : AttributeRows version table front

no_rows : (version : ℕ) → AttributeRows version [] []
no_rows version = record { sorts = λ r m. absurd (Memᴰ.not-nil m); owned = tt; present = λ a m q. absurd (Memᴰ.not-nil m); equal = λ a m r i. absurd (Memᴰ.not-nil i) }

cut_past : (version : ℕ) (a : Attribute) (table : List Attribute) (rows rest : List Row) → (Memᴰ a.name (map attribute_name table) → ⊥) → must_be_present version a.sort ≡ false
    → Cut version table rows rest → Cut version (a ∷ table) rows rest
cut_past version a table rows rest new may x = record { front = x.front; split = x.split; attributes = rows_past version a table x.front new may x.attributes }

cut_add : (version : ℕ) (a : Attribute) (table : List Attribute) (r : Row) (rows rest : List Row) → (Memᴰ a.name (map attribute_name table) → ⊥) → begins a.name (r ∷ rows) ≡ true
    → allows a.sort a.value r.value ≡ true
    → Cut version table rows rest → Cut version (a ∷ table) (r ∷ rows) rest
unfolding begins
cut_add version a table r rows rest new e v x =
    let (s, n) = and_split (is_attribute r.sort) (same a.name r.name) e in
    record {
      front = r ∷ x.front;
      split = ap (λ (z : List Row). r ∷ z) x.split;
      attributes = rows_add version a table r x.front new (sym (same_eq a.name r.name n)) (is_attribute_lem r.sort s) v x.attributes;
    }

strip→ : (version : ℕ) (table : List Attribute) (rows rest : List Row) → Distinct (map attribute_name table) → strip version table rows ≡ some rest → Cut version table rows rest
unfolding strip begins
strip→ version [] rows rest d e = record { front = []; split = let z : rest ≡ rows = cc e in z; attributes = no_rows version }
strip→ version (a ∷ table) rows rest (new, d) e = by rows e (begins a.name rows) refl (strip→ version table)
  where
    by : (rows : List Row) → strip version (a ∷ table) rows ≡ some rest → (b : Bool) → begins a.name rows ≡ b
        → ((rows rest : List Row) → Distinct (map attribute_name table) → strip version table rows ≡ some rest → Cut version table rows rest) → Cut version (a ∷ table) rows rest
    by rows e false h f = past (must_be_present version a.sort) refl
      where
        past : (c : Bool) → must_be_present version a.sort ≡ c → Cut version (a ∷ table) rows rest
        past true m = absurd (none-ne-some _ (sym (strip_lacks version a table rows h m) ∙ e))
        past false m = cut_past version a table rows rest new m (f rows rest d (sym (strip_past version a table rows h m) ∙ e))
    by [] e true h f = absurd (false≢true h)
    by (r ∷ rows) e true h f = take (allows a.sort a.value r.value) refl
      where
        take : (c : Bool) → allows a.sort a.value r.value ≡ c → Cut version (a ∷ table) (r ∷ rows) rest
        take true v = cut_add version a table r rows rest new h v (f rows rest d (sym (strip_take version a table r rows h v) ∙ e))
        take false v = absurd (none-ne-some _ (sym (strip_wrong version a table r rows h v) ∙ e))

pub begins_none : (n : Bytes) (rows : List Row) → head_attribute rows ≡ false → begins n rows ≡ false
unfolding begins head_attribute
begins_none n [] h = refl
begins_none n (r ∷ rows) h = rw h

pub begins_other : (n : Bytes) (r : Row) (rows : List Row) → r.sort ≡ attribute → (n ≡ r.name → ⊥) → begins n (r ∷ rows) ≡ false
unfolding begins
begins_other n r rows s f = rw s (differs bytes n r.name f)

pub begins_this : (n : Bytes) (r : Row) (rows : List Row) → r.sort ≡ attribute → r.name ≡ n → begins n (r ∷ rows) ≡ true
unfolding begins
begins_this n r rows s e = and_both (ap is_attribute s) (rw e (same_refl n))

strip← : (version : ℕ) (table : List Attribute) (front back : List Row) → Distinct (map attribute_name table) → head_attribute back ≡ false → AttributeRows version table front
    → strip version table (front ++ back) ≡ some back
unfolding strip
strip← version [] [] back d h x = refl
strip← version [] (r ∷ front) back d h x = absurd x.owned
strip← version (a ∷ table) [] back (new, d) h x =
    strip_past version a table back (begins_none a.name back h) (false_from_ne_true (must_be_present version a.sort) (λ q. Memᴰ.not-nil (x.present a (Memᴰ.head refl) q)))
    ∙ strip← version table [] back d h (rows_back version a table [] tt x)
strip← version (a ∷ table) (r ∷ front) back (new, d) h x = by x.owned (strip← version table)
  where
    is : r.sort ≡ attribute
    is = x.sorts r (Memᴰ.head refl)

    by : InOrder (map name_of (r ∷ front)) (map attribute_name (a ∷ table))
        → ((front back : List Row) → Distinct (map attribute_name table) → head_attribute back ≡ false → AttributeRows version table front → strip version table (front ++ back) ≡ some back)
        → strip version (a ∷ table) (r ∷ (front ++ back)) ≡ some back
    by (inl (e, o)) f =
        strip_take version a table r (front ++ back) (begins_this a.name r (front ++ back) is e) (x.equal a (Memᴰ.head refl) r (Memᴰ.head refl) e)
        ∙ f front back d h (rows_take version a table r front new e o x)
    by (inr o) f =
        strip_past version a table (r ∷ (front ++ back)) (begins_other a.name r (front ++ back) is (λ e. out (Memᴰ.head e)))
        (false_from_ne_true (must_be_present version a.sort) (λ q. out (x.present a (Memᴰ.head refl) q)))
        ∙ f (r ∷ front) back d h (rows_back version a table (r ∷ front) o x)
      where
        out : Memᴰ a.name (map name_of (r ∷ front)) → ⊥
        out m = new (in_order_lem (map name_of (r ∷ front)) (map attribute_name table) o a.name m)

-- the attribute rows end before the first row that is no attribute
pub strip_is : (version : ℕ) (table : List Attribute) (rows rest : List Row) → Distinct (map attribute_name table) → head_attribute rest ≡ false
    → (strip version table rows ≡ some rest) ↔ Cut version table rows rest
strip_is version table rows rest d h = (
  strip→ version table rows rest d,
  λ c. ap (λ (z : List Row). strip version table z) (sym c.split) ∙ strip← version table c.front rest d h c.attributes,
)

-- ---- the content behind them
content→ : (c : Content) → Distinct (names (model_of c)) → (rows : List Row) → fits c rows ≡ true → ContentRows c rows
content→ empty d [] e = refl
content→ empty d (r ∷ rows) e = absurd (false≢true e)
content→ pcdata d [] e = absurd (false≢true e)
content→ pcdata d (r ∷ []) e = (r, refl, is_text_lem r.sort (and_split (is_text r.sort) true e).0)
content→ pcdata d (r ∷ (s ∷ rows)) e = absurd (false≢true (and_split (is_text r.sort) false e).1)
content→ (complex ms) d rows e =
    let (s, a) = and_split (all (λ (r : Row). is_element r.sort) rows) (accepts bytes ms (map name_of rows)) e in
    (sorted→ rows s, (accepts_conforms bytes ms d (map name_of rows)).0 a)

content← : (c : Content) → Distinct (names (model_of c)) → (rows : List Row) → ContentRows c rows → fits c rows ≡ true
content← empty d rows e = rw e
content← pcdata d rows (r, e, s) = rw e (and_both (ap is_text s) refl)
content← (complex ms) d rows (s, l) = and_both (sorted← rows s) ((accepts_conforms bytes ms d (map name_of rows)).1 l)

pub content_is : (c : Content) → Distinct (names (model_of c)) → (rows : List Row) → (fits c rows ≡ true) ↔ ContentRows c rows
content_is c d rows = (content→ c d rows, content← c d rows)

-- no content begins with an attribute row
pub content_head : (c : Content) (rows : List Row) → ContentRows c rows → head_attribute rows ≡ false
unfolding head_attribute
content_head empty rows e = rw e
content_head pcdata rows (r, e, s) = rw e (ap is_attribute s)
content_head (complex ms) [] x = refl
content_head (complex ms) (r ∷ rows) (s, l) = ap is_attribute (s r (Memᴰ.head refl))

-- ---- the rows right below an element
module _ (version : ℕ) (d : Definition) (once : Distinct (names (members d))) (apart : Distinct (map attribute_name d.attributes)) (below : List Row) where
  element→ : (o : Option (List Row)) → strip version d.attributes below ≡ o → fits_stripped d.content o ≡ true → ElementRows version d below
  element→ none q e = absurd (false≢true e)
  element→ (some rest) q e =
      let c : Cut version d.attributes below rest = strip→ version d.attributes below rest apart q in
      record { front = c.front; back = rest; split = c.split; attributes = c.attributes; content = content→ d.content once rest e }

  element← : ElementRows version d below → fits_stripped d.content (strip version d.attributes below) ≡ true
  element← x =
      ap (fits_stripped d.content)
      ((strip_is version d.attributes below x.back apart (content_head d.content x.back x.content)).1 (record { front = x.front; split = x.split; attributes = x.attributes }))
      ∙ content← d.content once x.back x.content

  pub element_is : (fits_definition version (some d) below ≡ true) ↔ ElementRows version d below
  element_is = (element→ (strip version d.attributes below) refl, element←)

-- ---- every row
module _ (version : ℕ) (form : Form) (once : (n : Bytes) (d : Definition) → lookup n form ≡ some d → Distinct (names (members d)))
    (apart : (n : Bytes) (d : Definition) → lookup n form ≡ some d → Distinct (map attribute_name d.attributes)) where
  found→ : (n : Bytes) (below : List Row) (o : Option Definition) → lookup n form ≡ o → fits_definition version o below ≡ true
      → (d : Definition) × (lookup n form ≡ some d) × ElementRows version d below
  found→ n below none q e = absurd (false≢true e)
  found→ n below (some d) q e = (d, q, (element_is version d (once n d q) (apart n d q) below).0 e)

  found← : (n : Bytes) (below : List Row) → (d : Definition) × (lookup n form ≡ some d) × ElementRows version d below → fits_definition version (lookup n form) below ≡ true
  found← n below (d, q, x) = ap (λ (o : Option Definition). fits_definition version o below) q ∙ (element_is version d (once n d q) (apart n d q) below).1 x

  sort_is : (s : RowSort) (n : Bytes) (below : List Row)
      → (elim s as (λ x. Bool) [ element ↦ fits_definition version (lookup n form) below | attribute ↦ is_none below | text ↦ is_none below ] ≡ true)
      ↔ (elim s as (λ x. Type 0) [ element ↦ (d : Definition) × (lookup n form ≡ some d) × ElementRows version d below | attribute ↦ below ≡ [] | text ↦ below ≡ [] ])
  sort_is element n below = (found→ n below (lookup n form) refl, found← n below)
  sort_is attribute n below = (none_nil below, λ e. rw e)
  sort_is text n below = (none_nil below, λ e. rw e)

  pub row_is : (r : Row) (below : List Row) → (fits_row version form r below ≡ true) ↔ RowConforms version form r below
  unfolding fits_row
  row_is r below = sort_is r.sort r.name below

  pub conforming_is : (docs : Forest Row) → (conforming version form docs ≡ true) ↔ Conforming version form docs
  unfolding conforming
  conforming_is docs = (
    λ e.
        let (s, a) = and_split (all (λ (r : Row). is_element r.sort) (heads docs)) (every_row (λ r below. fits_row version form r below) docs) e in
        record { roots = sorted→ (heads docs) s; rows = every.0 a },
    λ c. and_both (sorted← (heads docs) c.roots) (every.1 c.rows),
  )
    where
      every : (every_row (λ r below. fits_row version form r below) docs ≡ true) ↔ EveryRow (λ r below. RowConforms version form r below) docs
      every = every_row_is (λ r below. fits_row version form r below) (λ r below. RowConforms version form r below) row_is docs
