-- What the bytes of a store that passes say of the element row with a serial.
use Prim.Native.Nat.{ℕ, suc, ◌+◌, ◌<◌}
use native.Mathlib.Omega.{arith}
use mathlib.Core.Path.{◌≡◌, refl, sym, ap, ap₂, ◌∙◌, subst}
use mathlib.Core.Logic.{◌⊎◌, inl, inr, ⊎_elim}
use mathlib.Core.Bool.{Bool, true, false, ◌&&◌, ◌||◌, not, false≢true}
use mathlib.Core.Option as maybe
use mathlib.Core.Option.{none, some, some-injective}
use mathlib.Core.List.Memᴰ
use mathlib.Core.List.{List, [], ◌∷◌, ◌++◌, map, append-nil, Memᴰ}
use mathlib.Core.List.{nil≢cons, head-eq_of_cons-eq, tail-eq_of_cons-eq}
use lib.Dec.{eqb}
use Rattle.std.specs.Prelude.{Option, None, Some}
use lib.ListN.{length}
use Rattle.rules.specs.Bytes.{Bytes, any, eqb_eq, eqb_of}
use Rattle.rules.specs.Store.{Definition, RowSort, element, attribute, text, Row, Forest, heads, Form}
use Rattle.rules.specs.Preorder.{Deep, preorder}
use Rattle.rules.specs.Layout.{row_size, FlatRow, row_code, row_index, indexed, index_of}
use Rattle.rules.specs.Decode.{read_row, row_count}
use Rattle.rules.specs.WellFormed.{lookup, is_there}
use Rattle.rules.specs.Conforming.{is_element, is_text, ElementRows, RowConforms}
use Rattle.rules.specs.Change.{definition_at}
use Rattle.rules.specs.Lines.{Line, lines, element_with, find_row, children_of}
use Rattle.rules.specs.Refusal.{rows_of, no_element}
use Rattle.rules.proofs.Words.{or_cases, and_both, and_split}
use Rattle.rules.proofs.BooleanLaws.{any_in}
use Rattle.change_laws.proofs.RowEdits.{row_serial, keep}
use Rattle.change_laws.proofs.Rowwise.{Standing}
use Rattle.change_laws.proofs.Untouched.{keep_alike}
use Rattle.change_laws.proofs.StandingLaws as standing
use Rattle.change_laws.proofs.StandingLaws.{standing_every, standing_line, found_stands, one_row_lem}
use Rattle.layout.specs.Bodies.{width_of, tree_rows_in}
use Rattle.lookup.proofs.Laws.{from_step}
use Rattle.store_check.proofs.IndexLaws.{Indexed, known_index}
use Rattle.store_check.proofs.AttributeRows.{row_written}
use Rattle.store_laws.specs.Stores.{store_in}
use Rattle.document_rows.specs.Finding.{Begins, BeginsAt, ElementRowAt, ParentAt, children, element_row_with, is_this, is_parent, Test, seek, serial_in, children_below, children_at}
use Rattle.document_rows.proofs.SuffixLaws.{row_at}
use Rattle.document_rows.proofs.TreeLaws.{of_sort, Located, located_children, seek_tree}
use Rattle.store_check.proofs.StoreFacts.{form_in, docs_in, Whole}
use Rattle.plans.proofs.FollowingLaws.{element_code}
use Rattle.rules.proofs.ConformingLaws.{is_element_lem}
use Rattle.lookup.specs.Bodies.{rows_from}

-- rows that a reader cut out are those of the string
begins_in : (bs : Bytes) (p : Test) {n : ℕ} {rows : Bytes} {count : ℕ} (r : Option ℕ) → n ≡ width_of bs → rows ≡ tree_rows_in bs → count ≡ row_count bs
    → Begins n rows count r (seek p (rows_from n rows count 0))
    → Begins (width_of bs) (tree_rows_in bs) (row_count bs) r (seek p (rows_from (width_of bs) (tree_rows_in bs) (row_count bs) 0))
begins_in bs p None v e g b = sym (λ i. seek p (rows_from (v i) (e i) (g i) 0)) ∙ b
begins_in bs p (Some r) v e g b =
    record { from = sym (λ i. rows_from (v i) (e i) (g i) r) ∙ b.from ∙ (λ i. seek p (rows_from (v i) (e i) (g i) 0)); within = omega (arith, b.within, g) }

pub element_at_is : (bs : Bytes) → Whole bs → (k : ℕ) {n : ℕ} {rows : Bytes} {count : ℕ} (r : Option ℕ) → n ≡ width_of bs → rows ≡ tree_rows_in bs → count ≡ row_count bs
    → Begins n rows count r (seek (is_this k) (rows_from n rows count 0)) → ElementRowAt bs k r
element_at_is bs w k r v e g b = record { begins = begins_in bs (is_this k) r v e g b; few = w.few }

pub parent_at_is : (bs : Bytes) → Whole bs → (k : ℕ) {n : ℕ} {rows : Bytes} {count : ℕ} (r : Option ℕ) → n ≡ width_of bs → rows ≡ tree_rows_in bs → count ≡ row_count bs
    → Begins n rows count r (seek (is_parent k) (rows_from n rows count 0)) → ParentAt bs k r
parent_at_is bs w k r v e g b = record { begins = begins_in bs (is_parent k) r v e g b; few = w.few }

-- ---- lines
pub any_found : (test : Row → Bool) (ls : List Line) → any (λ (l : Line). test l.row) ls ≡ is_there (find_row test ls)
unfolding find_row
any_found test [] = refl
any_found test (l ∷ ls) = by (test l.row) refl (any_found test ls)
  where
    by : (c : Bool) → test l.row ≡ c → any (λ (k : Line). test k.row) ls ≡ is_there (find_row test ls) → any (λ (k : Line). test k.row) (l ∷ ls) ≡ is_there (find_row test (l ∷ ls))
    by true e x = rw (e, find_row)
    by false e x = rw (e, find_row) x

find_none : (test : Row → Bool) (docs : Forest Row) → ((r : Row) (b : Forest Row) → Standing docs r b → test r ≡ false) → find_row test (lines 0 docs) ≡ none
find_none test docs f = by (find_row test (lines 0 docs)) refl
  where
    by : (o : maybe.Option Row) → find_row test (lines 0 docs) ≡ o → o ≡ none
    by none e = refl
    by (some r) e = let (b, i, h) = found_stands test docs r e in absurd (false≢true (sym (f r b i) ∙ h))

find_some : (test : Row → Bool) (docs : Forest Row) (r : Row) (b : Forest Row) → Standing docs r b → test r ≡ true
    → ((s : Row) (c : Forest Row) → Standing docs s c → test s ≡ true → s ≡ r) → find_row test (lines 0 docs) ≡ some r
find_some test docs r b i h once = by (find_row test (lines 0 docs)) refl
  where
    by : (o : maybe.Option Row) → find_row test (lines 0 docs) ≡ o → o ≡ some r
    by none e = absurd (false≢true (sym (ap is_there e) ∙ sym (any_found test (lines 0 docs)) ∙ standing_line test 0 docs r b i h))
    by (some s) e = let (c, j, g) = found_stands test docs s e in ap some (once s c j g)

-- ---- the element row with a serial
pub record Element (bs : Bytes) (k i : ℕ) : Type 0 where
  pub owner : Bytes
  pub row : Row
  pub below : Forest Row
  pub depth : ℕ
  pub stands : Standing (docs_in bs) row below
  pub sort : row.sort ≡ element
  pub serial : row.serial ≡ k
  pub found : find_row (element_with k) (rows_of (store_in bs)) ≡ some row
  pub there : no_element k (store_in bs) ≡ false
  pub here : row_at (width_of bs) (tree_rows_in bs) i ≡ record { depth = depth; row = row_written (form_in bs) owner row }
  pub children_are : (s : ℕ)
      → children s (suc depth) (rows_from (width_of bs) (tree_rows_in bs) (row_count bs) (i + 1))
      ≡ map (row_written (form_in bs) row.name) (keep (of_sort (form_in bs) s) (heads below))

pub record NoElement (bs : Bytes) (k : ℕ) : Type 0 where
  pub found : find_row (element_with k) (rows_of (store_in bs)) ≡ none
  pub there : no_element k (store_in bs) ≡ true

-- an element that conforms, by its definition
pub element_conforms : (version : ℕ) (form : Form) (r : Row) (rows : List Row) → r.sort ≡ element → RowConforms version form r rows
    → (d : Definition) × (lookup r.name form ≡ some d) × ElementRows version d rows
element_conforms version form r rows q x = rw q at x

code_text : (s : RowSort) → eqb (row_code s) 3 ≡ is_text s
code_text element = refl
code_text attribute = refl
code_text text = refl

module _ (bs : Bytes) (w : Whole bs) where
  -- rows that begin with a row that stands
  module _ (i : ℕ) {xs : List (Deep FlatRow)} (b : BeginsAt (width_of bs) (tree_rows_in bs) (row_count bs) i xs) (l : Located (form_in bs) (docs_in bs) xs) where
    located_step : row_at (width_of bs) (tree_rows_in bs) i ∷ rows_from (width_of bs) (tree_rows_in bs) (row_count bs) (i + 1)
        ≡ record { depth = l.depth; row = row_written (form_in bs) l.owner l.row } ∷ (preorder (suc l.depth) (indexed (form_in bs) l.row.name l.below) ++ l.rest)
    located_step = sym (from_step read_row (row_size (width_of bs)) (tree_rows_in bs) (row_count bs) i b.within) ∙ b.from ∙ l.rows

    pub located_here : row_at (width_of bs) (tree_rows_in bs) i ≡ record { depth = l.depth; row = row_written (form_in bs) l.owner l.row }
    located_here = head-eq_of_cons-eq located_step

    pub located_next : (s : ℕ) → children s (suc l.depth) (rows_from (width_of bs) (tree_rows_in bs) (row_count bs) (i + 1))
        ≡ map (row_written (form_in bs) l.row.name) (keep (of_sort (form_in bs) s) (heads l.below))
    located_next s = ap (children s (suc l.depth)) (tail-eq_of_cons-eq located_step) ∙ located_children (form_in bs) l s

    -- an element row is the one with its serial
    pub located_element : is_element l.row.sort ≡ true → Element bs l.row.serial i
    located_element x =
        let e : element_with l.row.serial l.row ≡ true = and_both x (eqb_of l.row.serial l.row.serial refl) in
        let once : (s : Row) (c : Forest Row) → Standing (docs_in bs) s c → element_with l.row.serial s ≡ true → s ≡ l.row = λ s c j g.
        (one_row_lem (store_in bs).next (docs_in bs) w.good.serials s l.row c l.below j l.stands
        (eqb_eq s.serial l.row.serial (and_split (is_element s.sort) (eqb s.serial l.row.serial) g).1)).0 in
        let g : find_row (element_with l.row.serial) (rows_of (store_in bs)) ≡ some l.row = find_some (element_with l.row.serial) (docs_in bs) l.row l.below l.stands e once in
        record {
          owner = l.owner;
          row = l.row;
          below = l.below;
          depth = l.depth;
          stands = l.stands;
          sort = is_element_lem l.row.sort x;
          serial = refl;
          found = g;
          there = ap not (any_found (element_with l.row.serial) (rows_of (store_in bs)) ∙ ap is_there g);
          here = located_here;
          children_are = located_next;
        }

  -- ---- the first row that passes a test
  module _ (p : Test) (q : Row → List Row → Bool)
      (same : (owner : Bytes) (r : Row) (rows : List Row)
      → p (row_written (form_in bs) owner r) (map (row_written (form_in bs) r.name) (keep (of_sort (form_in bs) 1) rows)) ≡ q r rows) where
    abbrev Sought : List (Deep FlatRow) → Type 0
    Sought zs = ((l : Located (form_in bs) (docs_in bs) zs) × (q l.row (heads l.below) ≡ true)) ⊎ (((r : Row) (c : Forest Row) → Standing (docs_in bs) r c → q r (heads c) ≡ false) × (zs ≡ []))

    sought : Sought (seek p (rows_from (width_of bs) (tree_rows_in bs) (row_count bs) 0))
    unfolding seek
    sought =
        subst (λ (zs : List (Deep FlatRow)). Sought (seek p zs)) (append-nil (preorder 0 (indexed (form_in bs) [] (docs_in bs))) ∙ sym w.rows)
        (seek_tree (form_in bs) p q same 0 [] (docs_in bs) [] tt)

    sought_there : (i : ℕ) → BeginsAt (width_of bs) (tree_rows_in bs) (row_count bs) i (seek p (rows_from (width_of bs) (tree_rows_in bs) (row_count bs) 0))
        → (l : Located (form_in bs) (docs_in bs) (seek p (rows_from (width_of bs) (tree_rows_in bs) (row_count bs) 0))) × (q l.row (heads l.below) ≡ true)
    sought_there i b = by sought
      where
        by : Sought (seek p (rows_from (width_of bs) (tree_rows_in bs) (row_count bs) 0))
            → (l : Located (form_in bs) (docs_in bs) (seek p (rows_from (width_of bs) (tree_rows_in bs) (row_count bs) 0))) × (q l.row (heads l.below) ≡ true)
        by (inl x) = x
        by (inr (f, e)) = absurd (nil≢cons (sym e ∙ sym b.from ∙ from_step read_row (row_size (width_of bs)) (tree_rows_in bs) (row_count bs) i b.within))

    sought_none : seek p (rows_from (width_of bs) (tree_rows_in bs) (row_count bs) 0) ≡ [] → (r : Row) (c : Forest Row) → Standing (docs_in bs) r c → q r (heads c) ≡ false
    sought_none h = by sought
      where
        by : Sought (seek p (rows_from (width_of bs) (tree_rows_in bs) (row_count bs) 0)) → (r : Row) (c : Forest Row) → Standing (docs_in bs) r c → q r (heads c) ≡ false
        by (inl (l, e)) = absurd (nil≢cons (sym h ∙ l.rows))
        by (inr (f, e)) = f

  module _ (k : ℕ) where
    element_test : (owner : Bytes) (r : Row) (rows : List Row) → element_row_with k (row_written (form_in bs) owner r) ≡ element_with k r
    element_test owner r rows = ap (λ (z : Bool). z && eqb r.serial k) (element_code r.sort)

    pub element_there : {i : ℕ} → ElementRowAt bs k (Some i) → Element bs k i
    element_there {i} f =
        let (l, e) = sought_there (is_this k) (λ r rows. element_with k r) element_test i f.begins in
        let (x, y) = and_split (is_element l.row.sort) (eqb l.row.serial k) e in
        subst (λ (n : ℕ). Element bs n i) (eqb_eq l.row.serial k y) (located_element i f.begins l x)

    pub element_absent : ElementRowAt bs k None → NoElement bs k
    element_absent f =
        let g : find_row (element_with k) (rows_of (store_in bs)) ≡ none = find_none (element_with k) (docs_in bs) (sought_none (is_this k) (λ r rows. element_with k r) element_test f.begins) in
        record { found = g; there = ap not (any_found (element_with k) (rows_of (store_in bs)) ∙ ap is_there g) }

  -- ---- what is read of it
  module _ (k i : ℕ) (e : Element bs k i) where
    pub children_at_lem : (s : ℕ) → children_at bs s i ≡ map (row_written (form_in bs) e.row.name) (keep (of_sort (form_in bs) s) (heads e.below))
    unfolding children_below
    children_at_lem s = ap (λ (z : Deep FlatRow). children s (suc z.depth) (rows_from (width_of bs) (tree_rows_in bs) (row_count bs) (i + 1))) e.here ∙ e.children_are s

    pub elements_at : children_at bs 1 i ≡ map (row_written (form_in bs) e.row.name) (keep (λ r. is_element r.sort) (heads e.below))
    elements_at = children_at_lem 1 ∙ ap (map (row_written (form_in bs) e.row.name)) (keep_alike (of_sort (form_in bs) 1) (λ r. is_element r.sort) (λ r. element_code r.sort) (heads e.below))

    pub texts_at : children_at bs 3 i ≡ map (row_written (form_in bs) e.row.name) (keep (λ r. is_text r.sort) (heads e.below))
    texts_at = children_at_lem 3 ∙ ap (map (row_written (form_in bs) e.row.name)) (keep_alike (of_sort (form_in bs) 3) (λ r. is_text r.sort) (λ r. code_text r.sort) (heads e.below))

    serials_written : (owner : Bytes) (rows : List Row) → map serial_in (map (row_written (form_in bs) owner) rows) ≡ map row_serial rows
    serials_written owner [] = refl
    serials_written owner (r ∷ rows) = ap (λ (z : List ℕ). r.serial ∷ z) (serials_written owner rows)

    -- their serials, of a sort
    pub serials_at : (s : ℕ) (test : Row → Bool) → children_at bs s i ≡ map (row_written (form_in bs) e.row.name) (keep test (heads e.below))
        → map serial_in (children_at bs s i) ≡ children_of test k (rows_of (store_in bs))
    serials_at s test q =
        ap (map serial_in) q ∙ serials_written e.row.name (keep test (heads e.below))
        ∙ sym children_in_docs
      where
        children_in_docs : children_of test k (rows_of (store_in bs)) ≡ map row_serial (keep test (heads e.below))
        children_in_docs =
            ap (λ (z : ℕ). children_of test z (rows_of (store_in bs))) (sym e.serial)
            ∙ standing.children_are (store_in bs).next (docs_in bs) w.good.serials test e.row e.below e.stands

  -- ---- the row right above an element
  pub record Parent (k i : ℕ) : Type 0 where
    pub serial : ℕ
    pub parent : Element bs serial i
    pub child : Row
    pub among : Memᴰ child (heads parent.below)
    pub here : element_with k child ≡ true

  module _ (k : ℕ) where
    parent_test : (owner : Bytes) (r : Row) (rows : List Row) → any (element_row_with k) (map (row_written (form_in bs) r.name) (keep (of_sort (form_in bs) 1) rows)) ≡ any (element_with k) rows
    unfolding keep
    parent_test owner r [] = refl
    parent_test owner r (s ∷ rows) = by (is_element s.sort) refl (parent_test owner r rows)
      where
        by : (c : Bool) → is_element s.sort ≡ c → any (element_row_with k) (map (row_written (form_in bs) r.name) (keep (of_sort (form_in bs) 1) rows)) ≡ any (element_with k) rows
            → any (element_row_with k) (map (row_written (form_in bs) r.name) (keep (of_sort (form_in bs) 1) (s ∷ rows))) ≡ any (element_with k) (s ∷ rows)
        by true e h = rw (element_code s.sort ∙ e, keep) (ap₂ (λ (x y : Bool). x || y) (ap (λ (z : Bool). z && eqb s.serial k) (element_code s.sort)) h)
        by false e h = rw (element_code s.sort ∙ e, keep) (h ∙ sym (ap (λ (z : Bool). (z && eqb s.serial k) || any (element_with k) rows) e))

    any_some : (rows : List Row) → any (element_with k) rows ≡ true → (r : Row) × Memᴰ r rows × (element_with k r ≡ true)
    any_some [] e = absurd (false≢true e)
    any_some (r ∷ rows) e = ⊎_elim (λ h. (r, Memᴰ.head refl, h)) (λ h. let (s, m, g) = any_some rows h in (s, Memᴰ.tail m, g)) (or_cases (element_with k r) (any (element_with k) rows) e)

    any_none : (rows : List Row) → any (element_with k) rows ≡ false → (r : Row) → Memᴰ r rows → element_with k r ≡ false
    any_none rows e r m = by (element_with k r) refl
      where
        by : (c : Bool) → element_with k r ≡ c → c ≡ false
        by true h = sym (any_in (element_with k) r rows m h) ∙ e
        by false h = refl

    pub parent_there : {i : ℕ} → ParentAt bs k (Some i) → Parent k i
    unfolding located_element sought_there
    parent_there {i} f =
        let (l, e) = sought_there (is_parent k) (λ r rows. any (element_with k) rows) parent_test i f.begins in
        let (y, m, g) = any_some (heads l.below) e in
        record { serial = l.row.serial; parent = located_element i f.begins l (holder l.row l.below l.stands y m); child = y; among = m; here = g }
      where
        holder : (r : Row) (c : Forest Row) → Standing (docs_in bs) r c → (y : Row) → Memᴰ y (heads c) → is_element r.sort ≡ true
        holder r c j y m = by r.sort (standing_every (λ r below. RowConforms (store_in bs).version (form_in bs) r below) (docs_in bs) w.good.docs.rows r c j)
          where
            by : (s : RowSort)
                → elim s as (λ z. Type 0) [
                  | element ↦ (d : Definition) × (lookup r.name (form_in bs) ≡ some d) × ElementRows (store_in bs).version d (heads c)
                  | attribute ↦ heads c ≡ []
                  | text ↦ heads c ≡ []
                ]
                → is_element s ≡ true
            by element x = refl
            by attribute x = absurd (Memᴰ.not-nil (subst (λ (z : List Row). Memᴰ y z) x m))
            by text x = absurd (Memᴰ.not-nil (subst (λ (z : List Row). Memᴰ y z) x m))

    pub parent_absent : ParentAt bs k None → (u : Row) (c : Forest Row) → Standing (docs_in bs) u c → (z : Row) → Memᴰ z (heads c) → element_with k z ≡ false
    parent_absent f u c j z m = any_none (heads c) (sought_none (is_parent k) (λ r rows. any (element_with k) rows) parent_test f.begins u c j) z m

  -- ---- its definition
  pub record Defined (k i : ℕ) (e : Element bs k i) : Type 0 where
    pub definition : Definition
    pub found : lookup e.row.name (form_in bs) ≡ some definition
    pub fits : ElementRows (store_in bs).version definition (heads e.below)
    pub index : (row_at (width_of bs) (tree_rows_in bs) i).row.index ≡ index_of e.row.name (form_in bs)
    pub below : index_of e.row.name (form_in bs) < length (form_in bs)
    pub at : definition_at (index_of e.row.name (form_in bs)) (form_in bs) ≡ definition

  pub defined : (k i : ℕ) (e : Element bs k i) → Defined k i e
  defined k i e =
      let (d, g, x) =
      element_conforms (store_in bs).version (form_in bs) e.row (heads e.below) e.sort
      (standing_every (λ r below. RowConforms (store_in bs).version (form_in bs) r below) (docs_in bs) w.good.docs.rows e.row e.below e.stands) in
      let n : Indexed (form_in bs) e.row.name = known_index (form_in bs) e.row.name (ap is_there g) in
      record {
        definition = d;
        found = g;
        fits = x;
        index = ap (λ (z : Deep FlatRow). z.row.index) e.here ∙ row_index_lem e.row e.owner e.sort;
        below = n.below;
        at = some-injective _ _ (sym n.found ∙ g);
      }
    where
      row_index_lem : (r : Row) (owner : Bytes) → r.sort ≡ element → row_index (form_in bs) owner r ≡ index_of r.name (form_in bs)
      row_index_lem r owner q = rw q
