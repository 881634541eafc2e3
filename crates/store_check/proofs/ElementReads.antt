-- The rows right below an element: what an index form asks of them is what the form asks of the rows that are read, and
-- of those that are written.
use Prim.Native.Nat.{ℕ, zero, suc, ◌<◌}
use native.Mathlib.Omega.{arith}
use mathlib.Core.Path.{◌≡◌, refl, ap, ◌∙◌, sym, subst}
use mathlib.Core.Logic.{◌↔◌}
use mathlib.Core.Bool.{Bool, true, false}
use mathlib.Core.List.Memᴰ
use mathlib.Core.List.{List, [], ◌∷◌, ◌++◌, map, Memᴰ, map-append}
use lib.Dec.{eqb}
use lib.ListN.{length, length-map}
use borrow.Author.Tests.{eqb-true, eqb-false}
use Rattle.rules.specs.declared.GroupKind.TheVariants.{Sequence}
use Rattle.rules.specs.Bytes.{Bytes, same, bytes, numbers}
use Rattle.rules.specs.Model.{Members, names, Distinct}
use Rattle.rules.specs.Language.{Conforms}
use Rattle.rules.specs.Automaton.{accepts}
use Rattle.rules.specs.Store.{Content, empty, pcdata, complex, Form, element, Row, model_of, members}
use Rattle.rules.specs.Layout.{FlatRow, kind_code, row_code, index_of, attribute_index, row_index}
use Rattle.rules.specs.Decode.{name_at, row_sort_of, row_name}
use Rattle.rules.specs.WellFormed.{known, GoodDefinition, well_formed}
use Rattle.rules.specs.Conforming.{name_of, Sorted, ContentRows, ElementRows}
use Rattle.rules.specs.Change.{definition_at}
use Rattle.rules.proofs.Apart.{differs}
use Rattle.rules.proofs.Letters.{letters}
use Rattle.rules.proofs.Correct.{accepts_conforms}
use Rattle.rules.proofs.Renaming.{rename_accepts}
use Rattle.rules.proofs.RenamingPlaces.{names_rename}
use Rattle.rules.proofs.BooleanLaws.{Every, every_append, every_in}
use Rattle.rules.proofs.WellFormedLaws.{well_formed_lem, definition_stands}
use Rattle.rules.proofs.ConformingLaws.{Cut, strip_is, content_head}
use Rattle.rules.proofs.DecodeLaws.{attribute_names}
use Rattle.form_index.specs.Indices.{IndexForm, index_of_row, Sort, ContentOf, AttributeRowsOf, Below}
use Rattle.store_check.specs.Reading.{Agrees}
use Rattle.store_check.proofs.IndexLaws.{names_of, name_once, known_index, distinct_unmap}
use Rattle.store_check.proofs.AttributeBlocks.{Block, offset, block_at, block_first, block_found}
use Rattle.store_check.proofs.AttributeRows.{row_read, row_written, Taken, taken_of, owned_of, whole_of, strip_taken, taken_strip}

-- ---- names of element rows
elements_read : (form : Form) (rs : List FlatRow) → Sort 1 rs → map name_of (map (row_read form) rs) ≡ map (λ j. name_at j (names_of form)) (map index_of_row rs)
elements_read form [] s = refl
elements_read form (x ∷ rs) s = λ i. row_name (names_of form) (attribute_names form) (row_sort_of (s x (Memᴰ.head refl) i)) x.index ∷ elements_read form rs (λ y m. s y (Memᴰ.tail m)) i

element_index : (form : Form) (owner : Bytes) (r : Row) → r.sort ≡ element → row_index form owner r ≡ index_of r.name form
element_index form owner r q = rw q

elements_written : (form : Form) (owner : Bytes) (rows : List Row) → Sorted element rows → map index_of_row (map (row_written form owner) rows) ≡ map (λ n. index_of n form) (map name_of rows)
elements_written form owner [] s = refl
elements_written form owner (r ∷ rows) s = λ i. element_index form owner r (s r (Memᴰ.head refl)) i ∷ elements_written form owner rows (λ y m. s y (Memᴰ.tail m)) i

names_back : (form : Form) (ns : List Bytes) → ((n : Bytes) → Memᴰ n ns → known form n ≡ true) → map (λ j. name_at j (names_of form)) (map (λ n. index_of n form) ns) ≡ ns
names_back form [] k = refl
names_back form (n ∷ ns) k = λ i. (known_index form n (k n (Memᴰ.head refl))).name i ∷ names_back form ns (λ m j. k m (Memᴰ.tail j)) i

module _ {version : ℕ} (w : ℕ) (form : Form) (ok : well_formed w form ≡ true) (F : IndexForm) (agrees : Agrees version F form) where
  pub apart : Distinct (names_of form)
  apart = ((well_formed_lem w form).0 ok).names

  good_at : (i : ℕ) → i < length form → GoodDefinition w form (definition_at i form)
  good_at i l = ((well_formed_lem w form).0 ok).definitions (definition_at i form) (definition_stands form i l)

  pub same_names : (x y : ℕ) → x < length form → y < length form → same (name_at x (names_of form)) (name_at y (names_of form)) ≡ eqb x y
  same_names x y l m = by (eqb x y) refl
    where
      by : (c : Bool) → eqb x y ≡ c → same (name_at x (names_of form)) (name_at y (names_of form)) ≡ eqb x y
      by true q = bytes.same← (name_at x (names_of form)) (name_at y (names_of form)) (ap (λ (j : ℕ). name_at j (names_of form)) (eqb-true x y q)) ∙ sym q
      by false q = differs bytes (name_at x (names_of form)) (name_at y (names_of form)) (λ e. eqb-false x y q (name_once (names_of form) apart x y (rw length-map l) (rw length-map m) e)) ∙ sym q

  -- ---- words of the model over indices, and of the model
  module _ (i : ℕ) (l : i < length form) where
    once : Distinct (names (members (definition_at i form)))
    once = (good_at i l).once

    once_index : Distinct (names (F.model i))
    once_index =
        distinct_unmap (λ j. name_at j (names_of form)) (names (F.model i))
        (subst (λ (z : List Bytes). Distinct z) (ap (λ (ms : Members Bytes). names ms) (agrees.model i l) ∙ names_rename (λ j. name_at j (names_of form)) (F.model i)) once)

    pub accepted : (v : List ℕ) → ((j : ℕ) → Memᴰ j v → j < length form) → accepts bytes (members (definition_at i form)) (map (λ j. name_at j (names_of form)) v) ≡ accepts numbers (F.model i) v
    accepted v b =
        ap (λ (ms : Members Bytes). accepts bytes ms (map (λ j. name_at j (names_of form)) v)) (agrees.model i l)
        ∙ rename_accepts numbers bytes (λ j. name_at j (names_of form)) (λ j. j < length form) same_names (F.model i) (agrees.in_range i l) v b

    pub conforms_index : (v : List ℕ) → ((j : ℕ) → Memᴰ j v → j < length form) → Conforms (F.model i) v ↔ Conforms (members (definition_at i form)) (map (λ j. name_at j (names_of form)) v)
    conforms_index v b = (
      λ c. (accepts_conforms bytes (members (definition_at i form)) once (map (λ j. name_at j (names_of form)) v)).0 (accepted v b ∙ (accepts_conforms numbers (F.model i) once_index v).1 c),
      λ c. (accepts_conforms numbers (F.model i) once_index v).0 (sym (accepted v b) ∙ (accepts_conforms bytes (members (definition_at i form)) once (map (λ j. name_at j (names_of form)) v)).1 c),
    )

    -- ---- the content
    content_read : (c : Content) → (definition_at i form).content ≡ c → (rs : List FlatRow) → ContentOf (kind_code c) (F.model i) rs → ContentRows c (map (row_read form) rs)
    content_read empty q rs e = ap (λ (z : List FlatRow). map (row_read form) z) e
    content_read pcdata q rs (r, e, s) = (row_read form r, ap (λ (z : List FlatRow). map (row_read form) z) e, ap row_sort_of s)
    content_read (complex ms) q rs (s, c) = (
      λ r m.
          let (x, k, e) = Memᴰ.of_map (row_read form) rs m in
          ap (λ (z : Row). z.sort) (sym e) ∙ ap row_sort_of (s x k),
      subst (λ (z : List Bytes). Conforms ms z) (sym (elements_read form rs s))
          (subst (λ (z : Content). Conforms (model_of z) (map (λ j. name_at j (names_of form)) (map index_of_row rs))) q
          ((conforms_index (map index_of_row rs) (λ j m. agrees.in_range i l j ((letters Sequence (F.model i)).inside (map index_of_row rs) c j m))).0 c)),
    )

    content_written : (owner : Bytes) (c : Content) → (definition_at i form).content ≡ c → (rows : List Row) → ContentRows c rows → ContentOf (kind_code c) (F.model i) (map (row_written form owner) rows)
    content_written owner empty q rows e = ap (λ (z : List Row). map (row_written form owner) z) e
    content_written owner pcdata q rows (r, e, s) = (row_written form owner r, ap (λ (z : List Row). map (row_written form owner) z) e, ap row_code s)
    content_written owner (complex ms) q rows (s, c) =
        let c₁ : Conforms (members (definition_at i form)) (map name_of rows) = subst (λ (z : Content). Conforms (model_of z) (map name_of rows)) (sym q) c in
        let k : (n : Bytes) → Memᴰ n (map name_of rows) → known form n ≡ true =
        λ n m. (good_at i l).in_range n ((letters Sequence (members (definition_at i form))).inside (map name_of rows) c₁ n m) in (
          λ x m.
              let (r, j, e) = Memᴰ.of_map (row_written form owner) rows m in
              ap (λ (z : FlatRow). z.sort) (sym e) ∙ ap row_code (s r j),
          subst (λ (z : List ℕ). Conforms (F.model i) z) (sym (elements_written form owner rows s))
              ((conforms_index (map (λ n. index_of n form) (map name_of rows)) (λ j m. let (n, x, e) = Memᴰ.of_map (λ n. index_of n form) (map name_of rows) m in
              subst (λ (z : ℕ). z < length form) e (known_index form n (k n x)).below)).1
              (subst (λ (z : List Bytes). Conforms (members (definition_at i form)) z) (sym (names_back form (map name_of rows) k)) c₁)),
        )

    -- ---- the attribute rows and the content
    pub block : Block version F form i (offset i form) (definition_at i form).attributes
    block = block_at version F form agrees apart i l (good_at i l).attribute_names

    from_block : (rs : List FlatRow) → AttributeRowsOf F i 0 rs → AttributeRowsOf F i (offset i form) rs
    from_block [] o = tt
    from_block (r ∷ rs) (s, a, n, e, v, o) = (s, block_first version F form agrees apart i l r.index n e, n, e, v, o)

    pub below_read : (rs : List FlatRow) → Below F i rs → ElementRows version (definition_at i form) (map (row_read form) rs)
    below_read rs x =
        let taken : Taken version (offset i form) (definition_at i form).attributes x.front =
        taken_of version F form i (offset i form) (definition_at i form).attributes block x.front (from_block x.front x.owned)
        (λ k a. x.whole k) in
        let content : ContentRows (definition_at i form).content (map (row_read form) x.back) =
        content_read (definition_at i form).content refl x.back (subst (λ (k : ℕ). ContentOf k (F.model i) x.back) (agrees.kind i l) x.content) in
        let cut : Cut version (definition_at i form).attributes (map (row_read form) x.front ++ map (row_read form) x.back) (map (row_read form) x.back) =
        (strip_is version (definition_at i form).attributes (map (row_read form) x.front ++ map (row_read form) x.back) (map (row_read form) x.back)
        (good_at i l).attribute_names (content_head (definition_at i form).content (map (row_read form) x.back) content)).0
        (strip_taken version F form i (offset i form) (definition_at i form).attributes block (good_at i l).attribute_names x.front taken
        (map (row_read form) x.back) (content_head (definition_at i form).content (map (row_read form) x.back) content)) in
        record {
          front = cut.front;
          back = map (row_read form) x.back;
          split = cut.split ∙ sym (map-append (row_read form) x.front x.back) ∙ ap (λ (z : List FlatRow). map (row_read form) z) x.split;
          attributes = cut.attributes;
          content = content;
        }

    pub below_written : (rows : List Row) → ElementRows version (definition_at i form) rows → Below F i (map (row_written form (name_at i (names_of form))) rows)
    below_written rows x =
        let owner : Bytes = name_at i (names_of form) in
        let (front, split, taken) = taken_strip version F form i (offset i form) (definition_at i form).attributes block rows x.back
        ((strip_is version (definition_at i form).attributes rows x.back (good_at i l).attribute_names
        (content_head (definition_at i form).content x.back x.content)).1 record { front = x.front; split = x.split; attributes = x.attributes }) in
        record {
          known = omega (arith, agrees.size);
          front = map (row_written form owner) front;
          back = map (row_written form owner) x.back;
          split = sym (map-append (row_written form owner) front x.back) ∙ ap (λ (z : List Row). map (row_written form owner) z) split;
          owned = owned_of version F form i (offset i form) (definition_at i form).attributes block (map (row_written form owner) front) taken 0 (omega arith);
          whole = λ j m e n. whole_of version F form i (offset i form) (definition_at i form).attributes block (map (row_written form owner) front) taken j
              (block_first version F form agrees apart i l j m e) m e n;
          content = subst (λ (k : ℕ). ContentOf k (F.model i) (map (row_written form owner) x.back)) (sym (agrees.kind i l))
              (content_written owner (definition_at i form).content refl x.back x.content);
        }

    -- ---- the attribute rows have the indices that their names have below definition i
    abbrev pub Found : FlatRow → Type 0
    Found x = x.sort ≡ 2 → attribute_index (name_at i (names_of form)) (name_at x.index (attribute_names form)) form ≡ x.index

    owned_found : (a : ℕ) (rs : List FlatRow) → AttributeRowsOf F i a rs → Every Found rs
    owned_found a [] o = tt
    owned_found a (r ∷ rs) (s, b, n, e, v, o) = (
      λ q. block_found version F form i (offset i form) (definition_at i form).attributes block r.index
          (block_first version F form agrees apart i l r.index n e) n e,
      owned_found (suc r.index) rs o,
    )

    content_found : (k : ℕ) (ms : Members ℕ) (rs : List FlatRow) → ContentOf k ms rs → Every Found rs
    content_found zero ms rs e = rw e tt
    content_found (suc zero) ms rs (r, e, s) = rw e (λ q. absurd (omega arith), tt)
    content_found (suc (suc k)) ms rs (s, c) = every_in Found rs (λ x m q. absurd (omega (arith, s x m)))

    pub below_found : (rs : List FlatRow) → Below F i rs → Every Found rs
    below_found rs x =
        subst (λ (z : List FlatRow). Every Found z) x.split
        (every_append Found x.front x.back (owned_found 0 x.front x.owned) (content_found (F.kind i) (F.model i) x.back x.content))
