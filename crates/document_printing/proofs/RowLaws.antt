-- One row of a document, written.
use mathlib.Core.Path.{◌≡◌, refl, sym, ap, ap₂, ◌∙◌}
use mathlib.Core.Bool.{Bool, true, false, ◌&&◌, and-true, and-false, false≢true}
use mathlib.Core.List.{[], ◌++◌}
use Prim.Native.Nat.{ℕ, zero, suc, ◌+◌, ◌*◌, ◌<◌, ◌≤◌}
use native.Mathlib.Omega.{arith}
use native.Mathlib.Numerals.{add-one}
use borrow.Author.Tests.{eq-eqb, eqb-true}
use lib.Dec.{eqb}
use lib.ListN.{length-take, length, drop, length-append}
use Rattle.rules.specs.Bytes.{Bytes, ascii}
use Rattle.rules.specs.Store.{RowSort, element, attribute, text, Forest, tree}
use Rattle.rules.specs.Preorder.{build}
use Rattle.rules.specs.Layout.{row_size, FlatRow}
use Rattle.rules.specs.Decode.{name_at, row_sort_of, row_name, read_row}
use Rattle.rules.specs.Print.{escape}
use Rattle.layout.specs.Bodies.{Width, record_at}
use Rattle.codec.specs.Laid.{Laid}
use Rattle.codec.proofs.Writers.{laid_none, laid_then, laid_as}
use Rattle.printing_parts.specs.Walking.{Passed, Stepped}
use Rattle.document_printing.specs.Documents.{Enclosed}
use Rattle.printing_parts.specs.Parts.{Named, names_of, attribute_names_of}
use Rattle.document_printing.specs.Documents.{end_text, rows_text, element_text, attribute_text, row_body_text, row_text, stays, document_text, documents_text}
use Rattle.document_printing.proofs.RowTexts.{documents_tree}
use Rattle.escaping.proofs.Laws.{escape_length}
use Rattle.lookup.specs.Bodies.{rows_from}

pub sort_text : (s : ℕ) → (s ≡ 1 → ⊥) → (s ≡ 2 → ⊥) → row_sort_of s ≡ text
sort_text zero a b = refl
sort_text (suc zero) a b = absurd (a refl)
sort_text (suc (suc zero)) a b = absurd (b refl)
sort_text (suc (suc (suc s))) a b = refl

pub stays_not : (s : ℕ) (opened : Bool) → (s ≡ 2 → ⊥) → false ≡ stays (row_sort_of s) opened
stays_not zero opened h = refl
stays_not (suc zero) opened h = refl
stays_not (suc (suc zero)) opened h = absurd (h refl)
stays_not (suc (suc (suc s))) opened h = refl

-- what the comparison with the sort of an attribute gave
pub stays_by : (s : ℕ) (opened : Bool) {b : Bool} → b ≡ eqb s 2 → (opened && b) ≡ stays (row_sort_of s) opened
stays_by s opened {b = true} e = and-true opened ∙ ap (λ (k : ℕ). stays (row_sort_of k) opened) (sym (eqb-true s 2 (sym e)))
stays_by s opened {b = false} e = and-false opened ∙ stays_not s opened (λ g. false≢true (e ∙ eq-eqb s 2 g))

pub end_short : (opened : Bool) → length (end_text opened) ≤ 1
end_short true = omega arith
end_short false = omega arith

pub attribute_long : (w v : Bytes) → length w ≤ 300 → length v ≤ 300 → length (attribute_text w v) ≤ 2200
attribute_long w v h k =
    omega (arith, length-append w (ascii "=\"" ++ (escape v ++ (ascii "\"" ++ []))), length-append (escape v) (ascii "\"" ++ []), escape_length v)

-- a row, and a value in it, are not long
pub row_short : (rows r : Bytes) (width i : ℕ) → Width width → r ≡ record_at (row_size width) i rows → length r ≤ 300
row_short rows r width i h e = omega (arith, ap length e, length-take (row_size width) (drop (row_size width * i) rows))

-- ---- an element with what is below it
pub element_enclosed : (bs rows : Bytes) (width count i depth : ℕ) (w : Bytes) {at a₁ a₂ a₃ a₄ a₅ a₆ next : ℕ} {out o₁ o₂ o₃ o₄ o₅ o₆ : Bytes} → length w ≤ 300
    → Laid (ascii "<") out at a₁ o₁ → Laid w o₁ a₁ a₂ o₂ → Passed (rows_from width rows count) (rows_text (names_of bs) (attribute_names_of bs) true) count (i + 1) (depth + 1) a₂ o₂ next a₃ o₃
    → Laid (ascii "</") o₃ a₃ a₄ o₄ → Laid w o₄ a₄ a₅ o₅ → Laid (ascii ">") o₅ a₅ a₆ o₆
    → Enclosed (rows_from width rows count) (element_text (names_of bs) (attribute_names_of bs) w (build (rows_from width rows count (i + 1)) (suc depth))) count i depth at out next a₆ o₆
unfolding element_text
element_enclosed bs rows width count i depth w short l n b e m g =
    record {
      laid =
          laid_as
          (ap
          (λ (d : ℕ). ascii "<"
          ++ (w
          ++ (rows_text (names_of bs) (attribute_names_of bs) true (build (rows_from width rows count (i + 1)) d) ++ (ascii "</" ++ (w ++ (ascii ">" ++ []))))))
          (sym (add-one depth)))
          (laid_then l (laid_then n (laid_then b.laid (laid_then e (laid_then m (laid_then g laid_none))))));
      skips = λ j h. b.skips j (omega arith);
      onward = omega (arith, b.onward);
      small = omega (arith, l.next, n.next, b.small, e.next, m.next, g.next);
    }

-- ---- a row by its sort
module _ (bs rows : Bytes) (width count i depth : ℕ) (opened : Bool) (p : Bytes) (at_i : p ≡ record_at (row_size width) i rows) (h : i < count)
    {sort index : ℕ} (sort_is : sort ≡ (read_row p).row.sort) (index_is : index ≡ (read_row p).row.index) where
  abbrev here : FlatRow
  here = (read_row (record_at (row_size width) i rows)).row

  abbrev below : Forest FlatRow
  below = build (rows_from width rows count (i + 1)) (suc depth)

  sort_here : sort ≡ here.sort
  sort_here = sort_is ∙ ap (λ (l : Bytes). (read_row l).row.sort) at_i

  index_here : index ≡ here.index
  index_here = index_is ∙ ap (λ (l : Bytes). (read_row l).row.index) at_i

  value_here : (read_row p).row.value ≡ here.value
  value_here = ap (λ (l : Bytes). (read_row l).row.value) at_i

  by_sort : (s : RowSort) → row_sort_of here.sort ≡ s → row_text (names_of bs) (attribute_names_of bs) opened here below ≡ row_body_text (names_of bs) (attribute_names_of bs) s opened here below
  unfolding row_text
  by_sort s e = ap (λ (z : RowSort). row_body_text (names_of bs) (attribute_names_of bs) z opened here below) e

  pub attribute_stepped : {w v out : Bytes} {at r : ℕ} {o : Bytes} → sort ≡ 2 → Named (name_at index (attribute_names_of bs)) w → Named (read_row p).row.value v → Laid (attribute_text w v) out at r o
      → Stepped (rows_from width rows count) (row_text (names_of bs) (attribute_names_of bs) opened here below) count i depth at out (i + 1) r o
  attribute_stepped {w} {v} z n k l =
      record {
        laid = laid_as
            (by_sort attribute (ap row_sort_of (sym sort_here ∙ z))
            ∙ ap₂ attribute_text (sym (n.name_is ∙ ap (λ (j : ℕ). name_at j (attribute_names_of bs)) index_here)) (sym (k.name_is ∙ value_here)))
            l;
        skips = λ j g. refl;
        onward = omega arith;
        small = omega (arith, l.next, attribute_long w v n.short k.short);
      }

  pub row_element_stepped : {w out : Bytes} {at a₁ r next : ℕ} {o₁ o : Bytes} → sort ≡ 1 → Laid (end_text opened) out at a₁ o₁ → Named (name_at index (names_of bs)) w
      → Enclosed (rows_from width rows count) (element_text (names_of bs) (attribute_names_of bs) w below) count i depth a₁ o₁ next r o
      → Stepped (rows_from width rows count) (row_text (names_of bs) (attribute_names_of bs) opened here below) count i depth at out next r o
  row_element_stepped {w} z l n e =
      record {
        laid = laid_as
            (by_sort element (ap row_sort_of (sym sort_here ∙ z))
            ∙ ap (λ (x : Bytes). end_text opened ++ element_text (names_of bs) (attribute_names_of bs) x below)
            (sym (n.name_is ∙ ap (λ (j : ℕ). name_at j (names_of bs)) index_here)))
            (laid_then l e.laid);
        skips = e.skips;
        onward = e.onward;
        small = omega (arith, l.next, e.small, end_short opened);
      }

  pub text_stepped : {v out : Bytes} {at a₁ r : ℕ} {o₁ o : Bytes} → (sort ≡ 1 → ⊥) → (sort ≡ 2 → ⊥) → Laid (end_text opened) out at a₁ o₁ → Named (read_row p).row.value v → Laid (escape v) o₁ a₁ r o
      → Stepped (rows_from width rows count) (row_text (names_of bs) (attribute_names_of bs) opened here below) count i depth at out (i + 1) r o
  text_stepped {v} y z l k m =
      record {
        laid = laid_as
            (by_sort text (sort_text here.sort (λ e. y (sort_here ∙ e)) (λ e. z (sort_here ∙ e)))
            ∙ ap (λ (x : Bytes). end_text opened ++ escape x) (sym (k.name_is ∙ value_here)))
            (laid_then l m);
        skips = λ j g. refl;
        onward = omega arith;
        small = omega (arith, l.next, m.next, end_short opened, escape_length v, k.short);
      }

-- ---- a document
pub documents_step : (bs : Bytes) (x : FlatRow) (b t : Forest FlatRow)
    → documents_text (names_of bs) (attribute_names_of bs) (tree x b t) ≡ document_text bs x b ++ documents_text (names_of bs) (attribute_names_of bs) t
unfolding document_text
documents_step bs x b t = documents_tree (names_of bs) (attribute_names_of bs) x b t

pub document_stepped : (bs rows : Bytes) (width count i : ℕ) (p : Bytes) → p ≡ record_at (row_size width) i rows → i < count → {sort index : ℕ}
    → sort ≡ (read_row p).row.sort → index ≡ (read_row p).row.index
    → {w out : Bytes} {at a₁ r next : ℕ} {o₁ o : Bytes} → Named (row_name (names_of bs) (attribute_names_of bs) (row_sort_of sort) index) w
    → Enclosed (rows_from width rows count) (element_text (names_of bs) (attribute_names_of bs) w (build (rows_from width rows count (i + 1)) 1)) count i 0 at out next a₁ o₁ → Laid (ascii "\n") o₁ a₁ r o
    → Stepped (rows_from width rows count) (document_text bs (read_row (record_at (row_size width) i rows)).row (build (rows_from width rows count (i + 1)) 1)) count i 0 at out next r o
unfolding document_text
document_stepped bs rows width count i p at_i h {sort} {index} sort_is index_is {w} n e l =
    record {
      laid = laid_as
          (ap (λ (x : Bytes). element_text (names_of bs) (attribute_names_of bs) x (build (rows_from width rows count (i + 1)) 1) ++ (ascii "\n" ++ [])) name)
          (laid_then e.laid (laid_then l laid_none));
      skips = e.skips;
      onward = e.onward;
      small = omega (arith, e.small, l.next);
    }
  where
    name : row_name (names_of bs) (attribute_names_of bs) (row_sort_of (read_row (record_at (row_size width) i rows)).row.sort) (read_row (record_at (row_size width) i rows)).row.index ≡ w
    name =
        ap₂ (λ (s k : ℕ). row_name (names_of bs) (attribute_names_of bs) (row_sort_of s) k) (sym (sort_is ∙ ap (λ (l : Bytes). (read_row l).row.sort) at_i))
        (sym (index_is ∙ ap (λ (l : Bytes). (read_row l).row.index) at_i))
        ∙ sym n.name_is
