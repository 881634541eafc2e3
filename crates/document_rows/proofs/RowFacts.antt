-- What is found by an element's serial: its row, its definition's kind, the serials right below it.
use Prim.Native.Nat.{ℕ, zero, suc, ◌≤◌}
use native.Mathlib.Omega.{arith}
use mathlib.Core.Path.{◌≡◌, refl, sym, ap, ◌∙◌}
use mathlib.Core.Bool.{false, false≢true}
use mathlib.Core.List.{List, [], ◌∷◌, map}
use Rattle.std.specs.Prelude.{Option, None, Some, slice_get, unwrap_or}
use Rattle.rules.specs.Bytes.{Bytes}
use Rattle.rules.specs.Store.{Definition}
use Rattle.rules.specs.Layout.{kind_code, index_of}
use Rattle.rules.specs.Lines.{is_element_row, is_text_row, children_of, serial_at}
use Rattle.rules.specs.Refusal.{rows_of, no_element}
use Rattle.layout.specs.Bodies.{width_of, definitions_in, tree_rows_in}
use Rattle.form_index.specs.Reading.{definition_in}
use Rattle.store_laws.specs.Stores.{store_in}
use Rattle.store_check.proofs.StoreFacts.{form_in, Whole}
use Rattle.document_rows.specs.Finding.{ElementRowAt, ParentAt, RowOf, row_definition_kind, children_at, serial_in}
use Rattle.document_rows.proofs.SuffixLaws.{row_at}
use Rattle.document_rows.proofs.ElementFacts.{Element, element_there, element_absent, parent_there, defined, elements_at, texts_at, serials_at}

-- a serial that is read, 0 where there is none
pub serial_or_none : (n : ℕ) (ss : List ℕ) → unwrap_or (slice_get ss n) 0 ≡ serial_at n ss
serial_or_none n [] = refl
serial_or_none zero (s ∷ ss) = refl
serial_or_none (suc n) (s ∷ ss) = serial_or_none n ss

module _ (bs : Bytes) (w : Whole bs) where
  -- its definition
  pub kind_limit : {k i : ℕ} → Element bs k i → (row_at (width_of bs) (tree_rows_in bs) i).row.index ≤ 64
  kind_limit {k} {i} e = let d = defined bs w k i e in omega (arith, d.index, d.below, w.agrees.size, w.few_definitions)

  pub row_of : {k i : ℕ} → ElementRowAt bs k (Some i) → RowOf bs i
  row_of {k} {i} f = record { small = f.begins.within; few = f.few; index = kind_limit (element_there bs w k f) }

  pub parent_row : {k i : ℕ} → ParentAt bs k (Some i) → RowOf bs i
  parent_row {k} {i} f = record { small = f.begins.within; few = f.few; index = kind_limit (parent_there bs w k f).parent }

  pub kind_is : {k i : ℕ} (e : Element bs k i) → row_definition_kind bs i ≡ kind_code (defined bs w k i e).definition.content
  kind_is {k} {i} e =
      let d = defined bs w k i e in
      ap (λ (j : ℕ). (definition_in (definitions_in bs) j).kind) d.index
      ∙ w.agrees.kind (index_of e.row.name (form_in bs)) d.below
      ∙ ap (λ (z : Definition). kind_code z.content) d.at

  -- ---- the readers
  module _ {k i : ℕ} (f : Element bs k i) (n : ℕ) {r : Option ℕ} where
    pub text_serial_lem : r ≡ slice_get (map serial_in (children_at bs 3 i)) n → unwrap_or r 0 ≡ serial_at n (children_of is_text_row k (rows_of (store_in bs)))
    text_serial_lem e = ap (λ (o : Option ℕ). unwrap_or o 0) e ∙ serial_or_none n _ ∙ ap (serial_at n) (serials_at bs w k i f 3 is_text_row (texts_at bs w k i f))

    pub child_serial_lem : r ≡ slice_get (map serial_in (children_at bs 1 i)) n → unwrap_or r 0 ≡ serial_at n (children_of is_element_row k (rows_of (store_in bs)))
    child_serial_lem e = ap (λ (o : Option ℕ). unwrap_or o 0) e ∙ serial_or_none n _ ∙ ap (serial_at n) (serials_at bs w k i f 1 is_element_row (elements_at bs w k i f))

  -- an element that is in the store has a row
  pub not_missing : {A : Type 0} {k : ℕ} → no_element k (store_in bs) ≡ false → ElementRowAt bs k None → A
  not_missing {k = k} h f = absurd (false≢true (sym h ∙ (element_absent bs w k f).there))
