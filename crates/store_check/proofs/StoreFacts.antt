-- What the bytes of a store that passes say of it: its form, its rows, its limits; a text that is given; an index.
use Prim.Native.Nat.{ℕ, ◌<◌, ◌≤◌}
use native.Mathlib.Omega.{arith}
use borrow.Author.Tests.{not-false, lt-ltb, le-ltb}
use mathlib.Core.Path.{◌≡◌, refl, sym, ap, ◌∙◌, subst}
use mathlib.Core.Bool.{Bool, true, false, not}
use mathlib.Core.List.{[]}
use lib.Dec.{ltb}
use lib.ListN.{length}
use Rattle.rules.specs.Bytes.{Bytes}
use Rattle.rules.specs.Store.{Form, Row, Forest}
use Rattle.rules.specs.Preorder.{preorder}
use Rattle.rules.specs.Layout.{value_width, row_size, FlatStore, indexed}
use Rattle.rules.specs.Decode.{number_at, read_row, definition_count, attribute_count, row_count}
use Rattle.rules.specs.WellFormed.{is_value}
use Rattle.rules.specs.Passing.{Good, passes}
use Rattle.rules.specs.Refusal.{bad_text}
use Rattle.rules.proofs.LayoutLaws.{Small}
use Rattle.rules.proofs.SmallBytes.{encode_small}
use Rattle.rules.proofs.PassingLaws.{good_is}
use Rattle.lookup.specs.Bodies.{bodies_of, records_from}
use Rattle.layout.specs.Bodies.{width_of, tree_rows_in, WidthIn, Number}
use Rattle.lookup.proofs.Laws.{from_all}
use Rattle.store_check.specs.Reading.{Agrees}
use Rattle.form_index.specs.Reading.{by_index}
use Rattle.store_check.proofs.StringChecks.{Headed, header, laid_in, passes_header, passes_in, same_form, same_rows}
use Rattle.store_check.proofs.IndexReads.{index_agrees}
use Rattle.store_laws.specs.Stores.{store_in}
use Rattle.store_laws.proofs.StoreLaws.{Holds, holds}
use Rattle.layout.specs.Fields.{version_at}

abbrev pub form_in : Bytes → Form
form_in bs = (store_in bs).form

abbrev pub docs_in : Bytes → Forest Row
docs_in bs = (store_in bs).docs

-- the width that the string says is the one of its store's version
pub width_of_store : (bs : Bytes) → width_of bs ≡ value_width (store_in bs).version
unfolding store_in bodies_of width_of
width_of_store bs = refl

-- a text that the change does not refuse is a value of the string's width
pub value_given : (bs t : Bytes) → bad_text (store_in bs) t ≡ false → is_value (width_of bs) t ≡ true
value_given bs t e = ap (λ (n : ℕ). is_value n t) (width_of_store bs) ∙ not-false (is_value (value_width (store_in bs).version) t) e

pub record Whole (bs : Bytes) : Type 0 where
  pub holds : Holds bs
  pub good : Good (store_in bs)
  pub rows : records_from read_row (row_size (width_of bs)) (tree_rows_in bs) (row_count bs) 0 ≡ preorder 0 (indexed (form_in bs) [] (docs_in bs))
  pub few : row_count bs ≤ 4096
  pub few_definitions : definition_count bs ≤ 64
  pub few_attributes : attribute_count bs ≤ 64
  pub agrees : Agrees (store_in bs).version (by_index bs) (form_in bs)

pub headed_of : {bs : Bytes} → passes bs ≡ true → Headed bs
headed_of {bs} q = let h : Holds bs = holds bs q in record { small = subst Small h.written (encode_small (store_in bs) h.good); header = passes_header bs q }

pub whole : (bs : Bytes) → passes bs ≡ true → Whole bs
unfolding store_in bodies_of width_of
whole bs q =
    let h : Holds bs = holds bs q in
    let d : Headed bs = headed_of q in
    let form = ((passes_in d (by_index bs) (λ x. index_agrees (laid_in d) x.passes (number_at version_at 4 bs))).0 q).0 in
    record {
      holds = h;
      good = (good_is (store_in bs)).0 h.good;
      rows = from_all read_row (row_size (width_of bs)) (tree_rows_in bs) (row_count bs) 0 ∙ sym (same_rows d) ∙ ap (λ (f : FlatStore). f.rows) h.bodies;
      few = (header d).few_rows;
      few_definitions = (header d).few_definitions;
      few_attributes = (header d).few_attributes;
      agrees = subst (λ (z : Form). Agrees (store_in bs).version (by_index bs) z) (sym (same_form d)) (index_agrees (laid_in d) form.passes (number_at version_at 4 bs));
    }

-- ---- a value that is given
module _ (bs t : Bytes) {n : ℕ} {a : Bool} (v : WidthIn bs n) (e : a ≡ is_value n t) where
  same_text : a ≡ is_value (value_width (store_in bs).version) t
  same_text = e ∙ ap (λ (k : ℕ). is_value k t) (v.value ∙ width_of_store bs)

  pub bad_text_lem : not a ≡ true → bad_text (store_in bs) t ≡ true
  bad_text_lem h = ap not (sym same_text) ∙ h

  pub fine_text : not a ≡ false → bad_text (store_in bs) t ≡ false
  fine_text h = ap not (sym same_text) ∙ h

module _ (bs : Bytes) (w : Whole bs) where
  -- ---- an index of a definition
  module _ {n : ℕ} (e : Number (definition_count bs) n) (i : ℕ) where
    size : n ≡ length (form_in bs)
    size = e.value ∙ w.agrees.size

    pub past_definitions : n ≤ i → not (ltb i (length (form_in bs))) ≡ true
    past_definitions l = ap not (le-ltb i (length (form_in bs)) (omega (arith, size)))

    pub within_definitions : i < n → not (ltb i (length (form_in bs))) ≡ false
    within_definitions l = ap not (lt-ltb i (length (form_in bs)) (omega (arith, size)))
