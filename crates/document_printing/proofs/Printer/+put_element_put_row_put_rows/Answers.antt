-- `document_printing::put_element`, `document_printing::put_row` and `document_printing::put_rows` meet their
-- contracts: what `put_element` writes is the text of the rows below, enclosed in the tags (`element_enclosed` of
-- RowLaws). The returns of `put_row` are for an attribute (`attribute_stepped`), an element (`row_element_stepped`) and
-- a text (`text_stepped`). The places are in range as the end of a start tag and a row are short (`end_short`,
-- `row_short`). In `put_rows` a deeper row is passed (`walk_deeper` of WalkLaws in `printing_parts`), one less deep or
-- the end of the rows ends the text (`walk_stops`, `walk_ends`), and one of this depth is written (`walk_here`, with
-- `rows_tree` of RowTexts). Three times the number of rows left, plus 1 for `put_row` and 2 for `put_rows`, falls with
-- each call.
use mathlib.Core.Path.{◌≡◌, refl, ap, ◌∙◌}
use mathlib.Core.List.{List}
use Prim.Native.Nat.{suc, ◌+◌}
use native.Mathlib.Omega.{arith}
use Rattle.rules.specs.declared.RowSort.TheVariants.{Element, Attribute}
use Rattle.rules.specs.Preorder.{build}
use Rattle.rules.specs.Decode.{read_row, row_sort_of}
use Rattle.rules.specs.Layout.{row_size}
use Rattle.layout.specs.Bodies.{record_at}
use Rattle.lookup.proofs.Laws.{from_none}
use Rattle.printing_parts.specs.Parts.{names_of, attribute_names_of}
use Rattle.document_printing.specs.Documents.{stays}
use Rattle.document_printing.proofs.SortLaws.{is_sort, no_sort}
use Rattle.document_printing.proofs.RowTexts.{rows_tree, rows_bare}
use Rattle.printing_parts.proofs.PartLaws.{row_step_lem}
use Rattle.printing_parts.proofs.WalkLaws.{walk_start, walk_deeper, walk_here, walk_stops, walk_ends, walk_as}
use Rattle.document_printing.proofs.RowLaws.{end_short, row_short, element_enclosed, attribute_stepped, row_element_stepped, text_stepped}
use Prim.Native.Nat.{ℕ}
use Rattle.lookup.specs.Bodies.{rows_from}
use Rattle.document_printing.proofs.Printer.+put_element_put_row_put_rows.Goals as goal

pub put_element-put_u8-signed-requires : goal.put_element-put_u8-signed-requires
put_element-put_u8-signed-requires t c =
    omega (arith, c.requires.0.room, c.requires.0.few, c.requires.1, c.requires.2, c.requires.3)

pub put_element-put-named-requires : goal.put_element-put-named-requires
put_element-put-named-requires t c =
    omega (arith, c.requires.0.room, c.requires.0.few, c.requires.1, c.requires.2, c.requires.3, c.put_u8-signed.ensures.next)

pub put_element-put_rows-below-requires : goal.put_element-put_rows-below-requires
put_element-put_rows-below-requires t c = (
  omega (arith, c.requires.0.room, c.requires.0.few, c.requires.1, c.requires.2, c.requires.3),
  record {
    few = omega (arith, c.requires.0.room, c.requires.0.few, c.requires.1, c.requires.2, c.requires.3);
    deep = omega (arith, c.requires.0.room, c.requires.0.few, c.requires.1, c.requires.2, c.requires.3);
    room = omega (
      arith,
      c.requires.0.room,
      c.requires.0.few,
      c.requires.1,
      c.requires.2,
      c.requires.3,
      c.put_u8-signed.ensures.next,
      c.put-named.ensures.next,
    );
  },
)

pub put_element-put-closing-requires : goal.put_element-put-closing-requires
put_element-put-closing-requires t c =
    omega (
      arith,
      c.requires.0.room,
      c.requires.0.few,
      c.requires.1,
      c.requires.2,
      c.requires.3,
      c.put_rows-below.ensures.small,
      c.put_u8-signed.ensures.next,
      c.put-named.ensures.next,
    )

pub put_element-put-closed-requires : goal.put_element-put-closed-requires
put_element-put-closed-requires t c =
    omega (
      arith,
      c.requires.0.room,
      c.requires.0.few,
      c.requires.1,
      c.requires.2,
      c.requires.3,
      c.put_rows-below.ensures.small,
      c.put_u8-signed.ensures.next,
      c.put-named.ensures.next,
      c.put-closing.ensures.next,
    )

pub put_element-put_u8-requires : goal.put_element-put_u8-requires
put_element-put_u8-requires t c =
    omega (
      arith,
      c.requires.0.room,
      c.requires.0.few,
      c.requires.1,
      c.requires.2,
      c.requires.3,
      c.put_rows-below.ensures.small,
      c.put_u8-signed.ensures.next,
      c.put-named.ensures.next,
      c.put-closing.ensures.next,
      c.put-closed.ensures.next,
    )

pub put_element-returns : goal.put_element-returns
put_element-returns t c =
    let a = c.args in
    element_enclosed a.self.now.store.now a.self.now.rows.bytes.now a.self.now.rows.width a.self.now.rows.count a.i a.depth a.name.now c.requires.3 c.put_u8-signed.ensures
    c.put-named.ensures c.put_rows-below.ensures c.put-closing.ensures c.put-closed.ensures c.put_u8.ensures

pub put_row-short_value-requires : goal.put_row-short_value-requires
put_row-short_value-requires t c =
    row_short _ _ _ _ c.args.self.now.rows.narrow c.row-bytes.ensures

pub put_row-put_attribute-written-requires : goal.put_row-put_attribute-written-requires
put_row-put_attribute-written-requires t c =
    (omega (arith, c.requires.0.room, c.requires.0.few, c.requires.1, c.requires.2), c.attribute_name_of-name.ensures.short, c.short_value.ensures.short)

pub put_row-returns-then-eq : goal.put_row-returns-then-eq
put_row-returns-then-eq t c =
    let a = c.args in
    attribute_stepped a.self.now.store.now a.self.now.rows.bytes.now a.self.now.rows.width a.self.now.rows.count a.i a.depth a.opened _ c.row-bytes.ensures c.requires.1
    refl c.row_index-index.ensures (is_sort _ Attribute c.row_sort_of-sort.ensures c.eq.ensures c.if-eq.true) c.attribute_name_of-name.ensures
    c.short_value.ensures c.put_attribute-written.ensures

pub put_row-put_element-requires : goal.put_row-put_element-requires
put_row-put_element-requires t c = (
  omega (arith, c.requires.0.room, c.requires.0.few, c.requires.1, c.requires.2),
  (
    record {
      few = omega (arith, c.requires.0.room, c.requires.0.few, c.requires.1, c.requires.2);
      deep = omega (arith, c.requires.0.room, c.requires.0.few, c.requires.1, c.requires.2);
      room = omega (
        arith,
        c.requires.0.room,
        c.requires.0.few,
        c.requires.1,
        c.requires.2,
        c.put_end-ended.ensures.next,
        end_short c.args.opened,
      );
    },
    c.requires.1,
    c.requires.2,
    c.name_of-name.ensures.short,
  ),
)

pub put_row-returns-then-eq-2 : goal.put_row-returns-then-eq-2
put_row-returns-then-eq-2 t c =
    let a = c.args in
    row_element_stepped a.self.now.store.now a.self.now.rows.bytes.now a.self.now.rows.width a.self.now.rows.count a.i a.depth a.opened _ c.row-bytes.ensures c.requires.1
    refl c.row_index-index.ensures (is_sort _ Element c.row_sort_of-sort.ensures c.eq-2.ensures c.if-eq-2.true) c.put_end-ended.ensures c.name_of-name.ensures
    c.put_element.ensures

pub put_row-short_value-requires-2 : goal.put_row-short_value-requires-2
put_row-short_value-requires-2 t c =
    row_short _ _ _ _ c.args.self.now.rows.narrow c.row-bytes.ensures

pub put_row-put_escaped-requires : goal.put_row-put_escaped-requires
put_row-put_escaped-requires t c =
    omega (
      arith,
      c.requires.0.room,
      c.requires.0.few,
      c.requires.1,
      c.requires.2,
      c.put_end-ended.ensures.next,
      end_short c.args.opened,
      c.short_value-2.ensures.short,
    )

pub put_row-returns : goal.put_row-returns
put_row-returns t c =
    let a = c.args in
    text_stepped a.self.now.store.now a.self.now.rows.bytes.now a.self.now.rows.width a.self.now.rows.count a.i a.depth a.opened _ c.row-bytes.ensures c.requires.1
    refl c.row_index-index.ensures (no_sort _ Element c.row_sort_of-sort.ensures c.eq-2.ensures c.if-eq-2.false)
    (no_sort _ Attribute c.row_sort_of-sort.ensures c.eq.ensures c.if-eq.false) c.put_end-ended.ensures
    c.short_value-2.ensures c.put_escaped.ensures

pub put_rows-loop-i-init : goal.put_rows-loop-i-init
put_rows-loop-i-init t c = walk_start _ _ _ _ _ _

pub put_rows-put_end-end-requires : goal.put_rows-put_end-end-requires
put_rows-put_end-end-requires t c =
    omega (arith, c.requires.room, c.requires.few, c.requires.deep, c.loop-i.invariant.small)

pub put_rows-returns-then-d-depth : goal.put_rows-returns-then-d-depth
put_rows-returns-then-d-depth t c =
    let a = c.args in
    let d : c.row_depth-d.result ≡ (read_row (record_at (row_size a.self.now.rows.width) c.loop-i.i a.self.now.rows.bytes.now)).depth =
    c.row_depth-d.ensures ∙ ap (λ (b : List ℕ). (read_row b).depth) c.row-bytes.ensures in
    walk_stops c.loop-i.invariant (read_row (record_at (row_size a.self.now.rows.width) c.loop-i.i a.self.now.rows.bytes.now)) _
    (row_step_lem a.self.now.rows.width a.self.now.rows.bytes.now a.self.now.rows.count c.loop-i.i (omega arith)) (omega arith)
    (rows_bare (names_of a.self.now.store.now) (attribute_names_of a.self.now.store.now) c.loop-i.opened) (end_short c.loop-i.opened)
    c.put_end-end.ensures

pub put_rows-put_row-row-requires : goal.put_rows-put_row-row-requires
put_rows-put_row-row-requires t c = (
  omega (arith, c.loop-i.invariant.onward),
  (
    record {
      few = omega (arith, c.requires.room, c.requires.few, c.requires.deep);
      deep = omega (arith, c.requires.room, c.requires.few, c.requires.deep);
      room = omega (arith, c.requires.room, c.requires.few, c.requires.deep, c.loop-i.invariant.small);
    },
    omega arith,
    omega arith,
  ),
)

pub put_rows-loop-i-smaller-then-d-depth-2 : goal.put_rows-loop-i-smaller-then-d-depth-2
put_rows-loop-i-smaller-then-d-depth-2 t c =
    omega (arith, c.put_row-row.ensures.onward)

pub put_rows-loop-i-preserved-then-d-depth-2 : goal.put_rows-loop-i-preserved-then-d-depth-2
put_rows-loop-i-preserved-then-d-depth-2 t c =
    let a = c.args in
    let d : c.row_depth-d.result ≡ (read_row (record_at (row_size a.self.now.rows.width) c.loop-i.i a.self.now.rows.bytes.now)).depth =
    c.row_depth-d.ensures ∙ ap (λ (b : List ℕ). (read_row b).depth) c.row-bytes.ensures in
    let q = c.stays_open-opened.ensures
    ∙ ap (λ (b : List ℕ). stays (row_sort_of (read_row b).row.sort) c.loop-i.opened) c.row-bytes.ensures in
    walk_as q
    (walk_here c.loop-i.invariant (read_row (record_at (row_size a.self.now.rows.width) c.loop-i.i a.self.now.rows.bytes.now))
    (stays (row_sort_of (read_row (record_at (row_size a.self.now.rows.width) c.loop-i.i a.self.now.rows.bytes.now)).row.sort) c.loop-i.opened) _
    (row_step_lem a.self.now.rows.width a.self.now.rows.bytes.now a.self.now.rows.count c.loop-i.i (omega arith)) (omega arith) (omega arith)
    (λ t. rows_tree (names_of a.self.now.store.now) (attribute_names_of a.self.now.store.now) c.loop-i.opened
    (read_row (record_at (row_size a.self.now.rows.width) c.loop-i.i a.self.now.rows.bytes.now)).row
    (build (rows_from a.self.now.rows.width a.self.now.rows.bytes.now a.self.now.rows.count (c.loop-i.i + 1)) (suc a.depth)) t)
    c.put_row-row.ensures)

pub put_rows-loop-i-preserved : goal.put_rows-loop-i-preserved
put_rows-loop-i-preserved t c =
    let a = c.args in
    let d : c.row_depth-d.result ≡ (read_row (record_at (row_size a.self.now.rows.width) c.loop-i.i a.self.now.rows.bytes.now)).depth =
    c.row_depth-d.ensures ∙ ap (λ (b : List ℕ). (read_row b).depth) c.row-bytes.ensures in
    walk_deeper c.loop-i.invariant (read_row (record_at (row_size a.self.now.rows.width) c.loop-i.i a.self.now.rows.bytes.now)) (row_step_lem a.self.now.rows.width a.self.now.rows.bytes.now a.self.now.rows.count c.loop-i.i (omega arith)) (omega arith)

pub put_rows-put_end-end-requires-2 : goal.put_rows-put_end-end-requires-2
put_rows-put_end-end-requires-2 t c =
    omega (arith, c.requires.room, c.requires.few, c.requires.deep, c.loop-i.invariant.small)

pub put_rows-returns : goal.put_rows-returns
put_rows-returns t c =
    let a = c.args in
    walk_ends c.loop-i.invariant _ (from_none read_row (row_size a.self.now.rows.width) _ a.self.now.rows.count c.loop-i.i (omega arith))
    (rows_bare (names_of a.self.now.store.now) (attribute_names_of a.self.now.store.now) c.loop-i.opened) (end_short c.loop-i.opened)
    c.put_end-end-2.ensures
