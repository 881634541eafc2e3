-- `document_printing::put_documents` meets its contract: a deeper row is passed (`walk_deeper` of WalkLaws in
-- `printing_parts`), past the last row all documents are written (`walk_all`), and a row of depth 0 is a document,
-- whose line is written (`walk_here`, with `documents_step` of RowLaws).
use mathlib.Core.Path.{◌≡◌, sym, ap, ◌∙◌}
use mathlib.Core.Bool.{true}
use mathlib.Core.List.{List}
use Prim.Native.Nat.{ℕ, ◌+◌}
use native.Mathlib.Omega.{arith}
use Rattle.rules.specs.Preorder.{build}
use Rattle.rules.specs.Layout.{row_size}
use Rattle.rules.specs.Decode.{read_row}
use Rattle.layout.specs.Bodies.{record_at}
use Rattle.lookup.proofs.Laws.{from_none}
use Rattle.printing_parts.specs.Parts.{names_of, attribute_names_of}
use Rattle.document_printing.proofs.RowTexts.{documents_bare}
use Rattle.printing_parts.proofs.PartLaws.{row_step_lem}
use Rattle.printing_parts.proofs.WalkLaws.{walk_start, walk_deeper, walk_here, walk_all}
use Rattle.document_printing.proofs.RowLaws.{documents_step}
use Rattle.lookup.specs.Bodies.{rows_from}
use Rattle.document_printing.proofs.put_documents.Goals as goal

pub loop-i-init : goal.loop-i-init
loop-i-init c = walk_start _ _ _ _ true _

pub put_document-line-requires : goal.put_document-line-requires
put_document-line-requires c = (
  record {
    few = omega (arith, c.requires.room, c.requires.few);
    deep = omega arith;
    room = omega (arith, c.requires.room, c.requires.few, c.loop-i.invariant.small);
  },
  omega arith,
)

pub loop-i-smaller-then-row_depth-eq0 : goal.loop-i-smaller-then-row_depth-eq0
loop-i-smaller-then-row_depth-eq0 c =
    omega (arith, c.put_document-line.ensures.onward)

pub loop-i-preserved-then-row_depth-eq0 : goal.loop-i-preserved-then-row_depth-eq0
loop-i-preserved-then-row_depth-eq0 c =
    let a = c.args in
    let d : c.row_depth.result ≡ (read_row (record_at (row_size a.rows.width) c.loop-i.i a.rows.bytes.now)).depth =
    c.row_depth.ensures ∙ ap (λ (b : List ℕ). (read_row b).depth) c.row.ensures in
    walk_here c.loop-i.invariant (read_row (record_at (row_size a.rows.width) c.loop-i.i a.rows.bytes.now)) true _
    (row_step_lem a.rows.width a.rows.bytes.now a.rows.count c.loop-i.i (omega arith)) (sym d ∙ c.if-row_depth-eq0.true) (omega arith)
    (λ t. documents_step a.store.now (read_row (record_at (row_size a.rows.width) c.loop-i.i a.rows.bytes.now)).row
    (build (rows_from a.rows.width a.rows.bytes.now a.rows.count (c.loop-i.i + 1)) 1) t)
    c.put_document-line.ensures

pub loop-i-preserved : goal.loop-i-preserved
loop-i-preserved c =
    let a = c.args in
    let d : c.row_depth.result ≡ (read_row (record_at (row_size a.rows.width) c.loop-i.i a.rows.bytes.now)).depth =
    c.row_depth.ensures ∙ ap (λ (b : List ℕ). (read_row b).depth) c.row.ensures in
    walk_deeper c.loop-i.invariant (read_row (record_at (row_size a.rows.width) c.loop-i.i a.rows.bytes.now))
    (row_step_lem a.rows.width a.rows.bytes.now a.rows.count c.loop-i.i (omega arith)) (omega (arith, c.if-row_depth-eq0.false))

pub returns : goal.returns
returns c =
    let a = c.args in
    walk_all c.loop-i.invariant (from_none read_row (row_size a.rows.width) _ a.rows.count c.loop-i.i (omega arith)) (documents_bare (names_of a.store.now) (attribute_names_of a.store.now))
