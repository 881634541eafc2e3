-- `document_rows::element_at` meets its contract: the first row for which `is_element` is true is the one asked for
-- (`seek_hit` of SuffixLaws), any before it is passed (`seek_past`), and past the last row there is none (`seek_none`).
use mathlib.Core.Path.{sym, ap, ◌∙◌}
use mathlib.Core.List.{List}
use Prim.Native.Nat.{ℕ}
use native.Mathlib.Omega.{arith}
use Rattle.rules.specs.Decode.{read_row}
use Rattle.document_rows.specs.Finding.{element_row_with, is_this}
use Rattle.document_rows.proofs.SuffixLaws.{seek_past, seek_hit, seek_none}
use Rattle.document_rows.proofs.element_at.Goals as goal

pub returns-then-is_element : goal.returns-then-is_element
returns-then-is_element c =
    let s = c.args.rows in
    seek_hit s.width (is_this c.args.element) s.bytes.now s.count c.loop-i.i c.loop-i.invariant (omega arith)
    (sym (c.is_element.ensures ∙ ap (λ (b : List ℕ). element_row_with c.args.element (read_row b).row) c.row.ensures) ∙ c.if-is_element.true)

pub loop-i-preserved : goal.loop-i-preserved
loop-i-preserved c =
    let s = c.args.rows in
    seek_past s.width (is_this c.args.element) s.bytes.now s.count c.loop-i.i c.loop-i.invariant (omega arith)
    (sym (c.is_element.ensures ∙ ap (λ (b : List ℕ). element_row_with c.args.element (read_row b).row) c.row.ensures) ∙ c.if-is_element.false)

pub returns : goal.returns
returns c = seek_none _ _ _ _ _ c.loop-i.invariant (omega arith)
