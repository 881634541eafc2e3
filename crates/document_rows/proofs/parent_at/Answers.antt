-- `document_rows::parent_at` meets its contract: the first row for which `has_child` is true is the one asked for
-- (`seek_hit` of SuffixLaws), any before it is passed (`seek_past`), and past the last row there is none (`seek_none`).
use mathlib.Core.Path.{sym, ap, ◌∙◌}
use mathlib.Core.List.{List}
use Prim.Native.Nat.{ℕ}
use native.Mathlib.Omega.{arith}
use Rattle.rules.specs.Bytes.{any}
use Rattle.rules.specs.Layout.{FlatRow}
use Rattle.document_rows.specs.Finding.{children_below, element_row_with, is_parent}
use Rattle.document_rows.proofs.SuffixLaws.{seek_past, seek_hit, seek_none}
use Rattle.document_rows.proofs.parent_at.Goals as goal

pub returns-then-has_child : goal.returns-then-has_child
unfolding children_below
returns-then-has_child c =
    let s = c.args.rows in
    seek_hit s.width (is_parent c.args.element) s.bytes.now s.count c.loop-i.i c.loop-i.invariant (omega arith)
    (sym (c.has_child.ensures ∙ ap (λ (l : List FlatRow). any (element_row_with c.args.element) l)
    (c.below.ensures ∙ ap (λ (k : ℕ). children_below s.width s.bytes.now s.count k c.loop-i.i) c.from.ensures)) ∙ c.if-has_child.true)

pub loop-i-preserved : goal.loop-i-preserved
unfolding children_below
loop-i-preserved c =
    let s = c.args.rows in
    seek_past s.width (is_parent c.args.element) s.bytes.now s.count c.loop-i.i c.loop-i.invariant (omega arith)
    (sym (c.has_child.ensures ∙ ap (λ (l : List FlatRow). any (element_row_with c.args.element) l)
    (c.below.ensures ∙ ap (λ (k : ℕ). children_below s.width s.bytes.now s.count k c.loop-i.i) c.from.ensures)) ∙ c.if-has_child.false)

pub returns : goal.returns
returns c = seek_none _ _ _ _ _ c.loop-i.invariant (omega arith)
