-- `document_rows::tree::Children::below` meets its contract: the depth that is read is that of row i, with `+ 1` for `suc`
-- (`add-one` of native.Mathlib.Numerals).
use mathlib.Core.Path.{ap, ◌∙◌}
use mathlib.Core.List.{List}
use Prim.Native.Nat.{ℕ, suc, ◌+◌}
use native.Mathlib.Numerals.{add-one}
use Rattle.rules.specs.Decode.{read_row}
use Rattle.lookup.specs.Bodies.{rows_from}
use Rattle.document_rows.specs.Finding.{children, children_below}
use Rattle.document_rows.proofs.tree.Children.below.Goals as goal

pub returns : goal.returns
unfolding children_below
returns c =
    let s = c.args.rows in
    ap (λ (d : ℕ). children c.args.sort d (rows_from s.width s.bytes.now s.count (c.args.i + 1)))
    (add-one c.row_depth-depth.result ∙ ap suc (c.row_depth-depth.ensures ∙ ap (λ (b : List ℕ). (read_row b).depth) c.row.ensures))
