-- `document_printing::short_value` meets its contract: `layout::row_value` reads the value, and it is no longer than
-- its row (`row_value_short` of LayoutLaws), so at most 300 bytes.
use mathlib.Core.Path.{sym, subst}
use mathlib.Core.List.{List}
use Prim.Native.Nat.{ℕ, ◌≤◌}
use native.Mathlib.Omega.{arith}
use lib.ListN.{length}
use Rattle.layout.proofs.LayoutLaws.{row_value_short}
use Rattle.document_printing.proofs.short_value.Goals as goal

pub returns : goal.returns
returns c = record { name_is = c.row_value.ensures; short = subst (λ (l : List ℕ). length l ≤ 300) (sym c.row_value.ensures) (omega (arith, row_value_short c.args.row.now, c.requires)) }
