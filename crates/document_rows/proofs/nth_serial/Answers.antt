-- `document_rows::nth_serial` meets its contract: `nth` gives the row (`nth_from_yields_List` of the library), and its
-- serial is that of number n (`serial_got` of SerialLaws).
use mathlib.Core.Path.{refl, sym, ap, ◌∙◌}
use mathlib.Core.List.{List}
use Prim.Native.Nat.{ℕ}
use Rattle.std.proofs.Common.{Bor}
use Rattle.std.specs.Prelude.{Option, Some, option_map}
use Rattle.std.proofs.lemmas.Iterator.Consumers.{nth_from_yields_List, YieldsList-from_first}
use Rattle.rules.specs.Layout.{FlatRow}
use Rattle.document_rows.specs.Finding.{serial_in}
use Rattle.document_rows.specs.Coming.{coming}
use Rattle.document_rows.proofs.SerialLaws.{row_read, serial_got}
use Rattle.document_rows.proofs.nth_serial.Goals as goal

pub returns-in_err-row : goal.returns-in_err-row
returns-in_err-row c =
    let a = c.args in
    let all = coming a.children in
    c.from_residual.ensures ∙ ap (λ (o : Option (Bor (List ℕ))). option_map serial_in (option_map row_read o)) (sym c.in_err-row.was)
    ∙ ap (λ (o : Option FlatRow). option_map serial_in o) (nth_from_yields_List c.nth.result c.nth.new.self a.n c.nth.ensures.ran (YieldsList-from_first row_read coming {s = a.children} all refl))
    ∙ serial_got a.n all

pub returns : goal.returns
returns c =
    let a = c.args in
    let all = coming a.children in
    ap (λ (k : ℕ). Some k) c.row_serial.ensures ∙ ap (λ (o : Option (Bor (List ℕ))). option_map serial_in (option_map row_read o)) (sym c.in_ok-row.was)
    ∙ ap (λ (o : Option FlatRow). option_map serial_in o) (nth_from_yields_List c.nth.result c.nth.new.self a.n c.nth.ensures.ran (YieldsList-from_first row_read coming {s = a.children} all refl))
    ∙ serial_got a.n all
