-- `document_rows::indexed_serial` meets its contract: `find` gives the first row with the index
-- (`find_from_yields_List` of the library), and its serial is the one asked for (`first_got` of SerialLaws).
use mathlib.Core.List.{List}
use mathlib.Core.Path.{refl, sym, ap, ◌∙◌}
use Prim.Native.Nat.{ℕ}
use borrow.Author.Rules.{rules}
use borrow.Author.Tests.{tests}
use lib.Dec.{eqb}
use Rattle.std.proofs.Common.{Bor}
use Rattle.std.specs.Prelude.{Option, Some, option_map}
use Rattle.std.proofs.lemmas.Iterator.Consumers.{YieldsList-from_first}
use Rattle.std.proofs.lemmas.Iterator.Search.{find_from_yields_List}
use Rattle.rules.specs.Layout.{FlatRow}
use Rattle.document_rows.specs.Finding.{serial_in}
use Rattle.document_rows.specs.Coming.{coming}
use Rattle.document_rows.proofs.SerialLaws.{row_read, first_got}
use Rattle.document_rows.proofs.indexed_serial.Goals as goal

pub returns-in_err-row : goal.returns-in_err-row
returns-in_err-row c =
    let a = c.args in
    let all = coming a.children in
    c.from_residual.ensures ∙ ap (λ (o : Option (Bor (List ℕ))). option_map serial_in (option_map row_read o)) (sym c.in_err-row.was)
    ∙ ap (λ (o : Option FlatRow). option_map serial_in o)
    (find_from_yields_List (λ r. eqb r.index a.index) c.find.new.self _ c.find.result c.find.ensures.ran
    (YieldsList-from_first row_read coming {s = a.children} all refl) (λ x b q k. search (rules, tests)))
    ∙ first_got a.index all

pub returns : goal.returns
returns c =
    let a = c.args in
    let all = coming a.children in
    ap (λ (k : ℕ). Some k) c.row_serial.ensures ∙ ap (λ (o : Option (Bor (List ℕ))). option_map serial_in (option_map row_read o)) (sym c.in_ok-row.was)
    ∙ ap (λ (o : Option FlatRow). option_map serial_in o)
    (find_from_yields_List (λ r. eqb r.index a.index) c.find.new.self _ c.find.result c.find.ensures.ran
    (YieldsList-from_first row_read coming {s = a.children} all refl) (λ x b q k. search (rules, tests)))
    ∙ first_got a.index all
