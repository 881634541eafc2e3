-- `lookup::found_at` meets its contract: the case split is on the row's sort (`sort_read` of RowSortLaws): an element is
-- answered with 7 (`found_element` of Laws), another row with the place and the length of its value (`found_value`,
-- `looks_as` of Laws).
use mathlib.Core.Path.{◌≡◌, sym, ap, ◌∙◌}
use mathlib.Core.Bool.{false≢true}
use mathlib.Core.List.{List}
use Prim.Native.Nat.{ℕ, ◌+◌}
use native.Mathlib.Omega.{arith}
use borrow.Author.Tests.{eq-eqb, eqb-true}
use lib.Dec.{eqb}
use lib.ListN.{length}
use Rattle.rules.specs.declared.RowSort.TheVariants.{Element}
use Rattle.rules.specs.Decode.{read_row}
use Rattle.rules.proofs.RowSortLaws.{sort_read}
use Rattle.layout.specs.Fields.{row_value_at}
use Rattle.lookup.specs.Bodies.{row_part}
use Rattle.lookup.proofs.Laws.{looks_as, found_element, found_value}
use Rattle.lookup.proofs.found_at.Goals as goal

pub returns-then-eq : goal.returns-then-eq
returns-then-eq c =
    let a = c.args in
    let sort : c.eq.result ≡ eqb (read_row (row_part a.store.now a.i)).row.sort 1
    = sort_read _ Element c.row_sort_of.ensures c.eq.ensures ∙ ap (λ (l : List ℕ). eqb (read_row l).row.sort 1) c.row-bytes.ensures in
    found_element a.store.now a.i (eqb-true _ _ (sym sort ∙ c.if-eq.true))

pub value_place-start-requires : goal.value_place-start-requires
value_place-start-requires c = omega (arith, c.row_place.ensures.small)

pub returns : goal.returns
returns c =
    let a = c.args in
    let part = c.row-bytes.ensures in
    let sort : c.eq.result ≡ eqb (read_row (row_part a.store.now a.i)).row.sort 1
    = sort_read _ Element c.row_sort_of.ensures c.eq.ensures ∙ ap (λ (l : List ℕ). eqb (read_row l).row.sort 1) part in
    looks_as
    (c.value_place-start.ensures.value ∙ ap (λ (k : ℕ). k + row_value_at) c.row_place.ensures.value)
    (ap length (c.row_value-value.ensures ∙ ap (λ (l : List ℕ). (read_row l).row.value) part))
    (found_value a.store.now a.i (λ g. false≢true (sym c.if-eq.false ∙ sort ∙ eq-eqb _ _ g)))
