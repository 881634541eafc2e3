-- `instance_search::instance_exists` meets its contract: `any` gives whether a number's row is an instance
-- (`any_from_yields_List` of the library), and so whether a row is (`some_from` of ByNumber in `model_check`). What is
-- read is the store's (`instances_any` of InstanceLaws).
use Prim.Native.Nat.{ℕ, ◌<◌}
use mathlib.Core.Path.{refl, ◌∙◌}
use native.Mathlib.Omega.{arith}
use native.Mathlib.Numerals.{add-one}
use borrow.Author.Rules.{rules}
use borrow.Author.Tests.{tests}
use Rattle.std.proofs.lemmas.Iterator.{YieldsList-from_range, serves_from_Range}
use Rattle.std.proofs.lemmas.Iterator.Search.{any_from_yields_List}
use Rattle.rules.specs.Layout.{row_size}
use Rattle.rules.specs.Decode.{read_row, read_many}
use Rattle.codec.proofs.Records.{length_many}
use Rattle.layout.specs.Bodies.{record_at}
use Rattle.model_check.proofs.Reading.{many_from}
use Rattle.model_check.proofs.ByNumber.{some_from}
use Rattle.instance_search.specs.Instances.{instance_row}
use Rattle.instance_search.proofs.InstanceLaws.{instances_any}
use Rattle.instance_search.proofs.instance_exists.Goals as goal

pub any-requires-clause-callable : goal.any-requires-clause-callable
any-requires-clause-callable c =
    serves_from_Range (λ x q k. search (rules, tests)) (λ x low high.
    let narrow : c.width_in-w.result < 256 = c.width_in-w.ensures.small in
    let few : x < 4294967296 = omega (arith, high, c.row_count.ensures.small) in
    search (rules, narrow, few))

pub returns : goal.returns
returns c =
    let a = c.args in
    let rows = c.rows_of-rows.result.now in
    let size = row_size c.width_in-w.result in
    let count = c.row_count.result in
    let long = length_many read_row size count rows in
    let row = λ (j : ℕ). read_row (record_at size j rows) in
    instances_any a.store.now a.definition c.width_in-w.ensures c.row_count.ensures c.rows_of-rows.ensures
    (any_from_yields_List (λ j. instance_row a.definition (row j)) c.any.new.self _ _ c.any.ensures.ran
    (YieldsList-from_range 0 count count refl (omega arith)) (λ x b q k. search (rules, tests))
    ∙ some_from (read_many read_row size count rows) row (λ j h. rw add-one (many_from read_row size j count rows (omega (arith, h, long)))) (instance_row a.definition) count 0
    (omega (arith, long)))
