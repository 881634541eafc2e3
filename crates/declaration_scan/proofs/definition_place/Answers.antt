-- `declaration_scan::definition_place` meets its contract: the first definition of the name is the one whose place is
-- said (`place_found` of Laws).
use mathlib.Core.Bool.{true, false}
use mathlib.Core.Path.{◌≡◌}
use Prim.Native.Nat.{◌≤◌}
use borrow.Author.Tests.{tests}
use borrow.Author.Rules.{rules}
use Rattle.std.proofs.lemmas.Iterator.{first_from_Range, serves_from_Range}
use Rattle.rules.specs.Bytes.{same}
use Rattle.rules.specs.Layout.{definition_size}
use Rattle.rules.specs.Decode.{read_definition}
use Rattle.layout.specs.Bodies.{record_at}
use Rattle.declaration_scan.proofs.Laws.{place_found}
use Rattle.declaration_scan.proofs.definition_place.Goals as goal

pub find-requires : goal.find-requires
find-requires c =
    let few : c.args.n ≤ 64 = c.requires.0 in
    record { can = tt; finite = tt; callable = serves_from_Range (λ x q k. search (rules, tests)) (λ x low high. search rules) }

pub returns : goal.returns
returns c =
    let defs = c.args.defs.now in
    let name = c.args.name.now in
    place_found name defs c.args.n _
    (first_from_Range _ _ _ _ (λ i. same name (read_definition (record_at definition_size i defs)).name ≡ true)
    (λ i. same name (read_definition (record_at definition_size i defs)).name ≡ false) c.find.ensures.ran (λ x q k. search (rules, tests)) (λ x q k. search (rules, tests)))
