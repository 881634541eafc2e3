-- `document_tokens::attribute_place` meets its contract: the first attribute of that owner and name is the one whose
-- place is said (`attribute_found` of FormLaws).
use mathlib.Core.Bool.{true, false, ◌&&◌}
use mathlib.Core.Path.{◌≡◌}
use native.Mathlib.Omega.{arith}
use Prim.Native.Nat.{◌<◌}
use borrow.Author.Tests.{tests}
use borrow.Author.Rules.{rules}
use lib.Dec.{eqb}
use Rattle.std.proofs.lemmas.Iterator.{first_from_Range, serves_from_Range}
use Rattle.rules.specs.Bytes.{same}
use Rattle.rules.specs.Decode.{read_attribute}
use Rattle.printing_parts.specs.Parts.{attribute_part}
use Rattle.document_tokens.proofs.FormLaws.{attribute_found}
use Rattle.document_tokens.proofs.attribute_place.Goals as goal

pub find-requires : goal.find-requires
find-requires c =
    let few : c.attribute_count-count.result < 4294967296 = c.attribute_count-count.ensures.small in
    record { can = tt; finite = tt; callable = serves_from_Range (λ x q k. search (rules, tests)) (λ x low high y e l p n q w f u v m. omega (arith, e, high, few)) }

pub returns : goal.returns
returns c =
    let bs = c.args.form.now in
    let name = c.args.name.now in
    attribute_found bs c.args.o name c.attribute_count-count.ensures.value _
    (first_from_Range _ _ _ _
    (λ i. (eqb c.args.o (read_attribute (attribute_part bs i)).owner && same name (read_attribute (attribute_part bs i)).name) ≡ true)
    (λ i. (eqb c.args.o (read_attribute (attribute_part bs i)).owner && same name (read_attribute (attribute_part bs i)).name) ≡ false)
    c.find.ensures.ran (λ x q k. search (rules, tests)) (λ x q k. search (rules, tests)))
