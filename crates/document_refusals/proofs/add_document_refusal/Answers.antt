-- `document_refusals::add_document_refusal` meets its contract: the tests of the text and of the definition's index
-- decide the two conditions of `add_document` in their order (`document_3`, `document_6`, `document_0` of RefusalLaws).
use mathlib.Core.Path.{ap}
use mathlib.Core.Bool.{not}
use native.Mathlib.Omega.{arith}
use Rattle.store_check.proofs.StoreFacts.{whole}
use Rattle.document_refusals.proofs.RefusalLaws.{document_3, document_6, document_0}
use Rattle.document_refusals.proofs.add_document_refusal.Goals as goal

pub returns-then-not-is_value : goal.returns-then-not-is_value
returns-then-not-is_value c =
    (document_3 _ (whole _ c.requires) _ _ c.width_in-w.ensures c.is_value.ensures (ap not c.if-not-is_value.true)).is

pub returns-then-definition-definition_count : goal.returns-then-definition-definition_count
returns-then-definition-definition_count c =
    (document_6 c.args.store.now (whole _ c.requires) _ c.args.definition c.width_in-w.ensures c.is_value.ensures
    (ap not c.if-not-is_value.false) c.definition_count.ensures (omega arith)).is

pub returns : goal.returns
returns c =
    (document_0 c.args.store.now (whole _ c.requires) _ c.args.definition c.width_in-w.ensures c.is_value.ensures
    (ap not c.if-not-is_value.false) c.definition_count.ensures (omega arith)).is
