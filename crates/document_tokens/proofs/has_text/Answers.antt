-- `document_tokens::has_text` meets its contract: the case split is on the count: from it on there is no definition
-- (`kind_none` of FormLaws), else the kind is that of record o (`kind_there`), compared by its code (`pcdata_test` of
-- KindLaws).
use mathlib.Core.Path.{sym, ap, ◌∙◌}
use mathlib.Core.List.{List}
use Prim.Native.Nat.{ℕ}
use native.Mathlib.Omega.{arith}
use lib.Dec.{eqb}
use Rattle.rules.specs.Decode.{read_definition}
use Rattle.rules.proofs.KindLaws.{pcdata_test}
use Rattle.document_tokens.proofs.FormLaws.{kind_there, kind_none}
use Rattle.document_tokens.proofs.has_text.Goals as goal

pub returns-then-definition_count-o : goal.returns-then-definition_count-o
returns-then-definition_count-o c =
    sym (ap (λ (k : ℕ). eqb k 1) (kind_none c.args.form.now c.args.o (omega (arith, c.definition_count.ensures.value))))

pub returns : goal.returns
returns c =
    pcdata_test _ c.from.ensures c.eq.ensures
    ∙ ap (λ (k : ℕ). eqb k 1)
    (c.definition_kind.ensures
    ∙ ap (λ (l : List ℕ). (read_definition l).kind) c.definition.ensures
    ∙ sym (kind_there c.args.form.now c.args.o (omega (arith, c.definition_count.ensures.value))))
