-- `document_tokens::end_token` meets its contract: the case split is on the parts of an end tag: without `</`
-- (`end_unbegun` of TellLaws) or without the name (`end_other`) it is not exact, else what follows decides
-- (`end_told`).
use mathlib.Core.Path.{refl, sym, ap, ◌∙◌}
use native.Mathlib.Omega.{arith}
use Rattle.rules.specs.Bytes.{ascii}
use Rattle.document_tokens.specs.Tokens.{declared_in, end_token}
use Rattle.document_tokens.proofs.TellLaws.{tells_none, inner_mark, end_mark, end_unbegun, end_other, end_told}
use Rattle.document_tokens.proofs.end_token.Goals as goal

pub returns-then-not-starts_with : goal.returns-then-not-starts_with
returns-then-not-starts_with c =
    tells_none (end_token (declared_in c.args.form.now) c.args.o c.args.others c.args.text.now)
    (end_unbegun c.args.form.now c.args.o c.args.text.now c.args.others (sym c.starts_with.ensures ∙ c.if-not-starts_with.true)) refl

pub returns-then-not-starts_with-2 : goal.returns-then-not-starts_with-2
returns-then-not-starts_with-2 c =
    tells_none (end_token (declared_in c.args.form.now) c.args.o c.args.others c.args.text.now)
    (end_other c.args.form.now c.args.o c.args.text.now c.name_of-name.ensures.name_is c.after-rest.ensures
    (sym c.starts_with.ensures ∙ c.if-not-starts_with.false) c.args.others (sym c.starts_with-2.ensures ∙ c.if-not-starts_with-2.true)) refl

pub overflow_add-name : goal.overflow_add-name
overflow_add-name c =
    omega (arith, c.name_of-name.ensures.short)

pub returns-then-others-eq0 : goal.returns-then-others-eq0
returns-then-others-eq0 c =
    end_told c.args.form.now c.args.o c.args.text.now c.name_of-name.ensures.name_is c.after-rest.ensures
    (sym c.starts_with.ensures ∙ c.if-not-starts_with.false) c.args.others (ascii ">\n") (ap end_mark c.if-others-eq0.true) c.after-tail.ensures
    (sym c.starts_with-2.ensures ∙ c.if-not-starts_with-2.false) c.starts_with-then-others-eq0.ensures c.rowless_token.ensures (omega arith) c.then_some.ensures

pub overflow_add-name-2 : goal.overflow_add-name-2
overflow_add-name-2 c =
    omega (arith, c.name_of-name.ensures.short)

pub returns : goal.returns
returns c =
    end_told c.args.form.now c.args.o c.args.text.now c.name_of-name.ensures.name_is c.after-rest.ensures
    (sym c.starts_with.ensures ∙ c.if-not-starts_with.false) c.args.others (ascii ">") (inner_mark _ c.if-others-eq0.false) c.after-tail.ensures
    (sym c.starts_with-2.ensures ∙ c.if-not-starts_with-2.false) c.starts_with-3.ensures c.rowless_token-2.ensures (omega arith) c.then_some-2.ensures
