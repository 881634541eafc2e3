-- `document_tokens::token_at` meets its contract: the case split is that of the token (`begins_element`, `begins_deep`,
-- `goes_nowhere`, `goes_on`, `goes_to_end` of ChoiceLaws), by the definitions that are opened (`stack_size`,
-- `stack_none`, `stack_top`).
use mathlib.Core.Path.{refl, ap, ◌∙◌}
use Prim.Native.Nat.{ℕ, ◌-◌}
use native.Mathlib.Omega.{arith}
use Rattle.document_tokens.specs.Tokens.{declared_in, end_token, token_at}
use Rattle.document_tokens.specs.Telling.{stack_of}
use Rattle.document_tokens.proofs.TellLaws.{tells_as, tells_none, tells_beside}
use Rattle.document_tokens.proofs.ChoiceLaws.{stack_size, stack_top, stack_none, begins_element, begins_deep, goes_nowhere, goes_on, goes_to_end}
use Rattle.document_tokens.proofs.token_at.Goals as goal

pub returns-then-depth-lt255 : goal.returns-then-depth-lt255
returns-then-depth-lt255 c =
    let a = c.args in
    let stack = stack_of a.depth a.opened.now in
    tells_as (begins_element (declared_in a.form.now) a.w stack a.text.now c.starts_with-ends.ensures a.tag c.if-tag-ends.true
    (omega (arith, stack_size a.depth a.opened.now))) (tells_beside _ a.value.now refl c.element_token.ensures)

pub returns-then-tag-ends : goal.returns-then-tag-ends
returns-then-tag-ends c =
    let a = c.args in
    let stack = stack_of a.depth a.opened.now in
    tells_none (token_at (declared_in a.form.now) a.w stack a.tag a.text.now)
    (ap (λ t. t.exact) (begins_deep (declared_in a.form.now) a.w stack a.text.now c.starts_with-ends.ensures a.tag c.if-tag-ends.true
    (omega (arith, stack_size a.depth a.opened.now)))) refl

pub returns-then-depth-eq0 : goal.returns-then-depth-eq0
returns-then-depth-eq0 c =
    let a = c.args in
    let stack = stack_of a.depth a.opened.now in
    tells_none (token_at (declared_in a.form.now) a.w stack a.tag a.text.now)
    (ap (λ t. t.exact) (goes_nowhere (declared_in a.form.now) a.w stack a.text.now c.starts_with-ends.ensures a.tag c.if-tag-ends.false
    (stack_none a.depth a.opened.now c.if-depth-eq0.true))) refl

pub returns-then-tag : goal.returns-then-tag
returns-then-tag c =
    let a = c.args in
    let stack = stack_of a.depth a.opened.now in
    tells_as (goes_on (declared_in a.form.now) a.w stack a.text.now c.starts_with-ends.ensures a.tag c.if-tag.true
    (stack_top a.depth a.opened.now c.if-depth-eq0.false c.wide-o.ensures)) c.tag_token.ensures

pub returns : goal.returns
returns c =
    let a = c.args in
    let stack = stack_of a.depth a.opened.now in
    tells_as
    (goes_to_end (declared_in a.form.now) a.w stack a.text.now c.starts_with-ends.ensures a.tag c.if-tag-ends.false c.if-tag.false
    (stack_top a.depth a.opened.now c.if-depth-eq0.false c.wide-o.ensures)
    ∙ ap (λ (k : ℕ). end_token (declared_in a.form.now) c.wide-o.result k a.text.now) (stack_size (a.depth - 1) a.opened.now))
    (tells_beside _ a.value.now refl c.end_token.ensures)
