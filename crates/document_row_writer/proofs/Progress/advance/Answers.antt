-- `document_row_writer::Progress::advance` meets its contract: an element opens its definition, an end tag closes the innermost
-- (`opens`, `closes` of StackLaws), any other token leaves them.
use mathlib.Core.Path.{◌≡◌, refl, ap, ap₂, ◌∙◌}
use mathlib.Core.Bool.{Bool, ◌&&◌, not}
use native.Mathlib.Omega.{arith}
use borrow.Author.Tests.{eq-eqb}
use Rattle.std.specs.Prelude.{Some}
use Rattle.document_tokens.specs.Telling.{sort_code}
use Rattle.document_row_writer.proofs.StackLaws.{opens, closes}
use Rattle.document_row_writer.proofs.Progress.advance.Goals as goal

pub returns-in-Some-Element : goal.returns-in-Some-Element
returns-in-Some-Element c =
    let a = c.args in
    let p = a.self.now in
    let e : sort_code a.sort ≡ 1 = ap sort_code c.in-Some-Element.is ∙ ap (λ s. sort_code (Some s)) (rw c.in-Some-Element.is at c.in-Some-Element.field-0-is) in
    (opens p.tag p.opened p.depth (sort_code a.sort) a.index c.requires.0 c.requires.1 e (c.requires.3 e), refl, refl)

pub returns-in-None : goal.returns-in-None
returns-in-None c =
    let a = c.args in
    let p = a.self.now in
    let e : sort_code a.sort ≡ 0 = ap sort_code c.in-None.is in (
      closes p.tag p.opened p.depth (sort_code a.sort) a.index c.requires.0 c.requires.1 (λ h. omega (arith, e, h))
          (ap₂ (λ (x y : Bool). x && y) (eq-eqb (sort_code a.sort) 0 e) (ap not c.if-not-self.true)) c.minus-self.ensures,
      refl,
      refl,
    )
