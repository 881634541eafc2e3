-- `document_row_writer::put_token` meets its contract: a token that is not exact is refused (`token_refused` of
-- PutLaws), any other is read (`token_put`). Its numbers are small (`index_small`, `value_fits_lem`, `opens_more` of
-- AfterLaws).
use mathlib.Core.Path.{refl, sym}
use native.Mathlib.Omega.{arith}
use Rattle.codec.proofs.Writers.{laid_long}
use Rattle.document_tokens.specs.Tokens.{declared_in}
use Rattle.document_tokens.specs.Telling.{sort_code, stack_of}
use Rattle.document_tokens.proofs.TokenLaws.{token_fits}
use Rattle.document_tokens.proofs.ChoiceLaws.{stack_size}
use Rattle.document_row_writer.proofs.AfterLaws.{made_few, index_small, value_fits_lem, opens_more}
use Rattle.document_row_writer.proofs.PutLaws.{token_refused, token_put}
use Rattle.document_row_writer.proofs.put_token.Goals as goal

pub returns-in_err-token : goal.returns-in_err-token
returns-in_err-token c =
    let a = c.args in
    let p = c.requires in
    rw c.from_residual.ensures (
      token_refused a.w (declared_in a.form.now) a.text.now a.here.now.count a.here.now.opened a.here.now.depth a.here.now.tag p.5 c.in_err-token.ensures,
      record { stack = p.2; long = refl },
      c.in_err-token.ensures.long,
    )

pub put_made-next-requires : goal.put_made-next-requires
put_made-next-requires c =
    let a = c.args in
    let p = c.requires in
    let told = c.in_ok-token.ensures.told in
    let fits = token_fits (declared_in a.form.now) a.w (stack_of a.here.now.depth a.here.now.opened) a.here.now.tag a.text.now (sym c.in_ok-token.ensures.is) in (
      p.0,
      p.7,
      omega (arith, p.3),
      omega (arith, index_small a.form.now fits told p.1.definitions_few p.1.attributes_few),
      value_fits_lem a.form.now fits told c.first-read.ensures,
    )

pub advance-requires : goal.advance-requires
advance-requires c =
    let a = c.args in
    let p = c.requires in
    let told = c.in_ok-token.ensures.told in
    let fits = token_fits (declared_in a.form.now) a.w (stack_of a.here.now.depth a.here.now.opened) a.here.now.tag a.text.now (sym c.in_ok-token.ensures.is) in (
      p.2,
      p.3,
      index_small a.form.now fits told p.1.definitions_few p.1.attributes_few,
      opens_more a.form.now fits told (stack_size a.here.now.depth a.here.now.opened),
    )

pub overflow_add-here : goal.overflow_add-here
overflow_add-here c =
    omega (arith, c.made.ensures, made_few (sort_code c.in_ok-token.token.sort), c.requires.4, c.advance.ensures.2)

pub returns : goal.returns
returns c =
    let a = c.args in
    let p = c.requires in
    let adv = c.advance.ensures.0 in (
      token_put a.w (declared_in a.form.now) a.text.now a.here.now.count a.here.now.opened a.here.now.depth a.here.now.tag p.5 (sym c.in_ok-token.ensures.is)
          c.in_ok-token.ensures.told c.first-read.ensures c.put_made-next.ensures adv (omega (arith, c.made.ensures, c.advance.ensures.2)) c.tag_after-here.ensures,
      record { stack = adv.long; long = laid_long c.put_made-next.ensures.laid },
      c.in_ok-token.ensures.long,
    )
