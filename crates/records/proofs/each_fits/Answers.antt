-- `records::each_fits` meets its contract: a record for which `fits` is false makes the answer false, any other leaves
-- it to those after it (`each_next` of CodeLaws), and with no record left it is true (`each_end`).
use Rattle.std.proofs.Common.{◌∙◌, sym, ap, ap₂, refl, ◌-◌, ◌+◌, Bool, ◌&&◌, arith, drop}
use Rattle.std.proofs.lemmas.Fn.{says_at}
use Rattle.rules.specs.Bytes.{Bytes}
use Rattle.records.specs.Records.{each_fits}
use Rattle.records.proofs.CodeLaws.{each_start, each_next, each_end}
use Rattle.records.proofs.each_fits.Goals as goal

pub loop-init : goal.loop-init
loop-init g c = λ p t. each_start p c.args.size c.args.count c.args.body.now

pub returns-then-not-fits : goal.returns-then-not-fits
returns-then-not-fits g c =
    λ p t.
    let l = c.loop in
    let q = t _ _ (says_at g.F.Fn c.fits.ensures refl) ∙ ap p c.first.ensures in
    sym
    (l.invariant p t ∙ each_next p c.args.size c.args.count l.counter l.rest.now (omega arith)
    ∙ ap (λ (b : Bool). b && each_fits p c.args.size (c.args.count - (l.counter + 1)) (drop c.args.size l.rest.now)) (sym q ∙ c.if-not-fits.true))

pub loop-preserved : goal.loop-preserved
loop-preserved g c =
    λ p t.
    let l = c.loop in
    let q = t _ _ (says_at g.F.Fn c.fits.ensures refl) ∙ ap p c.first.ensures in
    l.invariant p t ∙ each_next p c.args.size c.args.count l.counter l.rest.now (omega arith)
    ∙ ap₂ (λ (b : Bool) (ys : Bytes). b && each_fits p c.args.size (c.args.count - (l.counter + 1)) ys) (sym q ∙ c.if-not-fits.false) (sym c.after-rest.ensures)

pub returns : goal.returns
returns g c = λ p t. sym (c.loop.invariant p t ∙ each_end p c.args.size c.args.count c.loop.counter c.loop.rest.now (omega arith))
