-- `store_check::form_passes` meets its contract: the form that is lent is that of the string (`cut_form` of CallLaws). A
-- test that fails refutes a field of FormPasses, and the last leaves the circles.
use mathlib.Core.Path.{ap}
use mathlib.Core.Bool.{not}
use Rattle.form_index.proofs.CutLaws.{cut_of_lem}
use Rattle.store_check.proofs.CallLaws.{refused, kept, form_by_lem, headed, cut_laid, cut_form}
use Rattle.store_check.proofs.form_passes.Goals as goal

pub returns-then-not-definitions_fit : goal.returns-then-not-definitions_fit
returns-then-not-definitions_fit c =
    cut_form (headed _ c.requires c.shared_slice_known-1.given) (cut_of_lem c.form_of-form.ensures)
    (refused (ap not c.if-not-definitions_fit.true) c.definitions_fit.ensures (λ x. x.definitions))

pub returns-then-not-attributes_fit : goal.returns-then-not-attributes_fit
returns-then-not-attributes_fit c =
    cut_form (headed _ c.requires c.shared_slice_known-1.given) (cut_of_lem c.form_of-form.ensures)
    (refused (ap not c.if-not-attributes_fit.true) c.attributes_fit.ensures (λ x. x.attributes))

pub bodies_fit-requires : goal.bodies_fit-requires
bodies_fit-requires c =
    let form = c.form_of-form.ensures in
    (form.sized.width, (cut_laid (headed _ c.requires c.shared_slice_known-1.given) (cut_of_lem form)).bodies)

pub returns-then-not-bodies_fit : goal.returns-then-not-bodies_fit
returns-then-not-bodies_fit c =
    cut_form (headed _ c.requires c.shared_slice_known-1.given) (cut_of_lem c.form_of-form.ensures)
    (refused (ap not c.if-not-bodies_fit.true) c.bodies_fit.ensures (λ x. x.bodies))

pub returns : goal.returns
returns c =
    let header = headed _ c.requires c.shared_slice_known-1.given in
    let form = cut_of_lem c.form_of-form.ensures in
    cut_form header form
    (form_by_lem (cut_laid header form) (kept (ap not c.if-not-definitions_fit.false) c.definitions_fit.ensures)
    (kept (ap not c.if-not-attributes_fit.false) c.attributes_fit.ensures) (kept (ap not c.if-not-bodies_fit.false) c.bodies_fit.ensures)
    c.heights_of.ensures c.is_ok.ensures.value)

pub heights_of-requires : goal.heights_of-requires
heights_of-requires c =
    (cut_laid (headed _ c.requires c.shared_slice_known-1.given) (cut_of_lem c.form_of-form.ensures)).bodies.definition_body.few
