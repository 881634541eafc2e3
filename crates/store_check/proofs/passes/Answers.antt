-- A test that fails refutes that the string passes, and all of them show it.
use mathlib.Core.Path.{ap}
use mathlib.Core.Bool.{not}
use Rattle.store_check.proofs.CallLaws.{header_kept, headed, headless, formless, rowless, passed}
use Rattle.store_check.proofs.passes.Goals as goal

pub returns-then-not-header_fits : goal.returns-then-not-header_fits
returns-then-not-header_fits c =
    headless c.shape_of-s.ensures (ap not c.if-not-header_fits.true) c.header_fits.ensures

pub form_passes-requires : goal.form_passes-requires
form_passes-requires c =
    header_kept c.shape_of-s.ensures (ap not c.if-not-header_fits.false) c.header_fits.ensures

pub returns-then-not-form_passes : goal.returns-then-not-form_passes
returns-then-not-form_passes c =
    let shape = c.shape_of-s.ensures in
    let header = header_kept shape (ap not c.if-not-header_fits.false) c.header_fits.ensures in
    formless (headed _ header c.shared_slice_known-1.given) (ap not c.if-not-form_passes.true) c.form_passes.ensures

pub documents_pass-requires : goal.documents_pass-requires
documents_pass-requires c =
    let shape = c.shape_of-s.ensures in
    let header = header_kept shape (ap not c.if-not-header_fits.false) c.header_fits.ensures in
    (header, shape)

pub returns-then-not-documents_pass : goal.returns-then-not-documents_pass
returns-then-not-documents_pass c =
    let shape = c.shape_of-s.ensures in
    let header = header_kept shape (ap not c.if-not-header_fits.false) c.header_fits.ensures in
    rowless (headed _ header c.shared_slice_known-1.given) (ap not c.if-not-documents_pass.true) c.documents_pass.ensures

pub serials_pass-requires : goal.serials_pass-requires
serials_pass-requires c =
    let shape = c.shape_of-s.ensures in
    (header_kept shape (ap not c.if-not-header_fits.false) c.header_fits.ensures, shape)

pub returns : goal.returns
returns c =
    let shape = c.shape_of-s.ensures in
    let header = header_kept shape (ap not c.if-not-header_fits.false) c.header_fits.ensures in
    let headed = headed _ header c.shared_slice_known-1.given in
    passed headed (ap not c.if-not-form_passes.false) c.form_passes.ensures (ap not c.if-not-documents_pass.false) c.documents_pass.ensures c.serials_pass.ensures
