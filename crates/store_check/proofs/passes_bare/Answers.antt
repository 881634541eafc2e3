-- `store_check::passes_bare` meets its contract: a header that does not fit refutes that the string passes (`headless`
-- of CallLaws), and where it fits and there are no rows the form decides (`bare_passed`).
use mathlib.Core.Path.{ap}
use mathlib.Core.Bool.{not}
use Rattle.store_check.proofs.CallLaws.{header_kept, headed, headless, bare_passed}
use Rattle.store_check.proofs.passes_bare.Goals as goal

pub returns-then-not-header_fits : goal.returns-then-not-header_fits
returns-then-not-header_fits c =
    headless c.shape_of-s.ensures (ap not c.if-not-header_fits.true) c.header_fits.ensures

pub form_passes-requires : goal.form_passes-requires
form_passes-requires c =
    header_kept c.shape_of-s.ensures (ap not c.if-not-header_fits.false) c.header_fits.ensures

pub returns : goal.returns
returns c =
    let shape = c.shape_of-s.ensures in
    let header = header_kept shape (ap not c.if-not-header_fits.false) c.header_fits.ensures in
    bare_passed (headed _ header c.shared_slice_known-1.given) c.requires c.form_passes.ensures
