-- `read_call::read_text` meets its contract: where no form is read, or it is not confirmed, the text is refused with 19
-- (`none_read`, `form_refused`, `promised_bad` of TextLaws); else the answer for the documents is the call's
-- (`promised_on`). What is lent of the local array is the form (`array_room`, `array_lent`), and has no rows
-- (`array_bare`).
use native.Mathlib.Omega.{arith}
use mathlib.Core.Path.{refl}
use Prim.Native.Nat.{ℕ}
use lib.ListN.{length-replicate}
use Rattle.rules.specs.Layout.{base_version}
use Rattle.rules.proofs.DecodeLaws.{width_most}
use Rattle.read_call.proofs.TextLaws.{promised_bad, read_at_lem, none_read, array_room, array_lent, array_bare, form_refused, form_passes, promised_on}
use Rattle.read_call.proofs.read_text.Goals as goal

pub read_form-requires : goal.read_form-requires
read_form-requires c = omega (arith, c.width_of-w.ensures, width_most base_version)

pub returns-in_default : goal.returns-in_default
returns-in_default c =
    promised_bad c.args.text.now c.args.out.now refl refl
    (none_read c.args.text.now (read_at_lem c.args.text.now c.width_of-w.ensures c.in_default.ensures))

pub slice_bounds-form-end : goal.slice_bounds-form-end
slice_bounds-form-end c =
    array_room c.args.text.now (read_at_lem c.args.text.now c.width_of-w.ensures c.in-Some.ensures) (length-replicate {A = ℕ} 9768 0)

pub slice_bounds-confirm-end : goal.slice_bounds-confirm-end
slice_bounds-confirm-end c =
    array_lent c.args.text.now (read_at_lem c.args.text.now c.width_of-w.ensures c.in-Some.ensures) (length-replicate {A = ℕ} 9768 0)

pub confirm-requires : goal.confirm-requires
confirm-requires c =
    array_bare c.args.text.now (read_at_lem c.args.text.now c.width_of-w.ensures c.in-Some.ensures) (length-replicate {A = ℕ} 9768 0)

pub returns-in_default-confirm : goal.returns-in_default-confirm
returns-in_default-confirm c =
    promised_bad c.args.text.now c.args.out.now refl refl
    (form_refused c.args.text.now (read_at_lem c.args.text.now c.width_of-w.ensures c.in-Some.ensures)
    (length-replicate {A = ℕ} 9768 0) c.in_default-confirm.ensures)

pub slice_bounds-form-end-2 : goal.slice_bounds-form-end-2
slice_bounds-form-end-2 c =
    array_room c.args.text.now (read_at_lem c.args.text.now c.width_of-w.ensures c.in-Some.ensures) (length-replicate {A = ℕ} 9768 0)

pub slice_bounds-read_documents-end : goal.slice_bounds-read_documents-end
slice_bounds-read_documents-end c =
    array_lent c.args.text.now (read_at_lem c.args.text.now c.width_of-w.ensures c.in-Some.ensures) (length-replicate {A = ℕ} 9768 0)

pub read_documents-requires : goal.read_documents-requires
read_documents-requires c =
    form_passes c.args.text.now (read_at_lem c.args.text.now c.width_of-w.ensures c.in-Some.ensures)
    (length-replicate {A = ℕ} 9768 0) c.in-Some-confirm.ensures

pub returns : goal.returns
returns c =
    promised_on c.args.text.now (read_at_lem c.args.text.now c.width_of-w.ensures c.in-Some.ensures)
    (length-replicate {A = ℕ} 9768 0) c.in-Some-confirm.ensures c.after.ensures c.args.out.now c.read_documents.ensures
