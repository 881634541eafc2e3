-- `attribute_form::form_of` meets its contract: the bytes from the end of the header up to the first row are those of
-- the form (`form_at_lem` of FormParts), and the rows of a store that passes begin no earlier than its header ends
-- (`start_within` of FormLaws in `store_laws`), so that the difference is in range.
use native.Mathlib.Omega.{arith}
use Rattle.store_laws.proofs.StoreLaws.{holds}
use Rattle.store_laws.proofs.FormLaws.{start_within}
use Rattle.attribute_form.proofs.FormParts.{form_at_lem}
use Rattle.attribute_form.proofs.form_of.Goals as goal

pub overflow_sub-end : goal.overflow_sub-end
overflow_sub-end c =
    omega (arith, start_within (holds _ c.requires) c.row_start-end.ensures, c.header_size-start.ensures)

pub returns : goal.returns
returns c =
    form_at_lem c.requires c.header_size-start.ensures c.row_start-end.ensures c.window.ensures
