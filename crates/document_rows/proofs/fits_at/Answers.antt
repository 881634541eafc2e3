-- `document_rows::fits_at` meets its contract: the answer of `children_fit` is `fits_at`, as the children and the model
-- that are read are the store's (`fits_read` of ReaderLaws).
use mathlib.Core.Path.{ap, ◌∙◌}
use Rattle.model.specs.Members.{all_members}
use Rattle.form_index.specs.Reading.{model_part}
use Rattle.document_rows.proofs.ReaderLaws.{fits_read}
use Rattle.document_rows.proofs.fits_at.Goals as goal

pub returns : goal.returns
returns c =
    let a = c.args in
    fits_read a.store.now a.i a.place a.new a.skip
    (ap all_members c.model_part-part.ensures ∙ λ j. all_members (model_part (c.definitions_of-definitions.ensures j) (c.particles_of-particles.ensures j) (c.row_definition.ensures j)))
    c.children-elements.ensures c.children_fit.ensures
