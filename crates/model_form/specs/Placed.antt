-- The form after an edit that is given with its place.
use Rattle.rules.specs.Layout.{FlatStore}
use Rattle.model_writer.specs.Writing.{edit_of}
use Rattle.model_form.specs.Editing.{form_edited}
use Rattle.model_form.specs.declared.placed.PlacedEdit.{PlacedEdit}

abbrev pub form_after : PlacedEdit → FlatStore
form_after e = form_edited e.store.now e.owner (edit_of e.edit) e.place.holder e.place.particle
