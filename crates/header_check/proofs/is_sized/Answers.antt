-- `header_check::is_sized` meets its contract: the counts that are read are the string's, so `through_rows` gives the
-- length that `sized` asks for (`sized_of` of CodeLaws in `records`).
use Rattle.records.proofs.CodeLaws.{sized_of}
use Rattle.header_check.proofs.is_sized.Goals as goal

pub returns : goal.returns
returns c =
    let a = c.args in
    sized_of a.w a.store.now _ _ _ c.definition_count-n.ensures.value c.particle_count-p.ensures.value
    c.attribute_count-a.ensures.value _ _
    c.row_count.ensures.value c.through_rows.ensures
