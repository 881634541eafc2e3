-- `layout::attribute_body` meets its contract: the window begins where `attributes_start` says and is as long as the
-- product of `times` says, and so is `attribute_body` (`attributes_window` of LayoutLaws).
use Rattle.layout.proofs.LayoutLaws.{attributes_window}
use Rattle.layout.proofs.attribute_body.Goals as goal

pub returns : goal.returns
returns c =
    let a = c.args in
    attributes_window a.s a.store.now _ _ _ c.attributes_start-start.ensures c.times.ensures c.window.ensures
