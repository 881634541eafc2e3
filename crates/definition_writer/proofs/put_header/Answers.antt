-- `definition_writer::put_header` meets its contract: it is the contract of `layout_writer::put_header` with the
-- store's width, next serial and number of rows put in for those that were read (`laid_as` of Writers in `codec`).
use mathlib.Core.Path.{sym}
use Rattle.codec.proofs.Writers.{laid_as}
use Rattle.layout.specs.Header.{headed}
use Rattle.definition_writer.proofs.put_header.Goals as goal

pub returns : goal.returns
returns c =
    let a = c.args in
    laid_as
    (λ i. headed (sym c.width_in-w.ensures.value i) (sym c.next_serial-next.ensures.value i) a.d a.p a.a
    (sym c.row_count-rows.ensures.value i) a.store.now)
    c.put_header.ensures
