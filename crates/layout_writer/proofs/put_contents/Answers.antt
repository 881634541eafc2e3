-- `layout_writer::put_contents` meets its contract: each entry has the place that the counts before it give (`place_as`
-- of HeaderLaws in `layout`), and the four, laid one after the other, are `contents` (`contents_laid`); the place of
-- the rows fits in four bytes (`place_low`).
use native.Mathlib.Omega.{arith}
use Rattle.layout.proofs.HeaderLaws.{place_low, place_as, contents_laid}
use Rattle.layout_writer.proofs.put_contents.Goals as goal

pub put_entry-requires : goal.put_entry-requires
put_entry-requires c =
    let a = c.args in
    let low = place_low a.w a.d a.p a.a c.requires.0 c.requires.1 c.requires.2 c.requires.3 c.through_attributes-rows.ensures in
    (low, c.requires.4, omega (arith, c.put_entry-first.ensures.next, c.put_entry-second.ensures.next, c.put_entry-third.ensures.next))

pub returns : goal.returns
returns c =
    let a = c.args in
    contents_laid
    a.w
    a.d
    a.p
    a.a
    a.r
    c.put_entry-first.ensures
    (place_as a.p c.through_definitions-particles.ensures c.put_entry-second.ensures)
    (place_as a.a c.through_particles-attributes.ensures c.put_entry-third.ensures)
    (place_as a.r c.through_attributes-rows.ensures c.put_entry.ensures)
