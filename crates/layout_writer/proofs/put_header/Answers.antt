-- `layout_writer::put_header` meets its contract: the store's first four bytes, the next serial and the table of
-- contents, laid one after the other, are `headed` (`header_laid` of HeaderLaws in `layout`); the table begins at byte
-- 8 at the latest (`length-take` of lib.ListN).
use native.Mathlib.Omega.{arith}
use mathlib.Core.Path.{ap}
use lib.ListN.{length, length-take}
use Rattle.layout.proofs.HeaderLaws.{header_laid}
use Rattle.layout_writer.proofs.put_header.Goals as goal

pub put_contents-requires : goal.put_contents-requires
put_contents-requires c = (
  c.requires.0,
  c.requires.2,
  c.requires.3,
  c.requires.4,
  c.requires.5,
  omega (
    arith,
    c.put_u32-serial.ensures.next,
    c.put-version.ensures.next,
    ap length c.window.ensures,
    length-take 4 c.args.store.now,
  ),
)

pub returns : goal.returns
returns c =
    let a = c.args in
    header_laid
    a.w
    a.next
    a.d
    a.p
    a.a
    a.r
    a.store.now
    c.window.ensures
    c.put-version.ensures
    c.put_u32-serial.ensures
    c.put_contents.ensures
