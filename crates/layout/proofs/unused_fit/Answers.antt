-- `layout::unused_fit` meets its contract: the three bytes that are read are those that `unused_fit` tests (`unused_of`
-- of LayoutLaws).
use Rattle.layout.proofs.LayoutLaws.{unused_of}
use Rattle.layout.proofs.unused_fit.Goals as goal

pub returns : goal.returns
returns c =
    unused_of c.args.w c.args.rec.now _ _ _ c.byte.ensures c.byte-2.ensures c.byte-3.ensures
