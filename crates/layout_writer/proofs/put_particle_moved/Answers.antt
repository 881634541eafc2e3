-- `layout_writer::put_particle_moved` meets its contract: the record's first two bytes, the index and the depth that is
-- read, laid one after the other, are `indexed_bytes` (`indexed_laid` of RecordLaws in `layout`).
use Rattle.layout.proofs.RecordLaws.{indexed_laid}
use Rattle.layout_writer.proofs.put_particle_moved.Goals as goal

pub returns : goal.returns
returns c =
    indexed_laid c.args.rec.now c.args.index c.particle_depth-depth.result c.particle_depth-depth.ensures
    c.window.ensures c.put-a.ensures c.put_u8-b.ensures c.put_u8.ensures
