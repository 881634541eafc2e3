-- `definition_removal::put_attribute` meets its contract: the record is written with the owner that `lower_byte` gives
-- for the owner that is read, which is `attribute_record` (`attribute_laid` of Moving).
use Rattle.definition_removal.proofs.Moving.{attribute_laid}
use Rattle.definition_removal.specs.Bodies.{lowered}
use Prim.Native.Nat.{suc}
use Rattle.definition_removal.proofs.put_attribute.Goals as goal

pub returns : goal.returns
returns c =
    attribute_laid (lowered (suc c.args.definition) 1) c.args.rec.now c.owner_byte.ensures c.lower_byte-owner.ensures
    c.put_attribute_moved.ensures
