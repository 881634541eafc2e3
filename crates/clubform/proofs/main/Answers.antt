-- `clubform::main` meets its contract: it ensures nothing, so that only what its calls require is proved: each reads
-- the stage that the call before it leaves; the last store has 508 bytes and the next serial 9 (`last_length`,
-- `last_next` of Laws) and fills its buffer (`whole`), and the part that is written is as long as the text (`front`).
use borrow.Author.Rules.{rules}
use Rattle.clubform.proofs.Laws.{front, whole, last_length, last_next}
use Rattle.clubform.proofs.main.Goals as goal

pub expect-requires : goal.expect-requires
expect-requires c =
    last_length c.change_finisher-changed.ensures

pub expect-requires-2 : goal.expect-requires-2
expect-requires-2 c =
    last_next c.change_finisher-changed.ensures c.next_serial.ensures.value

pub put_text-written-requires : goal.put_text-written-requires
put_text-written-requires c =
    record { store_is = whole c.change_finisher-changed.ensures; room = search rules }

pub slice_bounds-write_all-end : goal.slice_bounds-write_all-end
slice_bounds-write_all-end c =
    front c.put_text-written.ensures
