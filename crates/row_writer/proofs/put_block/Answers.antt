-- `row_writer::put_block` meets its contract: old rows are written with the bytes that they are read from, so that to
-- lay the block is to write its rows (`block_written` of BlockLaws). The places of its bytes are in range
-- (`block_small`).
use Prim.Native.Nat.{ℕ, ◌*◌}
use native.Mathlib.Omega.{arith}
use mathlib.Core.Path.{ap, sym}
use lib.Seq.{length-take-le}
use Rattle.row_writer.proofs.BlockLaws.{block_written, block_small}
use Rattle.row_writer.proofs.put_block.Goals as goal

pub overflow_mul-long : goal.overflow_mul-long
overflow_mul-long c =
    let size = ap (λ (i : ℕ). i * c.args.count) c.row_size-size.ensures in
    record { fits = omega (arith, block_small c.requires.1 c.requires.4, size) }

pub slice_bounds-block-end : goal.slice_bounds-block-end
slice_bounds-block-end c =
    let size = ap (λ (i : ℕ). i * c.args.count) c.row_size-size.ensures in
    sym (length-take-le _ c.args.rows.now (omega (arith, c.requires.3, size)))

pub put-c-requires : goal.put-c-requires
put-c-requires c =
    let size = ap (λ (i : ℕ). i * c.args.count) c.row_size-size.ensures in
    let all = length-take-le (c.row_size-size.result * c.args.count) c.args.rows.now (omega (arith, c.requires.3, size)) in
    omega (arith, block_small c.requires.1 c.requires.4, size, all)

pub returns : goal.returns
returns c =
    let size = ap (λ (i : ℕ). i * c.args.count) c.row_size-size.ensures in
    block_written _ c.requires.2 c.requires.3 c.requires.4 _ size c.put-c.ensures
