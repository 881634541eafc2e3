-- `codec::lay` meets its contract: each step stores the byte at i and so keeps the invariant (`lay_step` of Writers).
-- At the end no byte is left to lay (`drop_of_length-le` of ListN), so that the invariant is the contract.
use Rattle.codec.proofs.Writers.{lay_step}
use mathlib.Core.Path.{◌≡◌, ◌∙◌}
use mathlib.Core.List.{[]}
use native.Mathlib.Omega.{arith}
use lib.ListN.{drop, drop_of_length-le}
use Rattle.codec.proofs.lay.Goals as goal

pub loop-i-preserved : goal.loop-i-preserved
loop-i-preserved c = (
  omega arith,
  lay_step c.args.src.now c.loop-i.out c.store.new.out _ c.loop-i.i _ (omega arith) (cc) c.store.ensures
      c.loop-i.invariant.1,
  c.store.auto.out ∙ c.loop-i.invariant.2,
)

pub returns : goal.returns
returns c =
    let e : drop c.loop-i.i c.args.src.now ≡ [] = drop_of_length-le _ {i = c.loop-i.i} (omega arith) in
    rw e at c.loop-i.invariant.1
