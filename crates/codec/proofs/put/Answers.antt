-- `codec::put` meets its contract: where all of `src` has room it is copied into the tail that is lent (`tail_copied`
-- of Writers), where only `at` lies within `out` it is laid there as far as `out` goes (`tail_sets`), and past the end
-- nothing is stored (`sets_past`).
use mathlib.Core.Path.{refl, sym}
use Rattle.codec.proofs.Writers.{tail_copied, tail_sets, sets_past}
use native.Mathlib.Omega.{arith}
use Rattle.codec.proofs.put.Goals as goal

pub returns-then-next-out : goal.returns-then-next-out
returns-then-next-out c =
    let s = c.args in record { next = refl; stored = tail_copied s.out.now _ s.src.now s.at (omega arith) c.copy.ensures.1 }

pub returns-then-at-out : goal.returns-then-at-out
returns-then-at-out c =
    let s = c.args in record { next = refl; stored = tail_sets s.out.now _ s.src.now s.at (omega arith) c.lay.ensures }

pub returns-else-at-out : goal.returns-else-at-out
returns-else-at-out c =
    let s = c.args in record { next = refl; stored = sym (sets_past s.src.now s.out.now s.at (omega arith)) }
