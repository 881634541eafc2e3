-- `next_children::fill` meets its contract: each step writes what follows the child x, and x into the last ones if no
-- child is owed after it, which keeps the invariant (`lining_on` of LineLaws). It holds at first for no child
-- (`lining_starts`), and at the end for all n (`lining_ends`).
use native.Mathlib.Omega.{arith}
use Rattle.model.specs.Members.{all_members}
use Rattle.next_children.proofs.LineLaws.{lining_starts, lining_on, lining_ends}
use Rattle.next_children.proofs.fill.Goals as goal

pub loop-x-init : goal.loop-x-init
loop-x-init c =
    lining_starts c.args.n (all_members c.args.ms.now) _ c.nexts_of-none.ensures c.args.line.now (omega arith)

pub after_child-r-requires : goal.after_child-r-requires
after_child-r-requires c =
    (omega arith, c.names_in-names.ensures)

pub loop-x-preserved : goal.loop-x-preserved
loop-x-preserved c =
    lining_on c.args.n (all_members c.args.ms.now) _ _ _ c.loop-x.invariant c.requires (omega arith) _ c.after_child-r.ensures _ _ _
    c.bit.ensures c.given.ensures c.union-lasts.ensures

pub returns : goal.returns
returns c =
    lining_ends c.args.n (all_members c.args.ms.now) _ _ _ c.loop-x.invariant c.requires (omega arith)
