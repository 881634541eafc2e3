-- `form_table::lay_needs` meets its contract: the invariant holds before the first attribute (`needing_starts` of
-- TableLaws) and after each, by the contract of `lay_need` (`needing_on`).
use Prim.Native.Nat.{ℕ}
use mathlib.Core.Path.{◌≡◌, subst}
use native.Mathlib.Omega.{arith}
use Rattle.form_table.specs.Table.{Needs}
use Rattle.form_table.proofs.TableLaws.{needing_starts, needing_on}
use Rattle.form_table.proofs.lay_needs.Goals as goal

pub loop-j-init : goal.loop-j-init
loop-j-init c = needing_starts c.args.form.now c.args.table.now

pub lay_need-requires : goal.lay_need-requires
lay_need-requires c =
    (c.requires.0, omega (arith, c.requires.0.attributes), omega (arith, c.loop-j.invariant.long, c.requires.1))

pub loop-j-preserved : goal.loop-j-preserved
loop-j-preserved c =
    needing_on c.args.form.now c.args.table.now _ _ c.loop-j.invariant _ c.lay_need.ensures c.lay_need.auto.table

pub returns : goal.returns
returns c =
    let all : c.loop-j.j ≡ c.args.form.now.attribute_count = omega arith in
    subst (λ (j : ℕ). Needs c.args.form.now j c.args.table.now c.loop-j.table) all c.loop-j.invariant.needs
