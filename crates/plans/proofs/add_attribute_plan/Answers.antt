-- `plans::add_attribute_plan` meets its contract: the 64 marks of `NOTHING` are what `unmarked` of CallPlans unfolds
-- to, and `fills` is equal by the contract of `must_be_present`, as the code of a sort is read as the sort.
use Rattle.rules.proofs.DecodeLaws.{sort_code_lem}
use Rattle.plans.specs.CallPlans.{unmarked}
use Rattle.plans.proofs.add_attribute_plan.Goals as goal

pub returns : goal.returns
unfolding unmarked
returns c = rw (c.must_be_present.ensures, sort_code_lem c.args.sort)
