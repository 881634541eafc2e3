-- `store_limits::attributes_full` meets its contract: the comparison is that of the contract, with the ceiling 64.
use mathlib.Core.Path.{refl}
use Rattle.store_limits.proofs.attributes_full.Goals as goal

pub returns : goal.returns
returns c = refl
