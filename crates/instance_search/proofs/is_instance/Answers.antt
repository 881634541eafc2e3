-- `instance_search::is_instance` meets its contract: the sort and the index that the definition compares.
use mathlib.Core.Path.{ap₂}
use mathlib.Core.Bool.{Bool, ◌&&◌}
use Prim.Native.Nat.{ℕ}
use lib.Dec.{eqb}
use Rattle.rules.specs.declared.RowSort.TheVariants.{Element}
use Rattle.rules.proofs.RowSortLaws.{sort_read}
use Rattle.instance_search.proofs.is_instance.Goals as goal

pub returns : goal.returns
returns c = ap₂ (λ (a : Bool) (i : ℕ). a && eqb i c.args.definition) (sort_read _ Element c.row_sort_of.ensures c.eq-element.ensures) c.row_index.ensures
