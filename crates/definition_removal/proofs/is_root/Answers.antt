-- `definition_removal::is_root` meets its contract: what is read are the row's depth, sort and index (`sort_read` of
-- RowSortLaws in `rules`).
use mathlib.Core.Bool.{◌&&◌}
use lib.Dec.{eqb}
use Rattle.rules.specs.declared.RowSort.TheVariants.{Element}
use Rattle.rules.proofs.RowSortLaws.{sort_read}
use Rattle.definition_removal.proofs.is_root.Goals as goal

pub returns : goal.returns
returns c =
    λ j. eqb (c.row_depth-depth.ensures j) 0 && (sort_read _ Element c.row_sort_of.ensures c.eq-element.ensures j && eqb (c.row_index-index.ensures j) c.args.i)
