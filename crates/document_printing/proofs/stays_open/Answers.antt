-- `document_printing::stays_open` meets its contract: behind an attribute what is open stays so, and behind any other row
-- nothing does (`stays_by` of RowLaws).
use Rattle.rules.specs.declared.RowSort.TheVariants.{Attribute}
use Rattle.rules.proofs.RowSortLaws.{sort_read}
use Rattle.document_printing.proofs.RowLaws.{stays_by}
use Rattle.document_printing.proofs.stays_open.Goals as goal

pub returns : goal.returns
returns c = stays_by _ c.args.opened (sort_read _ Attribute c.row_sort_of.ensures c.eq.ensures)
