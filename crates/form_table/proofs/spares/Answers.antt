-- `form_table::spares` meets its contract: `sets::none_between` is true if and only if no number of the range is in the
-- set, and so is `every` of the contract (`none_spares` of TableLaws).
use Rattle.form_table.proofs.TableLaws.{none_spares}
use Rattle.form_table.proofs.spares.Goals as goal

pub returns : goal.returns
returns c = let a = c.args in none_spares a.needed a.from a.to _ c.none_between.ensures
