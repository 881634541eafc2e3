-- The sorts of rows as the code has them: their codes, and a code read.
use Rattle.std.specs.Prelude.{ℕ, zero, suc, Option, None, Some}
use Rattle.rules.specs.declared.RowSort.{RowSort}
use Rattle.rules.specs.declared.RowSort.TheVariants.{Element, Attribute, Text}

abbrev pub row_number : RowSort → ℕ
row_number Element = 1
row_number Attribute = 2
row_number Text = 3

-- none for a code that no sort has
abbrev pub read_sort : ℕ → Option RowSort
read_sort zero = None
read_sort (suc zero) = Some Element
read_sort (suc (suc zero)) = Some Attribute
read_sort (suc (suc (suc zero))) = Some Text
read_sort (suc (suc (suc (suc k)))) = None
