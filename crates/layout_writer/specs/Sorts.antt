-- The code of a particle's sort: 0 of an element, and of a group that of its kind.
use Rattle.std.specs.Prelude.{ℕ, Option, None, Some}
use Rattle.rules.specs.declared.GroupKind.{GroupKind}
use Rattle.rules.specs.Layout.{group_code}

abbrev pub sort_number : Option GroupKind → ℕ
sort_number None = 0
sort_number (Some kind) = group_code kind
