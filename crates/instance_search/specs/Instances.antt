-- The instances of a definition among the rows of a store.
use Rattle.std.specs.Prelude.{ℕ, Bool, true, false, ◌&&◌, eqb, Result, Ok, Err}
use Rattle.rules.specs.Bytes.{Bytes, any}
use Rattle.rules.specs.Preorder.{Deep}
use Rattle.rules.specs.Layout.{row_size, FlatRow}
use Rattle.rules.specs.Decode.{read_row, read_many, row_count}
use Rattle.layout.specs.Bodies.{width_of, tree_rows_in}

-- an element row of definition o
abbrev pub instance_row : ℕ → Deep FlatRow → Bool
instance_row o x = eqb x.row.sort 1 && eqb x.row.index o

abbrev pub has_instance : Bytes → ℕ → Bool
has_instance bs o = any (instance_row o) (read_many read_row (row_size (width_of bs)) (row_count bs) (tree_rows_in bs))

-- a refusal where something holds
abbrev pub refused_where : {E : Type 0} → Bool → E → Result (Unit {0}) E
refused_where b e = elim b [ true ↦ Err e | false ↦ Ok tt ]
