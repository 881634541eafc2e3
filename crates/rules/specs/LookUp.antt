-- 'The look-up hands back the part of the store that is the value of the attribute or text row with a given serial.'
use Rattle.std.specs.Prelude.{ℕ, suc, ◌+◌, ◌*◌, true, false, List, [], ◌∷◌, eqb, length, take, drop}
use Rattle.std.proofs.Math.Option.{Option, none, some}
use Rattle.rules.specs.Bytes.{Bytes}
use Rattle.rules.specs.Store.{element, Store}
use Rattle.rules.specs.Preorder.{Deep}
use Rattle.rules.specs.Layout.{value_width, header_size, definition_size, particle_size, attribute_size, row_size, row_code, FlatRow, FlatStore, flat}
use Rattle.rules.specs.Passing.{read_store}

-- a part of the store, and the number
pub record ValueFound : Type 0 where
  pub number : ℕ
  pub start : ℕ
  pub size : ℕ

abbrev pub not_found : ℕ → ValueFound
not_found n = record { number = n; start = 0; size = 0 }

-- a row with its number in the tree body, counted from 0
pub record Numbered : Type 0 where
  pub at : ℕ
  pub row : FlatRow

-- the row with a serial, of any sort
unfoldable pub row_with : ℕ → ℕ → List (Deep FlatRow) → Option Numbered
row_with k i [] = none
row_with k i (r ∷ rs) = elim (eqb r.row.serial k) [ true ↦ some (record { at = i; row = r.row }) | false ↦ row_with k (suc i) rs ]

-- where the value field of row number i begins
abbrev pub value_start : ℕ → FlatStore → ℕ → ℕ
value_start w f i =
    header_size + definition_size * length f.definitions + particle_size * length f.particles + attribute_size w * length f.attributes + row_size w * i + 10

abbrev pub found_row : ℕ → FlatStore → Option Numbered → ValueFound
found_row w f none = not_found 7
found_row w f (some n) = elim (eqb n.row.sort (row_code element)) [ true ↦ not_found 7 | false ↦ record { number = 0; start = value_start w f n.at; size = length n.row.value } ]

abbrev pub look_up_in : ℕ → Option Store → ValueFound
look_up_in k none = not_found 1
look_up_in k (some s) = found_row (value_width s.version) (flat s) (row_with k 0 (flat s).rows)

unfoldable pub look_up : Bytes → ℕ → ValueFound
look_up bs k = look_up_in k (read_store bs)

abbrev pub part_found : Bytes → ValueFound → Bytes
part_found bs f = take f.size (drop f.start bs)
