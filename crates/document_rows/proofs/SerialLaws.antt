-- The children that are looked for.
use Prim.Native.Nat.{ℕ, zero, suc}
use mathlib.Core.Path.{◌≡◌, refl, ap}
use mathlib.Core.Bool.{Bool, true, false, ◌||◌}
use mathlib.Core.List.{List, [], ◌∷◌, map}
use lib.Dec.{eqb}
use Rattle.std.specs.List.{list_any, find}
use Rattle.std.specs.Prelude.{slice_get, option_map}
use Rattle.rules.specs.Bytes.{any}
use Rattle.std.proofs.Common.{Bor}
use Rattle.rules.specs.Layout.{FlatRow}
use Rattle.rules.specs.Decode.{read_row}
use Rattle.document_rows.specs.Finding.{serial_in, serial_of_index}

-- a row as it is lent
abbrev pub row_read : Bor (List ℕ) → FlatRow
row_read row = (read_row row.now).row

-- the serial of number n
pub serial_got : (n : ℕ) (rs : List FlatRow) → option_map serial_in (slice_get rs n) ≡ slice_get (map serial_in rs) n
serial_got n [] = refl
serial_got zero (r ∷ rs) = refl
serial_got (suc n) (r ∷ rs) = serial_got n rs

-- the serial of the first row with an index
pub first_got : (a : ℕ) (rs : List FlatRow) → option_map serial_in (find (λ r. eqb r.index a) rs) ≡ serial_of_index a rs
first_got a [] = refl
first_got a (r ∷ rs) = by (eqb r.index a) refl (first_got a rs)
  where
    by : (b : Bool) → eqb r.index a ≡ b → option_map serial_in (find (λ r. eqb r.index a) rs) ≡ serial_of_index a rs
        → option_map serial_in (find (λ r. eqb r.index a) (r ∷ rs)) ≡ serial_of_index a (r ∷ rs)
    by true e h = rw (e, serial_of_index)
    by false e h = rw (e, serial_of_index) h

pub any_is : (test : FlatRow → Bool) (rs : List FlatRow) → list_any test rs ≡ any test rs
any_is test [] = refl
any_is test (r ∷ rs) = ap (λ (b : Bool). test r || b) (any_is test rs)
