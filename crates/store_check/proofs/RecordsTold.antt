-- The test of all records of a string, by bodies.
use Prim.Native.Nat.{ℕ}
use mathlib.Core.Path.{◌≡◌}
use mathlib.Core.Logic.{◌↔◌}
use mathlib.Core.Bool.{true}
use lib.ListN.{drop}
use Rattle.rules.specs.Bytes.{Bytes}
use Rattle.rules.specs.Layout.{header_size, definition_size, attribute_size, row_size}
use Rattle.rules.specs.Decode.{definition_count, attribute_count, row_count}
use Rattle.rules.proofs.Words.{and_both, and_split}
use Rattle.records.specs.Records.{definition_fits, attribute_fits, row_fits, each_fits, at_attributes, at_rows, records_fit}

pub record EachFits (w : ℕ) (bs : Bytes) : Type 0 where
  pub definitions : each_fits definition_fits definition_size (definition_count bs) (drop header_size bs) ≡ true
  pub attributes : each_fits (attribute_fits w (definition_count bs)) (attribute_size w) (attribute_count bs) (drop (at_attributes bs) bs) ≡ true
  pub rows : each_fits (row_fits w) (row_size w) (row_count bs) (drop (at_rows w bs) bs) ≡ true

pub each_fits_lem : (w : ℕ) (bs : Bytes) → (records_fit w bs ≡ true) ↔ EachFits w bs
unfolding records_fit
each_fits_lem w bs = (
  λ h.
      let (d, h₁) = and_split (each_fits definition_fits definition_size (definition_count bs) (drop header_size bs)) _ h in
      let (a, r) = and_split (each_fits (attribute_fits w (definition_count bs)) (attribute_size w) (attribute_count bs) (drop (at_attributes bs) bs)) _ h₁ in
      record { definitions = d; attributes = a; rows = r },
  λ x. and_both x.definitions (and_both x.attributes x.rows),
)
