-- What is tested of a byte string whose header fits: its form, its rows, and whether their serials differ.
use Rattle.std.specs.Prelude.{ℕ, ◌≡◌, Bool, true, ◌&&◌, List}
use Rattle.rules.specs.Bytes.{Bytes, numbers, all}
use Rattle.rules.specs.Model.{distinct}
use Rattle.rules.specs.Layout.{definition_size, attribute_size, row_size}
use Rattle.rules.specs.Decode.{number_at, read_row, read_many, definition_count, particle_count, attribute_count, row_count, unflat}
use Rattle.rules.specs.WellFormed.{Reaches}
use Rattle.layout.specs.Bodies.{width_of, definitions_in, particles_in, attributes_in, tree_rows_in}
use Rattle.records.specs.Records.{definition_fits, attribute_fits, row_fits, serial_fits, each_fits}
use Rattle.form_check.specs.FormTests.{bodies_fit}
use Rattle.form_check.specs.Bodies.{form_of_bodies}
use Rattle.serial_check.specs.Serials.{serials_of}
use Rattle.form_index.specs.Indices.{IndexForm, Documents}
use Rattle.row_check.specs.Verdict.{verdict}
use Rattle.row_check.specs.Walking.{bytes_before, before_in}
use Rattle.layout.specs.Fields.{next_at}

-- ---- the form
-- each record by itself, the records together, and no definition that reaches itself
pub record FormPasses (w n : ℕ) (defs : Bytes) (p : ℕ) (parts : Bytes) (a : ℕ) (attrs : Bytes) : Type 0 where
  pub definitions : each_fits definition_fits definition_size n defs ≡ true
  pub attributes : each_fits (attribute_fits w n) (attribute_size w) a attrs ≡ true
  pub bodies : bodies_fit (form_of_bodies w n defs p parts a attrs) ≡ true
  pub circle : (x : Bytes) → Reaches (unflat (form_of_bodies w n defs p parts a attrs)).form x x → ⊥

-- of a byte string
pub record FormIn (bs : Bytes) : Type 0 where
  pub passes : FormPasses (width_of bs) (definition_count bs) (definitions_in bs) (particle_count bs) (particles_in bs) (attribute_count bs) (attributes_in bs)

-- ---- the rows
-- the answer of the one walk over them, by the bytes before the tree body
unfoldable pub walk_answer : Bytes → Bool
walk_answer bs = verdict (before_in (bytes_before bs)) (row_count bs) (tree_rows_in bs)

-- no two have one serial
unfoldable pub serials_differ : Bytes → Bool
serials_differ bs = distinct numbers (serials_of (width_of bs) (row_count bs) (tree_rows_in bs))

-- ---- what the tests of the rows come to
-- each by itself, and documents that conform to a form by index
pub record RowsPass (w : ℕ) (F : IndexForm) (count : ℕ) (rows : Bytes) : Type 0 where
  pub fields : each_fits (row_fits w) (row_size w) count rows ≡ true
  pub documents : Documents F (read_many read_row (row_size w) count rows)

-- 'Serials are distinct, from 1, below the next serial'
unfoldable pub fitting : ℕ → List ℕ → Bool
fitting next ks = distinct numbers ks && all (serial_fits next) ks

pub record SerialsIn (bs : Bytes) : Type 0 where
  pub fits : fitting (number_at next_at 4 bs) (serials_of (width_of bs) (row_count bs) (tree_rows_in bs)) ≡ true
