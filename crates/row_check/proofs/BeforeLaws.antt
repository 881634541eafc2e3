-- What the walk reads of a byte string stands before its tree body.
use Prim.Native.Nat.{ℕ, ◌+◌, ◌*◌, ◌-◌, ◌≤◌}
use native.Mathlib.Omega.{arith}
use mathlib.Core.Path.{◌≡◌, ap, ◌∙◌}
use lib.ListN.{take, drop}
use lib.Seq.{take-take}
use Rattle.rules.specs.Bytes.{Bytes}
use Rattle.rules.specs.Layout.{value_width, header_size, definition_size, particle_size, attribute_size}
use Rattle.rules.specs.Decode.{unle, number_at, definition_count, attribute_count}
use Rattle.layout.specs.declared.Shape.{Shape}
use Rattle.layout.specs.Bodies.{width_of, shape_of, attributes_start, rows_start, definition_body, particle_body, attribute_body, definitions_in, particles_in, attributes_in}
use Rattle.records.proofs.RecordLaws.{drop_take}
use Rattle.form_index.specs.Reading.{index_form}
use Rattle.row_check.specs.Walking.{bytes_before, before_in, FewIn}

-- a window that ends before the cut
cut_window : (k at n : ℕ) (bs : Bytes) → at + n ≤ k → take n (drop at (take k bs)) ≡ take n (drop at bs)
cut_window k at n bs h = ap (take n) (drop_take at k bs (omega arith)) ∙ take-take n (k - at) (drop at bs) (omega arith)

module _ (bs : Bytes) where
  abbrev start : ℕ
  start = rows_start (shape_of bs)

  number_before : (at : ℕ) → at + 4 ≤ 40 → number_at at 4 (bytes_before bs) ≡ number_at at 4 bs
  unfolding rows_start attributes_start
  number_before at h = ap unle (cut_window start at 4 bs (omega arith))

  pub width_before : width_of (bytes_before bs) ≡ width_of bs
  unfolding width_of
  width_before = ap value_width (number_before 0 (omega arith))

  shape_before : shape_of (bytes_before bs) ≡ shape_of bs
  unfolding shape_of
  shape_before =
      λ i. record {
        version = number_before 0 (omega arith) i;
        width = width_before i;
        definitions = number_before 12 (omega arith) i;
        particles = number_before 20 (omega arith) i;
        attributes = number_before 28 (omega arith) i;
        rows = number_before 36 (omega arith) i;
      }

  definitions_before : definitions_in (bytes_before bs) ≡ definitions_in bs
  unfolding definition_body rows_start attributes_start
  definitions_before =
      ap (λ (s : Shape). definition_body s (bytes_before bs)) shape_before
      ∙ cut_window start header_size (definition_size * (shape_of bs).definitions) bs (omega arith)

  particles_before_lem : particles_in (bytes_before bs) ≡ particles_in bs
  unfolding particle_body rows_start attributes_start
  particles_before_lem =
      ap (λ (s : Shape). particle_body s (bytes_before bs)) shape_before
      ∙ cut_window start (header_size + definition_size * (shape_of bs).definitions) (particle_size * (shape_of bs).particles) bs (omega arith)

  attributes_before : attributes_in (bytes_before bs) ≡ attributes_in bs
  unfolding attribute_body rows_start attributes_start
  attributes_before =
      ap (λ (s : Shape). attribute_body s (bytes_before bs)) shape_before
      ∙ cut_window start (attributes_start (shape_of bs)) (attribute_size (shape_of bs).width * (shape_of bs).attributes) bs (omega arith)

  -- THE BYTES BEFORE say all that the walk reads
  pub before_same : before_in (bytes_before bs) ≡ before_in bs
  before_same =
      λ i. record {
        width = width_before i;
        next = number_before 4 (omega arith) i;
        form = index_form (number_before 0 (omega arith) i) (width_before i) (number_before 12 (omega arith) i) (definitions_before i) (particles_before_lem i) (attributes_before i)
            (number_before 28 (omega arith) i);
      }

  pub few_before : definition_count bs ≤ 64 → attribute_count bs ≤ 64 → FewIn (bytes_before bs)
  few_before n a = record { definitions = omega (arith, number_before 12 (omega arith)); attributes = omega (arith, number_before 28 (omega arith)) }
