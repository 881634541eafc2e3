-- The store after a plan by its bodies: its size, its header's numbers, its bytes.
use Prim.Native.Nat.{ℕ, ◌+◌, ◌-◌, ◌*◌, ◌≤◌}
use native.Mathlib.Omega.{arith}
use mathlib.Core.Path.{◌≡◌, refl, ap, ◌∙◌, sym}
use mathlib.Core.Bool.{Bool, true, false, not}
use mathlib.Core.List.{List, ◌++◌}
use lib.Dec.{leb, ltb}
use lib.ListN.{length, length-append}
use borrow.Author.Tests.{lt-ltb, le-ltb, leb-true, leb-false}
use Rattle.rules.specs.Bytes.{Bytes}
use Rattle.rules.specs.Preorder.{Deep}
use Rattle.rules.specs.Layout.{value_width, FlatRow, FlatStore, header_size, row_size, flat_bytes, row_bytes, each}
use Rattle.rules.specs.Decode.{number_at}
use Rattle.rules.specs.WellFormed.{within_ceilings}
use Rattle.rules.proofs.LayoutLaws.{length_row, length_each}
use Rattle.codec.specs.Laid.{Laid}
use Rattle.codec.proofs.Writers.{laid_as}
use Rattle.lookup.specs.Bodies.{bodies_of}
use Rattle.layout.specs.Bodies.{width_of, WidthIn}
use Rattle.layout.specs.Header.{headed}
use Rattle.row_writer.specs.declared.Cursor.{Cursor}
use Rattle.row_writer.specs.Written.{new_in, numbered, rows_bytes, Written}
use Rattle.row_writer.proofs.WrittenLaws.{written_fitting, length_numbered}
use Rattle.row_walk.specs.declared.Plan.{Plan}
use Rattle.plan_writer.specs.Heads.{Heads}
use Rattle.planned_rows.specs.Planned.{rows_after, planned_in}
use Rattle.store_laws.specs.Forms.{form_read, reformed, Forms}
use Rattle.planned_rows.specs.Walking.{walk_from}
use Rattle.store_laws.proofs.StoreLaws.{Holds, width_of_bodies}
use Rattle.store_limits.proofs.WithinLaws.{Within}
use Rattle.plan_writer.proofs.OrderLaws.{laid_before}
use Rattle.store_laws.proofs.FormBytesLaws.{count_definitions, count_particles, count_attributes, Few, few_of, few_definitions, few_particles, few_attributes, form_short}
use Rattle.store_laws.proofs.FormBytesLaws.{whole, ceilings_rows, reformed_length, reformed_bytes}
use Rattle.layout.specs.Fields.{next_at}
use Rattle.store_laws.proofs.Encoded.{own_serial}

-- the numbers of the header of a store with such a form
pub heads_of : {w : ℕ} {form : Bytes} {d p a : ℕ} → Forms w form d p a → {next r : ℕ} → w ≤ 96 → next ≤ 4294967295 → r ≤ 4096 → Heads form next d p a r
heads_of {w} {form} {d} {p} {a} x h n m =
    let few : Few (form_read w form d p a) = few_of (form_read w form d p a) x.ceilings in
    record {
      serial = omega arith;
      definitions = omega (arith, count_definitions w form d p a, few_definitions few);
      particles = omega (arith, count_particles w form d p a, few_particles few);
      attributes = omega (arith, count_attributes w form d p a, few_attributes few);
      rows = m;
      short = form_short x h;
    }

module _ {bs : Bytes} (h : Holds bs) {form : Bytes} {d p a : ℕ} (x : Forms (width_of bs) form d p a) (plan : Plan) (v : Bytes) where
  abbrev pub f : FlatStore
  f = bodies_of bs

  abbrev pub xs : List (Deep FlatRow)
  xs = rows_after plan v f

  abbrev pub next : ℕ
  next = f.next + new_in xs

  abbrev pub after : FlatStore
  after = planned_in (form_read (width_of bs) form d p a) plan v f

  after_is : after ≡ reformed f (form_read (width_of bs) form d p a) next (numbered f.next xs)
  unfolding planned_in
  after_is = refl

  ceilings : within_ceilings after ≡ leb (length xs) 4096
  ceilings =
      ap within_ceilings after_is ∙ ceilings_rows f (form_read (width_of bs) form d p a) next (numbered f.next xs) x.ceilings ∙ ap (λ (n : ℕ). leb n 4096) (length_numbered f.next xs)

  next_after : after.next ≡ next
  unfolding planned_in
  next_after = refl

  -- a plan keeps the version
  pub width_after : value_width after.version ≡ width_of bs
  unfolding planned_in
  width_after = width_of_bodies bs

  pub size : length (flat_bytes (value_width after.version) after) ≡ header_size + length form + row_size (width_of bs) * length xs
  size =
      ap (λ (w : ℕ). length (flat_bytes w after)) width_after
      ∙ ap (λ (z : FlatStore). length (flat_bytes (width_of bs) z)) after_is
      ∙ reformed_length x f next (numbered f.next xs)
      ∙ ap (λ (n : ℕ). header_size + length form + row_size (width_of bs) * n) (length_numbered f.next xs)

  bytes : flat_bytes (value_width after.version) after ≡ (headed (width_of bs) next d p a (length xs) bs ++ form) ++ rows_bytes (width_of bs) f.next xs
  unfolding rows_bytes
  bytes =
      ap (λ (w : ℕ). flat_bytes w after) width_after
      ∙ ap (flat_bytes (width_of bs)) after_is
      ∙ reformed_bytes x f next (numbered f.next xs) (whole h)
      ∙ ap (λ (n : ℕ). (headed (width_of bs) next d p a n bs ++ form) ++ each (row_bytes (width_of bs)) (numbered f.next xs)) (length_numbered f.next xs)

  -- the number of rows is past the ceiling
  pub past : not (within_ceilings after) ≡ ltb 4096 (length xs)
  past = ap not ceilings ∙ by (leb (length xs) 4096) refl
    where
      by : (b : Bool) → leb (length xs) 4096 ≡ b → not b ≡ ltb 4096 (length xs)
      by true q = sym (le-ltb 4096 (length xs) (leb-true (length xs) 4096 q))
      by false q = sym (lt-ltb 4096 (length xs) (leb-false (length xs) 4096 q))

  pub next_is : after.next ≡ number_at next_at 4 bs + new_in xs
  next_is = next_after ∙ ap (λ (n : ℕ). n + new_in xs) (sym (own_serial bs))

  -- ---- the rows were written after the place of the header and the form, then these
  module _ {room : ℕ} (i : Within (width_of bs) (length form) (length xs) (number_at next_at 4 bs + new_in xs) room)
      {start : ℕ} {out : Bytes} {r : Cursor} {out₁ : Bytes} (w : Written (width_of bs) xs (walk_from start bs) out r out₁) where
    pub count_is : 4097 - r.left ≡ length xs
    count_is = omega (arith, w.left, i.rows)

    pub serial_is : r.serial ≡ number_at next_at 4 bs + new_in xs
    serial_is = (w.fitted (omega (arith, i.rows))).serial

    start_is : header_size + length form ≡ length (headed (width_of bs) next d p a (length xs) bs ++ form)
    unfolding rows_bytes
    start_is =
        omega (
          arith,
          size,
          ap length bytes,
          length-append (headed (width_of bs) next d p a (length xs) bs ++ form) (rows_bytes (width_of bs) f.next xs),
          length_each (row_bytes (width_of bs)) (row_size (width_of bs)) (length_row (width_of bs)) (numbered f.next xs),
          ap (λ (n : ℕ). row_size (width_of bs) * n) (length_numbered f.next xs),
        )

    pub edited_laid : start ≡ header_size + length form → {wide at' : ℕ} {out' : Bytes} → WidthIn bs wide → Laid (headed wide r.serial d p a (4097 - r.left) bs ++ form) out₁ 0 at' out'
        → Laid (flat_bytes (width_of bs) after) out 0 r.at out'
    edited_laid s {wide = wide} v laid =
        let front : headed (width_of bs) next d p a (length xs) bs ++ form ≡ headed wide r.serial d p a (4097 - r.left) bs ++ form =
        λ j. headed (sym v.value j) ((ap (λ (n : ℕ). n + new_in xs) (sym (own_serial bs)) ∙ sym serial_is) j) d p a (sym count_is j) bs ++ form in
        laid_as (ap (λ (w : ℕ). flat_bytes w after) (sym width_after) ∙ bytes)
        (laid_before (laid_as (λ j. rows_bytes (width_of bs) (sym (own_serial bs) j) xs) (written_fitting w (omega (arith, i.rows)))) (s ∙ start_is) (laid_as front laid))
