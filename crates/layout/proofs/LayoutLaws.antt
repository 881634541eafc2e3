-- The layout at any width: products, windows, and what the fields read.
use mathlib.Core.Path.{◌≡◌, refl, sym, ap, ◌∙◌}
use mathlib.Core.Bool.{true, ◌&&◌}
use lib.Dec.{eqb}
use mathlib.Core.List.{[], ◌∷◌}
use Prim.Native.Nat.{ℕ, zero, suc, ◌+◌, ◌-◌, ◌*◌, ◌<◌, ◌≤◌}
use native.Mathlib.Omega.{arith}
use native.Mathlib.Nat.{mul-le-mul, mul-suc, mul-zero}
use lib.ListN.{length, take, drop, get_or, length-take, length-drop, drop_of_length-le}
use lib.Seq.{get_or-take, get_or-drop, take-nil, take_all, take-take, drop-drop}
use Rattle.rules.specs.Bytes.{Bytes}
use Rattle.rules.specs.Store.{Store}
use Rattle.rules.specs.Layout.{value_width, header_size, definition_size, particle_size, attribute_size, row_size, FlatStore, flat, encode}
use Rattle.rules.specs.Passing.{good}
use Rattle.rules.specs.Decode.{unle, number_at, version_in, read_definition, read_particle, read_attribute, read_row, read_many, definition_count, particle_count, attribute_count, row_count, read_flat}
use Rattle.rules.proofs.LayoutLaws.{read_bytes}
use Rattle.rules.proofs.DecodeLaws.{width_bound, width_most, good_flat}
use Rattle.codec.proofs.Records.{many_at, many_within, drop_take}
use Rattle.layout.specs.declared.Shape.{Shape}
use Rattle.layout.specs.Fields.{row_unused_at, row_value_at, unused_fit}
use Rattle.layout.specs.Bodies.{window_of, Product, record_at, width_of, WidthIn, Number, ShapeFits, shape_of, ShapeOf, attributes_start, rows_start, Place}
use Rattle.layout.specs.Bodies.{definition_body, particle_body, attribute_body, row_body, attribute_bytes_in}

-- ---- products
pub product : (size n : ℕ) → size < 65536 → n < 4294967296 → Product size n (size * n)
product size n h g =
    let k : size * n ≤ 65535 * 4294967295 = mul-le-mul {n₁ = size} {m₁ = n} {n₂ = 65535} {m₂ = 4294967295} (omega arith) (omega arith) in
    record { value = refl; small = omega arith }

-- room for m records is room for the first, and past it for the others
module _ (size m n : ℕ) (h : m ≡ 0 → ⊥) (g : size * m ≤ n) where
  room_split : size * m ≡ size * (m - 1) + size
  room_split = let e : m ≡ suc (m - 1) = by m h in ap (λ (k : ℕ). size * k) e ∙ mul-suc size (m - 1)
    where
      by : (k : ℕ) → (k ≡ 0 → ⊥) → k ≡ suc (k - 1)
      by zero f = absurd (f refl)
      by (suc k) f = omega arith

  pub room_first : size ≤ n
  room_first = omega (arith, room_split, g)

  pub room_rest : size * (m - 1) ≤ n - size
  room_rest = omega (arith, room_split, g)

-- where the rows begin, and where they end
module _ (w n p a : ℕ) (size start t : ℕ) where
  pub attributes_through : n < 4294967296 → p < 4294967296 → size ≡ attribute_size w → Place (header_size + definition_size * n + particle_size * p) start → Product size a t
      → Place (header_size + definition_size * n + particle_size * p + attribute_size w * a) (start + t)
  attributes_through h g e s m =
      let k : t ≡ attribute_size w * a = m.value ∙ ap (λ (x : ℕ). x * a) e in
      record { value = (λ i. s.value i + k i); small = omega (arith, s.value, m.small) }

  pub rows_through : (m : ℕ) → size ≡ row_size w → Place (header_size + definition_size * n + particle_size * p + attribute_size w * a) start → Product size m t
      → start + t ≡ header_size + (definition_size * n + (particle_size * p + (attribute_size w * a + row_size w * m)))
  rows_through m e s q =
      let k : t ≡ row_size w * m = q.value ∙ ap (λ (x : ℕ). x * m) e in
      omega (arith, s.value, k)

-- ---- windows
module _ (s : Bytes) (at n : ℕ) where
  pub window_past : length s < at → [] ≡ window_of at n s
  window_past h = rw (drop_of_length-le s {i = at} (omega arith), take-nil)

  pub window_short : length s - at < n → take (length s - at) (drop at s) ≡ window_of at n s
  window_short h =
      take_all (length s - at) (drop at s) (omega (arith, length-drop at s)) ∙ sym (take_all n (drop at s) (omega (arith, length-drop at s)))

  pub window_whole : take (at + n - at) (drop at s) ≡ window_of at n s
  window_whole = let e : at + n - at ≡ n = omega arith in rw e

-- all that stands from a place on
pub cut_past : (s : Bytes) (n : ℕ) → take (length s) (drop n s) ≡ drop n s
cut_past s n = take_all (length s) (drop n s) (omega (arith, length-drop n s))

pub length_cut : (s r : Bytes) (k n : ℕ) → r ≡ take n (drop k s) → length r ≤ length s
length_cut s r k n e = omega (arith, ap (λ (z : Bytes). length z) e, length-take n (drop k s), length-drop k s)

pub record_window : (s r : Bytes) (size i p : ℕ) → Product size i p → r ≡ window_of p size s → r ≡ record_at size i s
record_window s r size i p x e = e ∙ ap (λ (k : ℕ). window_of k size s) x.value

-- the window that a callee's number gave
pub window_by : (s r : Bytes) (at n m k : ℕ) → m ≡ k → n ≡ m → r ≡ window_of at n s → r ≡ take k (drop at s)
window_by s r at n m k e g h = h ∙ ap (λ (j : ℕ). window_of at j s) (g ∙ e)

-- ---- fields that stand after another
pub number_after : (k at n : ℕ) (s : Bytes) → number_at at n (drop k s) ≡ number_at (k + at) n s
number_after k at n s = rw (drop-drop at k s)

pub attribute_value_by : (s r : Bytes) (n m : ℕ) → m ≡ get_or s 19 0 → n ≡ m → r ≡ window_of 20 n s → r ≡ (read_attribute s).value
attribute_value_by s r n m e g h = window_by s r 20 n m (get_or s 19 0) e g h ∙ rw (drop-drop 2 18 s, get_or-drop 18 s 1 0)

-- the bytes of a row that no field has
pub unused_of : (w : ℕ) (bs : Bytes) (x y z : ℕ) → x ≡ get_or bs row_unused_at 0 → y ≡ get_or bs (row_value_at + w) 0 → z ≡ get_or bs (row_value_at + 1 + w) 0 → (eqb x 0 && (eqb y 0 && eqb z 0)) ≡ unused_fit w bs
unfolding unused_fit
unused_of w bs x y z p q r = λ i. eqb (p i) 0 && (eqb (q i) 0 && eqb (r i) 0)

-- ---- the shape
pub shaped : {bs : Bytes} {v w d p a r : ℕ} → v ≡ version_in bs → w ≡ value_width v → Number (definition_count bs) d → Number (particle_count bs) p
    → Number (attribute_count bs) a → Number (row_count bs) r
    → ShapeOf bs (record { version = v; width = w; definitions = d; particles = p; attributes = a; rows = r })
unfolding shape_of width_of
shaped {v = v} e g d p a r =
    record {
      is = λ i. record { version = e i; width = (g ∙ ap value_width e) i; definitions = d.value i; particles = p.value i; attributes = a.value i; rows = r.value i };
      sized = record { width = omega (arith, g, width_bound v); definitions = d.small; particles = p.small; attributes = a.small; rows = r.small };
    }

pub width_small : (bs : Bytes) → width_of bs < 256
unfolding width_of
width_small bs = width_bound (version_in bs)

-- what the bytes of a form are bounded by
pub width_within : (bs : Bytes) → width_of bs ≤ 96
unfolding width_of
width_within bs = width_most (version_in bs)

pub width_in_lem : {bs : Bytes} {v r : ℕ} → v ≡ version_in bs → r ≡ value_width v → WidthIn bs r
unfolding width_of
width_in_lem {v = v} e g = record { value = g ∙ ap value_width e; small = omega (arith, g, width_bound v) }

-- the width of a store's own encoding
pub version_read : (s : Store) → good s ≡ true → width_of (encode s) ≡ value_width s.version
unfolding width_of
version_read s g = ap (λ (f : FlatStore). value_width f.version) (read_bytes (value_width s.version) (flat s) (good_flat s g))

pub attributes_place : (s : Shape) → ShapeFits s → Place (attributes_start s) (40 + 20 * s.definitions + 4 * s.particles)
unfolding attributes_start
attributes_place s h = record { value = refl; small = omega (arith, h.definitions, h.particles) }

pub rows_place : (s : Shape) (x p : ℕ) → ShapeFits s → Place (attributes_start s) x → Product (20 + s.width) s.attributes p → Place (rows_start s) (x + p)
unfolding attributes_start rows_start
rows_place s x p h a m = record { value = omega (arith, a.value, m.value); small = omega (arith, a.value, h.definitions, h.particles, m.small) }

pub definitions_window : (s : Shape) (bs r : Bytes) → r ≡ window_of 40 (20 * s.definitions) bs → r ≡ definition_body s bs
unfolding definition_body
definitions_window s bs r e = e

pub particles_window : (s : Shape) (bs r : Bytes) → r ≡ window_of (40 + 20 * s.definitions) (4 * s.particles) bs → r ≡ particle_body s bs
unfolding particle_body
particles_window s bs r e = e

pub attributes_window : (s : Shape) (bs r : Bytes) (x p : ℕ) → Place (attributes_start s) x → Product (20 + s.width) s.attributes p → r ≡ window_of x p bs → r ≡ attribute_body s bs
unfolding attribute_body
attributes_window s bs r x p a m e = e ∙ (λ i. window_of (a.value i) (m.value i) bs)

pub rows_window : (s : Shape) (bs r : Bytes) (x p : ℕ) → Place (rows_start s) x → Product (12 + s.width) s.rows p → r ≡ window_of x p bs → r ≡ row_body s bs
unfolding row_body
rows_window s bs r x p a m e = e ∙ (λ i. window_of (a.value i) (m.value i) bs)

-- a body by the shape that was read is the body by the string's own shape
pub by_shape : (body : Shape → Bytes → Bytes) (bs : Bytes) {s : Shape} {r : Bytes} → ShapeOf bs s → r ≡ body s bs → r ≡ body (shape_of bs) bs
by_shape body bs s e = e ∙ ap (λ (z : Shape). body z bs) s.is

-- ---- what the bodies hold
-- record number i of those that are read
pub record_read : {A : Type 0} (f : Bytes → A) (size count i : ℕ) (s : Bytes) (none : A) → i < count → get_or (read_many f size count s) i none ≡ f (record_at size i s)
record_read f size count i s none h = many_at f size i count s none h

-- the first record, and the others
pub record_first : (size : ℕ) (s : Bytes) → take size s ≡ record_at size 0 s
record_first size s = rw mul-zero

pub record_after : (size i : ℕ) (s : Bytes) → record_at size i (drop size s) ≡ record_at size (suc i) s
record_after size i s = let e : size + size * i ≡ size * suc i = omega (arith, mul-suc size i) in rw (drop-drop (size * i) size s, e)

pub rows_read_lem : (bs : Bytes) → read_many read_row (row_size (width_of bs)) (row_count bs) (row_body (shape_of bs) bs) ≡ (read_flat (width_of bs) bs).rows
unfolding row_body rows_start attributes_start shape_of
rows_read_lem bs = many_within read_row (row_size (width_of bs)) (row_count bs) (drop (rows_start (shape_of bs)) bs) ∙ simp drop-drop

pub attributes_read : (bs : Bytes) → read_many read_attribute (attribute_size (width_of bs)) (attribute_count bs) (attribute_body (shape_of bs) bs) ≡ (read_flat (width_of bs) bs).attributes
unfolding attribute_body attributes_start shape_of
attributes_read bs = many_within read_attribute (attribute_size (width_of bs)) (attribute_count bs) (drop (attributes_start (shape_of bs)) bs) ∙ simp drop-drop

-- ---- one record of the whole string
pub attribute_window : {bs : Bytes} {w d p x : ℕ} (i : ℕ) (r : Bytes) → WidthIn bs w → Number (definition_count bs) d → Number (particle_count bs) p → Product (20 + w) i x
    → r ≡ window_of (40 + 20 * d + 4 * p + x) (20 + w) bs → r ≡ attribute_bytes_in bs i
unfolding attribute_bytes_in
attribute_window {bs} i r width definitions particles product e =
    e
    ∙ (λ j. window_of (40 + 20 * definitions.value j + 4 * particles.value j + (product.value ∙ ap (λ (v : ℕ). (20 + v) * i) width.value) j) (20 + width.value j) bs)

-- a part of a front of the string
part_within : (at k size : ℕ) (s : Bytes) → at + k ≤ size → take k (drop at (take size s)) ≡ take k (drop at s)
part_within zero k size s h = take-take k size s (omega arith)
part_within (suc at) k zero s h = absurd (omega arith)
part_within (suc at) k (suc size) [] h = refl
part_within (suc at) k (suc size) (x ∷ s) h = part_within at k size s (omega arith)

-- the serial of a row, by its place in the body
pub serial_placed : (w i p : ℕ) (s : Bytes) {r : ℕ} → Product (12 + w) i p → r ≡ number_at (p + 4) 4 s → r ≡ (read_row (record_at (row_size w) i s)).row.serial
serial_placed w i p s x e =
    let m : ℕ = row_size w * i in
    e ∙ ap (λ (k : ℕ). number_at (k + 4) 4 s) x.value ∙ sym (ap unle (part_within 4 4 (row_size w) (drop m s) (omega arith)) ∙ number_after m 4 4 s)

-- ---- the other two bodies
pub definitions_read_lem : (bs : Bytes) → read_many read_definition definition_size (definition_count bs) (definition_body (shape_of bs) bs) ≡ (read_flat (width_of bs) bs).definitions
unfolding definition_body shape_of
definitions_read_lem bs = many_within read_definition definition_size (definition_count bs) (drop header_size bs)

pub particles_read_lem : (bs : Bytes) → read_many read_particle particle_size (particle_count bs) (particle_body (shape_of bs) bs) ≡ (read_flat (width_of bs) bs).particles
unfolding particle_body shape_of
particles_read_lem bs = many_within read_particle particle_size (particle_count bs) (drop (header_size + definition_size * definition_count bs) bs) ∙ simp drop-drop

-- ---- fields of record i, where they stand in the body
pub field_at : (size i k : ℕ) (s : Bytes) → k < size → get_or (record_at size i s) k 0 ≡ get_or s (size * i + k) 0
field_at size i k s h = get_or-take size (drop (size * i) s) k 0 h ∙ get_or-drop (size * i) s k 0

-- the byte that a callee read there
pub field_by : (size i k : ℕ) (s : Bytes) {r b : ℕ} → k < size → b ≡ get_or s (size * i + k) 0 → r ≡ b → r ≡ get_or (record_at size i s) k 0
field_by size i k s h e g = g ∙ e ∙ sym (field_at size i k s h)

pub particles_at_lem : (i : ℕ) (s : Bytes) → number_at (definition_size * i + 18) 2 s ≡ (read_definition (record_at definition_size i s)).particles
particles_at_lem i s =
    ap unle
    (sym
    (ap (λ (t : Bytes). take 2 t) (drop-drop 1 17 (record_at definition_size i s) ∙ drop_take 18 2 (drop (definition_size * i) s) ∙ ap (λ (t : Bytes). take 2 t) (drop-drop 18 (definition_size * i) s))
    ∙ take-take 2 2 (drop (definition_size * i + 18) s) (omega arith)))

pub first_field_by : (size i : ℕ) (s : Bytes) {r b : ℕ} → 0 < size → b ≡ get_or s (size * i) 0 → r ≡ b → r ≡ get_or (record_at size i s) 0 0
first_field_by size i s h e g = let z : size * i ≡ size * i + 0 = omega arith in field_by size i 0 s h (e ∙ ap (λ (k : ℕ). get_or s k 0) z) g

-- ---- a text is no longer than its record, an attribute's value no longer than its field
module _ (s : Bytes) where
  pub definition_name_short : length (read_definition s).name ≤ length s
  definition_name_short = omega (arith, length-take (get_or s 0 0) (drop 1 s), length-drop 1 s)

  pub attribute_name_short : length (read_attribute s).name ≤ length s
  attribute_name_short = omega (arith, length-take (get_or s 1 0) (drop 2 s), length-drop 2 s)

  pub attribute_value_short : (w : ℕ) → length s ≤ attribute_size w → length (read_attribute s).value ≤ w
  attribute_value_short w h = omega (arith, length-take (get_or (drop 18 s) 1 0) (drop 2 (drop 18 s)), length-drop 2 (drop 18 s), length-drop 18 s)

  pub row_value_short : length (read_row s).row.value ≤ length s
  row_value_short = omega (arith, length-take (get_or s 8 0) (drop 10 s), length-drop 10 s)
