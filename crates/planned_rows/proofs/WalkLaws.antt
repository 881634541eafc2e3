-- The walk over the rows of a byte string that passes: what it asks, and the rows that it leaves.
use Prim.Native.Nat.{ℕ, zero, suc, ◌+◌, ◌*◌, ◌<◌, ◌≤◌}
use native.Mathlib.Nat.{mul-suc}
use native.Mathlib.Omega.{arith}
use mathlib.Core.Path.{◌≡◌, ap, ◌∙◌, sym, subst}
use mathlib.Core.Bool.{true}
use mathlib.Core.List.{List}
use lib.ListN.{length, take, drop, length-drop}
use lib.Seq.{length-take-le}
use Rattle.std.specs.Prelude.{IfSome}
use Rattle.rules.specs.Bytes.{Bytes}
use Rattle.rules.specs.Preorder.{Deep}
use Rattle.rules.specs.Layout.{row_size, FlatRow, FlatStore, flat}
use Rattle.rules.specs.Decode.{number_at, read_row, read_many, row_count}
use Rattle.rules.specs.WellFormed.{is_value}
use Rattle.rules.specs.Passing.{passes}
use Rattle.rules.proofs.Words.{and_split}
use Rattle.rules.proofs.BooleanLaws.{Every}
use Rattle.rules.proofs.LayoutLaws.{Small}
use Rattle.rules.proofs.DecodeLaws.{value_width_lem, good_parts}
use Rattle.records.specs.Records.{row_fits, each_fits}
use Rattle.records.proofs.RecordLaws.{small_take, small_drop, row_canonical}
use Rattle.store_check.proofs.StringChecks.{Headed, laid_in, rows_whole, rows_small}
use Rattle.store_check.proofs.BodiesRead.{rows_fit_lem, read_form_lem, read_attribute_lem, read_rows_lem}
use Rattle.store_check.proofs.StoreFacts.{headed_of}
use Rattle.lookup.specs.Bodies.{bodies_of}
use Rattle.layout.specs.Bodies.{Width, width_of, Number, tree_rows_in}
use Rattle.layout.proofs.LayoutLaws.{width_small}
use Rattle.row_writer.specs.declared.Cursor.{Cursor}
use Rattle.row_writer.specs.Written.{new_in, Written, Room}
use Rattle.row_writer.proofs.WrittenLaws.{written_as}
use Rattle.filling.specs.Fillings.{filling_rows}
use Rattle.row_walk.specs.declared.Plan.{Plan}
use Rattle.row_walk.specs.Walk.{walked, at_first}
use Rattle.filling.specs.Parts.{value_of, value_in, members_read_at}
use Rattle.form_index.specs.Reading.{index_form}
use Rattle.layout.specs.declared.Form.{Form}
use Rattle.layout.specs.Form.{FormOf}
use Rattle.walk_writer.specs.Step.{plan_filling, Ready, WalkRows}
use Rattle.row_bound.specs.declared.Most.{Most}
use Rattle.row_bound.specs.Bound.{counted_to, Bounds}
use Rattle.store_laws.specs.Stores.{store_in}
use Rattle.planned_rows.specs.Planned.{fill_of, rows_after}
use Rattle.planned_rows.specs.Walking.{walk_from, Sized}
use Rattle.store_laws.proofs.StoreLaws.{holds}
use Rattle.planned_rows.proofs.PartLaws.{members_at_lem}
use Rattle.store_laws.proofs.RowBounds.{Bounded, rows_bounded}
use Rattle.codec.proofs.Records.{length_many}
use Rattle.layout.specs.Fields.{next_at}

-- ---- rows that fit and are bounded
walk_rows : (w count : ℕ) (s : Bytes) → Small s → row_size w * count ≤ length s → each_fits (row_fits w) (row_size w) count s ≡ true
    → Every Bounded (read_many read_row (row_size w) count s) → WalkRows w count s
unfolding WalkRows each_fits
walk_rows w zero s a l e b = tt
walk_rows w (suc count) s a l e b =
    let (f, g) = and_split (row_fits w (take (row_size w) s)) (each_fits (row_fits w) (row_size w) count (drop (row_size w) s)) e in
    let long : row_size w + row_size w * count ≤ length s = omega (arith, mul-suc (row_size w) count) in
    let size : length (take (row_size w) s) ≡ row_size w = length-take-le (row_size w) s (omega arith) in (
      record {
        old = record { written = row_canonical w (take (row_size w) s) (small_take (row_size w) a) size f; old = b.0.serial };
        depth = omega (arith, b.0.depth);
        index = omega (arith, b.0.index);
      },
      walk_rows w count (drop (row_size w) s) (small_drop (row_size w) a) (omega (arith, length-drop (row_size w) s)) g b.1,
    )

-- ---- a byte string that passes
-- the form and the rows that are read off it
pub record Reads (bs : Bytes) (F : Form) (rows : Bytes) (count : ℕ) : Type 0 where
  pub form : FormOf bs F
  pub rows_is : rows ≡ tree_rows_in bs
  pub count_is : count ≡ row_count bs

pub reads_of : {bs : Bytes} {F : Form} {rows : Bytes} {count : ℕ} → FormOf bs F → rows ≡ tree_rows_in bs → Number (row_count bs) count → Reads bs F rows count
reads_of f e n = record { form = f; rows_is = e; count_is = n.value }

module _ {bs : Bytes} (q : passes bs ≡ true) {F : Form} {rows : Bytes} {count : ℕ} (x : Reads bs F rows count) where
  h : Headed bs
  h = headed_of q

  abbrev w : ℕ
  w = F.width

  pub walk_ready : {v : Bytes} {p : Plan} → is_value (width_of bs) v ≡ true → Sized p → Ready F v p
  walk_ready {v} t p =
      record {
        width = omega (arith, x.form.width, width_small bs);
        definitions = omega (arith, x.form.definition_count, (laid_in h).bodies.definition_body.few);
        attributes = omega (arith, x.form.attribute_count, (laid_in h).bodies.attribute_body.few);
        text = omega (arith, x.form.width, value_width_lem (width_of bs) v t);
        plan = p.moves;
        filling = p.filling;
      }

  pub walk_whole : row_size w * count ≤ length rows
  walk_whole =
      let e : row_size w * count ≡ row_size (width_of bs) * row_count bs = λ i. row_size (x.form.width i) * x.count_is i in
      omega (arith, ap (λ (s : Bytes). length s) x.rows_is, e, rows_whole h)

  pub walk_asked : WalkRows w count rows
  unfolding bodies_of width_of
  walk_asked =
      let b : read_many read_row (row_size (width_of bs)) (row_count bs) (tree_rows_in bs) ≡ (flat (store_in bs)).rows = read_rows_lem h ∙ ap (λ (f : FlatStore). f.rows) (holds bs q).bodies in
      subst (λ (s : Bytes). WalkRows w count s) (sym x.rows_is)
      (subst (λ (k : ℕ). WalkRows w k (tree_rows_in bs)) (sym x.count_is)
      (subst (λ (k : ℕ). WalkRows k (row_count bs) (tree_rows_in bs)) (sym x.form.width)
      (walk_rows (width_of bs) (row_count bs) (tree_rows_in bs) (rows_small h) (omega (arith, rows_whole h)) (rows_fit_lem h q)
      (subst (λ (ys : List (Deep FlatRow)). Every Bounded ys) (sym b) (rows_bounded (store_in bs) (holds bs q).good)))))

  -- the filling of the walk is that of the plan
  fill_after : (p : Plan) (v : Bytes) (d : ℕ) → plan_filling F p v d ≡ fill_of p v (bodies_of bs) d
  unfolding bodies_of width_of
  fill_after p v d =
      (λ i. filling_rows
      (index_form (x.form.version i) (x.form.width i) (x.form.definition_count i) (x.form.definitions i) (x.form.particles i) (x.form.attributes i) (x.form.attribute_count i))
      (λ j. value_in (x.form.width i) (x.form.attributes i) j) (λ k e. members_read_at (x.form.particles i) k e) p.filling v d)
      ∙ (λ i. filling_rows (read_form_lem h q i) (λ j. value_of (read_attribute_lem h q j i)) (λ k e. members_at_lem h k e i) p.filling v d)

  -- the rows that the walk leaves are those after the plan
  rows_after_lem : (p : Plan) (v : Bytes) → rows_after p v (bodies_of bs) ≡ walked p v (plan_filling F p v) (at_first p) (read_many read_row (row_size w) count rows)
  unfolding rows_after bodies_of width_of
  rows_after_lem p v =
      sym
      ((λ i. walked p v (λ d. fill_after p v d i) (at_first p) (read_many read_row (row_size (x.form.width i)) (x.count_is i) (x.rows_is i)))
      ∙ (λ i. walked p v (fill_of p v (bodies_of bs)) (at_first p) (read_rows_lem h i)))

  -- .. and written from the serials of the store on
  pub walk_from_lem : (p : Plan) (v : Bytes) {at next : ℕ} {out : Bytes} {r : Cursor} {out' : Bytes} → Number (number_at next_at 4 bs) next
      → Written w (walked p v (plan_filling F p v) (at_first p) (read_many read_row (row_size w) count rows))
      (record { at = at; left = 4097; serial = next }) out r out'
      → Written (width_of bs) (rows_after p v (bodies_of bs)) (walk_from at bs) out r out'
  walk_from_lem p v {at} {next} {out} {r} {out'} m d =
      let xs : List (Deep FlatRow) = walked p v (plan_filling F p v) (at_first p) (read_many read_row (row_size w) count rows) in
      written_as (rows_after_lem p v)
      (subst (λ (k : ℕ). Written k xs (walk_from at bs) out r out') x.form.width
      (subst (λ (k : ℕ). Written w xs (record { at = at; left = 4097; serial = k }) out r out') m.value d))

  -- .. and what is added to the rows of the store
  pub rows_added : (p : Plan) (v : Bytes) {m : Most}
      → Bounds (walked p v (plan_filling F p v) (at_first p) (read_many read_row (row_size w) count rows)) (plan_filling F p v 0) count m
      → Bounds (rows_after p v (bodies_of bs)) (fill_of p v (bodies_of bs) 0) (row_count bs) m
  rows_added p v {m = m} y =
      record {
        adds = record {
          few = y.adds.few;
          rows = λ h. omega (arith, y.adds.rows h, ap length (rows_after_lem p v), x.count_is);
          new = λ h. omega (arith, y.adds.new h, ap new_in (rows_after_lem p v));
        };
        one = subst (λ (ys : List (Deep FlatRow)). IfSome m.one (λ k. (1 ≤ k) × (k ≡ counted_to ys))) (fill_after p v 0) y.one;
      }

  -- there are no more rows than the ceiling allows
  pub rows_few : count ≤ 4096
  unfolding bodies_of width_of
  rows_few =
      omega (
        arith,
        x.count_is,
        length_many read_row (row_size (width_of bs)) (row_count bs) (tree_rows_in bs),
        ap (λ (ys : List (Deep FlatRow)). length ys) (read_rows_lem h),
        ap (λ (f : FlatStore). length f.rows) (holds bs q).bodies,
        (good_parts (store_in bs) (holds bs q).good).row_count,
      )

pub walk_room : {w at n next : ℕ} → Width w → at < 549755813888 → Number n next → Room w (record { at = at; left = 4097; serial = next })
walk_room h l m = record { places = omega arith; serials = omega (arith, m.small) }
