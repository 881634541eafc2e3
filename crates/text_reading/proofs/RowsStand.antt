-- The rows that a text shows stand just where the store of the form and the rows passes: the verdict of the walk is
-- that the rows read from their bytes conform (`verdict_says` of `row_check`), the serials are counted, and the rest is
-- `Joined`.
use Prim.Native.Nat.{ℕ, ◌+◌, ◌≤◌, ◌<◌}
use native.Mathlib.Omega.{arith}
use mathlib.Core.Path.{◌≡◌, sym, ap, ◌∙◌, subst}
use mathlib.Core.Logic.{◌↔◌}
use mathlib.Core.Bool.{true, ◌&&◌}
use mathlib.Core.List.Memᴰ
use mathlib.Core.List.{List, [], ◌∷◌, ◌++◌, append-nil, Memᴰ}
use lib.Dec.{leb, ltb, leb→le}
use lib.ListN.{length, take, drop}
use lib.Seq.{take_at, drop_at}
use borrow.Author.Tests.{le-leb, lt-ltb}
use Rattle.rules.specs.Bytes.{Bytes, numbers, to_T, all}
use Rattle.rules.specs.Preorder.{Deep}
use Rattle.rules.specs.Layout.{row_size, row_bytes, each, field, FlatRow}
use Rattle.rules.specs.Decode.{read_row, read_many}
use Rattle.rules.specs.WellFormed.{is_value, highest_number}
use Rattle.rules.specs.Passing.{passes}
use Rattle.rules.proofs.Words.{and_both, and_split}
use Rattle.rules.proofs.BooleanLaws.{Every, every_zip, every_in, every_at, all_of}
use Rattle.rules.proofs.TestLaws.{distinct_test}
use Rattle.rules.proofs.LayoutLaws.{GoodFlatRow, length_row, read_row_lem, read_each, unle_le, take_field}
use Rattle.history.proofs.NumberTests.{range, times}
use Rattle.history.proofs.Numbering.{Spent, spent_distinct, spent_below, spent_more}
use Rattle.reading_rules.proofs.CanonicalGood.{none_spent}
use Rattle.records.specs.Records.{row_fits, serial_fits, each_fits}
use Rattle.records.proofs.RecordLaws.{FittingRow, RowParts, row_parts, row_fits_lem, body_fits_whole}
use Rattle.form_index.specs.Indices.{Documents}
use Rattle.layout.specs.Bodies.{width_of}
use Rattle.row_check.specs.Verdict.{rows_read, verdict, SoundForm, RowsConform}
use Rattle.row_check.specs.Walking.{before_read}
use Rattle.row_check.proofs.MachineLaws.{Within}
use Rattle.row_check.proofs.PassLaws.{verdict_says}
use Rattle.form_index.specs.Reading.{by_index}
use Rattle.store_check.specs.Reading.{RowFits, serials_of_rows, serials_fit}
use Rattle.store_check.proofs.StringChecks.{Headed}
use Rattle.store_check.proofs.CallLaws.{sound_in}
use Rattle.store_check.proofs.BodiesRead.{form_in_lem}
use Rattle.store_check.proofs.StoreFacts.{headed_of}
use Rattle.text_reading.specs.Stages.{rows_stand}
use Rattle.text_reading.proofs.Joined.{RowsJoin}
use Rattle.text_reading.proofs.RowsMade.{RowBounded}

-- ---- serials from 1 on
counted_spent : (n : ℕ) → Spent (1 + n) (range 1 n)
unfolding times
counted_spent n = spent_more n (none_spent 1 (omega arith)) (λ k. omega arith)

pub counted_fit : (n : ℕ) → n ≤ 4096 → serials_fit (1 + n) (range 1 n) ≡ true
unfolding serials_fit
counted_fit n few =
    let s : Spent (1 + n) (range 1 n) = counted_spent n in
    and_both ((distinct_test numbers (range 1 n)).1 (spent_distinct s))
    (and_both (all_of (λ k. leb 1 k && ltb k (1 + n)) (range 1 n) (λ k m. let (a, b) = spent_below s k m in and_both (le-leb 1 k a) (lt-ltb k (1 + n) b)))
    (and_both (le-leb 1 (1 + n) (omega arith)) (le-leb (1 + n) highest_number (omega arith))))

-- ---- rows and their bytes
module _ (w : ℕ) where
  -- a row whose fields fit its bytes
  row_made : (x : Deep FlatRow) → RowBounded w x → x.row.serial < 4294967296 → GoodFlatRow w x
  row_made x m s = record { index = m.index; serial = s; value = m.value }

  rows_back : (xs : List (Deep FlatRow)) → Every (GoodFlatRow w) xs → rows_read w (length xs) (each (row_bytes w) xs) ≡ xs
  rows_back xs g =
      ap (λ (z : Bytes). read_many read_row (row_size w) (length xs) z) (sym (append-nil (each (row_bytes w) xs)))
      ∙ read_each read_row (row_bytes w) (row_size w) (GoodFlatRow w) (length_row w) (read_row_lem w) xs [] g

  -- the test of a row's bytes tells of the row
  fits_told : (x : Deep FlatRow) → GoodFlatRow w x → row_fits w (row_bytes w x) ≡ true → RowFits w x.row
  fits_told x g e =
      let v : Bytes = x.row.value in
      let p : RowParts w (row_bytes w x) = row_parts w (row_bytes w x) e in
      let used : take (length v) (field w v ++ (0 ∷ 0 ∷ [])) ≡ v = take_field w v (0 ∷ 0 ∷ []) g.value in
      record {
        plain = record { low = p.least; high = p.most; text = λ q. sym (unle_le 2 x.row.index g.index) ∙ p.text q };
        value = subst (λ (z : Bytes). is_value w z ≡ true) used p.value;
        element = λ q. sym used ∙ ap (λ (n : ℕ). take n (field w v ++ (0 ∷ 0 ∷ []))) (p.element q);
      }

  -- of all rows, one after the other
  each_told : (xs : List (Deep FlatRow)) → Every (GoodFlatRow w) xs → each_fits (row_fits w) (row_size w) (length xs) (each (row_bytes w) xs) ≡ true → Every (λ x. RowFits w x.row) xs
  unfolding each_fits
  each_told [] g e = tt
  each_told (x ∷ xs) g e =
      let rest : Bytes = each (row_bytes w) xs in
      let first : take (row_size w) (row_bytes w x ++ rest) ≡ row_bytes w x = take_at (row_bytes w x) rest (row_size w) (length_row w x) in
      let others : drop (row_size w) (row_bytes w x ++ rest) ≡ rest = drop_at (row_bytes w x) rest (row_size w) (length_row w x) in
      let (h, t) = and_split (row_fits w (take (row_size w) (row_bytes w x ++ rest))) _ e in (
        fits_told x g.0 (subst (λ (z : Bytes). row_fits w z ≡ true) first h),
        each_told xs g.1 (subst (λ (z : Bytes). each_fits (row_fits w) (row_size w) (length xs) z ≡ true) others t),
      )

  fits_made : (x : Deep FlatRow) → GoodFlatRow w x → RowFits w x.row → FittingRow w x
  fits_made x g r =
      record { least = r.plain.low; most = r.plain.high; value = r.value; element = r.element; text = r.plain.text; index = g.index; serial = g.serial }

  each_made : (xs : List (Deep FlatRow)) → Every (GoodFlatRow w) xs → Every (λ x. RowFits w x.row) xs → each_fits (row_fits w) (row_size w) (length xs) (each (row_bytes w) xs) ≡ true
  each_made xs g r =
      body_fits_whole read_row (row_bytes w) (row_fits w) (row_size w) (length_row w) xs
      (every_zip (GoodFlatRow w) (λ x. RowFits w x.row) (λ x. row_fits w (row_bytes w x) ≡ true) xs (λ x a b. row_fits_lem w x (fits_made x a b)) g r)

-- ---- the rows of a text
-- rows that a text shows, the first with serial 1
pub record Counted (w : ℕ) (xs : List (Deep FlatRow)) : Type 0 where
  pub rows : Every (RowBounded w) xs
  pub serials : serials_of_rows xs ≡ range 1 (length xs)

-- their serials are from 1 and below the one after them
counted_serial : {w : ℕ} {xs : List (Deep FlatRow)} → Counted w xs → (x : Deep FlatRow) → Memᴰ x xs → (1 ≤ x.row.serial) × (x.row.serial < 1 + length xs)
counted_serial {w} {xs} c x m =
    spent_below (counted_spent (length xs)) x.row.serial
    (subst (λ (ks : List ℕ). Memᴰ x.row.serial ks) c.serials (Memᴰ.map (λ (y : Deep FlatRow). y.row.serial) m))

counted_good : (w : ℕ) (xs : List (Deep FlatRow)) → length xs ≤ 4096 → Counted w xs → Every (GoodFlatRow w) xs
counted_good w xs few c = every_in (GoodFlatRow w) xs (λ x m. row_made w x (every_at (RowBounded w) x xs c.rows m) (omega (arith, (counted_serial c x m).1)))

-- .. and below the next serial of the walk
counted_below : (w : ℕ) (xs : List (Deep FlatRow)) → length xs ≤ 4096 → Counted w xs → all (λ x. serial_fits 4097 x.row.serial) xs ≡ true
counted_below w xs few c =
    all_of (λ x. serial_fits 4097 x.row.serial) xs
    (λ x m. let (a, b) = counted_serial c x m in and_both (le-leb 1 x.row.serial a) (lt-ltb x.row.serial 4097 (omega arith)))

within_made : (w : ℕ) (xs : List (Deep FlatRow)) → Every (RowBounded w) xs → Within 256 xs
within_made w [] h = tt
within_made w (x ∷ xs) (h, t) = (h.depth, within_made w xs t)

module _ (bs : Bytes) (q : passes bs ≡ true) (xs : List (Deep FlatRow)) (c : Counted (width_of bs) xs) where
  abbrev bytes : Bytes
  bytes = each (row_bytes (width_of bs)) xs

  sound : SoundForm (by_index bs)
  sound = let d : Headed bs = headed_of q in sound_in d (form_in_lem d q)

  -- the verdict of the walk
  module _ (good : Every (GoodFlatRow (width_of bs)) xs) where
    back : rows_read (width_of bs) (length xs) bytes ≡ xs
    back = rows_back (width_of bs) xs good

    says : (verdict (before_read bs) (length xs) bytes ≡ true) ↔ RowsConform (before_read bs) (length xs) bytes
    says = verdict_says (before_read bs) (length xs) bytes sound (subst (Within 256) (sym back) (within_made (width_of bs) xs c.rows))

  -- they stand: so they join
  pub stand_join : rows_stand bs xs ≡ true → RowsJoin bs xs
  unfolding rows_stand
  stand_join e =
      let (l, v) = and_split (leb (length xs) 4096) _ e in
      let few : length xs ≤ 4096 = leb→le (length xs) 4096 (to_T l) in
      let good : Every (GoodFlatRow (width_of bs)) xs = counted_good (width_of bs) xs few c in
      let conform = (says good).0 v in
      record {
        fields = each_told (width_of bs) xs good conform.fields;
        documents = subst (Documents (by_index bs)) (back good) conform.documents;
        serials = ap (serials_fit (1 + length xs)) c.serials ∙ counted_fit (length xs) few;
        few = few;
      }

  pub join_stand : RowsJoin bs xs → rows_stand bs xs ≡ true
  unfolding rows_stand
  join_stand j =
      let good : Every (GoodFlatRow (width_of bs)) xs = counted_good (width_of bs) xs j.few c in
      let conform : RowsConform (before_read bs) (length xs) bytes =
      record {
        fields = each_made (width_of bs) xs good j.fields;
        serials = ap (all (λ x. serial_fits 4097 x.row.serial)) (back good) ∙ counted_below (width_of bs) xs j.few c;
        documents = subst (Documents (by_index bs)) (sym (back good)) j.documents;
      } in
      and_both (le-leb (length xs) 4096 j.few) ((says good).1 conform)
