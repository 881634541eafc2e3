-- Laws of the look-up.
use mathlib.Core.Path.{◌≡◌, refl, sym, ap, ap₂, ◌∙◌, subst}
use mathlib.Core.Bool.{Bool, true, false, false≢true}
use mathlib.Core.Option.{Option, none, some, some-injective}
use mathlib.Core.List.{List, [], ◌∷◌}
use Prim.Native.Nat.{ℕ, zero, suc, ◌+◌, ◌-◌, ◌*◌, ◌<◌, ◌≤◌}
use native.Mathlib.Omega.{arith}
use native.Mathlib.Nat.{mul-suc, mul-zero, add-zero, zero-add}
use native.Mathlib.Numerals.{add-one}
use borrow.Author.Tests.{eq-eqb, ne_eqb, eqb-true}
use lib.Dec.{eqb}
use lib.ListN.{length, take, drop, length-drop}
use lib.Seq.{take-nil, take_all, drop-drop}
use Rattle.rules.specs.Bytes.{Bytes}
use Rattle.rules.specs.Preorder.{Deep}
use Rattle.rules.specs.Layout.{value_width, header_size, definition_size, particle_size, attribute_size, row_size, FlatRow, FlatStore, flat}
use Rattle.rules.specs.Decode.{read_definition, read_particle, read_attribute, read_row, read_many, definition_count, particle_count, attribute_count, row_count, read_flat}
use Rattle.rules.specs.Store.{Store}
use Rattle.rules.specs.Passing.{read_store}
use Rattle.rules.specs.LookUp.{ValueFound, Numbered, row_with, found_row, value_start, part_found, not_found, look_up_in, look_up}
use Rattle.rules.proofs.LayoutLaws.{read_bytes}
use Rattle.rules.proofs.DecodeLaws.{good_flat, read_good}
use Rattle.layout.specs.declared.Shape.{Shape}
use Rattle.layout.specs.Bodies.{width_of, window_of, record_at, shape_of, ShapeOf, Place, rows_start, attributes_start, WidthIn, Product}
use Rattle.layout.specs.Fields.{row_value_at, row_length}
use Rattle.layout.proofs.LayoutLaws.{version_read}
use Rattle.lookup.specs.Bodies.{RowsBegin, RowPlace, RowsOf, records_from, bodies_of, rows_start_in, from_rows, row_part}
use Rattle.lookup.specs.Finding.{Looks, found_on, found_row_at}
use Rattle.codec.proofs.Records.{length_many}

-- ---- records read one after the other
module _ {A : Type 0} (f : Bytes → A) (size : ℕ) (body : Bytes) (end i : ℕ) where
  pub from_step : i < end → records_from f size body end i ≡ f (take size (drop (size * i) body)) ∷ records_from f size body end (i + 1)
  unfolding records_from
  from_step h =
      let e : end - i ≡ suc (end - (i + 1)) = omega arith in
      let g : size * i + size ≡ size * (i + 1) = rw add-one (sym (mul-suc size i)) in
      rw (e, drop-drop size (size * i) body, g)

  pub from_none : end ≤ i → records_from f size body end i ≡ []
  unfolding records_from
  from_none h = let e : end - i ≡ 0 = omega arith in rw e

  pub from_all : records_from f size body end 0 ≡ read_many f size end body
  unfolding records_from
  from_all = let e : end - 0 ≡ end = omega arith in rw (e, mul-zero)

-- ---- the place of row number i
pub row_place : (bs : Bytes) (i : ℕ) → take (row_size (width_of bs)) (drop (rows_start_in bs + (row_size (width_of bs)) * i) bs) ≡ row_part bs i
unfolding rows_start_in from_rows row_part
row_place bs i = simp drop-drop

pub begins : (bs : Bytes) (s : Shape) (r : ℕ) → ShapeOf bs s → Place (rows_start s) r → RowsBegin bs r
unfolding rows_start_in rows_start attributes_start shape_of
begins bs s r x p = record { start = p.value ∙ ap rows_start x.is; small = p.small }

pub row_placed : (bs : Bytes) (i w size p x : ℕ) → WidthIn bs w → size ≡ row_size w → Product size i p → RowsBegin bs x → RowPlace bs i (x + p)
row_placed bs i w size p x a e b c =
    record { value = ap₂ (λ (m n : ℕ). m + n) c.start (b.value ∙ ap (λ (z : ℕ). z * i) (e ∙ ap row_size a.value)); small = omega (arith, c.small, b.small) }

pub row_window : (bs : Bytes) (i w size x : ℕ) (r : Bytes) → WidthIn bs w → size ≡ row_size w → RowPlace bs i x → r ≡ window_of x size bs → r ≡ row_part bs i
row_window bs i w size x r a g p e = e ∙ ap₂ (λ (n k : ℕ). window_of k n bs) (g ∙ ap row_size a.value) p.value ∙ row_place bs i

-- what is cut to the string's own length is all of it
pub rows_from_lem : (bs : Bytes) (x : ℕ) (r : Bytes) → RowsBegin bs x → r ≡ window_of x (length bs) bs → r ≡ from_rows bs
unfolding rows_start_in from_rows
rows_from_lem bs x r b e =
    e ∙ take_all (length bs) (drop x bs) (omega (arith, length-drop x bs)) ∙ ap (λ (k : ℕ). drop k bs) b.start ∙ simp drop-drop

-- record number i of the rows is row number i
pub row_of : {bs rows r : Bytes} {w : ℕ} (i : ℕ) → RowsOf bs w rows → r ≡ record_at (row_size w) i rows → r ≡ row_part bs i
unfolding row_part
row_of i h e = e ∙ ap₂ (λ (w : ℕ) (s : Bytes). record_at (row_size w) i s) h.width.value h.body

-- ---- answers in the code's numbers
pub looks_as : {f : ValueFound} {number s s' l l' : ℕ} → s ≡ s' → l ≡ l' → Looks f number s' l' → Looks f number s l
looks_as e g h = record { number_is = h.number_is; start_is = e ∙ h.start_is; length_is = g ∙ h.length_is }

-- ---- one row of the walk
row_this : (k i : ℕ) (r : Deep FlatRow) (rs : List (Deep FlatRow)) → r.row.serial ≡ k → row_with k i (r ∷ rs) ≡ some (record { at = i; row = r.row })
unfolding row_with
row_this k i r rs e = rw (eq-eqb r.row.serial k e, row_with)

row_other : (k i : ℕ) (r : Deep FlatRow) (rs : List (Deep FlatRow)) → (r.row.serial ≡ k → ⊥) → row_with k i (r ∷ rs) ≡ row_with k (i + 1) rs
unfolding row_with
row_other k i r rs e = rw (ne_eqb r.row.serial k e, row_with, add-one i)

row_none : (k i : ℕ) → row_with k i [] ≡ none
unfolding row_with
row_none k i = refl

-- what is found of a row, by its sort
sort_element : (w : ℕ) (f : FlatStore) (n : Numbered) → n.row.sort ≡ 1 → found_row w f (some n) ≡ not_found 7
sort_element w f n e = rw (eq-eqb n.row.sort 1 e, found_row)

sort_other : (w : ℕ) (f : FlatStore) (n : Numbered) → (n.row.sort ≡ 1 → ⊥) → found_row w f (some n) ≡ record { number = 0; start = value_start w f n.at; size = length n.row.value }
sort_other w f n e = rw (ne_eqb n.row.sort 1 e, found_row)

-- ---- the walk
-- what is left to look through gives the same row
pub record Seeking (bs : Bytes) (k count i : ℕ) : Type 0 where
  pub counts : count ≡ row_count bs
  pub rest : row_with k i (records_from read_row (row_size (width_of bs)) (from_rows bs) count i) ≡ row_with k 0 (bodies_of bs).rows

pub seek_start : (bs : Bytes) (k count : ℕ) → count ≡ row_count bs → Seeking bs k count 0
unfolding bodies_of from_rows
seek_start bs k count e =
    record {
      counts = e;
      rest = ap (row_with k 0)
          (from_all read_row (row_size (width_of bs)) (from_rows bs) count 0 ∙ ap (λ (n : ℕ). read_many read_row (row_size (width_of bs)) n (from_rows bs)) e);
    }

module _ (bs : Bytes) (k count i : ℕ) (s : Seeking bs k count i) where
  step : i < count
      → row_with k i (records_from read_row (row_size (width_of bs)) (from_rows bs) count i)
      ≡ row_with k i (read_row (row_part bs i) ∷ records_from read_row (row_size (width_of bs)) (from_rows bs) count (i + 1))
  unfolding row_part
  step h = ap (row_with k i) (from_step read_row (row_size (width_of bs)) (from_rows bs) count i h)

  pub seek_past : i < count → ((read_row (row_part bs i)).row.serial ≡ k → ⊥) → Seeking bs k count (i + 1)
  seek_past h e = record { counts = s.counts; rest = sym (row_other k i (read_row (row_part bs i)) (records_from read_row (row_size (width_of bs)) (from_rows bs) count (i + 1)) e) ∙ sym (step h) ∙ s.rest }

  pub seek_hit : i < count → (read_row (row_part bs i)).row.serial ≡ k → found_row_at bs i ≡ found_on bs k
  unfolding found_row_at found_on
  seek_hit h e =
      ap (found_row (width_of bs) (bodies_of bs)) (sym (row_this k i (read_row (row_part bs i)) (records_from read_row (row_size (width_of bs)) (from_rows bs) count (i + 1)) e) ∙ sym (step h) ∙ s.rest)

  pub seek_none : count ≤ i → Looks (found_on bs k) 7 0 0
  unfolding found_on
  seek_none h =
      let e : row_with k 0 (bodies_of bs).rows ≡ none = sym s.rest ∙ ap (row_with k i) (from_none read_row (row_size (width_of bs)) (from_rows bs) count i h) ∙ row_none k i in
      subst (λ (o : Option Numbered). Looks (found_row (width_of bs) (bodies_of bs) o) 7 0 0) (sym e) (record { number_is = refl; start_is = refl; length_is = refl })

-- ---- the row that has the serial
module _ (bs : Bytes) (i : ℕ) where
  found_row_lem : Numbered
  found_row_lem = record { at = i; row = (read_row (row_part bs i)).row }

  value_start_lem : value_start (width_of bs) (bodies_of bs) i ≡ rows_start_in bs + row_size (width_of bs) * i + row_value_at
  unfolding rows_start_in bodies_of
  value_start_lem =
      simp (
        length_many read_definition definition_size (definition_count bs) (drop header_size bs),
        length_many read_particle particle_size (particle_count bs) (drop (definition_size * definition_count bs) (drop header_size bs)),
        length_many read_attribute (attribute_size (width_of bs)) (attribute_count bs) (drop (particle_size * particle_count bs) (drop (definition_size * definition_count bs) (drop header_size bs))),
      )

  pub found_element : (read_row (row_part bs i)).row.sort ≡ 1 → Looks (found_row_at bs i) 7 0 0
  unfolding found_row_at found_row_lem
  found_element e =
      subst (λ (f : ValueFound). Looks f 7 0 0) (sym (sort_element (width_of bs) (bodies_of bs) found_row_lem e)) (record { number_is = refl; start_is = refl; length_is = refl })

  pub found_value : ((read_row (row_part bs i)).row.sort ≡ 1 → ⊥) → Looks (found_row_at bs i) 0 (rows_start_in bs + row_size (width_of bs) * i + row_value_at) (length (read_row (row_part bs i)).row.value)
  unfolding found_row_at found_row_lem
  found_value e =
      subst (λ (f : ValueFound). Looks f 0 (rows_start_in bs + row_size (width_of bs) * i + row_value_at) (length (read_row (row_part bs i)).row.value))
      (sym (sort_other (width_of bs) (bodies_of bs) found_row_lem e)) (record { number_is = refl; start_is = sym value_start_lem; length_is = refl })

-- ---- the part is the row's value
take_front : (n : ℕ) (x : Bytes) (k : ℕ) → take (length (take n (take k x))) x ≡ take n (take k x)
take_front zero x k = refl
take_front (suc n) [] zero = refl
take_front (suc n) [] (suc k) = refl
take_front (suc n) (b ∷ x) zero = refl
take_front (suc n) (b ∷ x) (suc k) = ap (λ (l : Bytes). b ∷ l) (take_front n x k)

take_inside : (o n k : ℕ) (x : Bytes) → take (length (take n (drop o (take k x)))) (drop o x) ≡ take n (drop o (take k x))
take_inside zero n k x = take_front n x k
take_inside (suc o) n zero x = rw take-nil
take_inside (suc o) n (suc k) [] = take-nil (length (take n (drop (suc o) (take (suc k) [])))) ∙ sym (take-nil n)
take_inside (suc o) n (suc k) (b ∷ x) = take_inside o n k x

-- the row that is found stands where its number says
unfoldable row_at : ℕ → Bytes → ℕ → FlatRow
row_at w t j = (read_row (take (row_size w) (drop ((row_size w) * j) t))).row

row_first : (w : ℕ) (t : Bytes) → (read_row (take (row_size w) t)).row ≡ row_at w t 0
unfolding row_at
row_first w t = let e : row_size w * 0 ≡ 0 = omega arith in rw e

row_next : (w : ℕ) (t : Bytes) (j : ℕ) → row_at w (drop (row_size w) t) j ≡ row_at w t (suc j)
unfolding row_at
row_next w t j = let e : row_size w + row_size w * j ≡ row_size w * suc j = omega (arith, mul-suc (row_size w) j) in
    ap (λ (l : Bytes). (read_row (take (row_size w) l)).row) (drop-drop ((row_size w) * j) (row_size w) t ∙ ap (λ (n : ℕ). drop n t) e)

found_where : (w k i m : ℕ) (t : Bytes) (n : Numbered) → row_with k i (read_many read_row (row_size w) m t) ≡ some n → (j : ℕ) × (n.at ≡ i + j) × (n.row ≡ row_at w t j)
found_where w k i zero t n h = let z : ◌≡◌ {A = ℕ} 0 1 = cc (row_none k i) in absurd (omega arith)
found_where w k i (suc m) t n h = by (eqb (read_row (take (row_size w) t)).row.serial k) refl (found_where w k (i + 1) m (drop (row_size w) t) n)
  where
    by : (c : Bool) → eqb (read_row (take (row_size w) t)).row.serial k ≡ c
        → (row_with k (i + 1) (read_many read_row (row_size w) m (drop (row_size w) t)) ≡ some n → (j : ℕ) × (n.at ≡ i + 1 + j) × (n.row ≡ row_at w (drop (row_size w) t) j))
        → (j : ℕ) × (n.at ≡ i + j) × (n.row ≡ row_at w t j)
    by true e later =
        let q : n ≡ record { at = i; row = (read_row (take (row_size w) t)).row } =
        some-injective _ _ (sym h ∙ row_this k i (read_row (take (row_size w) t)) (read_many read_row (row_size w) m (drop (row_size w) t)) (eqb-true _ _ e)) in
        (0, ap (λ (x : Numbered). x.at) q ∙ sym (add-zero i), ap (λ (x : Numbered). x.row) q ∙ row_first w t)
    by false e later =
        let (j, p, q) = later (sym (row_other k i (read_row (take (row_size w) t)) (read_many read_row (row_size w) m (drop (row_size w) t)) (λ g. false≢true (sym e ∙ eq-eqb _ _ g))) ∙ h) in
        (suc j, omega arith, q ∙ row_next w t j)

row_found : (bs : Bytes) (k : ℕ) (n : Numbered) → row_with k 0 (bodies_of bs).rows ≡ some n → n.row ≡ (read_row (row_part bs n.at)).row
unfolding bodies_of from_rows row_part row_at
row_found bs k n h =
    let (j, p, q) = found_where (width_of bs) k 0 (row_count bs) (from_rows bs) n h in
    q ∙ ap (λ (x : ℕ). (read_row (take (row_size (width_of bs)) (drop ((row_size (width_of bs)) * x) (from_rows bs)))).row) (sym (p ∙ zero-add j))

value_there : (bs : Bytes) (i : ℕ) (v : Bytes) → v ≡ (read_row (row_part bs i)).row.value → take (length v) (drop (value_start (width_of bs) (bodies_of bs) i) bs) ≡ v
value_there bs i v e =
    let n : ℕ = row_length (row_part bs i) in
    let x : Bytes = drop (rows_start_in bs + row_size (width_of bs) * i) bs in
    let q : v ≡ take n (drop row_value_at (take (row_size (width_of bs)) x)) = e ∙ ap (λ (l : Bytes). take n (drop row_value_at l)) (sym (row_place bs i)) in
    let p : drop (value_start (width_of bs) (bodies_of bs) i) bs ≡ drop row_value_at x = ap (λ (k : ℕ). drop k bs) (value_start_lem bs i) ∙ sym
    (drop-drop row_value_at (rows_start_in bs + row_size (width_of bs) * i) bs) in
    ap₂ (λ (l m : Bytes). take (length l) m) q p ∙ take_inside row_value_at n (row_size (width_of bs)) x ∙ sym q

-- the part that is handed back is the value of the row with the serial
pub part_value : (bs : Bytes) (k : ℕ) (n : Numbered) → row_with k 0 (bodies_of bs).rows ≡ some n → (n.row.sort ≡ 1 → ⊥) → part_found bs (found_on bs k) ≡ n.row.value
unfolding found_on
part_value bs k n h e =
    ap (λ (o : Option Numbered). part_found bs (found_row (width_of bs) (bodies_of bs) o)) h
    ∙ ap (part_found bs) (sort_other (width_of bs) (bodies_of bs) n e)
    ∙ value_there bs n.at n.row.value (ap (λ (r : FlatRow). r.value) (row_found bs k n h))

-- ---- on a store that passes
-- what a byte string that passes holds is what is read
width_read : (bs : Bytes) (s : Store) → read_store bs ≡ some s → width_of bs ≡ value_width s.version
width_read bs s h = let (e, g) = read_good bs s h in ap width_of (sym e) ∙ version_read s g

pub bodies_flat : (bs : Bytes) (s : Store) → read_store bs ≡ some s → bodies_of bs ≡ flat s
unfolding bodies_of
bodies_flat bs s h =
    let (e, g) = read_good bs s h in
    ap₂ (λ (w : ℕ) (b : Bytes). read_flat w b) (width_read bs s h) (sym e) ∙ read_bytes (value_width s.version) (flat s) (good_flat s g)

pub look_up_is : (bs : Bytes) (s : Store) (k : ℕ) → read_store bs ≡ some s → look_up bs k ≡ found_on bs k
unfolding look_up found_on
look_up_is bs s k h = ap (look_up_in k) h ∙ sym (ap₂ (λ (w : ℕ) (f : FlatStore). found_row w f (row_with k 0 f.rows)) (width_read bs s h) (bodies_flat bs s h))
