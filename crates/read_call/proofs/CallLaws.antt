-- What the stages of the call find, put together: a form is confirmed, the documents are judged by it, the store of
-- both has a length and bytes, and the answer is the one of the stages.
use Prim.Native.Nat.{ℕ, ◌+◌, ◌-◌, ◌*◌, ◌≤◌, ◌<◌}
use native.Mathlib.Omega.{arith}
use mathlib.Core.Path.{◌≡◌, refl, sym, ap, ◌∙◌, subst}
use mathlib.Core.Bool.{Bool, true, false, not, ◌&&◌, false≢true}
use mathlib.Core.Option.{Option, none, some}
use Rattle.std.specs.Prelude as code
use Rattle.std.specs.Prelude.{None, Some}
use mathlib.Core.List.{List, ◌++◌}
use lib.Dec.{leb, leb→le}
use lib.ListN.{length, take, drop, length-append, length-take}
use lib.Seq.{sets-eq}
use native.Mathlib.Nat.{zero-add}
use borrow.Author.Tests.{not-true, not-false, lt-ltb, le-ltb}
use Rattle.rules.specs.Bytes.{Bytes, to_T}
use Rattle.rules.specs.Preorder.{Deep}
use Rattle.rules.specs.Layout.{header_size, attribute_size, row_size, row_bytes, each, FlatRow, FlatStore, flat_bytes}
use Rattle.rules.specs.Decode.{definition_count, particle_count, attribute_count}
use Rattle.rules.specs.WellFormed.{is_there}
use Rattle.rules.specs.Passing.{passes}
use Rattle.rules.specs.Outcome.{Outcome, refused, unless_refused, Answers}
use Rattle.rules.specs.Print.{too_long}
use Rattle.rules.proofs.Words.{and_split}
use Rattle.rules.proofs.LayoutLaws.{length_flat_bytes}
use Rattle.codec.specs.Laid.{Laid}
use Rattle.codec.proofs.Writers.{laid_then, laid_as}
use Rattle.layout.specs.Bodies.{width_of, WidthIn, Number, Product}
use Rattle.layout.specs.Header.{headed}
use Rattle.layout.proofs.HeaderLaws.{headed_short}
use Rattle.lookup.specs.Bodies.{bodies_of, rows_start_in, RowsBegin}
use Rattle.row_check.specs.Walking.{before_read}
use Rattle.store_laws.specs.Forms.{reformed, Forms}
use Rattle.store_laws.proofs.StoreLaws.{Holds}
use Rattle.store_laws.proofs.FormBytesLaws.{whole, reformed_bytes}
use Rattle.store_laws.proofs.FormLaws.{FormOf, read_form_lem, forms_of, own_form, counted_definitions, counted_particles, counted_attributes}
use Rattle.form_front.specs.Front.{front_stands, FrontOf}
use Rattle.document_row_writer.specs.Putting.{documents_in, rows_or, RowsRead}
use Rattle.document_reading.specs.Judging.{rows_fit, rows_behind, Stand}
use Rattle.text_reading.specs.Stages.{with_documents, rows_stand, if_rows, joined_bytes, documents_outcome}
use Rattle.read_call.specs.Reading.{Confirmed, RowsThere, documents_stored}

-- ---- the form, confirmed
pub confirm_bad : (bs txt : Bytes) {r : Bool} → not r ≡ true → r ≡ passes bs → Confirmed bs txt None
confirm_bad bs txt {r} t e = record { is = sym (ap (λ (b : Bool). b && front_stands bs txt) (sym e ∙ not-true r t)); size = tt }

pub confirm_front : (bs txt : Bytes) {r : Bool} → not r ≡ false → r ≡ passes bs → {o : code.Option ℕ} → FrontOf bs txt o → Confirmed bs txt o
confirm_front bs txt {r} t e f = record { is = f.is ∙ sym (ap (λ (b : Bool). b && front_stands bs txt) (sym e ∙ not-false r t)); size = f.size }

-- ---- the documents
-- they fit just where they are there and stand
fit_stand : (bs : Bytes) (xs : List (Deep FlatRow)) → rows_fit (before_read bs) (some xs) ≡ rows_stand bs xs
unfolding rows_stand
fit_stand bs xs = refl

-- ---- the store of both; `head` and `start`: where the code finds that the form begins and ends
module _ {bs : Bytes} (h : Holds bs) {head start d p a : ℕ}
    (e : head ≡ header_size) (b : RowsBegin bs start) (n : Number (definition_count bs) d) (m : Number (particle_count bs) p) (k : Number (attribute_count bs) a) where
  own : FormOf (width_of bs) (bodies_of bs) (take (start - head) (drop head bs)) d p a
  own = own_form h e b n m k

  pub forms : Forms (width_of bs) (take (start - head) (drop head bs)) d p a
  forms = forms_of own

  joined_bytes_lem : (xs : List (Deep FlatRow))
      → joined_bytes bs xs ≡ (headed (width_of bs) (1 + length xs) d p a (length xs) bs ++ take (start - head) (drop head bs)) ++ each (row_bytes (width_of bs)) xs
  joined_bytes_lem xs =
      ap (λ (g : FlatStore). flat_bytes (width_of bs) (reformed (bodies_of bs) g (1 + length xs) xs)) (sym (read_form_lem own))
      ∙ reformed_bytes forms (bodies_of bs) (1 + length xs) xs (whole h)

  pub stored_laid : (xs : List (Deep FlatRow)) {w r : ℕ} → WidthIn bs w → r ≡ length xs → {out out₁ out₂ : Bytes} {at z : ℕ}
      → Laid (headed w (r + 1) d p a r bs ++ take (start - head) (drop head bs)) out 0 at out₁ → Laid (each (row_bytes w) xs) out₁ at z out₂ → Laid (joined_bytes bs xs) out 0 z out₂
  stored_laid xs {w} {r} v c x y =
      let next : 1 + length xs ≡ r + 1 = omega arith in
      laid_as
      (joined_bytes_lem xs
      ∙ (λ i. (headed (sym v.value i) (next i) d p a (sym c i) bs ++ take (start - head) (drop head bs)) ++ each (row_bytes (sym v.value i)) xs))
      (laid_then x y)

  -- the documents' rows are those at the width that the bytes say
  pub stored_documents : {rest : Bytes} {w r : ℕ} → WidthIn bs w → RowsThere bs rest r → {out out₁ out₂ : Bytes} {at z : ℕ}
      → Laid (headed w (r + 1) d p a r bs ++ take (start - head) (drop head bs)) out 0 at out₁ → Laid (each (row_bytes w) (rows_or (documents_in w bs rest))) out₁ at z out₂
      → Laid (documents_stored bs rest) out 0 z out₂
  stored_documents {rest} {w} v t {out₁ = out₁} {out₂ = out₂} {at = at} {z = z} x y =
      stored_laid (rows_or (rows_behind bs rest)) v t.many x (subst (λ (u : ℕ). Laid (each (row_bytes w) (rows_or (documents_in u bs rest))) out₁ at z out₂) v.value y)

-- the place behind header and form is far from the end of the numbers
pub laid_short : (bs : Bytes) (head w next d p a r : ℕ) {start : ℕ} → RowsBegin bs start → {out out₁ : Bytes} {at : ℕ}
    → Laid (headed w next d p a r bs ++ take (start - head) (drop head bs)) out 0 at out₁ → at < 4611686018427387904
laid_short bs head w next d p a r {start} b x =
    omega (
      arith,
      x.next,
      length-append (headed w next d p a r bs) (take (start - head) (drop head bs)),
      headed_short w next d p a r bs,
      length-take (start - head) (drop head bs),
      b.small,
    )

-- what the writer of the rows asks
pub rows_at : {bs rest : Bytes} {w n : ℕ} → WidthIn bs w → RowsThere bs rest n → RowsRead w bs rest
rows_at {bs} {rest} v t = subst (λ (w : ℕ). RowsRead w bs rest) (sym v.value) (record { there = t.there; few = omega (arith, t.many, t.few) })

-- how long it is
pub stored_length : (bs : Bytes) {start : ℕ} → RowsBegin bs start → (xs : List (Deep FlatRow)) → length (joined_bytes bs xs) ≡ start + row_size (width_of bs) * length xs
unfolding rows_start_in
stored_length bs b xs =
    let e : attribute_size (width_of bs) * attribute_count bs ≡ attribute_size (width_of bs) * length (bodies_of bs).attributes =
    ap (λ (n : ℕ). attribute_size (width_of bs) * n) (counted_attributes bs) in
    omega (arith, length_flat_bytes (width_of bs) (with_documents (bodies_of bs) xs), b.start, counted_definitions bs, counted_particles bs, e)

-- ---- the answer
module _ (bs rest : Bytes) (room : ℕ) where
  abbrev outcome_by : Option (List (Deep FlatRow)) → Outcome
  outcome_by o =
      if_rows (λ xs. elim (rows_stand bs xs) [ true ↦ unless_refused (too_long room (joined_bytes bs xs)) (joined_bytes bs xs) | false ↦ refused 19 ]) o

  outcome_is : documents_outcome bs rest room ≡ outcome_by (rows_behind bs rest)
  unfolding documents_outcome
  outcome_is = refl

  outcome_bad : rows_fit (before_read bs) (rows_behind bs rest) ≡ false → documents_outcome bs rest room ≡ refused 19
  outcome_bad e = outcome_is ∙ by (rows_behind bs rest) e
    where
      by : (o : Option (List (Deep FlatRow))) → rows_fit (before_read bs) o ≡ false → outcome_by o ≡ refused 19
      by none q = refl
      by (some xs) q =
          ap (λ (b : Bool). elim b as (λ z. Outcome) [ true ↦ unless_refused (too_long room (joined_bytes bs xs)) (joined_bytes bs xs) | false ↦ refused 19 ]) (sym (fit_stand bs xs) ∙ q)

  outcome_good : rows_fit (before_read bs) (rows_behind bs rest) ≡ true
      → documents_outcome bs rest room ≡ unless_refused (too_long room (documents_stored bs rest)) (documents_stored bs rest)
  outcome_good e = outcome_is ∙ by (rows_behind bs rest) e
    where
      by : (o : Option (List (Deep FlatRow))) → rows_fit (before_read bs) o ≡ true
          → outcome_by o ≡ unless_refused (too_long room (joined_bytes bs (rows_or o))) (joined_bytes bs (rows_or o))
      by none q = absurd (false≢true q)
      by (some xs) q =
          ap (λ (b : Bool). elim b as (λ z. Outcome) [ true ↦ unless_refused (too_long room (joined_bytes bs xs)) (joined_bytes bs xs) | false ↦ refused 19 ]) (sym (fit_stand bs xs) ∙ q)

-- rows that fit are there
pub rows_standing : (bs rest : Bytes) {n : ℕ} → Stand bs rest (Some n) → RowsThere bs rest n
rows_standing bs rest {n} s = record { there = (by (rows_behind bs rest) (sym s.is)).0; many = s.counts; few = omega (arith, s.counts, (by (rows_behind bs rest) (sym s.is)).1) }
  where
    by : (o : Option (List (Deep FlatRow))) → rows_fit (before_read bs) o ≡ true → (is_there o ≡ true) × (length (rows_or o) ≤ 4096)
    by none q = absurd (false≢true q)
    by (some xs) q = (refl, leb→le (length xs) 4096 (to_T (and_split (leb (length xs) 4096) _ q).0))

module _ (bs rest out : Bytes) where
  -- the documents do not stand
  pub answer_bad : Stand bs rest None → Answers (documents_outcome bs rest (length out)) out 19 0 out
  answer_bad s = rw (outcome_bad bs rest (length out) (sym s.is)) (record { number_is = refl; length_is = refl; buffer_is = refl })

  module _ {n : ℕ} (s : Stand bs rest (Some n)) {start w size product : ℕ} (r : RowsBegin bs start) (v : WidthIn bs w) (z : size ≡ row_size w) (x : Product size n product) where
    stands : rows_fit (before_read bs) (rows_behind bs rest) ≡ true
    stands = sym s.is

    -- the length that is computed
    pub whole_length : start + product ≡ length (documents_stored bs rest)
    whole_length =
        let c : n ≡ length (rows_or (rows_behind bs rest)) = s.counts in
        let e : product ≡ row_size (width_of bs) * length (rows_or (rows_behind bs rest)) = x.value ∙ (λ i. (z ∙ ap row_size v.value) i * c i) in
        omega (arith, stored_length bs r (rows_or (rows_behind bs rest)), e)

    -- there is no room
    pub answer_short : length out < start + product → Answers (documents_outcome bs rest (length out)) out 18 0 out
    answer_short h =
        let e : too_long (length out) (documents_stored bs rest) ≡ 18 =
        ap (λ (b : Bool). elim b as (λ z. ℕ) [ true ↦ 18 | false ↦ 0 ]) (lt-ltb (length out) (length (documents_stored bs rest)) (omega (arith, whole_length))) in
        rw (outcome_good bs rest (length out) stands ∙ ap (λ (n : ℕ). unless_refused n (documents_stored bs rest)) e) (record { number_is = refl; length_is = refl; buffer_is = refl })

    -- it is written
    pub answer_all : start + product ≤ length out → {m : ℕ} {out' : Bytes} → Laid (documents_stored bs rest) out 0 m out' → Answers (documents_outcome bs rest (length out)) out 0 (start + product) out'
    answer_all h laid =
        let e : too_long (length out) (documents_stored bs rest) ≡ 0 =
        ap (λ (b : Bool). elim b as (λ z. ℕ) [ true ↦ 18 | false ↦ 0 ]) (le-ltb (length out) (length (documents_stored bs rest)) (omega (arith, whole_length))) in
        rw (outcome_good bs rest (length out) stands ∙ ap (λ (n : ℕ). unless_refused n (documents_stored bs rest)) e)
        (record {
          number_is = refl;
          length_is = whole_length;
          buffer_is = laid.stored ∙ sets-eq (documents_stored bs rest) out 0 (omega (arith, whole_length))
              ∙ ap (λ (k : ℕ). documents_stored bs rest ++ drop k out) (zero-add (length (documents_stored bs rest)));
        })
