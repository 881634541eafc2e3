-- THE ANSWER THAT THE STAGES DECIDE IS THE PROMISED ONE. A text that some store prints comes through all stages as that
-- store's canonical one; a text that comes through all stages is printed by the store that its rows and form make.
use Prim.Native.Nat.{ℕ, ◌+◌, ◌≤◌, ◌<◌}
use native.Mathlib.Omega.{arith}
use mathlib.Core.Path.{◌≡◌, refl, sym, ap, ap₂, ◌∙◌, subst}
use mathlib.Core.Logic.{inl, inr}
use mathlib.Core.Bool.{Bool, true, false, false≢true}
use mathlib.Core.Option.{Option, none, some, none-ne-some, some-injective}
use mathlib.Core.List.{List, [], ◌++◌, map}
use lib.Dec.{leb}
use lib.ListN.{length, drop}
use lib.Seq.{drop_at}
use borrow.Author.Tests.{le-leb}
use Rattle.rules.specs.Bytes.{Bytes}
use Rattle.rules.specs.Store.{Form, Row, Forest, Store}
use Rattle.rules.specs.Preorder.{Deep, preorder}
use Rattle.rules.specs.Layout.{value_width, FlatRow, FlatStore, flat_definition, all_attributes, indexed, flat, flat_bytes, encode}
use Rattle.rules.specs.Decode.{read_flat, unflat}
use Rattle.rules.specs.WellFormed.{within_ceilings}
use Rattle.rules.specs.Passing.{Good, good, passes}
use Rattle.rules.specs.Outcome.{Outcome, refused, unless_refused}
use Rattle.rules.specs.Print.{printed, too_long}
use Rattle.rules.specs.Change.{each_row, new_rows, number}
use Rattle.rules.proofs.Words.{and_both, and_split}
use Rattle.rules.proofs.PassingLaws.{good_is}
use Rattle.rules.proofs.LayoutLaws.{unle_le, read_bytes}
use Rattle.rules.proofs.DecodeLaws.{good_flat, good_known, good_found, unflat_flat, passes_tests}
use Rattle.layout.specs.Bodies.{width_of}
use Rattle.layout.proofs.LayoutLaws.{version_read}
use Rattle.lookup.specs.Bodies.{bodies_of}
use Rattle.store_laws.specs.Stores.{store_in}
use Rattle.store_laws.proofs.FormBytesLaws.{Few, few_of, few_definitions, few_attributes, few_rows, ceilings_rows}
use Rattle.printing.specs.Texts.{text_of}
use Rattle.form_front.specs.Front.{form_text_room, front_stands}
use Rattle.text_scan.specs.Scan.{starts_with}
use Rattle.text_scan.proofs.ScanLaws.{starts_split, starts_append}
use Rattle.reading_rules.specs.Canonical.{canonical_definition, unnumbered, canonical}
use Rattle.reading_rules.specs.Reading.{Prints, ReadsText}
use Rattle.reading_rules.proofs.CanonicalGood.{canonical_good, rows_flat, unnumbered_blank, range_long}
use Rattle.declaration_scan.specs.Declared.{declared_form}
use Rattle.declaration_laws.proofs.TextParts.{form_only, form_store, text_parts, form_store_text}
use Rattle.declaration_laws.proofs.Declaring.{declared_form_lem}
use Rattle.declaration_laws.proofs.TextLength.{form_text_bytes}
use Rattle.document_laws.specs.Declares.{Declares, text_of_documents}
use Rattle.document_laws.proofs.Completeness.{rows_read_lem}
use Rattle.document_laws.proofs.Soundness.{rows_sound}
use Rattle.history.proofs.Numbering.{number_serials}
use Rattle.document_tokens.specs.Tokens.{Declared, declared_in, document_rows}
use Rattle.store_check.specs.Reading.{RowFits, serials_of_rows, serials_fit, FlatPasses}
use Rattle.store_check.proofs.StoreReads.{flat_passes}
use Rattle.rules.proofs.BooleanLaws.{Every}
use Rattle.text_reading.proofs.Joined.{joined, joined_good, good_joined}
use Rattle.text_reading.proofs.RowsMade.{rows_made_lem}
use Rattle.text_reading.proofs.DeclaredFits.{declared_fits}
use Rattle.text_reading.proofs.RowsStand.{Counted, stand_join, join_stand}
use Rattle.text_reading.specs.Stages.{with_documents, declared_bytes, declared_text, form_stands, rows_shown, rows_stand, if_rows, store_bytes, stages_outcome, documents_outcome}

-- ---- a store's form alone passes
module _ (s : Store) (g : Good s) where
  alone_good : Good (form_only s)
  alone_good =
      record {
        version = g.version;
        ceilings = ceilings_rows (flat s) (flat s) s.next [] g.ceilings;
        form = g.form;
        docs = record { roots = λ r m. absurd (none_in m); rows = tt };
        values = tt;
        serials = record { once = tt; below = λ k m. absurd (none_in m); least = g.serials.least; most = g.serials.most };
      }
    where
      none_in : {A : Type 0} {x : A} → mathlib.Core.List.Memᴰ x [] → ⊥
      none_in m = mathlib.Core.List.Memᴰ.not-nil m

  canonical_alone : canonical (form_only s) ≡ form_store s
  unfolding canonical each_row new_rows number
  canonical_alone = refl

  pub form_good : Good (form_store s)
  form_good = subst Good canonical_alone (canonical_good (form_only s) alone_good)

-- ---- the bytes of a store, read
module _ (s : Store) (g : good s ≡ true) where
  pub bodies_read : bodies_of (encode s) ≡ flat s
  unfolding bodies_of
  bodies_read = ap (λ (w : ℕ). read_flat w (encode s)) (version_read s g) ∙ read_bytes (value_width s.version) (flat s) (good_flat s g)

  pub store_read_lem : store_in (encode s) ≡ s
  unfolding store_in
  store_read_lem = ap unflat bodies_read ∙ unflat_flat s (good_known s g) (good_found s g)

-- rows that a text shows by a form within the ceilings
shown_counted : (bs : Bytes) → within_ceilings (bodies_of bs) ≡ true → (w : ℕ) (txt : Bytes) (xs : List (Deep FlatRow)) → document_rows (declared_in bs) w 1 [] false 0 txt ≡ some xs → Counted w xs
shown_counted bs e w txt xs shown =
    let few : Few (bodies_of bs) = few_of (bodies_of bs) e in
    let made = rows_made_lem (declared_in bs) w (few_definitions few) (few_attributes few) txt 0 1 [] false xs (omega arith) shown in
    record { rows = made.rows; serials = made.serials }

-- ---- the next serial comes after the rows
next_counted : (s : Store) → (flat (canonical s)).next ≡ 1 + length (flat (canonical s)).rows
unfolding canonical
next_counted s =
    let u : Forest Row = unnumbered s.docs in
    let e : length (preorder 0 (indexed (map canonical_definition s.form) [] (number 1 u))) ≡ new_rows u =
    rows_flat (map canonical_definition s.form) [] 0 (number 1 u)
    ∙ ap (λ (ks : List ℕ). length ks) (number_serials 1 u (unnumbered_blank s.docs))
    ∙ range_long 1 (new_rows u) in
    ap (λ (n : ℕ). 1 + n) (sym e)

abbrev declared_of : Form → Declared
declared_of form = record { definitions = map (flat_definition form) form; attributes = all_attributes 0 form }

declares : (form : Form) → Declares (declared_of form) form
declares form = record { definitions = refl; attributes = refl }

short : (s : Store) → Good s → length (printed (form_store s)) ≤ form_text_room
short s g = omega (arith, form_text_bytes s g)

-- ---- a text that a store prints comes through
module _ (s : Store) (g : Good s) where
  abbrev v : ℕ
  v = s.version

  abbrev txt : Bytes
  txt = printed s

  abbrev xs : List (Deep FlatRow)
  xs = (flat (canonical s)).rows

  abbrev c : Store
  c = form_store s

  is_good : good (form_store s) ≡ true
  is_good = (good_is (form_store s)).1 (form_good s g)

  bytes_are : declared_bytes s.version (printed s) ≡ encode (form_store s)
  bytes_are = ap (flat_bytes (value_width s.version)) (declared_form_lem s g)

  text_is : declared_text s.version (printed s) ≡ printed (form_only s)
  unfolding text_of store_in
  text_is = ap text_of bytes_are ∙ ap printed (store_read_lem (form_store s) is_good) ∙ form_store_text s

  rest_is : drop (length (declared_text s.version (printed s))) (printed s) ≡ text_of_documents s.docs
  rest_is =
      ap (λ (t : Bytes). drop (length t) (printed s)) text_is
      ∙ ap (λ (t : Bytes). drop (length (printed (form_only s))) t) (text_parts s)
      ∙ drop_at (printed (form_only s)) (text_of_documents s.docs) (length (printed (form_only s))) refl

  pub form_stands_lem : form_stands s.version (printed s) ≡ true
  unfolding form_stands front_stands
  form_stands_lem =
      and_both (ap within_ceilings (declared_form_lem s g) ∙ (form_good s g).ceilings)
      (and_both (ap passes bytes_are ∙ (passes_tests (encode (form_store s))).1 (form_store s, refl, is_good))
      (and_both
      (ap (λ (t : Bytes). leb (length t) form_text_room) (text_is ∙ sym (form_store_text s)) ∙ le-leb (length (printed (form_store s))) form_text_room (short s g))
      (ap (λ (t : Bytes). starts_with t (printed s)) text_is
      ∙ ap (starts_with (printed (form_only s))) (text_parts s)
      ∙ starts_append (printed (form_only s)) (text_of_documents s.docs))))

  declared_is : declared_in (declared_bytes s.version (printed s)) ≡ declared_of (map canonical_definition s.form)
  declared_is =
      ap declared_in bytes_are
      ∙ ap (λ (f : FlatStore). record { definitions = f.definitions; attributes = f.attributes }) (bodies_read (form_store s) is_good)

  pub rows_shown_lem : rows_shown s.version (printed s) ≡ some (flat (canonical s)).rows
  unfolding rows_shown canonical
  rows_shown_lem =
      ap₂ (λ (f : Declared) (t : Bytes). document_rows f (value_width s.version) 1 [] false 0 t) declared_is rest_is
      ∙ rows_read_lem s (declared_of (map canonical_definition s.form)) g (declares (map canonical_definition s.form))

  -- the store of both is the canonical one
  joined_is : with_documents (flat (form_store s)) (flat (canonical s)).rows ≡ flat (canonical s)
  unfolding canonical
  joined_is =
      ap (λ (n : ℕ). record {
        version = s.version;
        next = n;
        definitions = (flat (canonical s)).definitions;
        particles = (flat (canonical s)).particles;
        attributes = (flat (canonical s)).attributes;
        rows = (flat (canonical s)).rows;
      }) (sym (next_counted s))

  store_is : with_documents (declared_form s.version (value_width s.version) (printed s)) (flat (canonical s)).rows ≡ flat (canonical s)
  store_is = ap (λ (f : FlatStore). with_documents f (flat (canonical s)).rows) (declared_form_lem s g) ∙ joined_is

  pub bytes_written : store_bytes s.version (printed s) (flat (canonical s)).rows ≡ encode (canonical s)
  unfolding canonical
  bytes_written = ap (flat_bytes (value_width s.version)) store_is

  canonical_is : good (canonical s) ≡ true
  canonical_is = (good_is (canonical s)).1 (canonical_good s g)

  abbrev bs : Bytes
  bs = declared_bytes s.version (printed s)

  bytes_pass : passes (declared_bytes s.version (printed s)) ≡ true
  bytes_pass = ap passes bytes_are ∙ (passes_tests (encode (form_store s))).1 (form_store s, refl, is_good)

  width_is : width_of (declared_bytes s.version (printed s)) ≡ value_width s.version
  width_is = ap width_of bytes_are ∙ version_read (form_store s) is_good

  bodies_are : bodies_of (declared_bytes s.version (printed s)) ≡ flat (form_store s)
  bodies_are = ap bodies_of bytes_are ∙ bodies_read (form_store s) is_good

  rows_counted : Counted (width_of (declared_bytes s.version (printed s))) (flat (canonical s)).rows
  rows_counted =
      subst (λ (w : ℕ). Counted w (flat (canonical s)).rows) (sym width_is)
      (shown_counted (declared_bytes s.version (printed s)) (subst (λ (f : FlatStore). within_ceilings f ≡ true) (sym bodies_are) (form_good s g).ceilings) (value_width s.version)
      (drop (length (declared_text s.version (printed s))) (printed s)) (flat (canonical s)).rows (unfold rows_shown in rows_shown_lem))

  -- and its rows stand
  pub rows_stand_lem : rows_stand (declared_bytes s.version (printed s)) (flat (canonical s)).rows ≡ true
  unfolding canonical
  rows_stand_lem =
      let p : FlatPasses (flat (canonical s)) = (flat_passes (flat (canonical s))).0 (canonical s, refl, canonical_is) in
      let joins : joined (declared_bytes s.version (printed s)) bytes_pass (flat (canonical s)).rows ≡ flat (canonical s) =
      ap (λ (f : FlatStore). with_documents f (flat (canonical s)).rows) bodies_are ∙ joined_is in
      let back : unflat (joined (declared_bytes s.version (printed s)) bytes_pass (flat (canonical s)).rows) ≡ canonical s =
      ap unflat joins ∙ unflat_flat (canonical s) (good_known (canonical s) canonical_is) (good_found (canonical s) canonical_is) in
      join_stand (declared_bytes s.version (printed s)) bytes_pass (flat (canonical s)).rows rows_counted
      (record {
        fields = fields_at p;
        documents = good_joined (declared_bytes s.version (printed s)) bytes_pass (flat (canonical s)).rows (ap good back ∙ canonical_is) (ap flat back ∙ sym joins);
        serials = ap (λ (n : ℕ). serials_fit n (serials_of_rows (flat (canonical s)).rows)) (sym (next_counted s)) ∙ p.checks.serials;
        few = few_rows (few_of (flat (canonical s)) p.checks.ceilings);
      })
    where
      fields_at : FlatPasses (flat (canonical s)) → Every (λ x. RowFits (width_of (declared_bytes s.version (printed s))) x.row) (flat (canonical s)).rows
      fields_at p = subst (λ (w : ℕ). Every (λ x. RowFits w x.row) (flat (canonical s)).rows) (sym width_is) p.checks.rows

-- ---- a text that comes through is printed by the store that is read
module _ (version : ℕ) (small : version < 4294967296) (txt : Bytes) where
  -- what stands of a form
  record Standing : Type 0 where
    ceilings : within_ceilings (declared_form version (value_width version) txt) ≡ true
    passing : passes (declared_bytes version txt) ≡ true
    front : starts_with (declared_text version txt) txt ≡ true

  standing : form_stands version txt ≡ true → Standing
  unfolding form_stands front_stands
  standing e =
      let (c, e₁) = and_split (within_ceilings (declared_form version (value_width version) txt)) _ e in
      let (p, e₂) = and_split (passes (declared_bytes version txt)) _ e₁ in
      let (l, f) = and_split (leb (length (declared_text version txt)) form_text_room) _ e₂ in
      record { ceilings = c; passing = p; front = f }

  module _ (stands : Standing) where
    width_read : width_of (declared_bytes version txt) ≡ value_width version
    unfolding width_of declared_form
    width_read = ap value_width (unle_le 4 version small)

    form_read_lem : bodies_of (declared_bytes version txt) ≡ declared_form version (value_width version) txt
    unfolding bodies_of
    form_read_lem =
        ap (λ (w : ℕ). read_flat w (declared_bytes version txt)) width_read
        ∙ read_bytes (value_width version) (declared_form version (value_width version) txt) (declared_fits version (value_width version) txt small stands.ceilings)

    module _ (xs : List (Deep FlatRow)) (shown : rows_shown version txt ≡ some xs) (stand : rows_stand (declared_bytes version txt) xs ≡ true) where
      counted : Counted (width_of (declared_bytes version txt)) xs
      unfolding rows_shown
      counted =
          subst (λ (w : ℕ). Counted w xs) (sym width_read)
          (shown_counted (declared_bytes version txt) (ap within_ceilings form_read_lem ∙ stands.ceilings) (value_width version) (drop (length (declared_text version txt)) txt) xs shown)

      abbrev both : FlatStore
      both = with_documents (bodies_of (declared_bytes version txt)) xs

      passed : (good (unflat (with_documents (bodies_of (declared_bytes version txt)) xs)) ≡ true)
          × (flat (unflat (with_documents (bodies_of (declared_bytes version txt)) xs)) ≡ with_documents (bodies_of (declared_bytes version txt)) xs)
      passed = joined_good (declared_bytes version txt) stands.passing xs (stand_join (declared_bytes version txt) stands.passing xs counted stand)

      abbrev read : Store
      read = unflat (with_documents (bodies_of (declared_bytes version txt)) xs)

      read_good : Good read
      read_good = (good_is read).0 passed.0

      version_is : read.version ≡ version
      unfolding declared_form
      version_is = ap (λ (f : FlatStore). f.version) form_read_lem

      -- the text of its form
      form_printed : printed (form_only read) ≡ declared_text version txt
      unfolding printed text_of declared_form
      form_printed = ap (λ (f : FlatStore). printed (form_only (unflat (with_documents f xs)))) form_read_lem ∙ sym (ap (λ (f : FlatStore). printed (unflat f)) form_read_lem)

      -- and of its documents
      documents_printed : drop (length (declared_text version txt)) txt ≡ text_of_documents read.docs
      unfolding rows_shown
      documents_printed =
          rows_sound read (declared_of read.form) (value_width version) 1 (drop (length (declared_text version txt)) txt) read_good (declares read.form)
          (ap (λ (f : FlatStore). document_rows (record { definitions = f.definitions; attributes = f.attributes }) (value_width version) 1 [] false 0 (drop (length (declared_text version txt)) txt))
          passed.1
          ∙ shown
          ∙ ap (λ (f : FlatStore). some f.rows) (sym passed.1))

      text_printed : printed read ≡ txt
      text_printed =
          text_parts read
          ∙ ap₂ (λ (a b : Bytes). a ++ b) form_printed (sym documents_printed)
          ∙ starts_split (declared_text version txt) txt stands.front

      prints : Prints version read txt
      prints = (version_is, read_good, text_printed)

      rows_are : xs ≡ (flat (canonical read)).rows
      rows_are = some-injective xs (flat (canonical read)).rows (sym shown ∙ (λ i. rows_shown (sym version_is i) (sym text_printed i)) ∙ rows_shown_lem read read_good)

      written_is : store_bytes version txt xs ≡ encode (canonical read)
      written_is = (λ i. store_bytes (sym version_is i) (sym text_printed i) (rows_are i)) ∙ bytes_written read read_good

  -- ---- the stages, by whether the form stands
  pub stages_refused : (room : ℕ) → form_stands version txt ≡ false → stages_outcome version txt room ≡ refused 19
  unfolding stages_outcome
  stages_refused room q = rw (q, stages_outcome)

  pub stages_on : (room : ℕ) → form_stands version txt ≡ true
      → stages_outcome version txt room ≡ documents_outcome (declared_bytes version txt) (drop (length (declared_text version txt)) txt) room
  unfolding stages_outcome documents_outcome rows_shown
  stages_on room q =
      let h : Standing = standing q in
      let rest : Bytes = drop (length (declared_text version txt)) txt in
      rw (q, stages_outcome)
      (λ i.
      if_rows
      (λ xs. elim (rows_stand (declared_bytes version txt) xs) [
        | true ↦ unless_refused (too_long room (flat_bytes (sym (width_read h) i) (with_documents (sym (form_read_lem h) i) xs))) (flat_bytes (sym (width_read h) i) (with_documents (sym (form_read_lem h) i) xs))
        | false ↦ refused 19
      ])
      (document_rows (declared_in (declared_bytes version txt)) (sym (width_read h) i) 1 [] false 0 rest))

  -- THE ANSWER OF THE STAGES IS THE PROMISED ONE
  pub reads_stages : (room : ℕ) → ReadsText version txt room (stages_outcome version txt room)
  unfolding stages_outcome
  reads_stages room = by (form_stands version txt) refl (rows_shown version txt) refl
    where
      rows_by : (xs : List (Deep FlatRow)) → Bool → Outcome
      rows_by xs b = elim b [ true ↦ unless_refused (too_long room (store_bytes version txt xs)) (store_bytes version txt xs) | false ↦ refused 19 ]

      judged : Standing → (xs : List (Deep FlatRow)) → rows_shown version txt ≡ some xs → (b : Bool) → rows_stand (declared_bytes version txt) xs ≡ b → ReadsText version txt room (rows_by xs b)
      judged h xs e true q =
          inl (read h xs e q, prints h xs e q, ap (λ (w : Bytes). unless_refused (too_long room w) w) (written_is h xs e q))
      judged h xs e false q = inr (
        λ s (v, g, p).
            let rows : xs ≡ (flat (canonical s)).rows = some-injective xs (flat (canonical s)).rows (sym e ∙ (λ i. rows_shown (sym v i) (sym p i)) ∙ rows_shown_lem s g) in
            false≢true (sym q ∙ (λ i. rows_stand (declared_bytes (sym v i) (sym p i)) (rows i)) ∙ rows_stand_lem s g),
        refl,
      )

      by : (b : Bool) → form_stands version txt ≡ b → (o : Option (List (Deep FlatRow))) → rows_shown version txt ≡ o
          → ReadsText version txt room
          (elim b as (λ z. Outcome) [
            | true ↦ if_rows (λ xs. rows_by xs (rows_stand (declared_bytes version txt) xs)) o
            | false ↦ refused 19
          ])
      by true q (some xs) e = judged (standing q) xs e (rows_stand (declared_bytes version txt) xs) refl
      by true q none e = inr (λ s (v, g, p). none-ne-some (flat (canonical s)).rows (sym e ∙ (λ i. rows_shown (sym v i) (sym p i)) ∙ rows_shown_lem s g), refl)
      by false q o e = inr (λ s (v, g, p). false≢true (sym q ∙ (λ i. form_stands (sym v i) (sym p i)) ∙ form_stands_lem s g), refl)
