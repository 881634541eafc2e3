-- The conditions of 12 and 13: what the code finds, put together.
use Prim.Native.Nat.{ℕ, zero, suc, ◌-◌, ◌<◌, ◌≤◌}
use native.Mathlib.Omega.{arith}
use borrow.Author.Tests.{lt-ltb, le-ltb, ne_eqb}
use mathlib.Core.Path.{◌≡◌, refl, sym, ap, ap₂, ◌∙◌}
use mathlib.Core.Logic.{⊎_elim}
use mathlib.Core.Bool.{Bool, true, false, ◌&&◌, not, false≢true}
use mathlib.Core.Option.{some}
use mathlib.Core.List.Memᴰ
use mathlib.Core.List.{List, [], ◌∷◌, map, Memᴰ}
use lib.Dec.{eqb, ltb}
use Rattle.std.specs.Prelude.{Some, None}
use lib.ListN.{length, length-map}
use Rattle.rules.specs.Bytes.{Bytes, bytes}
use Rattle.rules.specs.Automaton.{accepts}
use Rattle.rules.specs.Store.{Content, empty, pcdata, complex, Definition, element, Row, heads, members}
use Rattle.rules.specs.Layout.{FlatRow, value_width, kind_code, index_of}
use Rattle.rules.specs.WellFormed.{lookup, is_there, known}
use Rattle.rules.specs.Conforming.{name_of, ElementRows, RowConforms, conforming}
use Rattle.rules.specs.Lines.{is_element_row, element_with, children_of, serial_at}
use Rattle.rules.specs.Change.{add_document, add_element, destroy_element, name_at_index, after}
use Rattle.rules.specs.Refusal.{Condition, ◌if◌, first, conditions, past_end, rows_of, bad_text, is_complex}
use Rattle.change_laws.proofs.RowEdits.{row_serial, keep}
use Rattle.change_laws.proofs.Conditions.{not_past}
use Rattle.change_laws.proofs.StandingLaws.{standing_child, standing_every, no_zero, children_are}
use Rattle.model.specs.Steps.{runs}
use Rattle.store_check.proofs.IndexLaws.{name_of_lem}
use Rattle.store_laws.specs.Stores.{store_in}
use Rattle.document_rows.specs.Finding.{ParentAt, model_at, row_definition_kind, children_at, fits_at, has_place, serial_in, word}
use Rattle.change_laws.specs.FirstCondition.{Gives}
use Rattle.form_index.specs.Reading.{by_index}
use Rattle.store_check.proofs.StoreFacts.{form_in, docs_in, Whole}
use Rattle.document_rows.proofs.ElementFacts.{Element, NoElement, Parent, parent_there, parent_absent, defined, elements_at, serials_at}
use Rattle.document_refusals.proofs.ElementTests.{put_at}
use Rattle.document_refusals.proofs.ElementsAfter.{ok, add_conforms, destroy_conforms, root_conforms}
use Rattle.document_refusals.proofs.IndexWords.{AllPlain, Named, word_less, word_more, named_runs}
use Rattle.change_laws.proofs.FirstCondition.{gives_hit, gives_next, gives_none}
use Rattle.document_rows.proofs.RowFacts.{kind_is}
use Rattle.rules.proofs.ConformingLaws.{is_element_lem}
use Rattle.rules.proofs.Words.{below_or}
use Rattle.change_laws.proofs.InstanceRows.{keep_in}

keep_is : (test : Row → Bool) (rows : List Row) (r : Row) → Memᴰ r (keep test rows) → test r ≡ true
unfolding keep
keep_is test [] r m = absurd (Memᴰ.not-nil m)
keep_is test (s ∷ rows) r m = by (test s) refl (keep_is test rows r)
  where
    by : (c : Bool) → test s ≡ c → (Memᴰ r (keep test rows) → test r ≡ true) → test r ≡ true
    by true e f = ⊎_elim (λ q. ap test q ∙ e) f (Memᴰ.cases_cons (rw (e, keep) at m))
    by false e f = f (rw (e, keep) at m)

-- number j is missing where there are no more than j
counted : (j : ℕ) (rows : List Row) → ((r : Row) → Memᴰ r rows → r.serial ≡ 0 → ⊥) → eqb (serial_at j (map row_serial rows)) 0 ≡ ltb (length (map row_serial rows)) (suc j)
counted j [] f = sym (lt-ltb 0 (suc j) (omega arith))
counted zero (r ∷ rows) f = ne_eqb r.serial 0 (f r (Memᴰ.head refl)) ∙ sym (le-ltb (suc (length (map row_serial rows))) 1 (omega arith))
counted (suc j) (r ∷ rows) f = counted j rows (λ s m. f s (Memᴰ.tail m)) ∙ shift (length (map row_serial rows)) (suc j)
  where
    shift : (m n : ℕ) → ltb m n ≡ ltb (suc m) (suc n)
    shift m n = ⊎_elim (λ h. lt-ltb m n h ∙ sym (lt-ltb (suc m) (suc n) (omega arith))) (λ h. le-ltb m n h ∙ sym (le-ltb (suc m) (suc n) (omega arith))) (below_or m n)

module _ (bs : Bytes) (w : Whole bs) where
  -- ---- the element children of a row, in its model
  module _ {k i : ℕ} (e : Element bs k i) where
    abbrev kids : List Row
    kids = keep is_element_row (heads e.below)

    kid_in : (r : Row) → Memᴰ r kids → Memᴰ r (heads e.below)
    kid_in r m = keep_in is_element_row (heads e.below) r m

    plain : AllPlain (form_in bs) kids
    plain r m =
        let (c, j) = standing_child (docs_in bs) e.row e.below e.stands r (kid_in r m) in
        let s : r.sort ≡ element = is_element_lem r.sort (keep_is is_element_row (heads e.below) r m) in
        record {
          sort = s;
          known = named r (heads c) s (standing_every (λ r below. RowConforms (store_in bs).version (form_in bs) r below) (docs_in bs) w.good.docs.rows r c j);
          given = no_zero (store_in bs).next (docs_in bs) w.good.serials r c j;
        }
      where
        named : (r : Row) (rows : List Row) → r.sort ≡ element → RowConforms (store_in bs).version (form_in bs) r rows → known (form_in bs) r.name ≡ true
        named r rows q x =
            let y : (d : Definition) × (lookup r.name (form_in bs) ≡ some d) × ElementRows (store_in bs).version d rows = rw q at x in
            ap is_there y.1

    abbrev d : Definition
    d = (defined bs w k i e).definition

    -- a word of indices in the model
    in_model_lem : {v : List ℕ} {ns : List Bytes} → Named (form_in bs) v ns → runs (model_at bs i) 0 v ≡ accepts bytes (members d) ns
    in_model_lem {v} {ns} x =
        let f = defined bs w k i e in
        ap (λ (j : ℕ). runs ((by_index bs).model j) 0 v) f.index
        ∙ named_runs (value_width (store_in bs).version) (form_in bs) (ok (store_in bs) w.good) (by_index bs) w.agrees (index_of e.row.name (form_in bs)) f.below x
        ∙ ap (λ (z : Definition). accepts bytes (members z) ns) f.at

    pub less_fits : (m : ℕ) → fits_at bs i 0 0 m ≡ accepts bytes (members d) (map name_of (keep (λ z. not (element_with m z)) kids))
    unfolding fits_at
    less_fits m = ap (λ (z : List FlatRow). runs (model_at bs i) 0 (word 0 0 m z)) (elements_at bs w k i e) ∙ in_model_lem (word_less (form_in bs) e.row.name 0 m kids plain)

    pub more_fits : (j n : ℕ) → n < length (form_in bs) → j ≤ length kids → fits_at bs i (suc j) n 0 ≡ accepts bytes (members d) (put_at j (name_at_index n (form_in bs)) (map name_of kids))
    unfolding fits_at
    more_fits j n l m =
        ap (λ (z : List FlatRow). runs (model_at bs i) 0 (word (suc j) n 0 z)) (elements_at bs w k i e)
        ∙ in_model_lem (word_more (form_in bs) e.row.name n (name_at_index n (form_in bs)) (name_of_lem (form_in bs) n l) l j kids m plain)

    -- ---- how many there are
    kids_of : children_of is_element_row k (rows_of (store_in bs)) ≡ map row_serial kids
    kids_of = ap (λ (z : ℕ). children_of is_element_row z (rows_of (store_in bs))) (sym e.serial)
        ∙ children_are (store_in bs).next (docs_in bs) w.good.serials is_element_row e.row e.below e.stands

    serials : map serial_in (children_at bs 1 i) ≡ map row_serial kids
    serials = serials_at bs w k i e 1 is_element_row (elements_at bs w k i e) ∙ kids_of

    place_more : (j : ℕ) → has_place bs i (suc j) ≡ not (eqb (serial_at (suc j - 1) (map serial_in (children_at bs 1 i))) 0)
    unfolding has_place
    place_more j = rw (ne_eqb (suc j) 0 (λ z. omega arith), has_place)

    pub place_is : (j : ℕ) → has_place bs i j ≡ not (ltb (length (children_of is_element_row k (rows_of (store_in bs)))) j)
    unfolding has_place
    place_is zero = sym (ap not (le-ltb (length (children_of is_element_row k (rows_of (store_in bs)))) 0 (omega arith)))
    place_is (suc j) =
        let q : suc j - 1 ≡ j = omega arith in
        place_more j
        ∙ ap₂ (λ (n : ℕ) (z : List ℕ). not (eqb (serial_at n z) 0)) q serials
        ∙ ap not (counted j kids (λ r m. (plain r m).given))
        ∙ ap (λ (z : List ℕ). not (ltb (length z) (suc j))) (sym kids_of)

  -- ---- 13
  module _ {k : ℕ} where
    pub destroy_7 : NoElement bs k → Gives 7 (conditions (destroy_element k) (store_in bs))
    unfolding conditions
    destroy_7 f = gives_hit f.there

    pub destroy_root : {i : ℕ} → Element bs k i → ParentAt bs k None → Gives 0 (conditions (destroy_element k) (store_in bs))
    unfolding conditions
    destroy_root x f = gives_next x.there (gives_next (ap not (root_conforms (store_in bs) w.good k (parent_absent bs w k f))) gives_none)

    module _ {i u : ℕ} (x : Element bs k i) (f : ParentAt bs k (Some u)) where
      above : Parent bs w k u
      above = parent_there bs w k f

      after_is : conforming (store_in bs).version (form_in bs) (after (destroy_element k) (store_in bs)).docs ≡ fits_at bs u 0 0 k
      after_is =
          let p : Element bs above.serial u = above.parent in
          let g = defined bs w above.serial u p in
          destroy_conforms (store_in bs) w.good p.row p.below p.stands p.sort g.definition g.found g.fits k above.child above.among above.here
          ∙ sym (less_fits p k)

      pub destroy_15 : {a : Bool} → a ≡ fits_at bs u 0 0 k → not a ≡ true → Gives 15 (conditions (destroy_element k) (store_in bs))
      unfolding conditions
      destroy_15 e h = gives_next x.there (gives_hit (ap not (after_is ∙ sym e) ∙ h))

      pub destroy_0 : {a : Bool} → a ≡ fits_at bs u 0 0 k → not a ≡ false → Gives 0 (conditions (destroy_element k) (store_in bs))
      unfolding conditions
      destroy_0 e h = gives_next x.there (gives_next (ap not (after_is ∙ sym e) ∙ h) gives_none)

  -- ---- 12
  module _ (k j n : ℕ) (t : Bytes) where
    held : (a b : Bool) (x : ℕ) (ds : List Condition) → x ≡ first ((3 if a) ∷ (6 if b) ∷ []) → (x ≡ 0 → ⊥) → Gives x ((3 if a) ∷ (6 if b) ∷ ds)
    held true b x ds e f = record { is = e }
    held false true x ds e f = record { is = e }
    held false false x ds e f = absurd (f e)

    pub add_early : {x : ℕ} → x ≡ first (conditions (add_document n t) (store_in bs)) → (x ≡ 0 → ⊥) → Gives x (conditions (add_element k j n t) (store_in bs))
    unfolding conditions
    add_early {x} e f = held (bad_text (store_in bs) t) (past_end n (form_in bs)) x _ e f

    unmet : (a b : Bool) (x : ℕ) → x ≡ first ((3 if a) ∷ (6 if b) ∷ []) → x ≡ 0 → (a ≡ false) × (b ≡ false)
    unmet true b x e h = absurd (omega arith)
    unmet false true x e h = absurd (omega arith)
    unmet false false x e h = (refl, refl)

    module _ {x : ℕ} (e : x ≡ first (conditions (add_document n t) (store_in bs))) (h : x ≡ 0) where
      early : (bad_text (store_in bs) t ≡ false) × (past_end n (form_in bs) ≡ false)
      unfolding conditions
      early = unmet (bad_text (store_in bs) t) (past_end n (form_in bs)) x e h

      pub definition_small : n < 65536
      definition_small = let l : n < length (form_in bs) = not_past n (form_in bs) early.1 in omega (arith, w.agrees.size, w.few_definitions)

      pub add_7 : NoElement bs k → Gives 7 (conditions (add_element k j n t) (store_in bs))
      unfolding conditions
      add_7 f = gives_next early.0 (gives_next early.1 (gives_hit f.there))

      module _ {i : ℕ} (f : Element bs k i) {a : Bool} (p : a ≡ has_place bs i j) where
        pub add_8 : not a ≡ true → Gives 8 (conditions (add_element k j n t) (store_in bs))
        unfolding conditions
        add_8 q = gives_next early.0
            (gives_next early.1
            (gives_next f.there (gives_hit (over (ltb (length (children_of is_element_row k (rows_of (store_in bs)))) j) (ap not (sym (p ∙ place_is f j)) ∙ q)))))
          where
            over : (c : Bool) → not (not c) ≡ true → c ≡ true
            over true e = refl
            over false e = e

        module _ (q : not a ≡ false) where
          within : ltb (length (children_of is_element_row k (rows_of (store_in bs)))) j ≡ false
          within = under (ltb (length (children_of is_element_row k (rows_of (store_in bs)))) j) (ap not (sym (p ∙ place_is f j)) ∙ q)
            where
              under : (c : Bool) → not (not c) ≡ false → c ≡ false
              under true e = e
              under false e = refl

          few : j ≤ length (kids f)
          few = ⊎_elim (λ h. absurd (false≢true (sym within ∙ lt-ltb (length (children_of is_element_row k (rows_of (store_in bs)))) j h)))
              (λ h. omega (arith, ap (λ (z : List ℕ). length z) (kids_of f), length-map (kids f) row_serial))
              (below_or (length (children_of is_element_row k (rows_of (store_in bs)))) j)

          after_added : conforming (store_in bs).version (form_in bs) (after (add_element k j n t) (store_in bs)).docs ≡ (is_complex (d f).content && fits_at bs i (suc j) n 0)
          after_added =
              let g = defined bs w k i f in
              let l : n < length (form_in bs) = not_past n (form_in bs) early.1 in
              ap (λ (z : ℕ). conforming (store_in bs).version (form_in bs) (after (add_element z j n t) (store_in bs)).docs) (sym f.serial)
              ∙ add_conforms (store_in bs) w.good f.row f.below f.stands f.sort g.definition g.found g.fits j n t l few
              ∙ ap (λ (z : Bool). is_complex (d f).content && z) (sym (more_fits f j n l few))

          pub add_15 : {b : Bool} → b ≡ (is_complex (d f).content && fits_at bs i (suc j) n 0) → b ≡ false → Gives 15 (conditions (add_element k j n t) (store_in bs))
          unfolding conditions
          add_15 u v = gives_next early.0 (gives_next early.1 (gives_next f.there (gives_next within (gives_hit (ap not (after_added ∙ sym u ∙ v))))))

          pub add_0 : {b : Bool} → b ≡ (is_complex (d f).content && fits_at bs i (suc j) n 0) → b ≡ true → Gives 0 (conditions (add_element k j n t) (store_in bs))
          unfolding conditions
          add_0 u v = gives_next early.0 (gives_next early.1 (gives_next f.there (gives_next within (gives_next (ap not (after_added ∙ sym u ∙ v)) gives_none))))

  -- ---- the kind, read
  complex_is : (d : Definition) → kind_code d.content ≡ 2 → is_complex d.content ≡ true
  complex_is d h = by d.content h
    where
      by : (x : Content) → kind_code x ≡ 2 → is_complex x ≡ true
      by empty h = absurd (omega arith)
      by pcdata h = absurd (omega arith)
      by (complex ms) h = refl

  not_complex : (d : Definition) → (kind_code d.content ≡ 2 → ⊥) → is_complex d.content ≡ false
  not_complex d h = by d.content h
    where
      by : (x : Content) → (kind_code x ≡ 2 → ⊥) → is_complex x ≡ false
      by empty h = refl
      by pcdata h = refl
      by (complex ms) h = absurd (h refl)

  module _ {k i : ℕ} (f : Element bs k i) {c : ℕ} (e : c ≡ row_definition_kind bs i) (a : Bool) where
    pub other_kind : (c ≡ 2 → ⊥) → false ≡ (is_complex (d f).content && a)
    other_kind h = sym (ap (λ (z : Bool). z && a) (not_complex (d f) (λ q. h (e ∙ kind_is bs w f ∙ q))))

    pub complex_kind : c ≡ 2 → {b : Bool} → b ≡ a → b ≡ (is_complex (d f).content && a)
    complex_kind h q = q ∙ sym (ap (λ (z : Bool). z && a) (complex_is (d f) (sym (kind_is bs w f) ∙ sym e ∙ h)))
