-- Words of indices, and of the names that they stand for.
use Prim.Native.Nat.{ℕ, zero, suc, ◌-◌, ◌<◌, ◌≤◌}
use native.Mathlib.Omega.{arith}
use borrow.Author.Tests.{eq-eqb, ne_eqb}
use mathlib.Core.Path.{◌≡◌, refl, sym, ap, ap₂, ◌∙◌, subst}
use mathlib.Core.Logic.{⊎_elim}
use mathlib.Core.Bool.{Bool, true, false, ◌&&◌, not, false≢true}
use mathlib.Core.List.Memᴰ
use mathlib.Core.List.{List, [], ◌∷◌, map, Memᴰ}
use lib.Dec.{eqb}
use lib.ListN.{length}
use Rattle.rules.specs.Bytes.{Bytes, bytes, eqb_eq, eqb_of}
use Rattle.rules.specs.Automaton.{accepts}
use Rattle.rules.specs.Store.{Form, element, Row, members}
use Rattle.rules.specs.Layout.{FlatRow, index_of, row_index}
use Rattle.rules.specs.Decode.{name_at}
use Rattle.rules.specs.WellFormed.{known, well_formed}
use Rattle.rules.specs.Conforming.{name_of, is_element}
use Rattle.rules.specs.Lines.{element_with}
use Rattle.rules.specs.Change.{definition_at}
use Rattle.change_laws.proofs.RowEdits.{keep}
use Rattle.model.specs.Steps.{runs}
use Rattle.model.proofs.FactsLaws.{runs_accepts}
use Rattle.form_index.specs.Indices.{IndexForm}
use Rattle.store_check.specs.Reading.{Agrees}
use Rattle.store_check.proofs.IndexLaws.{names_of, known_index}
use Rattle.store_check.proofs.ElementReads.{accepted}
use Rattle.store_check.proofs.AttributeRows.{row_written}
use Rattle.document_rows.specs.Finding.{new_name, kept_name, word}
use Rattle.document_refusals.proofs.ElementTests.{put_at}

-- a row that is an element of a definition, with a serial
pub record Plain (form : Form) (r : Row) : Type 0 where
  pub sort : r.sort ≡ element
  pub known : known form r.name ≡ true
  pub given : r.serial ≡ 0 → ⊥

abbrev pub AllPlain : Form → List Row → Type 0
AllPlain form rows = (r : Row) → Memᴰ r rows → Plain form r

-- indices of definitions, and their names
pub record Named (form : Form) (v : List ℕ) (w : List Bytes) : Type 0 where
  pub names : map (λ j. name_at j (names_of form)) v ≡ w
  pub below : (j : ℕ) → Memᴰ j v → j < length form

module _ (form : Form) where
  named_nil : Named form [] []
  named_nil = record { names = refl; below = λ j m. absurd (Memᴰ.not-nil m) }

  named_more : {j : ℕ} {n : Bytes} {v : List ℕ} {w : List Bytes} → name_at j (names_of form) ≡ n → j < length form → Named form v w → Named form (j ∷ v) (n ∷ w)
  named_more e l x =
      record {
        names = ap₂ (λ (a : Bytes) (b : List Bytes). a ∷ b) e x.names;
        below = λ k m. ⊎_elim (λ q. subst (λ (z : ℕ). z < length form) (sym q) l) (λ i. x.below k i) (Memᴰ.cases_cons m);
      }

  named_as : {v v' : List ℕ} {w w' : List Bytes} → v' ≡ v → w' ≡ w → Named form v w → Named form v' w'
  named_as {v} {v'} {w} {w'} e h x = subst (λ (a : List ℕ). Named form a w') (sym e) (subst (λ (b : List Bytes). Named form v b) (sym h) x)

-- ---- words, one row more
module _ (new skip : ℕ) (r : FlatRow) (rs : List FlatRow) where
  word_off : (p : ℕ) → (p ≡ 1 → ⊥) → r.serial ≡ skip → word p new skip (r ∷ rs) ≡ word (p - 1) new skip rs
  unfolding word new_name kept_name
  word_off p f e = rw (ne_eqb p 1 f, eq-eqb r.serial skip e, new_name, kept_name)

  word_on : (p : ℕ) → (p ≡ 1 → ⊥) → (r.serial ≡ skip → ⊥) → word p new skip (r ∷ rs) ≡ r.index ∷ word (p - 1) new skip rs
  unfolding word new_name kept_name
  word_on p f e = rw (ne_eqb p 1 f, ne_eqb r.serial skip e, new_name, kept_name)

  word_new : (r.serial ≡ skip → ⊥) → word 1 new skip (r ∷ rs) ≡ new ∷ (r.index ∷ word 0 new skip rs)
  unfolding word new_name kept_name
  word_new e = rw (ne_eqb r.serial skip e, kept_name)

word_end : (new skip : ℕ) → word 1 new skip [] ≡ new ∷ []
unfolding word new_name
word_end new skip = refl

word_none : (new skip : ℕ) → word 0 new skip [] ≡ []
unfolding word new_name
word_none new skip = refl

module _ (form : Form) (owner : Bytes) where
  row_name_lem : (r : Row) → Plain form r → (name_at (row_index form owner r) (names_of form) ≡ r.name) × (row_index form owner r < length form)
  row_name_lem r p =
      let e : row_index form owner r ≡ index_of r.name form = index p.sort in
      (ap (λ (j : ℕ). name_at j (names_of form)) e ∙ (known_index form r.name p.known).name, subst (λ (j : ℕ). j < length form) (sym e) (known_index form r.name p.known).below)
    where
      index : r.sort ≡ element → row_index form owner r ≡ index_of r.name form
      index q = rw q

  abbrev written : List Row → List FlatRow
  written rows = map (row_written form owner) rows

  -- ---- without one
  pub word_less : (new k : ℕ) (rows : List Row) → AllPlain form rows → Named form (word 0 new k (written rows)) (map name_of (keep (λ r. not (element_with k r)) rows))
  unfolding keep
  word_less new k [] p = named_as form (word_none new k) refl (named_nil form)
  word_less new k (r ∷ rows) p = by (eqb r.serial k) refl (word_less new k rows (λ s i. p s (Memᴰ.tail i)))
    where
      with : (c : Bool) → eqb r.serial k ≡ c → element_with k r ≡ c
      with c e = ap₂ (λ (a b : Bool). a && b) (ap is_element (p r (Memᴰ.head refl)).sort) e

      by : (c : Bool) → eqb r.serial k ≡ c → Named form (word 0 new k (written rows)) (map name_of (keep (λ r. not (element_with k r)) rows))
          → Named form (word 0 new k (written (r ∷ rows))) (map name_of (keep (λ r. not (element_with k r)) (r ∷ rows)))
      by true e h = named_as form (word_off new k (row_written form owner r) (written rows) 0 (λ z. omega arith) (eqb_eq r.serial k e)) (rw (with true e, keep)) h
      by false e h =
          let (x, y) = row_name_lem r (p r (Memᴰ.head refl)) in
          named_as form (word_on new k (row_written form owner r) (written rows) 0 (λ z. omega arith) (λ z. false≢true (sym e ∙ eqb_of r.serial k z)))
          (rw (with false e, keep)) (named_more form x y h)

  -- ---- all of them
  word_all : (new : ℕ) (rows : List Row) → AllPlain form rows → Named form (word 0 new 0 (written rows)) (map name_of rows)
  word_all new [] p = named_as form (word_none new 0) refl (named_nil form)
  word_all new (r ∷ rows) p =
      let (x, y) = row_name_lem r (p r (Memᴰ.head refl)) in
      named_as form (word_on new 0 (row_written form owner r) (written rows) 0 (λ z. omega arith) (p r (Memᴰ.head refl)).given) refl
      (named_more form x y (word_all new rows (λ s i. p s (Memᴰ.tail i))))

  -- ---- with a new one
  pub word_more : (new : ℕ) (n : Bytes) → name_at new (names_of form) ≡ n → new < length form → (j : ℕ) (rows : List Row) → j ≤ length rows → AllPlain form rows
      → Named form (word (suc j) new 0 (written rows)) (put_at j n (map name_of rows))
  word_more new n e l zero [] b p = named_as form (word_end new 0) refl (named_more form e l (named_nil form))
  word_more new n e l (suc j) [] b p = absurd (omega arith)
  word_more new n e l zero (r ∷ rows) b p =
      let (x, y) = row_name_lem r (p r (Memᴰ.head refl)) in
      named_as form (word_new new 0 (row_written form owner r) (written rows) (p r (Memᴰ.head refl)).given) refl
      (named_more form e l (named_more form x y (word_all new rows (λ s i. p s (Memᴰ.tail i)))))
  word_more new n e l (suc j) (r ∷ rows) b p =
      let (x, y) = row_name_lem r (p r (Memᴰ.head refl)) in
      let q : suc (suc j) - 1 ≡ suc j = omega arith in
      named_as form
      (word_on new 0 (row_written form owner r) (written rows) (suc (suc j)) (λ z. omega arith) (p r (Memᴰ.head refl)).given
      ∙ ap (λ (m : ℕ). row_index form owner r ∷ word m new 0 (written rows)) q)
      refl
      (named_more form x y (word_more new n e l j rows (omega arith) (λ s i. p s (Memᴰ.tail i))))

-- ---- in a model
pub named_runs : {version : ℕ} (w : ℕ) (form : Form) → well_formed w form ≡ true → (F : IndexForm) → Agrees version F form → (i : ℕ) → i < length form
    → {v : List ℕ} {ns : List Bytes} → Named form v ns → runs (F.model i) 0 v ≡ accepts bytes (members (definition_at i form)) ns
named_runs w form ok F agrees i l {v} {ns} x =
    runs_accepts (F.model i) v
    ∙ sym (accepted w form ok F agrees i l v x.below)
    ∙ ap (accepts bytes (members (definition_at i form))) x.names
