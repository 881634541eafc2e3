-- Documents that conform to a form conform to another after a plan, if
-- each row does with the rows that it then has below it.
use Prim.Native.Nat.{ℕ, ◌<◌}
use mathlib.Core.Path.{◌≡◌, refl, sym, ap, ap₂, ◌∙◌}
use mathlib.Core.Bool.{Bool, true, false, not, false≢true}
use mathlib.Core.Option.{Option, none, some}
use mathlib.Core.List.{List, [], ◌∷◌, map}
use lib.ListN.{length}
use Rattle.rules.specs.Bytes.{Bytes, same, bytes, same_eq, all, is_none}
use Rattle.rules.specs.Model.{Distinct}
use Rattle.rules.specs.Store.{Definition, Form, RowSort, element, attribute, text, Row, Forest, heads}
use Rattle.rules.specs.WellFormed.{definition_name, lookup}
use Rattle.rules.specs.Conforming.{is_element, every_row, fits_definition, fits_row, conforming}
use Rattle.rules.specs.Lines.{ground, element_named}
use Rattle.rules.specs.Change.{definition_at, update, Plan, changed}
use Rattle.rules.specs.Passing.{GoodSerials}
use Rattle.rules.proofs.Words.{and_both, and_split}
use Rattle.change_laws.proofs.RowEdits.{keep, plant_rows, revalued, children_after}
use Rattle.change_laws.proofs.FormLaws.{definition_found, update_other, update_this}
use Rattle.change_laws.proofs.Rowwise.{Standing, roots_changed, every_changed}
use Rattle.change_laws.proofs.Untouched.{children_cut, same_row_lem, children_kept}
use Rattle.change_laws.proofs.Numbered.{mapped_elements}
use Rattle.rules.proofs.ConformingLaws.{is_element_lem}
use Rattle.rules.proofs.BooleanLaws.{none_nil, all_append}

-- ---- the documents' own rows
all_kept : (test stays : Row → Bool) (rows : List Row) → all test rows ≡ true → all test (keep stays rows) ≡ true
unfolding keep
all_kept test stays [] e = refl
all_kept test stays (r ∷ rows) e = let (i, j) = and_split (test r) (all test rows) e in by (stays r) refl i (all_kept test stays rows j)
  where
    by : (c : Bool) → stays r ≡ c → test r ≡ true → all test (keep stays rows) ≡ true → all test (keep stays (r ∷ rows)) ≡ true
    by true q i x = rw (q, keep) (and_both i x)
    by false q i x = rw (q, keep) x

all_planted : (p : Plan) (test : Row → Bool) (u : Row) (due : Bool) (rows : List Row) → (due ≡ true → all test (heads p.filling) ≡ true)
    → all test rows ≡ true → all test (plant_rows p u due rows) ≡ true
unfolding plant_rows
all_planted p test u true [] f e = f refl
all_planted p test u false [] f e = refl
all_planted p test u false (r ∷ rows) f e = let (i, j) = and_split (test r) (all test rows) e in and_both i (all_planted p test u false rows f j)
all_planted p test u true (r ∷ rows) f e =
    let (i, j) = and_split (test r) (all test rows) e in
    by (p.later u r) refl i (all_planted p test u false rows (λ z. absurd (false≢true z)) j) (all_planted p test u true rows f j)
  where
    by : (c : Bool) → p.later u r ≡ c → test r ≡ true → all test (plant_rows p u false rows) ≡ true → all test (plant_rows p u true rows) ≡ true → all test (plant_rows p u true (r ∷ rows)) ≡ true
    by true q i x y = rw (q, plant_rows) (all_append test (heads p.filling) (r ∷ plant_rows p u false rows) ∙ and_both (f refl) (and_both i x))
    by false q i x y = rw (q, plant_rows) (and_both i y)

module _ (version : ℕ) (form form' : Form) (p : Plan) (docs : Forest Row) where
  pub conforming_changed : (p.fills ground ≡ true → all (λ (r : Row). is_element r.sort) (heads p.filling) ≡ true)
      → every_row (λ r below. fits_row version form' r below) p.filling ≡ true
      → ((r : Row) (b : Forest Row) → Standing docs r b → fits_row version form r (heads b) ≡ true → fits_row version form' (revalued p r) (children_after p r (heads b)) ≡ true)
      → conforming version form docs ≡ true → conforming version form' (changed p docs) ≡ true
  unfolding conforming
  conforming_changed top new step e =
      let (x, y) = and_split (all elements (heads docs)) (every_row (λ r below. fits_row version form r below) docs) e in
      and_both
      (ap (all elements) (roots_changed p docs)
      ∙ all_planted p elements ground (p.fills ground) (map (revalued p) (keep (λ r. not (p.takes ground r)) (heads docs))) top
      (mapped_elements (revalued p) (λ r. refl) (λ r. refl) (keep (λ r. not (p.takes ground r)) (heads docs)) ∙ all_kept elements (λ r. not (p.takes ground r)) (heads docs) x))
      (every_changed p (λ r below. fits_row version form r below) (λ r below. fits_row version form' r below) new docs step y)
    where
      elements : Row → Bool
      elements r = is_element r.sort

-- ---- by what is found under an element's name
pub fits_element : (version : ℕ) (form : Form) (r : Row) (rows : List Row) → r.sort ≡ element → fits_row version form r rows ≡ fits_definition version (lookup r.name form) rows
unfolding fits_row
fits_element version form r rows e = rw e

pub fits_other : (version : ℕ) (form : Form) (r : Row) (rows : List Row) → is_element r.sort ≡ false → fits_row version form r rows ≡ is_none rows
unfolding fits_row
fits_other version form r rows = by r.sort refl
  where
    by : (s : RowSort) → r.sort ≡ s → is_element s ≡ false → fits_row version form r rows ≡ is_none rows
    by element q h = absurd (false≢true (sym h))
    by attribute q h = rw q
    by text q h = rw q

kept_nothing : (p : Plan) (r : Row) → map (revalued p) (keep (λ s. not (p.takes r s)) []) ≡ []
unfolding keep
kept_nothing p r = refl

module _ (version : ℕ) (form form' : Form) (next : ℕ) (docs : Forest Row) (serials : GoodSerials next docs) (p : Plan) (none-set : p.set ≡ 0) where
  -- a plan that sets no value and fills only elements, and `ground`
  pub conforming_elements : (p.fills ground ≡ true → all (λ (r : Row). is_element r.sort) (heads p.filling) ≡ true)
      → every_row (λ r below. fits_row version form' r below) p.filling ≡ true
      → ((r : Row) (b : Forest Row) → Standing docs r b → is_element r.sort ≡ false → p.fills r ≡ false)
      → ((r : Row) (b : Forest Row) (d : Definition) → Standing docs r b → r.sort ≡ element → lookup r.name form ≡ some d → fits_definition version (some d) (heads b) ≡ true
      → fits_definition version (lookup r.name form') (children_after p r (heads b)) ≡ true)
      → conforming version form docs ≡ true → conforming version form' (changed p docs) ≡ true
  conforming_elements top new apart step = conforming_changed version form form' p docs top new row
    where
      found : (r : Row) (b : Forest Row) → Standing docs r b → r.sort ≡ element → (o : Option Definition) → lookup r.name form ≡ o → fits_definition version o (heads b) ≡ true
          → fits_definition version (lookup r.name form') (children_after p r (heads b)) ≡ true
      found r b i s none q h = absurd (false≢true h)
      found r b i s (some d) q h = step r b d i s q h

      row : (r : Row) (b : Forest Row) → Standing docs r b → fits_row version form r (heads b) ≡ true → fits_row version form' (revalued p r) (children_after p r (heads b)) ≡ true
      row r b i h = ap (λ (z : Row). fits_row version form' z (children_after p r (heads b))) (same_row_lem next docs serials p none-set r b i) ∙ by (is_element r.sort) refl
        where
          by : (c : Bool) → is_element r.sort ≡ c → fits_row version form' r (children_after p r (heads b)) ≡ true
          by true q =
              let s : r.sort ≡ element = is_element_lem r.sort q in
              fits_element version form' r (children_after p r (heads b)) s ∙ found r b i s (lookup r.name form) refl (sym (fits_element version form r (heads b) s) ∙ h)
          by false q =
              let z : heads b ≡ [] = none_nil (heads b) (sym (fits_other version form r (heads b) q) ∙ h) in
              let f : p.fills (revalued p r) ≡ false = ap p.fills (same_row_lem next docs serials p none-set r b i) ∙ apart r b i q in
              fits_other version form' r (children_after p r (heads b)) q ∙ ap is_none (ap (children_after p r) z ∙ children_cut p r [] f ∙ kept_nothing p r)

-- ---- one definition replaced
-- d' stands in form' where d stands in form, and nothing else differs
pub record Replaced (form form' : Form) (d d' : Definition) : Type 0 where
  pub was : lookup d.name form ≡ some d
  pub is : lookup d.name form' ≡ some d'
  pub others : (n : Bytes) → (n ≡ d.name → ⊥) → lookup n form' ≡ lookup n form

pub replaced_at : (form : Form) → Distinct (map definition_name form) → (i : ℕ) → i < length form → (u : Definition → Definition) → ((d : Definition) → (u d).name ≡ d.name)
    → Replaced form (update i u form) (definition_at i form) (u (definition_at i form))
replaced_at form once i below u keeps =
    record { was = definition_found i form once below; is = update_this u keeps i form once below; others = update_other u keeps i form }

-- a plan that does nothing but below elements of the name n
pub record Within (n : Bytes) (p : Plan) : Type 0 where
  pub takes : (r s : Row) → element_named n r ≡ false → p.takes r s ≡ false
  pub fills : (r : Row) → element_named n r ≡ false → p.fills r ≡ false
  pub set : p.set ≡ 0

module _ (version : ℕ) (form form' : Form) (d d' : Definition) (replaced : Replaced form form' d d') (next : ℕ) (docs : Forest Row) (serials : GoodSerials next docs) (p : Plan)
    (within : Within d.name p) where
  pub conforming_replaced : every_row (λ r below. fits_row version form' r below) p.filling ≡ true
      → ((r : Row) (b : Forest Row) → Standing docs r b → element_named d.name r ≡ true → fits_definition version (some d) (heads b) ≡ true
      → fits_definition version (some d') (children_after p r (heads b)) ≡ true)
      → conforming version form docs ≡ true → conforming version form' (changed p docs) ≡ true
  conforming_replaced new step =
      conforming_elements version form form' next docs serials p within.set (λ e. absurd (false≢true (sym (within.fills ground refl) ∙ e))) new
      (λ r b i q. within.fills r (not_element r q)) (λ r b c i s q h. by r b c i s q h (same d.name r.name) refl)
    where
      not_element : (r : Row) → is_element r.sort ≡ false → element_named d.name r ≡ false
      not_element r q = rw q

      by : (r : Row) (b : Forest Row) (c : Definition) → Standing docs r b → r.sort ≡ element → lookup r.name form ≡ some c → fits_definition version (some c) (heads b) ≡ true
          → (x : Bool) → same d.name r.name ≡ x → fits_definition version (lookup r.name form') (children_after p r (heads b)) ≡ true
      by r b c i s q h true e =
          let n : d.name ≡ r.name = same_eq d.name r.name e in
          let z : some c ≡ some d = sym q ∙ ap (λ (m : Bytes). lookup m form) (sym n) ∙ replaced.was in
          let y : c ≡ d = cc z in
          ap (λ (m : Bytes). fits_definition version (lookup m form') (children_after p r (heads b))) (sym n)
          ∙ ap (λ (o : Option Definition). fits_definition version o (children_after p r (heads b))) replaced.is
          ∙ step r b i (and_both (ap is_element s) e) (ap (λ (k : Definition). fits_definition version (some k) (heads b)) (sym y) ∙ h)
      by r b c i s q h false e =
          let f : element_named d.name r ≡ false = rw s e in
          ap₂ (λ (o : Option Definition) (l : List Row). fits_definition version o l) (replaced.others r.name (λ k. false≢true (sym e ∙ bytes.same← d.name r.name (sym k))) ∙ q)
          (children_kept next docs serials p within.set r b i (λ t m. within.takes r t f) (within.fills r f))
          ∙ h
