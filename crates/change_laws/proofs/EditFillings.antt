-- Changes 3 to 8: the rows that an edit fills with are neither the owner's nor of
-- definitions that reach it, and conform before and after it.
use Prim.Native.Nat.{ℕ}
use mathlib.Core.Path.{◌≡◌, refl, sym, ap, ◌∙◌}
use mathlib.Core.Logic.{◌⊎◌, inl, inr, ⊎_elim}
use mathlib.Core.Bool.{Bool, true, false, ◌||◌, false≢true}
use mathlib.Core.Option.{Option, some}
use mathlib.Core.List.Memᴰ
use mathlib.Core.List.{List, ◌++◌, Memᴰ}
use lib.ListN.{length}
use Rattle.rules.specs.Bytes.{Bytes, is_none}
use Rattle.rules.specs.Model.{Members, done, el, group, names, skips, nothing, unless, filling}
use Rattle.rules.specs.Place.{Context, before_place, after_place, Found}
use Rattle.rules.specs.Edit.{Edit, insert, remove, quantify, convert, flatten, place_of}
use Rattle.rules.specs.Store.{Content, complex, Definition, Form, RowSort, element, attribute, text, Row, Forest, bare, tree, model_of, members}
use Rattle.rules.specs.WellFormed.{lookup, members_of, Reaches, directly, through, GoodDefinition, well_formed}
use Rattle.rules.specs.Conforming.{EveryRow, is_element, every_row, fits_definition, fits_row}
use Rattle.rules.specs.Filling.{fill_within, fill_definition}
use Rattle.rules.specs.Lines.{Line}
use Rattle.rules.specs.Change.{group_filling, name_at_index, in_model, edit_at, edit_model}
use Rattle.rules.proofs.Apart.{names_plug}
use Rattle.rules.proofs.Height.{reaches_then}
use Rattle.rules.proofs.SerialLaws.{every_row_lem}
use Rattle.rules.proofs.WellFormedLaws.{definition_good, no_circle, definition_deep}
use Rattle.rules.proofs.FillingLaws.{in_filling, every_each, every_filled, filling_fits}
use Rattle.change_laws.proofs.FormLaws.{update_other}
use Rattle.change_laws.proofs.ModelAfter.{place_right}
use Rattle.change_laws.proofs.Replacing.{Joins}
use Rattle.change_laws.proofs.InstanceEdits.{edit_plan, filled}

-- ---- a place that is there
-- ---- the names that an edit fills
-- 6 and 11: what an edit inserts
abbrev pub Insertable : Form → Bytes → Edit Bytes → Type 0
Insertable form owner (insert q n) = Joins form owner n
Insertable form owner remove = Unit {0}
Insertable form owner (quantify r) = Unit {0}
Insertable form owner (convert j n) = Unit {0}
Insertable form owner flatten = Unit {0}

in_unless : (b : Bool) (w : List Bytes) (x : Bytes) → Memᴰ x (unless b w) → Memᴰ x w
in_unless true w x m = absurd (Memᴰ.not-nil m)
in_unless false w x m = m

-- what is filled was inserted or stood at the place
filled_from : (form : Form) (owner : Bytes) (e : Edit Bytes) (t : Members Bytes) → Insertable form owner e → (m : Bytes) → Memᴰ m (filled e t) → Joins form owner m ⊎ Memᴰ m (names t)
unfolding names
filled_from form owner (insert q n) t i m k = inl (rw (Memᴰ.eq_of_singleton k) i)
filled_from form owner remove t i m k = absurd (Memᴰ.not-nil k)
filled_from form owner (quantify r) done i m k = absurd (Memᴰ.not-nil k)
filled_from form owner (quantify r) (el q x t) i m k = inr (Memᴰ.head (Memᴰ.eq_of_singleton k))
filled_from form owner (quantify r) (group q j ms t) i m k = inr (Memᴰ.append_left (names t) (in_filling m j ms (in_unless (skips r || nothing j ms) (filling j ms) m k)))
filled_from form owner (convert j n) t i m k = absurd (Memᴰ.not-nil k)
filled_from form owner flatten t i m k = absurd (Memᴰ.not-nil k)

-- ---- the rows of a filling
pub filling_reaches : (version h : ℕ) (form : Form) (txt n : Bytes) → EveryRow (λ x b. x.sort ≡ element → (x.name ≡ n) ⊎ Reaches form n x.name) (fill_within version h form txt n)
filling_reaches version h form txt n =
    every_filled version form txt (λ x b. x.sort ≡ element → (x.name ≡ n) ⊎ Reaches form n x.name) (λ k m. (m ≡ n) ⊎ Reaches form n m) (λ k m d q e i j. inr (step m d e q i j)) (λ k m d q e s. q)
    (λ m d e a i s. absurd (false≢true (ap is_element s))) (λ s. absurd (false≢true (ap is_element s))) h n (inl refl)
  where
    step : (m : Bytes) (d : Definition) → lookup m form ≡ some d → (m ≡ n) ⊎ Reaches form n m → (i : Bytes) → Memᴰ i (names (members d)) → Reaches form n i
    step m d e (inl q) i j = let own : Memᴰ i (members_of m form) = rw e j in directly (rw q at own)
    step m d e (inr r) i j = let own : Memᴰ i (members_of m form) = rw e j in reaches_then form r (directly own)

-- every row of the plan is one of a filling
every_planned : (version : ℕ) (P : Row → List Row → Type 0) (form : Form) (ls : List Line) (owner txt : Bytes) (e : Edit Bytes) (c : Context Bytes) (t : Members Bytes)
    → ((m : Bytes) → Memᴰ m (filled e t) → EveryRow P (fill_definition version form txt m))
    → EveryRow P (edit_plan version form ls owner txt e c t).filling
every_planned version P form ls owner txt (insert q n) c t f = f n (Memᴰ.head refl)
every_planned version P form ls owner txt remove c done f = tt
every_planned version P form ls owner txt remove c (el q x t) f = tt
every_planned version P form ls owner txt remove c (group q k ms t) f = tt
every_planned version P form ls owner txt (quantify r) c done f = tt
every_planned version P form ls owner txt (quantify r) c (el q x t) f = f x (Memᴰ.head refl)
every_planned version P form ls owner txt (quantify r) c (group q k ms t) f = every_each P (λ n. fill_definition version form txt n) (group_filling r k ms) f
every_planned version P form ls owner txt (convert j n) c t f = tt
every_planned version P form ls owner txt flatten c t f = tt

-- two facts on each row give a third
pub every_two : (P Q S : Row → List Row → Type 0) → ((r : Row) (b : List Row) → P r b → Q r b → S r b) → (f : Forest Row) → EveryRow P f → EveryRow Q f → EveryRow S f
every_two P Q S g bare x y = tt
every_two P Q S g (tree r b t) (p, x, u) (q, y, v) = (g r _ p q, every_two P Q S g b x y, every_two P Q S g t u v)

-- a row fits alike in forms that have the same definition for it
pub fits_alike : (version : ℕ) (form form' : Form) (r : Row) (b : List Row) → (r.sort ≡ element → lookup r.name form' ≡ lookup r.name form)
    → fits_row version form' r b ≡ fits_row version form r b
unfolding fits_row
fits_alike version form form' r b = by r.sort (lookup r.name form') (lookup r.name form)
  where
    by : (s : RowSort) (o o' : Option Definition) → (s ≡ element → o ≡ o')
        → ◌≡◌ {A = Bool} (elim s [ element ↦ fits_definition version o b | attribute ↦ is_none b | text ↦ is_none b ])
        (elim s [ element ↦ fits_definition version o' b | attribute ↦ is_none b | text ↦ is_none b ])
    by element o o' e = ap (λ (z : Option Definition). fits_definition version z b) (e refl)
    by attribute o o' e = refl
    by text o o' e = refl

module _ (w : ℕ) (form : Form) (ok : well_formed w form ≡ true) (d : Definition) (at : lookup d.name form ≡ some d) where
  member_outside : (m : Bytes) → Memᴰ m (names (members d)) → Joins form d.name m
  member_outside m i =
      record {
        known = (definition_good w form ok d.name d at).in_range m i;
        other = λ e. no_circle w form ok d.name (directly (Memᴰ.cast (sym e) own));
        straight = λ r. no_circle w form ok d.name (through own r);
      }
    where
      own : Memᴰ m (members_of d.name form)
      own = rw at i

  module _ (ms : Members Bytes) (is : d.content ≡ complex ms) (e : Edit Bytes) (p : List ℕ) (f : Found Bytes) (found : place_of e p ms ≡ some f) where
    pub filled_outside : Insertable form d.name e → (m : Bytes) → Memᴰ m (filled e f.picked) → Joins form d.name m
    filled_outside i m k =
        ⊎_elim (λ o. o) (λ j. member_outside m (rw own_names (Memᴰ.append_right (before_place f.context) (Memᴰ.append_left (after_place f.context) j))))
        (filled_from form d.name e f.picked i m k)
      where
        own_names : names (members d) ≡ before_place f.context ++ (names f.picked ++ after_place f.context)
        own_names = ap (λ (z : Content). names (model_of z)) is ∙ sym (ap names (place_right e p ms f found)) ∙ names_plug f.context f.picked

    module _ (version : ℕ) (ls : List Line) (txt : Bytes) (i : Insertable form d.name e) where
      -- the filling in a form that differs in the owner's definition alone
      pub filling_fits_in : (form' : Form) → ((n : Bytes) → (n ≡ d.name → ⊥) → lookup n form' ≡ lookup n form)
          → every_row (λ x b. fits_row version form' x b) (edit_plan version form ls d.name txt e f.context f.picked).filling ≡ true
      filling_fits_in form' others =
          (every_row_lem (λ x b. fits_row version form' x b) (edit_plan version form ls d.name txt e f.context f.picked).filling).1
          (every_planned version (λ x b. fits_row version form' x b ≡ true) form ls d.name txt e f.context f.picked (λ m k. one m (filled_outside i m k)))
        where
          good : (n : Bytes) (c : Definition) → lookup n form ≡ some c → GoodDefinition w form c
          good = definition_good w form ok

          away : (m : Bytes) → Joins form d.name m → (n : Bytes) → (n ≡ m) ⊎ Reaches form m n → n ≡ d.name → ⊥
          away m o n (inl q) x = o.other (sym q ∙ x)
          away m o n (inr r) x = o.straight (rw x at r)

          one : (m : Bytes) → Joins form d.name m → EveryRow (λ x b. fits_row version form' x b ≡ true) (fill_definition version form txt m)
          one m o =
              every_two (λ x b. x.sort ≡ element → (x.name ≡ m) ⊎ Reaches form m x.name) (λ x b. fits_row version form x b ≡ true) (λ x b. fits_row version form' x b ≡ true)
              (λ x b r q. fits_alike version form form' x b (λ s. others x.name (away m o x.name (r s))) ∙ q) (fill_definition version form txt m)
              (filling_reaches version (length form) form txt m)
              ((every_row_lem (λ x b. fits_row version form x b) (fill_definition version form txt m)).0
              (filling_fits version form (λ n c q. (good n c q).once) (λ n c q. (good n c q).attribute_names) (λ n c q. (good n c q).groups) txt (length form) m (definition_deep w form ok m o.known)))

      pub filling_rows_fit : every_row (λ x b. fits_row version form x b) (edit_plan version form ls d.name txt e f.context f.picked).filling ≡ true
      filling_rows_fit = filling_fits_in form (λ n g. refl)

      pub filling_rows_fit_after : (o : ℕ) (at : List ℕ) → name_at_index o form ≡ d.name
          → every_row (λ x b. fits_row version (edit_model o at e form) x b) (edit_plan version form ls d.name txt e f.context f.picked).filling ≡ true
      filling_rows_fit_after o at q = filling_fits_in (edit_model o at e form) (λ n g. update_other (in_model (edit_at e at)) (λ c. refl) o form n (λ x. g (x ∙ q)))
