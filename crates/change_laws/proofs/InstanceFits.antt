-- Changes 3 to 8: the rows right below an instance of the owner fit the owner's new model.
use Prim.Native.Nat.{ℕ}
use mathlib.Core.Path.{◌≡◌, refl, sym, ap, ◌∙◌}
use mathlib.Core.Logic.{◌⊎◌, inl, inr, ⊎_elim}
use mathlib.Core.Bool.{Bool, true, false, ◌&&◌, not, false≢true}
use mathlib.Core.Option.{some}
use mathlib.Core.List.Memᴰ
use mathlib.Core.List.{List, [], ◌∷◌, ◌++◌, map, Memᴰ}
use Rattle.rules.specs.Bytes.{Bytes, same, bytes}
use Rattle.rules.specs.Model.{Members, done, el, group, names, skips, member}
use Rattle.rules.specs.Language.{Conforms}
use Rattle.rules.specs.Quantifiers.{gains, cuts}
use Rattle.rules.specs.Place.{Context, spine, before_place, Found}
use Rattle.rules.specs.Edit.{Edit, insert, remove, quantify, convert, flatten, place_of, model_after}
use Rattle.rules.specs.Automaton.{accepts}
use Rattle.rules.specs.Store.{complex, Definition, Form, element, Row}
use Rattle.rules.specs.WellFormed.{lookup, well_formed}
use Rattle.rules.specs.Conforming.{name_of, Sorted, ElementRows, fits_definition}
use Rattle.rules.specs.Filling.{element_row}
use Rattle.rules.specs.Lines.{Line, element_named}
use Rattle.rules.specs.Change.{group_filling}
use Rattle.rules.proofs.Children.{any_of, misplaced, unfit, Sound}
use Rattle.rules.proofs.ChildRows.{erase_rows, place_rows, first_rows, refit_rows, refit_group_rows, child_rows}
use Rattle.rules.proofs.Rows.{child_rows_lem}
use Rattle.rules.proofs.Correct.{accepts_conforms}
use Rattle.rules.proofs.Whole.{change_sound, change_accepts}
use Rattle.rules.proofs.WellFormedLaws.{definition_good, definition_deep}
use Rattle.rules.proofs.ConformingLaws.{element_is}
use Rattle.change_laws.proofs.RowEdits.{children_after}
use Rattle.change_laws.proofs.InstanceEdits.{edit_plan, Below, edit_rows}
use Rattle.change_laws.proofs.EditFillings.{Insertable, filled_outside}
use Rattle.change_laws.proofs.ModelAfter.{place_of_lem}

-- ---- where the edited rows come from
erase_in : (x : Bytes) (rs : List Row) (y : Row) → Memᴰ y (erase_rows bytes name_of x rs) → Memᴰ y rs
unfolding erase_rows
erase_in x [] y m = m
erase_in x (r ∷ rs) y m = by (same r.name x) refl (erase_in x rs y)
  where
    by : (b : Bool) → same r.name x ≡ b → (Memᴰ y (erase_rows bytes name_of x rs) → Memᴰ y rs) → Memᴰ y (r ∷ rs)
    by true e h = Memᴰ.tail (h (rw (e, erase_rows) at m))
    by false e h = ⊎_elim (λ q. Memᴰ.head q) (λ i. Memᴰ.tail (h i)) (Memᴰ.cases_cons (rw (e, erase_rows) at m))

first_in : (x : Bytes) (rs : List Row) (y : Row) → Memᴰ y (first_rows bytes name_of x rs) → Memᴰ y rs
unfolding first_rows
first_in x [] y m = m
first_in x (r ∷ rs) y m = by (same r.name x) refl (first_in x rs y)
  where
    by : (b : Bool) → same r.name x ≡ b → (Memᴰ y (first_rows bytes name_of x rs) → Memᴰ y rs) → Memᴰ y (r ∷ rs)
    by true e h = ⊎_elim (λ q. Memᴰ.head q) (λ i. Memᴰ.tail (erase_in x rs y i)) (Memᴰ.cases_cons (rw (e, first_rows) at m))
    by false e h = ⊎_elim (λ q. Memᴰ.head q) (λ i. Memᴰ.tail (h i)) (Memᴰ.cases_cons (rw (e, first_rows) at m))

place_in_lem : (ns : List Bytes) (f rs : List Row) (y : Row) → Memᴰ y (place_rows bytes name_of ns f rs) → Memᴰ y f ⊎ Memᴰ y rs
unfolding place_rows
place_in_lem ns f [] y m = inl m
place_in_lem ns f (r ∷ rs) y m = by (member bytes r.name ns) refl (place_in_lem ns f rs y)
  where
    by : (b : Bool) → member bytes r.name ns ≡ b → (Memᴰ y (place_rows bytes name_of ns f rs) → Memᴰ y f ⊎ Memᴰ y rs) → Memᴰ y f ⊎ Memᴰ y (r ∷ rs)
    by true e h = ⊎_elim (λ q. inr (Memᴰ.head q)) (λ i. ⊎_elim (λ a. inl a) (λ b. inr (Memᴰ.tail b)) (h i)) (Memᴰ.cases_cons (rw (e, place_rows) at m))
    by false e h = Memᴰ.append_cases f (rw (e, place_rows) at m)

-- rows of one kind stay so, if the new ones are of it
module _ (P : Row → Type 0) (fill : List Bytes → List Row) (new : (ns : List Bytes) (y : Row) → Memᴰ y (fill ns) → P y) where
  abbrev Each : List Row → Type 0
  Each rs = (y : Row) → Memᴰ y rs → P y

  each_if : (b : Bool) (u v : List Row) → Each u → Each v → Each (elim b as (λ z. List Row) [ true ↦ u | false ↦ v ])
  each_if true u v f g = f
  each_if false u v f g = g

  each_placed : (ns ms : List Bytes) (rs : List Row) → Each rs → Each (place_rows bytes name_of ns (fill ms) rs)
  each_placed ns ms rs f y m = ⊎_elim (λ i. new ms y i) (λ i. f y i) (place_in_lem ns (fill ms) rs y m)

  pub each_child : (e : Edit Bytes) (c : Context Bytes) (t : Members Bytes) (rs : List Row) → Each rs → Each (child_rows bytes name_of fill e c t rs)
  unfolding child_rows refit_rows refit_group_rows
  each_child (insert q n) c t rs f = each_if (not (skips q) && spine c) _ _ (each_placed (before_place c) (n ∷ []) rs f) f
  each_child remove c done rs f = f
  each_child remove c (el q x t) rs f = λ y m. f y (erase_in x rs y m)
  each_child remove c (group q k ms t) rs f = f
  each_child (quantify r) c done rs f = f
  each_child (quantify r) c (el q x t) rs f =
      each_if (spine c) _ _
      (each_if (member bytes x (map name_of rs)) _ _ (each_if (cuts q r) _ _ (λ y m. f y (first_in x rs y m)) f)
      (each_if (gains q r) _ _ (each_placed (before_place c) (x ∷ []) rs f) f))
      f
  each_child (quantify r) c (group q k ms t) rs f =
      each_if (spine c) _ _ (each_if (gains q r) _ _ (each_if (any_of bytes (names ms) (map name_of rs)) _ _ f (each_placed (before_place c) (group_filling r k ms) rs f)) f) f
  each_child (convert j n) c t rs f = f
  each_child flatten c t rs f = f

element_names : (ns : List Bytes) → map name_of (map element_row ns) ≡ ns
element_names [] = refl
element_names (n ∷ ns) = ap (λ (z : List Bytes). n ∷ z) (element_names ns)

element_sorts : (ns : List Bytes) → Sorted element (map element_row ns)
element_sorts [] y m = absurd (Memᴰ.not-nil m)
element_sorts (n ∷ ns) y m = ⊎_elim (λ q. ap (λ (z : Row). z.sort) q) (λ i. element_sorts ns y i) (Memᴰ.cases_cons m)

-- 6 and 7
abbrev pub leaves_rows : Edit Bytes → Bool
leaves_rows (insert q n) = false
leaves_rows remove = false
leaves_rows (quantify r) = false
leaves_rows (convert j n) = true
leaves_rows flatten = true

rows_left_lem : (e : Edit Bytes) (c : Context Bytes) (t : Members Bytes) → leaves_rows e ≡ true → (rs : List Row) → child_rows bytes name_of (map element_row) e c t rs ≡ rs
unfolding child_rows
rows_left_lem (insert q n) c t l rs = absurd (false≢true l)
rows_left_lem remove c t l rs = absurd (false≢true l)
rows_left_lem (quantify r) c t l rs = absurd (false≢true l)
rows_left_lem (convert j n) c t l rs = refl
rows_left_lem flatten c t l rs = refl

-- the owner with its new model
abbrev pub edited_definition : Definition → Edit Bytes → Found Bytes → Definition
edited_definition d e f = record { name = d.name; content = complex (model_after e f); attributes = d.attributes }

module _ (version w : ℕ) (form : Form) (ok : well_formed w form ≡ true) (d : Definition) (at : lookup d.name form ≡ some d) (ms : Members Bytes) (is : d.content ≡ complex ms)
    (e : Edit Bytes) (p : List ℕ) (f : Found Bytes) (found : place_of e p ms ≡ some f) (fits : misplaced bytes e f.context f.picked ≡ false)
    (kept : unfit e f.context f.picked ≡ false) where
  before_sound : Sound ms
  before_sound = record { distinct = rw is at (definition_good w form ok d.name d at).once; full = rw is at (definition_good w form ok d.name d at).groups }

  after_sound : Sound (model_after e f)
  after_sound = change_sound bytes e p ms f (place_of_lem e p ms f found) fits before_sound

  element_fits_lem : (rows : List Row) (x : ElementRows version d rows)
      → fits_definition version (some (edited_definition d e f)) (x.front ++ child_rows bytes name_of (map element_row) e f.context f.picked x.back) ≡ true
  element_fits_lem rows x =
      (element_is version (edited_definition d e f) after_sound.distinct (definition_good w form ok d.name d at).attribute_names (x.front ++ rest)).1
      record {
        front = x.front;
        back = rest;
        split = refl;
        attributes = x.attributes;
        content = (
          each_child (λ y. y.sort ≡ element) (map element_row) element_sorts e f.context f.picked x.back content.0,
          (accepts_conforms bytes (model_after e f) after_sound.distinct (map name_of rest)).0 (
              ap (accepts bytes (model_after e f)) (child_rows_lem name_of bytes (map element_row) element_names e f.context f.picked x.back)
              ∙ change_accepts bytes e p ms f (place_of_lem e p ms f found) fits before_sound kept (map name_of x.back)
              ((accepts_conforms bytes ms before_sound.distinct (map name_of x.back)).1 content.1)),
        );
      }
    where
      rest : List Row
      rest = child_rows bytes name_of (map element_row) e f.context f.picked x.back

      content : Sorted element x.back × Conforms ms (map name_of x.back)
      content = rw is at x.content

  rows_of : (rows : List Row) → fits_definition version (some d) rows ≡ true → ElementRows version d rows
  rows_of rows h = (element_is version d (definition_good w form ok d.name d at).once (definition_good w form ok d.name d at).attribute_names rows).0 h

  -- AN INSTANCE: the rows right below it fit the new model
  pub instance_fits : (ls : List Line) (txt : Bytes) (u : Row) (rows : List Row) → Insertable form d.name e → element_named d.name u ≡ true → Below ls u rows
      → fits_definition version (some d) rows ≡ true
      → fits_definition version (some (edited_definition d e f)) (children_after (edit_plan version form ls d.name txt e f.context f.picked) u rows) ≡ true
  instance_fits ls txt u rows i named below h = by (rows_of rows h)
    where
      elements : (x : ElementRows version d rows) → Sorted element x.back
      elements x = let (s, l) = rw is at x.content in s

      by : ElementRows version d rows → fits_definition version (some (edited_definition d e f)) (children_after (edit_plan version form ls d.name txt e f.context f.picked) u rows) ≡ true
      by x =
          ap (fits_definition version (some (edited_definition d e f))) (
          ap (children_after (edit_plan version form ls d.name txt e f.context f.picked) u) (sym x.split)
          ∙ edit_rows version form ls d.name txt u x.front x.back named (rw x.split below) x.attributes.sorts (elements x) f.context e f.picked
          (λ m k. definition_deep w form ok m (filled_outside w form ok d at ms is e p f found i m k).known))
          ∙ element_fits_lem rows x
