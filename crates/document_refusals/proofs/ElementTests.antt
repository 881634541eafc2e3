-- The rows right below an element with a new element among them, or without one of them: what is tested.
use Prim.Native.Nat.{ℕ, zero, suc, ◌≤◌}
use native.Mathlib.Omega.{arith}
use mathlib.Core.Path.{◌≡◌, refl, sym, ap, ap₂, ◌∙◌, subst}
use mathlib.Core.Logic.{◌⊎◌, inl, inr, ⊎_elim}
use mathlib.Core.Bool.{Bool, true, false, ◌&&◌, not, false≢true}
use mathlib.Core.Option.{some}
use mathlib.Core.List.Memᴰ
use mathlib.Core.List.{List, [], ◌∷◌, ◌++◌, map, append-nil, map-append, Memᴰ}
use lib.Dec.{eqb}
use lib.ListN.{length}
use Rattle.rules.specs.Bytes.{bytes, numbers, all}
use Rattle.rules.specs.Model.{Distinct}
use Rattle.rules.specs.Automaton.{accepts}
use Rattle.rules.specs.Store.{Content, empty, pcdata, complex, Definition, RowSort, element, attribute, Row, heads, model_of, members}
use Rattle.rules.specs.WellFormed.{attribute_name}
use Rattle.rules.specs.Conforming.{name_of, Sorted, ContentRows, ElementRows, is_element, is_attribute, is_text, fits, fits_stripped, fits_definition}
use Rattle.rules.specs.Lines.{is_element_row, element_with, serial_at}
use Rattle.rules.specs.Change.{Plan}
use Rattle.rules.specs.Refusal.{is_complex}
use Rattle.rules.proofs.Words.{and_both, and_split}
use Rattle.rules.proofs.Apart.{differs}
use Rattle.rules.proofs.Correct.{distinct_right, distinct_apart}
use Rattle.rules.proofs.ConformingLaws.{head_attribute, strip_is, content_head, sorted_is}
use Rattle.change_laws.proofs.RowEdits.{row_serial, keep, plant_rows}
use Rattle.change_laws.proofs.InstanceRows.{keep_all, keep_none, keep_beside, keep_in, plant_not}

-- x put in before number j, or last
abbrev pub put_at : {A : Type 0} → ℕ → A → List A → List A
put_at zero x xs = x ∷ xs
put_at (suc j) x [] = x ∷ []
put_at (suc j) x (y ∷ xs) = y ∷ put_at j x xs

pub map_put : {A B : Type 0} (f : A → B) (j : ℕ) (x : A) (xs : List A) → map f (put_at j x xs) ≡ put_at j (f x) (map f xs)
map_put f zero x xs = refl
map_put f (suc j) x [] = refl
map_put f (suc j) x (y ∷ xs) = ap (λ (z : List _). f y ∷ z) (map_put f j x xs)

all_put : (test : Row → Bool) (j : ℕ) (x : Row) (xs : List Row) → test x ≡ true → all test xs ≡ true → all test (put_at j x xs) ≡ true
all_put test zero x xs e h = ap₂ (λ (a b : Bool). a && b) e h
all_put test (suc j) x [] e h = ap (λ (a : Bool). a && true) e
all_put test (suc j) x (y ∷ xs) e h = let (a, b) = and_split (test y) (all test xs) h in and_both a (all_put test j x xs e b)

serial_in_lem : (j : ℕ) (l : List ℕ) → (serial_at j l ≡ 0) ⊎ Memᴰ (serial_at j l) l
serial_in_lem j [] = inl refl
serial_in_lem zero (s ∷ l) = inr (Memᴰ.head refl)
serial_in_lem (suc j) (s ∷ l) = ⊎_elim (λ e. inl e) (λ m. inr (Memᴰ.tail m)) (serial_in_lem j l)

-- ---- a row put in before the one with serial m
module _ (p : Plan) (u n : Row) (m : ℕ) (one : heads p.filling ≡ n ∷ []) (later : (r : Row) → p.later u r ≡ eqb r.serial m) where
  plant_past : (r : Row) (rs : List Row) → (r.serial ≡ m → ⊥) → plant_rows p u true (r ∷ rs) ≡ r ∷ plant_rows p u true rs
  unfolding plant_rows
  plant_past r rs f = rw (later r ∙ differs numbers r.serial m f, plant_rows)

  plant_this : (r : Row) (rs : List Row) → r.serial ≡ m → plant_rows p u true (r ∷ rs) ≡ n ∷ (r ∷ rs)
  unfolding plant_rows
  plant_this r rs e =
      rw (later r ∙ numbers.same← r.serial m e, plant_rows)
      (ap₂ (λ (x y : List Row). x ++ (r ∷ y)) one (plant_not p u rs))

  plant_nil : plant_rows p u true [] ≡ n ∷ []
  unfolding plant_rows
  plant_nil = one

  plant_front : (front back : List Row) → ((r : Row) → Memᴰ r front → r.serial ≡ m → ⊥) → plant_rows p u true (front ++ back) ≡ front ++ plant_rows p u true back
  plant_front [] back f = refl
  plant_front (r ∷ front) back f =
      plant_past r (front ++ back) (f r (Memᴰ.head refl)) ∙ ap (λ (z : List Row). r ∷ z) (plant_front front back (λ s i. f s (Memᴰ.tail i)))

  plant_put : (j : ℕ) (rows : List Row) → Distinct (map row_serial rows) → ((r : Row) → Memᴰ r rows → r.serial ≡ 0 → ⊥) → m ≡ serial_at j (map row_serial rows)
      → j ≤ length rows → plant_rows p u true rows ≡ put_at j n rows
  plant_put zero [] d z e l = plant_nil
  plant_put (suc j) [] d z e l = absurd (omega arith)
  plant_put zero (r ∷ rows) d z e l = plant_this r rows (sym e)
  plant_put (suc j) (r ∷ rows) (new, d) z e l =
      plant_past r rows (λ q. apart (serial_in_lem j (map row_serial rows)) (q ∙ e)) ∙ ap (λ (y : List Row). r ∷ y) (plant_put j rows d (λ s i. z s (Memᴰ.tail i)) e (omega arith))
    where
      apart : (serial_at j (map row_serial rows) ≡ 0) ⊎ Memᴰ (serial_at j (map row_serial rows)) (map row_serial rows) → r.serial ≡ serial_at j (map row_serial rows) → ⊥
      apart (inl h) q = z r (Memᴰ.head refl) (q ∙ h)
      apart (inr i) q = new (Memᴰ.cast q i)

-- ---- the rows right below an element
not_element : (s : RowSort) → s ≡ attribute → is_element s ≡ false
not_element s e = ap is_element e

elements_head : (rows : List Row) → Sorted element rows → head_attribute rows ≡ false
unfolding head_attribute
elements_head [] s = refl
elements_head (r ∷ rows) s = ap is_attribute (s r (Memᴰ.head refl))

module _ {version : ℕ} (d : Definition) (apart : Distinct (map attribute_name d.attributes)) (rows : List Row) (x : ElementRows version d rows) where
  -- other content behind the same attribute rows
  pub refit : (rest : List Row) → head_attribute rest ≡ false → fits_definition version (some d) (x.front ++ rest) ≡ fits d.content rest
  refit rest h = ap (fits_stripped d.content) ((strip_is version d.attributes (x.front ++ rest) rest apart h).1 (record { front = x.front; split = refl; attributes = x.attributes }))

  keep_elements : keep is_element_row rows ≡ keep is_element_row x.back
  keep_elements =
      ap (keep is_element_row) (sym x.split)
      ∙ keep_beside is_element_row x.front x.back
      ∙ ap (λ (z : List Row). z ++ keep is_element_row x.back) (keep_none is_element_row x.front (λ r i. not_element r.sort (x.attributes.sorts r i)))

  -- ---- with a new element before the one with serial m
  module _ (p : Plan) (u n : Row) (m : ℕ) (one : heads p.filling ≡ n ∷ []) (later : (r : Row) → p.later u r ≡ eqb r.serial m) (is : n.sort ≡ element)
      (once : Distinct (map row_serial rows)) (given : (r : Row) → Memᴰ r rows → r.serial ≡ 0 → ⊥)
      (j : ℕ) (at : m ≡ serial_at j (map row_serial (keep is_element_row rows))) (within : j ≤ length (keep is_element_row rows)) where
    parted : Distinct (map row_serial x.front ++ map row_serial x.back)
    parted = subst (λ (z : List ℕ). Distinct z) (ap (λ (z : List Row). map row_serial z) (sym x.split) ∙ map-append row_serial x.front x.back) once

    in_back : (r : Row) → Memᴰ r x.back → Memᴰ r rows
    in_back r i = subst (λ (z : List Row). Memᴰ r z) x.split (Memᴰ.append_right x.front i)

    in_front : (r : Row) → Memᴰ r x.front → Memᴰ r rows
    in_front r i = subst (λ (z : List Row). Memᴰ r z) x.split (Memᴰ.append_left x.back i)

    front_off : (r : Row) → Memᴰ r x.front → r.serial ≡ m → ⊥
    front_off r i e = by (serial_in_lem j (map row_serial (keep is_element_row rows)))
      where
        by : (serial_at j (map row_serial (keep is_element_row rows)) ≡ 0) ⊎ Memᴰ (serial_at j (map row_serial (keep is_element_row rows))) (map row_serial (keep is_element_row rows)) → ⊥
        by (inl h) = given r (in_front r i) (e ∙ at ∙ h)
        by (inr k) =
            let (s, g, q) = Memᴰ.of_map row_serial (keep is_element_row x.back) (subst (λ (z : List Row). Memᴰ m (map row_serial z)) keep_elements (Memᴰ.cast at k)) in
            distinct_apart (map row_serial x.front) (map row_serial x.back) parted r.serial (Memᴰ.map row_serial i)
            (Memᴰ.cast (e ∙ sym q) (Memᴰ.map row_serial (keep_in is_element_row x.back s g)))

    planted : plant_rows p u true rows ≡ x.front ++ plant_rows p u true x.back
    planted = ap (plant_rows p u true) (sym x.split) ∙ plant_front p u n m one later x.front x.back front_off

    pub added : fits_definition version (some d) (plant_rows p u true rows) ≡ (is_complex d.content && accepts bytes (members d) (put_at j n.name (map name_of (keep is_element_row rows))))
    unfolding head_attribute keep
    added = by d.content refl x.content
      where
        Goal : Content → Type 0
        Goal c = fits_definition version (some d) (plant_rows p u true rows) ≡ (is_complex c && accepts bytes (members d) (put_at j n.name (map name_of (keep is_element_row rows))))

        -- nothing but the new element, or a text before it
        last : (back : List Row) → x.back ≡ back → keep is_element_row back ≡ [] → plant_rows p u true x.back ≡ back ++ n ∷ []
        last back q e =
            ap (plant_rows p u true) (q ∙ sym (append-nil back))
            ∙ plant_front p u n m one later back []
            (λ r i g. given r (in_back r (subst (λ (z : List Row). Memᴰ r z) (sym q) i))
            (g ∙ at ∙ ap (λ (z : List Row). serial_at j (map row_serial z)) (keep_elements ∙ ap (keep is_element_row) q ∙ e) ∙ none_at j))
            ∙ ap (λ (z : List Row). back ++ z) (plant_nil p u n m one later)
          where
            none_at : (i : ℕ) → serial_at i [] ≡ 0
            none_at i = refl

        head_plain : head_attribute (n ∷ []) ≡ false
        head_plain = ap is_attribute is

        head_put : (i : ℕ) (rs : List Row) → head_attribute rs ≡ false → head_attribute (put_at i n rs) ≡ false
        head_put zero rs h = ap is_attribute is
        head_put (suc i) [] h = ap is_attribute is
        head_put (suc i) (r ∷ rs) h = h

        by : (c : Content) → d.content ≡ c → ContentRows c x.back → Goal c
        by empty q e =
            ap (fits_definition version (some d)) (planted ∙ ap (λ (z : List Row). x.front ++ z) (last [] e refl))
            ∙ refit (n ∷ []) head_plain ∙ ap (λ (c : Content). fits c (n ∷ [])) q
        by pcdata q (r, e, t) =
            ap (fits_definition version (some d))
            (planted
            ∙ ap (λ (z : List Row). x.front ++ z)
            (last (r ∷ []) e
            (keep_none is_element_row (r ∷ [])
            (λ s i. ⊎_elim (λ g. ap (λ (z : Row). is_element z.sort) g ∙ ap is_element t) (λ k. absurd (Memᴰ.not-nil k)) (Memᴰ.cases_cons i)))))
            ∙ refit (r ∷ n ∷ []) (ap is_attribute t) ∙ ap (λ (c : Content). fits c (r ∷ n ∷ [])) q ∙ ap (λ (s : RowSort). is_text s && false) t
        by (complex ms) q (s, e) =
            let elements : all (λ (r : Row). is_element r.sort) x.back ≡ true = (sorted_is x.back).1 s in
            let kept : keep is_element_row rows ≡ x.back = keep_elements ∙ keep_all is_element_row x.back (λ r i. ap is_element (s r i)) in
            let put : plant_rows p u true x.back ≡ put_at j n x.back =
            plant_put p u n m one later j x.back (distinct_right (map row_serial x.front) (map row_serial x.back) parted) (λ r i. given r (in_back r i))
            (at ∙ ap (λ (z : List Row). serial_at j (map row_serial z)) kept) (subst (λ (z : List Row). j ≤ length z) kept within) in
            ap (fits_definition version (some d)) (planted ∙ ap (λ (z : List Row). x.front ++ z) put)
            ∙ refit (put_at j n x.back) (head_put j x.back (content_head d.content x.back x.content))
            ∙ ap (λ (c : Content). fits c (put_at j n x.back)) q
            ∙ ap (λ (a : Bool). a && accepts bytes ms (map name_of (put_at j n x.back))) (all_put (λ (r : Row). is_element r.sort) j n x.back (ap is_element is) elements)
            ∙ ap (accepts bytes ms) (map_put name_of j n x.back ∙ ap (λ (z : List Row). put_at j n.name (map name_of z)) (sym kept))
            ∙ ap (λ (c : Content). accepts bytes (model_of c) (put_at j n.name (map name_of (keep is_element_row rows)))) (sym q)

  -- ---- without an element
  -- k: the serial of an element among them
  module _ (k : ℕ) (stays : Row → Bool) (all_but : (r : Row) → stays r ≡ not (element_with k r)) (r : Row) (i : Memᴰ r rows) (here : element_with k r ≡ true) where
    pub lessened : fits_definition version (some d) (keep stays rows) ≡ accepts bytes (members d) (map name_of (keep stays (keep is_element_row rows)))
    lessened = by d.content refl x.content
      where
        stays_other : (s : Row) → is_element s.sort ≡ false → stays s ≡ true
        stays_other s e = all_but s ∙ ap (λ (a : Bool). not (a && eqb s.serial k)) e

        cut : keep stays rows ≡ x.front ++ keep stays x.back
        cut =
            ap (keep stays) (sym x.split) ∙ keep_beside stays x.front x.back
            ∙ ap (λ (z : List Row). z ++ keep stays x.back) (keep_all stays x.front (λ s j. stays_other s (not_element s.sort (x.attributes.sorts s j))))

        in_back : Memᴰ r x.back
        in_back = ⊎_elim
            (λ j. absurd (false≢true (sym (not_element r.sort (x.attributes.sorts r j)) ∙ (and_split (is_element r.sort) (eqb r.serial k) here).0)))
            (λ j. j) (Memᴰ.append_cases x.front (subst (λ (z : List Row). Memᴰ r z) (sym x.split) i))

        by : (c : Content) → d.content ≡ c → ContentRows c x.back → fits_definition version (some d) (keep stays rows) ≡ accepts bytes (members d) (map name_of (keep stays (keep is_element_row rows)))
        by empty q e = absurd (Memᴰ.not-nil (subst (λ (z : List Row). Memᴰ r z) e in_back))
        by pcdata q (s, e, t) =
            absurd
            (⊎_elim
            (λ g. false≢true (sym (ap (λ (z : Row). is_element z.sort) g ∙ ap is_element t) ∙ (and_split (is_element r.sort) (eqb r.serial k) here).0))
            (λ j. Memᴰ.not-nil j) (Memᴰ.cases_cons (subst (λ (z : List Row). Memᴰ r z) e in_back)))
        by (complex ms) q (s, e) =
            let kept : keep is_element_row rows ≡ x.back = keep_elements ∙ keep_all is_element_row x.back (λ t j. ap is_element (s t j)) in
            let sorted : Sorted element (keep stays x.back) = λ t j. s t (keep_in stays x.back t j) in
            ap (fits_definition version (some d)) cut
            ∙ refit (keep stays x.back) (elements_head (keep stays x.back) sorted)
            ∙ ap (λ (c : Content). fits c (keep stays x.back)) q
            ∙ ap (λ (a : Bool). a && accepts bytes ms (map name_of (keep stays x.back))) ((sorted_is (keep stays x.back)).1 sorted)
            ∙ ap (λ (z : List Row). accepts bytes ms (map name_of (keep stays z))) (sym kept)
            ∙ ap (λ (c : Content). accepts bytes (model_of c) (map name_of (keep stays (keep is_element_row rows)))) (sym q)
