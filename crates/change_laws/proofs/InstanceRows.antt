-- A plan on the rows right below one row: rows taken by name, rows that come
-- before the first later one, attribute rows that stay in front.
use Prim.Native.Nat.{ℕ}
use mathlib.Core.Path.{◌≡◌, refl, sym, ap, ap₂, ◌∙◌}
use mathlib.Core.Logic.{⊎_elim}
use mathlib.Core.Bool.{Bool, true, false, ◌&&◌, not, ◌||◌, false≢true}
use mathlib.Core.List.Memᴰ
use mathlib.Core.List.{List, [], ◌∷◌, ◌++◌, map, Memᴰ}
use lib.Dec.{eqb}
use Rattle.rules.specs.Bytes.{Bytes, same, bytes, same_eq, numbers, is_none}
use Rattle.rules.specs.Model.{Distinct, member}
use Rattle.rules.specs.Store.{RowSort, element, Row, heads}
use Rattle.rules.specs.Conforming.{name_of, Sorted, is_element}
use Rattle.rules.specs.Lines.{element_named, element_among, serial_at}
use Rattle.rules.specs.Change.{Plan, revalue}
use Rattle.rules.proofs.Apart.{differs}
use Rattle.rules.proofs.Children.{any_of}
use Rattle.rules.proofs.ChildRows.{erase_rows, place_rows, first_rows}
use Rattle.change_laws.proofs.RowEdits.{row_serial, keep, plant_rows, revalued, children_after}

-- ---- rows that pass a test
module _ (p : Row → Bool) where
  pub keep_yes : (r : Row) (rs : List Row) → p r ≡ true → keep p (r ∷ rs) ≡ r ∷ keep p rs
  unfolding keep
  keep_yes r rs e = rw (e, keep)

  pub keep_no : (r : Row) (rs : List Row) → p r ≡ false → keep p (r ∷ rs) ≡ keep p rs
  unfolding keep
  keep_no r rs e = rw (e, keep)

  pub keep_all : (rs : List Row) → ((x : Row) → Memᴰ x rs → p x ≡ true) → keep p rs ≡ rs
  unfolding keep
  keep_all [] f = refl
  keep_all (r ∷ rs) f = keep_yes r rs (f r (Memᴰ.head refl)) ∙ ap (λ (z : List Row). r ∷ z) (keep_all rs (λ x m. f x (Memᴰ.tail m)))

  pub keep_none : (rs : List Row) → ((x : Row) → Memᴰ x rs → p x ≡ false) → keep p rs ≡ []
  unfolding keep
  keep_none [] f = refl
  keep_none (r ∷ rs) f = keep_no r rs (f r (Memᴰ.head refl)) ∙ keep_none rs (λ x m. f x (Memᴰ.tail m))

  pub keep_beside : (a b : List Row) → keep p (a ++ b) ≡ keep p a ++ keep p b
  unfolding keep
  keep_beside [] b = refl
  keep_beside (r ∷ a) b = by (p r) refl (keep_beside a b)
    where
      by : (c : Bool) → p r ≡ c → keep p (a ++ b) ≡ keep p a ++ keep p b → keep p (r ∷ (a ++ b)) ≡ keep p (r ∷ a) ++ keep p b
      by true e h = keep_yes r (a ++ b) e ∙ ap (λ (z : List Row). r ∷ z) h ∙ ap (λ (z : List Row). z ++ keep p b) (sym (keep_yes r a e))
      by false e h = keep_no r (a ++ b) e ∙ h ∙ ap (λ (z : List Row). z ++ keep p b) (sym (keep_no r a e))

  pub keep_in : (rs : List Row) (x : Row) → Memᴰ x (keep p rs) → Memᴰ x rs
  unfolding keep
  keep_in [] x m = m
  keep_in (r ∷ rs) x m = by (p r) refl (keep_in rs x)
    where
      by : (c : Bool) → p r ≡ c → (Memᴰ x (keep p rs) → Memᴰ x rs) → Memᴰ x (r ∷ rs)
      by true e h = ⊎_elim (λ q. Memᴰ.head q) (λ i. Memᴰ.tail (h i)) (Memᴰ.cases_cons (rw (keep_yes r rs e) at m))
      by false e h = Memᴰ.tail (h (rw (keep_no r rs e) at m))

-- ---- rows that get no value
revalue_other : (k : ℕ) (v : Bytes) (x : Row) → eqb x.serial k ≡ false → revalue k v x ≡ x
revalue_other k v x e = ap (λ (b : Bool). record { serial = x.serial; sort = x.sort; name = x.name; value = elim b as (λ z. Bytes) [ true ↦ v | false ↦ x.value ] }) e

pub revalued_same : (p : Plan) → p.set ≡ 0 → (rs : List Row) → ((x : Row) → Memᴰ x rs → x.serial ≡ 0 → ⊥) → map (revalued p) rs ≡ rs
revalued_same p z [] f = refl
revalued_same p z (r ∷ rs) f =
    ap₂ (λ (a : Row) (b : List Row). a ∷ b)
    (revalue_other p.set p.value r (differs numbers r.serial p.set (λ e. f r (Memᴰ.head refl) (e ∙ z))))
    (revalued_same p z rs (λ x m. f x (Memᴰ.tail m)))

-- ---- new rows among the rows of an instance
module _ (p : Plan) (u : Row) where
  pub plant_not : (rs : List Row) → plant_rows p u false rs ≡ rs
  unfolding plant_rows
  plant_not [] = refl
  plant_not (r ∷ rs) = ap (λ (z : List Row). r ∷ z) (plant_not rs)

  plant_past : (due : Bool) (r : Row) (rs : List Row) → p.later u r ≡ false → plant_rows p u due (r ∷ rs) ≡ r ∷ plant_rows p u due rs
  unfolding plant_rows
  plant_past true r rs e = rw (e, plant_rows)
  plant_past false r rs e = refl

  plant_here : (r : Row) (rs : List Row) → p.later u r ≡ true → plant_rows p u true (r ∷ rs) ≡ heads p.filling ++ (r ∷ rs)
  unfolding plant_rows
  plant_here r rs e = rw (e, plant_rows) (ap (λ (z : List Row). heads p.filling ++ (r ∷ z)) (plant_not rs))

  plant_front : (due : Bool) (front back : List Row) → ((x : Row) → Memᴰ x front → p.later u x ≡ false) → plant_rows p u due (front ++ back) ≡ front ++ plant_rows p u due back
  plant_front due [] back f = refl
  plant_front due (r ∷ front) back f =
      plant_past due r (front ++ back) (f r (Memᴰ.head refl)) ∙ ap (λ (z : List Row). r ∷ z) (plant_front due front back (λ x m. f x (Memᴰ.tail m)))

  plant_back : (ns : List Bytes) (back : List Row) → ((x : Row) → Memᴰ x back → p.later u x ≡ not (member bytes x.name ns))
      → plant_rows p u true back ≡ place_rows bytes name_of ns (heads p.filling) back
  unfolding plant_rows place_rows
  plant_back ns [] f = refl
  plant_back ns (r ∷ back) f = by (member bytes r.name ns) refl (plant_back ns back (λ x m. f x (Memᴰ.tail m)))
    where
      by : (c : Bool) → member bytes r.name ns ≡ c → plant_rows p u true back ≡ place_rows bytes name_of ns (heads p.filling) back
          → plant_rows p u true (r ∷ back) ≡ place_rows bytes name_of ns (heads p.filling) (r ∷ back)
      by true e h = plant_past true r back (f r (Memᴰ.head refl) ∙ ap not e) ∙ rw (e, place_rows) (ap (λ (z : List Row). r ∷ z) h)
      by false e h = plant_here r back (f r (Memᴰ.head refl) ∙ ap not e) ∙ rw (e, place_rows)

-- ---- rows of a name among elements
same_swap : (x y : Bytes) → same x y ≡ same y x
same_swap x y = by (same x y) refl
  where
    by : (c : Bool) → same x y ≡ c → same x y ≡ same y x
    by true e = e ∙ sym (bytes.same← y x (sym (same_eq x y e)))
    by false e = e ∙ sym (differs bytes y x (λ q. false≢true (sym e ∙ bytes.same← x y (sym q))))

pub named_is : (x : Bytes) (s : Row) → s.sort ≡ element → element_named x s ≡ same s.name x
named_is x s e = ap (λ (z : RowSort). is_element z && same x s.name) e ∙ same_swap x s.name

pub keep_erase : (t : Row → Bool) (x : Bytes) (rs : List Row) → ((s : Row) → Memᴰ s rs → t s ≡ not (same s.name x)) → keep t rs ≡ erase_rows bytes name_of x rs
unfolding keep erase_rows
keep_erase t x [] f = refl
keep_erase t x (r ∷ rs) f = by (same r.name x) refl (keep_erase t x rs (λ s m. f s (Memᴰ.tail m)))
  where
    by : (c : Bool) → same r.name x ≡ c → keep t rs ≡ erase_rows bytes name_of x rs → keep t (r ∷ rs) ≡ erase_rows bytes name_of x (r ∷ rs)
    by true e h = keep_no t r rs (f r (Memᴰ.head refl) ∙ ap not e) ∙ rw (e, erase_rows) h
    by false e h = keep_yes t r rs (f r (Memᴰ.head refl) ∙ ap not e) ∙ rw (e, erase_rows) (ap (λ (z : List Row). r ∷ z) h)

-- not of the name x, or the row with serial k
abbrev pub is_first : Bytes → ℕ → Row → Bool
is_first x k s = not (element_named x s && not (eqb s.serial k))

pub keep_first_lem : (x : Bytes) (k : ℕ) (rs : List Row) → Sorted element rs → Distinct (map row_serial rs)
    → k ≡ serial_at 0 (map row_serial (keep (element_named x) rs)) → keep (is_first x k) rs ≡ first_rows bytes name_of x rs
unfolding keep first_rows
keep_first_lem x k [] s d e = refl
keep_first_lem x k (r ∷ rs) s (new, d) e = by (same r.name x) refl (keep_first_lem x k rs (λ y m. s y (Memᴰ.tail m)) d)
  where
    by : (c : Bool) → same r.name x ≡ c → (k ≡ serial_at 0 (map row_serial (keep (element_named x) rs)) → keep (is_first x k) rs ≡ first_rows bytes name_of x rs)
        → keep (is_first x k) (r ∷ rs) ≡ first_rows bytes name_of x (r ∷ rs)
    by true q h = keep_yes (is_first x k) r rs (ap₂ (λ (a b : Bool). not (a && not b)) is (numbers.same← r.serial k (sym at)))
        ∙ rw (q, first_rows) (ap (λ (z : List Row). r ∷ z) (keep_erase (is_first x k) x rs others))
      where
        is : element_named x r ≡ true
        is = named_is x r (s r (Memᴰ.head refl)) ∙ q

        at : k ≡ r.serial
        at = e ∙ ap (λ (z : List Row). serial_at 0 (map row_serial z)) (keep_yes (element_named x) r rs is)

        and-true : (a : Bool) → not (a && true) ≡ not a
        and-true true = refl
        and-true false = refl

        others : (y : Row) → Memᴰ y rs → is_first x k y ≡ not (same y.name x)
        others y m =
            ap (λ (b : Bool). not (element_named x y && not b)) (differs numbers y.serial k (λ p. new (Memᴰ.cast (sym (p ∙ at)) (Memᴰ.map row_serial m))))
            ∙ and-true (element_named x y)
            ∙ ap not (named_is x y (s y (Memᴰ.tail m)))
    by false q h =
        keep_yes (is_first x k) r rs (ap (λ (a : Bool). not (a && not (eqb r.serial k))) is)
        ∙ rw (q, first_rows) (ap (λ (z : List Row). r ∷ z) (h (e ∙ ap (λ (z : List Row). serial_at 0 (map row_serial z)) (keep_no (element_named x) r rs is))))
      where
        is : element_named x r ≡ false
        is = named_is x r (s r (Memᴰ.head refl)) ∙ q

-- t: a test on names; some: does one of the names pass it
module _ (t : Bytes → Bool) (some : List Bytes → Bool) (nil : some [] ≡ false) (cons : (y : Bytes) (w : List Bytes) → some (y ∷ w) ≡ (t y || some w)) where
  pub kept_none : (rs : List Row) → Sorted element rs → is_none (map row_serial (keep (λ r. is_element r.sort && t r.name) rs)) ≡ not (some (map name_of rs))
  unfolding keep
  kept_none [] s = sym (ap not nil)
  kept_none (r ∷ rs) s = by (t r.name) refl (kept_none rs (λ y m. s y (Memᴰ.tail m)))
    where
      p : Row → Bool
      p y = is_element y.sort && t y.name

      is : is_element r.sort && t r.name ≡ t r.name
      is = ap (λ (z : RowSort). is_element z && t r.name) (s r (Memᴰ.head refl))

      by : (c : Bool) → t r.name ≡ c → is_none (map row_serial (keep (λ r. is_element r.sort && t r.name) rs)) ≡ not (some (map name_of rs))
          → is_none (map row_serial (keep (λ r. is_element r.sort && t r.name) (r ∷ rs))) ≡ not (some (map name_of (r ∷ rs)))
      by true e h = ap (λ (z : List Row). is_none (map row_serial z)) (keep_yes p r rs (is ∙ e)) ∙ sym (ap not (cons r.name (map name_of rs) ∙ ap (λ (z : Bool). z || some (map name_of rs)) e))
      by false e h = ap (λ (z : List Row). is_none (map row_serial z)) (keep_no p r rs (is ∙ e)) ∙ h ∙ sym (ap not (cons r.name (map name_of rs) ∙ ap (λ (z : Bool). z || some (map name_of rs)) e))

pub named_none : (x : Bytes) (rs : List Row) → Sorted element rs → is_none (map row_serial (keep (element_named x) rs)) ≡ not (member bytes x (map name_of rs))
unfolding member
named_none x = kept_none (same x) (member bytes x) refl (λ y w. by (same x y) w)
  where
    by : (c : Bool) (w : List Bytes) → elim c as (λ z. Bool) [ true ↦ true | false ↦ member bytes x w ] ≡ (c || member bytes x w)
    by true w = refl
    by false w = refl

pub among_none : (ns : List Bytes) (rs : List Row) → Sorted element rs → is_none (map row_serial (keep (element_among ns) rs)) ≡ not (any_of bytes ns (map name_of rs))
unfolding any_of
among_none ns = kept_none (λ y. member bytes y ns) (any_of bytes ns) refl (λ y w. by (member bytes y ns) w)
  where
    by : (c : Bool) (w : List Bytes) → elim c as (λ z. Bool) [ true ↦ true | false ↦ any_of bytes ns w ] ≡ (c || any_of bytes ns w)
    by true w = refl
    by false w = refl

-- ---- the whole step, where attribute rows stand before elements
-- the rows f at their place, if they are due
abbrev pub when_due : Bool → List Bytes → List Row → List Row → List Row
when_due due ns f rs = elim due [ true ↦ place_rows bytes name_of ns f rs | false ↦ rs ]

pub after_split : (p : Plan) (u : Row) (ns : List Bytes) (front back : List Row) → p.set ≡ 0 → ((x : Row) → Memᴰ x (front ++ back) → x.serial ≡ 0 → ⊥)
    → ((x : Row) → Memᴰ x front → p.takes u x ≡ false)
    → (p.fills (revalued p u) ≡ true
    → ((x : Row) → Memᴰ x front → p.later (revalued p u) x ≡ false)
    × ((x : Row) → Memᴰ x back → p.later (revalued p u) x ≡ not (member bytes x.name ns)))
    → children_after p u (front ++ back) ≡ front ++ when_due (p.fills (revalued p u)) ns (heads p.filling) (keep (λ r. not (p.takes u r)) back)
unfolding children_after
after_split p u ns front back z given stay later = ap (plant_rows p v (p.fills v)) rows ∙ by (p.fills v) refl
  where
    v : Row
    v = revalued p u

    left : Row → Bool
    left r = not (p.takes u r)

    rows : map (revalued p) (keep left (front ++ back)) ≡ front ++ keep left back
    rows =
        revalued_same p z (keep left (front ++ back)) (λ x m. given x (keep_in left (front ++ back) x m))
        ∙ keep_beside left front back
        ∙ ap (λ (w : List Row). w ++ keep left back) (keep_all left front (λ x m. ap not (stay x m)))

    by : (c : Bool) → p.fills v ≡ c → plant_rows p v c (front ++ keep left back) ≡ front ++ when_due c ns (heads p.filling) (keep left back)
    by true e =
        plant_front p v true front (keep left back) (later e).0
        ∙ ap (λ (w : List Row). front ++ w) (plant_back p v ns (keep left back) (λ x m. (later e).1 x (keep_in left back x m)))
    by false e = plant_not p v (front ++ keep left back)

-- nothing is taken from below u, and nothing comes
pub untouched : (p : Plan) (u : Row) (rows : List Row) → p.set ≡ 0 → ((x : Row) → Memᴰ x rows → x.serial ≡ 0 → ⊥)
    → ((x : Row) → Memᴰ x rows → p.takes u x ≡ false) → p.fills (revalued p u) ≡ false
    → children_after p u rows ≡ rows
untouched p u rows z given stay none =
    after_split p u [] [] rows z given (λ x m. absurd (Memᴰ.not-nil m)) (λ e. absurd (false≢true (sym none ∙ e)))
    ∙ ap (λ (b : Bool). when_due b [] (heads p.filling) (keep (λ r. not (p.takes u r)) rows)) none
    ∙ keep_all (λ r. not (p.takes u r)) rows (λ x m. ap not (stay x m))
