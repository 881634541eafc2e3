-- Conforming looks at no serial, and at the values of attribute rows alone; so giving serials keeps it.
use Prim.Native.Nat.{ℕ, ◌+◌}
use mathlib.Core.Path.{◌≡◌, refl, sym, ap, ap₂, ◌∙◌}
use mathlib.Core.Bool.{Bool, true, false, ◌&&◌}
use mathlib.Core.Option
use mathlib.Core.Option.{Option, none, some}
use mathlib.Core.List.{List, [], ◌∷◌, map, Memᴰ}
use lib.Dec.{eqb}
use Rattle.rules.specs.Bytes.{Bytes, same, bytes, all, is_none}
use Rattle.rules.specs.Automaton.{accepts}
use Rattle.rules.specs.Store.{Content, empty, pcdata, complex, Attribute, Definition, Form, RowSort, element, attribute, text, Row, Forest, bare, tree, heads}
use Rattle.rules.specs.WellFormed.{lookup}
use Rattle.rules.specs.Conforming.{name_of, is_element, is_attribute, is_text, every_row, must_be_present, allows, strip, fits, fits_stripped, fits_definition, fits_row, conforming}
use Rattle.rules.specs.Change.{each_row, is_new, new_rows, given, number}

-- ---- rows mapped
pub heads_each : (w : Row → Row) (f : Forest Row) → heads (each_row w f) ≡ map w (heads f)
unfolding each_row
heads_each w bare = refl
heads_each w (tree r b t) = ap (λ (z : List Row). w r ∷ z) (heads_each w t)

pub every_each : (q : Row → List Row → Bool) (w : Row → Row) → ((r : Row) (rows : List Row) → q (w r) (map w rows) ≡ q r rows) → (f : Forest Row) → every_row q (each_row w f) ≡ every_row q f
unfolding each_row
every_each q w h bare = refl
every_each q w h (tree r b t) =
    ap₂ (λ (x y : Bool). x && y) (ap (λ (z : List Row). q (w r) z) (heads_each w b) ∙ h r (heads b)) (ap₂ (λ (x y : Bool). x && y) (every_each q w h b) (every_each q w h t))

module _ (w : Row → Row) (sorts : (r : Row) → (w r).sort ≡ r.sort) (names : (r : Row) → (w r).name ≡ r.name) where
  pub mapped_elements : (rows : List Row) → all (λ (r : Row). is_element r.sort) (map w rows) ≡ all (λ (r : Row). is_element r.sort) rows
  mapped_elements [] = refl
  mapped_elements (r ∷ rows) = ap₂ (λ (x y : Bool). x && y) (ap is_element (sorts r)) (mapped_elements rows)

  mapped_names : (rows : List Row) → map name_of (map w rows) ≡ map name_of rows
  mapped_names [] = refl
  mapped_names (r ∷ rows) = ap₂ (λ (x : Bytes) (z : List Bytes). x ∷ z) (names r) (mapped_names rows)

  mapped_none : (rows : List Row) → is_none (map w rows) ≡ is_none rows
  mapped_none [] = refl
  mapped_none (r ∷ rows) = refl

  mapped_fits : (c : Content) (rows : List Row) → fits c (map w rows) ≡ fits c rows
  mapped_fits empty rows = mapped_none rows
  mapped_fits pcdata [] = refl
  mapped_fits pcdata (r ∷ rows) = ap₂ (λ (x y : Bool). x && y) (ap is_text (sorts r)) (mapped_none rows)
  mapped_fits (complex ms) rows = ap₂ (λ (x y : Bool). x && y) (mapped_elements rows) (ap (accepts bytes ms) (mapped_names rows))

  mapped_stripped : (c : Content) (o : Option (List Row)) → fits_stripped c (Option.map (map w) o) ≡ fits_stripped c o
  mapped_stripped c none = refl
  mapped_stripped c (some rows) = mapped_fits c rows

  -- attribute rows keep their values
  abbrev Kept : List Row → Type 0
  Kept rows = (r : Row) → Memᴰ r rows → is_attribute r.sort ≡ true → (w r).value ≡ r.value

  mapped_strip : (version : ℕ) (table : List Attribute) (rows : List Row) → Kept rows → strip version table (map w rows) ≡ Option.map (map w) (strip version table rows)
  unfolding strip
  mapped_strip version [] rows k = refl
  mapped_strip version (a ∷ table) [] k = by (must_be_present version a.sort) refl (mapped_strip version table [] k)
    where
      by : (c : Bool) → must_be_present version a.sort ≡ c → strip version table [] ≡ Option.map (map w) (strip version table [])
          → strip version (a ∷ table) [] ≡ Option.map (map w) (strip version (a ∷ table) [])
      by true q x = rw (q, strip)
      by false q x = rw (q, strip) x
  mapped_strip version (a ∷ table) (r ∷ rows) k =
      by (is_attribute r.sort) refl (same a.name r.name) refl (mapped_strip version table rows (λ s m. k s (Memᴰ.tail m))) (mapped_strip version table (r ∷ rows) k)
    where
      Goal : Type 0
      Goal = strip version (a ∷ table) (w r ∷ map w rows) ≡ Option.map (map w) (strip version (a ∷ table) (r ∷ rows))

      other : (is_attribute r.sort && same a.name r.name) ≡ false → strip version table (w r ∷ map w rows) ≡ Option.map (map w) (strip version table (r ∷ rows)) → Goal
      other e y = miss (must_be_present version a.sort) refl
        where
          e' : (is_attribute (w r).sort && same a.name (w r).name) ≡ false
          e' = ap₂ (λ (s : RowSort) (n : Bytes). is_attribute s && same a.name n) (sorts r) (names r) ∙ e

          miss : (m : Bool) → must_be_present version a.sort ≡ m → Goal
          miss true m = rw (e, strip) (rw (e', strip) (rw m))
          miss false m = rw (e, strip) (rw (e', strip) (rw m y))

      by : (c : Bool) → is_attribute r.sort ≡ c → (d : Bool) → same a.name r.name ≡ d → strip version table (map w rows) ≡ Option.map (map w) (strip version table rows)
          → strip version table (w r ∷ map w rows) ≡ Option.map (map w) (strip version table (r ∷ rows)) → Goal
      by false e d h x y = other (rw e) y
      by true e false h x y = other (rw (e, h)) y
      by true e true h x y = hit (allows a.sort a.value r.value) refl
        where
          e₀ : (is_attribute r.sort && same a.name r.name) ≡ true
          e₀ = rw (e, h)

          e' : (is_attribute (w r).sort && same a.name (w r).name) ≡ true
          e' = ap₂ (λ (s : RowSort) (n : Bytes). is_attribute s && same a.name n) (sorts r) (names r) ∙ e₀

          v : allows a.sort a.value (w r).value ≡ allows a.sort a.value r.value
          v = ap (allows a.sort a.value) (k r (Memᴰ.head refl) e)

          hit : (m : Bool) → allows a.sort a.value r.value ≡ m → Goal
          hit true m = rw (e₀, strip) (rw (e', strip) (rw v (rw m x)))
          hit false m = rw (e₀, strip) (rw (e', strip) (rw v (rw m)))

  pub mapped_row : (version : ℕ) (form : Form) (r : Row) (rows : List Row) → Kept rows → fits_row version form (w r) (map w rows) ≡ fits_row version form r rows
  unfolding fits_row
  mapped_row version form r rows k = ap₂ (λ (s : RowSort) (n : Bytes). tested s n (map w rows)) (sorts r) (names r) ∙ by r.sort
    where
      found : (o : Option Definition) → fits_definition version o (map w rows) ≡ fits_definition version o rows
      found none = refl
      found (some d) = ap (fits_stripped d.content) (mapped_strip version d.attributes rows k) ∙ mapped_stripped d.content (strip version d.attributes rows)

      tested : RowSort → Bytes → List Row → Bool
      tested s n rs = elim s [ element ↦ fits_definition version (lookup n form) rs | attribute ↦ is_none rs | text ↦ is_none rs ]

      by : (s : RowSort) → tested s r.name (map w rows) ≡ tested s r.name rows
      by element = found (lookup r.name form)
      by attribute = mapped_none rows
      by text = mapped_none rows

-- ---- serials taken away
abbrev pub wipe : Row → Row
wipe r = record { serial = 0; sort = r.sort; name = r.name; value = r.value }

wipe_given : (n : ℕ) (r : Row) → wipe (given n r) ≡ wipe r
unfolding given
wipe_given n r = by (eqb r.serial 0) refl
  where
    by : (c : Bool) → eqb r.serial 0 ≡ c → wipe (given n r) ≡ wipe r
    by true q = rw (q, given)
    by false q = rw (q, given)

wipe_number : (n : ℕ) (f : Forest Row) → each_row wipe (number n f) ≡ each_row wipe f
unfolding each_row number
wipe_number n bare = refl
wipe_number n (tree r b t) = λ i. tree (wipe_given n r i) (wipe_number (n + is_new r) b i) (wipe_number (n + (is_new r + new_rows b)) t i)

-- a test that looks at no serial
pub every_number : (q : Row → List Row → Bool) → ((r : Row) (rows : List Row) → q (wipe r) (map wipe rows) ≡ q r rows) → (n : ℕ) (f : Forest Row) → every_row q (number n f) ≡ every_row q f
every_number q h n f = sym (every_each q wipe h (number n f)) ∙ ap (every_row q) (wipe_number n f) ∙ every_each q wipe h f

pub conforming_number : (version : ℕ) (form : Form) (n : ℕ) (f : Forest Row) → conforming version form (number n f) ≡ conforming version form f
unfolding conforming
conforming_number version form n f =
    ap₂ (λ (x y : Bool). x && y) roots (every_number (λ r below. fits_row version form r below) (λ r rows. mapped_row wipe (λ s. refl) (λ s. refl) version form r rows (λ s m e. refl)) n f)
  where
    top : (g : Forest Row) → all (λ (r : Row). is_element r.sort) (heads (each_row wipe g)) ≡ all (λ (r : Row). is_element r.sort) (heads g)
    top g = ap (all (λ (r : Row). is_element r.sort)) (heads_each wipe g) ∙ mapped_elements wipe (λ s. refl) (λ s. refl) (heads g)

    roots : all (λ (r : Row). is_element r.sort) (heads (number n f)) ≡ all (λ (r : Row). is_element r.sort) (heads f)
    roots = sym (top (number n f)) ∙ ap (λ (g : Forest Row). all (λ (r : Row). is_element r.sort) (heads g)) (wipe_number n f) ∙ top f
