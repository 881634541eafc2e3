-- The rows right below one element when an attribute is added to its table or taken out of it.
use Prim.Native.Nat.{ℕ}
use mathlib.Core.Path.{◌≡◌, refl, sym, ap, ◌∙◌}
use mathlib.Core.Logic.{⊎_elim}
use mathlib.Core.Bool.{Bool, true, false, not, false≢true}
use mathlib.Core.Option.{none, some, none-ne-some}
use mathlib.Core.List.Memᴰ
use mathlib.Core.List.{List, [], ◌∷◌, ◌++◌, map, Memᴰ}
use Rattle.rules.specs.Bytes.{Bytes, same, bytes, same_eq, same_refl, all}
use Rattle.rules.specs.Model.{Distinct}
use Rattle.rules.specs.Automaton.{accepts}
use Rattle.rules.specs.Store.{Content, empty, pcdata, complex, Attribute, RowSort, element, attribute, text, Row, heads}
use Rattle.rules.specs.WellFormed.{attribute_name}
use Rattle.rules.specs.Conforming.{name_of, is_element, is_attribute, is_text, must_be_present, allows, strip, fits}
use Rattle.rules.specs.Lines.{attribute_named}
use Rattle.rules.specs.Change.{Plan, lacking}
use Rattle.rules.proofs.Words.{and_both, and_split}
use Rattle.rules.proofs.Apart.{differs}
use Rattle.rules.proofs.ConformingLaws.{head_attribute, begins, begins_none, begins_other, begins_this, strip_past, strip_take, is_attribute_lem}
use Rattle.change_laws.proofs.RowEdits.{keep, plant_rows}
use borrow.Author.Tests.{not-true}
use Rattle.change_laws.proofs.InstanceRows.{keep_all, plant_not, keep_in}

-- ---- one entry of the table, when the rest is known
pub data Step (version : ℕ) (a : Attribute) (table : List Attribute) (rows rest : List Row) : Type 0 where
  took : (r : Row) (more : List Row) → rows ≡ r ∷ more → begins a.name (r ∷ more) ≡ true → allows a.sort a.value r.value ≡ true → strip version table more ≡ some rest
      → Step version a table rows rest
  passed : begins a.name rows ≡ false → must_be_present version a.sort ≡ false → strip version table rows ≡ some rest → Step version a table rows rest

pub strip_step : (version : ℕ) (a : Attribute) (table : List Attribute) (rows rest : List Row) → strip version (a ∷ table) rows ≡ some rest → Step version a table rows rest
unfolding strip begins
strip_step version a table [] rest e = by (must_be_present version a.sort) refl
  where
    by : (m : Bool) → must_be_present version a.sort ≡ m → Step version a table [] rest
    by true m = absurd (none-ne-some _ (rw (m, strip) at e))
    by false m = passed refl m (rw (m, strip) at e)
strip_step version a table (r ∷ rows) rest e = by (begins a.name (r ∷ rows)) refl (must_be_present version a.sort) refl (allows a.sort a.value r.value) refl
  where
    by : (b : Bool) → begins a.name (r ∷ rows) ≡ b → (m : Bool) → must_be_present version a.sort ≡ m → (v : Bool) → allows a.sort a.value r.value ≡ v
        → Step version a table (r ∷ rows) rest
    by true b m p true v = took r rows refl b v (sym (strip_take version a table r rows b v) ∙ e)
    by true b m p false v = let z : strip version (a ∷ table) (r ∷ rows) ≡ none = rw (b, strip) (rw v) in absurd (none-ne-some _ (sym z ∙ e))
    by false b true p v q = let z : strip version (a ∷ table) (r ∷ rows) ≡ none = rw (b, strip) (rw p) in absurd (none-ne-some _ (sym z ∙ e))
    by false b false p v q = passed b p (sym (strip_past version a table (r ∷ rows) b p) ∙ e)

-- ---- content: no attribute row among it
abbrev pub no_attribute : Row → Bool
no_attribute r = not (is_attribute r.sort)

element_plain : (s : RowSort) → is_element s ≡ true → not (is_attribute s) ≡ true
element_plain element e = refl
element_plain attribute e = e
element_plain text e = refl

text_plain : (s : RowSort) → is_text s ≡ true → not (is_attribute s) ≡ true
text_plain element e = refl
text_plain attribute e = e
text_plain text e = refl

elements_plain : (rows : List Row) → all (λ (r : Row). is_element r.sort) rows ≡ true → all no_attribute rows ≡ true
elements_plain [] e = refl
elements_plain (r ∷ rows) e =
    let (x, y) = and_split (is_element r.sort) (all (λ (r : Row). is_element r.sort) rows) e in
    and_both (element_plain r.sort x) (elements_plain rows y)

pub content_plain : (c : Content) (rows : List Row) → fits c rows ≡ true → all no_attribute rows ≡ true
content_plain empty [] e = refl
content_plain empty (r ∷ rows) e = absurd (false≢true e)
content_plain pcdata [] e = refl
content_plain pcdata (r ∷ []) e = and_both (text_plain r.sort (and_split (is_text r.sort) true e).0) refl
content_plain pcdata (r ∷ (s ∷ rows)) e = absurd (false≢true (and_split (is_text r.sort) false e).1)
content_plain (complex ms) rows e = elements_plain rows (and_split (all (λ (r : Row). is_element r.sort) rows) (accepts bytes ms (map name_of rows)) e).0

plain_head : (rows : List Row) → all no_attribute rows ≡ true → head_attribute rows ≡ false
unfolding head_attribute
plain_head [] e = refl
plain_head (r ∷ rows) e = not-true (is_attribute r.sort) (and_split (no_attribute r) (all no_attribute rows) e).0

plain_in : (rows : List Row) → all no_attribute rows ≡ true → (r : Row) → Memᴰ r rows → is_attribute r.sort ≡ false
plain_in [] e r m = absurd (Memᴰ.not-nil m)
plain_in (s ∷ rows) e r m =
    let (x, y) = and_split (no_attribute s) (all no_attribute rows) e in
    ⊎_elim (λ q. rw q (not-true (is_attribute s.sort) x)) (λ n. plain_in rows y r n) (Memᴰ.cases_cons m)

-- ---- a longer table goes on with what the shorter left
pub strip_more : (version : ℕ) (table more : List Attribute) (rows rest : List Row) → strip version table rows ≡ some rest → strip version (table ++ more) rows ≡ strip version more rest
unfolding strip
strip_more version [] more rows rest e = let z : rows ≡ rest = cc e in ap (strip version more) z
strip_more version (a ∷ table) more rows rest e = by (strip_step version a table rows rest e) (strip_more version table more)
  where
    by : Step version a table rows rest → ((rows rest : List Row) → strip version table rows ≡ some rest → strip version (table ++ more) rows ≡ strip version more rest)
        → strip version (a ∷ (table ++ more)) rows ≡ strip version more rest
    by (took r rs q b v t) f = ap (strip version (a ∷ (table ++ more))) q ∙ strip_take version a (table ++ more) r rs b v ∙ f rs rest t
    by (passed b m t) f = strip_past version a (table ++ more) rows b m ∙ f rows rest t

-- an entry that need not be present, with no row
pub strip_added : (version : ℕ) (a : Attribute) (table : List Attribute) (rows rest : List Row) → must_be_present version a.sort ≡ false → all no_attribute rest ≡ true
    → strip version table rows ≡ some rest → strip version (table ++ a ∷ []) rows ≡ some rest
unfolding strip
strip_added version a table rows rest m n e = strip_more version table (a ∷ []) rows rest e ∙ strip_past version a [] rest (begins_none a.name rest (plain_head rest n)) m

-- ---- an attribute row put before the first row that is no attribute
begins_attribute : (n : Bytes) (r : Row) (rows : List Row) → begins n (r ∷ rows) ≡ true → (r.sort ≡ attribute) × (n ≡ r.name)
unfolding begins
begins_attribute n r rows e = let (x, y) = and_split (is_attribute r.sort) (same n r.name) e in (is_attribute_lem r.sort x, same_eq n r.name y)

module _ (version : ℕ) (p : Plan) (u : Row) (later : (r : Row) → p.later u r ≡ no_attribute r) (x : Row) (one : heads p.filling ≡ x ∷ []) where
  planted_none : (rows : List Row) → head_attribute rows ≡ false → plant_rows p u true rows ≡ x ∷ rows
  unfolding plant_rows head_attribute
  planted_none [] h = one
  planted_none (r ∷ rows) h = rw (later r ∙ ap not h, plant_rows) (ap (λ (z : List Row). z ++ (r ∷ plant_rows p u false rows)) one ∙ ap (λ (z : List Row). x ∷ (r ∷ z)) (plant_not p u rows))

  planted_past : (r : Row) (rows : List Row) → is_attribute r.sort ≡ true → plant_rows p u true (r ∷ rows) ≡ r ∷ plant_rows p u true rows
  unfolding plant_rows
  planted_past r rows h = rw (later r ∙ ap not h, plant_rows)

  -- it is no row of another attribute
  planted_begins : (n : Bytes) (rows : List Row) → (n ≡ x.name → ⊥) → x.sort ≡ attribute → begins n rows ≡ false → begins n (plant_rows p u true rows) ≡ false
  unfolding head_attribute plant_rows begins
  planted_begins n [] f s b = ap (begins n) (planted_none [] refl) ∙ begins_other n x [] s f
  planted_begins n (r ∷ rows) f s b = by (is_attribute r.sort) refl
    where
      by : (c : Bool) → is_attribute r.sort ≡ c → begins n (plant_rows p u true (r ∷ rows)) ≡ false
      by true h = ap (begins n) (planted_past r rows h) ∙ b
      by false h = ap (begins n) (planted_none (r ∷ rows) h) ∙ begins_other n x (r ∷ rows) s f

  -- the rows of the table come off, the new row stays
  pub strip_planted : (table : List Attribute) (rows rest : List Row) → (Memᴰ x.name (map attribute_name table) → ⊥) → x.sort ≡ attribute → all no_attribute rest ≡ true
      → strip version table rows ≡ some rest → strip version table (plant_rows p u true rows) ≡ some (x ∷ rest)
  unfolding strip
  strip_planted [] rows rest f s n e = let z : rows ≡ rest = cc e in ap (λ (l : List Row). some (plant_rows p u true l)) z ∙ ap (λ (l : List Row). some l) (planted_none rest (plain_head rest n))
  strip_planted (a ∷ table) rows rest f s n e = by (strip_step version a table rows rest e) (λ rows. strip_planted table rows rest (λ m. f (Memᴰ.tail m)) s n)
    where
      by : Step version a table rows rest → ((rows : List Row) → strip version table rows ≡ some rest → strip version table (plant_rows p u true rows) ≡ some (x ∷ rest))
          → strip version (a ∷ table) (plant_rows p u true rows) ≡ some (x ∷ rest)
      by (took r rs q b v t) g =
          ap (λ (l : List Row). strip version (a ∷ table) (plant_rows p u true l)) q
          ∙ ap (strip version (a ∷ table)) (planted_past r rs (ap is_attribute (begins_attribute a.name r rs b).0))
          ∙ strip_take version a table r (plant_rows p u true rs) (begins_this a.name r (plant_rows p u true rs) (begins_attribute a.name r rs b).0 (sym (begins_attribute a.name r rs b).1)) v
          ∙ g rs t
      by (passed b m t) g = strip_past version a table (plant_rows p u true rows) (planted_begins a.name rows (λ q. f (Memᴰ.head (sym q))) s b) m ∙ g rows t

-- ---- an attribute's rows taken, and its entry
-- every attribute row is an entry's
pub owned_rows : (version : ℕ) (table : List Attribute) (rows rest : List Row) → all no_attribute rest ≡ true → strip version table rows ≡ some rest → (r : Row) → Memᴰ r rows
    → is_attribute r.sort ≡ true → Memᴰ r.name (map attribute_name table)
unfolding strip
owned_rows version [] rows rest n e r m h = let z : rows ≡ rest = cc e in absurd (false≢true (sym (plain_in rows (rw z n) r m) ∙ h))
owned_rows version (a ∷ table) rows rest n e r m h = by (strip_step version a table rows rest e) (λ rows t m. owned_rows version table rows rest n t r m h)
  where
    by : Step version a table rows rest → ((rows : List Row) → strip version table rows ≡ some rest → Memᴰ r rows → Memᴰ r.name (map attribute_name table))
        → Memᴰ r.name (map attribute_name (a ∷ table))
    by (took s rs q b v t) f =
        ⊎_elim (λ i. Memᴰ.head (ap name_of i ∙ sym (begins_attribute a.name s rs b).1)) (λ i. Memᴰ.tail (f rs t i)) (Memᴰ.cases_cons (rw q at m))
    by (passed b p t) f = Memᴰ.tail (f rows t m)

module _ (version : ℕ) (n : Bytes) where
  abbrev other : Row → Bool
  other r = not (attribute_named n r)

  keep_this : (r : Row) (rows : List Row) → other r ≡ true → keep other (r ∷ rows) ≡ r ∷ keep other rows
  unfolding keep
  keep_this r rows e = rw (e, keep)

  keep_not : (r : Row) (rows : List Row) → other r ≡ false → keep other (r ∷ rows) ≡ keep other rows
  unfolding keep
  keep_not r rows e = rw (e, keep)

  -- a table without the name has no row of it
  keep_owned : (table : List Attribute) (rows rest : List Row) → (Memᴰ n (map attribute_name table) → ⊥) → all no_attribute rest ≡ true → strip version table rows ≡ some rest
      → keep other rows ≡ rows
  keep_owned table rows rest f p e = keep_all other rows (λ r m. by r m (is_attribute r.sort) refl)
    where
      by : (r : Row) → Memᴰ r rows → (c : Bool) → is_attribute r.sort ≡ c → other r ≡ true
      by r m false h = rw h
      by r m true h = rw (h, differs bytes n r.name (λ q. f (Memᴰ.cast q (owned_rows version table rows rest p e r m h))))

  begins_kept : (k : Bytes) (rows : List Row) → ((r : Row) → Memᴰ r rows → is_attribute r.sort ≡ true → k ≡ r.name → ⊥) → begins k (keep other rows) ≡ false
  begins_kept k rows f = by (keep other rows) (λ r m. f r (keep_in other rows r m))
    where
      by : (rows : List Row) → ((r : Row) → Memᴰ r rows → is_attribute r.sort ≡ true → k ≡ r.name → ⊥) → begins k rows ≡ false
      by [] f = begins_none k [] (plain_head [] refl)
      by (r ∷ rows) f = of (begins k (r ∷ rows)) refl
        where
          of : (c : Bool) → begins k (r ∷ rows) ≡ c → begins k (r ∷ rows) ≡ false
          of true e = let (s, q) = begins_attribute k r rows e in absurd (f r (Memᴰ.head refl) (ap is_attribute s) q)
          of false e = e

  pub strip_lacking : (table : List Attribute) (rows rest : List Row) → Distinct (map attribute_name table) → all no_attribute rest ≡ true → strip version table rows ≡ some rest
      → strip version (lacking n table) (keep other rows) ≡ some rest
  unfolding strip
  strip_lacking [] rows rest d p e = let z : rows ≡ rest = cc e in ap (λ (l : List Row). some l) (keep_all other rows (λ r m. kept r (plain_in rows (rw z p) r m)) ∙ z)
    where
      kept : (r : Row) → is_attribute r.sort ≡ false → other r ≡ true
      kept r h = rw h
  strip_lacking (a ∷ table) rows rest (new, d) p e = by (same n a.name) refl (strip_step version a table rows rest e) (λ rows. strip_lacking table rows rest d p)
    where
      Goal : Type 0
      Goal = strip version (lacking n (a ∷ table)) (keep other rows) ≡ some rest

      by : (c : Bool) → same n a.name ≡ c → Step version a table rows rest
          → ((rows : List Row) → strip version table rows ≡ some rest → strip version (lacking n table) (keep other rows) ≡ some rest) → Goal
      by true g (took r rs q b v t) f =
          let (s, k) = begins_attribute a.name r rs b in
          let o : other r ≡ false = rw (s, same_eq n a.name g ∙ k) (ap not (same_refl r.name)) in
          rw (g, lacking)
          (ap (λ (l : List Row). strip version table (keep other l)) q
          ∙ ap (strip version table) (keep_not r rs o ∙ keep_owned table rs rest (λ m. new (Memᴰ.cast (sym (same_eq n a.name g)) m)) p t)
          ∙ t)
      by true g (passed b m t) f = rw (g, lacking) (ap (strip version table) (keep_owned table rows rest (λ i. new (Memᴰ.cast (sym (same_eq n a.name g)) i)) p t) ∙ t)
      by false g (took r rs q b v t) f =
          let (s, k) = begins_attribute a.name r rs b in
          let o : other r ≡ true = rw (s, ← k) (ap not g) in
          rw (g, lacking)
          (ap (λ (l : List Row). strip version (a ∷ lacking n table) (keep other l)) q
          ∙ ap (strip version (a ∷ lacking n table)) (keep_this r rs o)
          ∙ strip_take version a (lacking n table) r (keep other rs) (begins_this a.name r (keep other rs) s (sym k)) v
          ∙ f rs t)
      by false g (passed b m t) f =
          rw (g, lacking)
          (strip_past version a (lacking n table) (keep other rows) (begins_kept a.name rows (λ r i h q. new (Memᴰ.cast q (owned_rows version table rows rest p t r i h)))) m ∙ f rows t)
