-- Attribute rows: those of rising index that an index form asks for are those that a form strips off the front.
use Prim.Native.Nat.{ℕ, suc, ◌<◌, ◌≤◌}
use native.Mathlib.Nat.{eq-or-lt_of_le}
use native.Mathlib.Omega.{arith}
use mathlib.Core.Path.{◌≡◌, refl, ap, ◌∙◌, sym, subst}
use mathlib.Core.Logic.{◌⊎◌, inl, inr, ⊎_elim}
use mathlib.Core.Bool.{Bool, true, false, ◌&&◌, false≢true}
use mathlib.Core.Option.{some, none-ne-some}
use mathlib.Core.List.Memᴰ
use mathlib.Core.List.{List, [], ◌∷◌, ◌++◌, map, Memᴰ, cons≢nil, head-eq_of_cons-eq}
use Rattle.rules.specs.Bytes.{Bytes, same, same_eq}
use Rattle.rules.specs.Model.{Distinct}
use Rattle.rules.specs.Store.{Attribute, Form, attribute, Row}
use Rattle.rules.specs.Layout.{FlatRow, row_code, attribute_index, row_index}
use Rattle.rules.specs.Decode.{name_at, row_sort_of, row_name}
use Rattle.rules.specs.WellFormed.{attribute_name}
use Rattle.rules.specs.Conforming.{is_attribute, must_be_present, allows, strip}
use Rattle.rules.proofs.Words.{and_split}
use Rattle.rules.proofs.ConformingLaws.{head_attribute, begins, strip_past, strip_take, begins_none, begins_other, begins_this, is_attribute_lem}
use Rattle.rules.proofs.DecodeLaws.{attribute_names}
use Rattle.form_index.specs.Indices.{IndexForm, index_of_row, AttributeRowsOf}
use Rattle.store_check.proofs.IndexLaws.{names_of}
use Rattle.store_check.proofs.AttributeBlocks.{Entry, Block}

-- ---- one row
abbrev pub row_read : Form → FlatRow → Row
row_read form x = record { serial = x.serial; sort = row_sort_of x.sort; name = row_name (names_of form) (attribute_names form) (row_sort_of x.sort) x.index; value = x.value }

abbrev pub row_written : Form → Bytes → Row → FlatRow
row_written form owner r = record { sort = row_code r.sort; index = row_index form owner r; serial = r.serial; value = r.value }

pub name_read : (form : Form) (x : FlatRow) → x.sort ≡ 2 → (row_read form x).name ≡ name_at x.index (attribute_names form)
name_read form x q = ap (λ (s : ℕ). row_name (names_of form) (attribute_names form) (row_sort_of s) x.index) q

pub index_written : (form : Form) (owner : Bytes) (r : Row) → r.sort ≡ attribute → row_index form owner r ≡ attribute_index owner r.name form
index_written form owner r q = rw q

-- ---- rows that take entries out of a table whose first entry has index j
abbrev pub Taken : ℕ → ℕ → List Attribute → List FlatRow → Type 0
Taken version j [] rs = rs ≡ []
Taken version j (a ∷ table) rs =
    ((must_be_present version a.sort ≡ false) × Taken version (suc j) table rs)
    ⊎ ((r : FlatRow) × (rest : List FlatRow) × (rs ≡ r ∷ rest) × (r.sort ≡ 2) × (r.index ≡ j) × (allows a.sort a.value r.value ≡ true) × Taken version (suc j) table rest)

module _ (version : ℕ) (F : IndexForm) (form : Form) where
  owned_least : (i a : ℕ) (rs : List FlatRow) (k : ℕ) → AttributeRowsOf F i a rs → Memᴰ k (map index_of_row rs) → a ≤ k
  owned_least i a [] k o m = absurd (Memᴰ.not-nil m)
  owned_least i a (r ∷ rs) k (s, l, n, e, v, o) m = ⊎_elim (λ q. omega arith) (λ t. omega (arith, owned_least i (suc r.index) rs k o t)) (Memᴰ.cases_cons m)

  abbrev WholeFrom : ℕ → ℕ → List FlatRow → Type 0
  WholeFrom i j rs = (k : ℕ) → j ≤ k → k < F.attributes → F.owner k ≡ i → F.needed k ≡ true → Memᴰ k (map index_of_row rs)

  -- an entry that no row takes need not be taken
  lacks : (i j : ℕ) (a : Attribute) (rs : List FlatRow) → Entry version F form i j a → WholeFrom i j rs → (Memᴰ j (map index_of_row rs) → ⊥) → must_be_present version a.sort ≡ false
  lacks i j a rs e h out = by (must_be_present version a.sort) refl
    where
      by : (c : Bool) → must_be_present version a.sort ≡ c → must_be_present version a.sort ≡ false
      by true q = absurd (out (h j (omega arith) e.inside e.owner (e.needed ∙ q)))
      by false q = q

  pub taken_of : (i j : ℕ) (table : List Attribute) → Block version F form i j table → (rs : List FlatRow) → AttributeRowsOf F i j rs → WholeFrom i j rs → Taken version j table rs
  taken_of i j [] b [] o h = refl
  taken_of i j [] b (r ∷ rs) (s, l, n, e, v, o) h = absurd (b r.index l n e)
  taken_of i j (a ∷ table) (e, b) [] o h = inl (lacks i j a [] e h (λ m. Memᴰ.not-nil m), taken_of i (suc j) table b [] tt (λ k l. h k (omega arith)))
  taken_of i j (a ∷ table) (e, b) (r ∷ rs) (s, l, n, w, v, o) h = by (eq-or-lt_of_le l) (taken_of i (suc j) table b)
    where
      by : (j ≡ r.index) ⊎ (j < r.index) → ((rs : List FlatRow) → AttributeRowsOf F i (suc j) rs → WholeFrom i (suc j) rs → Taken version (suc j) table rs) → Taken version j (a ∷ table) (r ∷ rs)
      by (inl q) f =
          inr (
            r,
            rs,
            refl,
            s,
            sym q,
            sym (e.allowed r.value) ∙ ap (λ (z : ℕ). F.allows z r.value) q ∙ v,
            f rs (subst (λ (z : ℕ). AttributeRowsOf F i (suc z) rs) (sym q) o) (λ k l m p x. ⊎_elim (λ z. absurd (omega arith)) (λ t. t) (Memᴰ.cases_cons (h k (omega arith) m p x))),
          )
      by (inr g) f =
          inl (
            lacks i j a (r ∷ rs) e h (λ m. omega (arith, owned_least i (suc j) (r ∷ rs) j (s, g, n, w, v, o) m)),
            f (r ∷ rs) (s, g, n, w, v, o) (λ k l. h k (omega arith)),
          )

  pub owned_of : (i j : ℕ) (table : List Attribute) → Block version F form i j table → (rs : List FlatRow) → Taken version j table rs → (a : ℕ) → a ≤ j → AttributeRowsOf F i a rs
  owned_of i j [] b rs t a l = rw t tt
  owned_of i j (c ∷ table) (e, b) rs (inl (m, t)) a l = owned_of i (suc j) table b rs t a (omega arith)
  owned_of i j (c ∷ table) (e, b) rs (inr (r, rest, q, s, x, v, t)) a l =
      rw q
      (s, omega arith, rw x e.inside, rw x e.owner, ap (λ (z : ℕ). F.allows z r.value) x ∙ e.allowed r.value ∙ v, owned_of i (suc j) table b rest t (suc r.index) (omega arith))

  pub whole_of : (i j : ℕ) (table : List Attribute) → Block version F form i j table → (rs : List FlatRow) → Taken version j table rs → WholeFrom i j rs
  whole_of i j [] b rs t k l m e n = absurd (b k l m e)
  whole_of i j (c ∷ table) (e, b) rs (inl (x, t)) k l m p n =
      ⊎_elim (λ q. absurd (false≢true (sym x ∙ sym e.needed ∙ ap F.needed q ∙ n))) (λ g. whole_of i (suc j) table b rs t k g m p n) (eq-or-lt_of_le l)
  whole_of i j (c ∷ table) (e, b) rs (inr (r, rest, q, s, x, v, t)) k l m p n =
      rw q (⊎_elim (λ z. Memᴰ.head (sym z ∙ sym x)) (λ g. Memᴰ.tail (whole_of i (suc j) table b rest t k g m p n)) (eq-or-lt_of_le l))

  -- ---- rows that are read
  taken_name : (i j : ℕ) (table : List Attribute) → Block version F form i j table → (r : FlatRow) (rest : List FlatRow) → Taken version j table (r ∷ rest)
      → (r.sort ≡ 2) × Memᴰ (name_at r.index (attribute_names form)) (map attribute_name table)
  taken_name i j [] b r rest t = absurd (cons≢nil t)
  taken_name i j (a ∷ table) (e, b) r rest (inl (m, t)) = let (s, n) = taken_name i (suc j) table b r rest t in (s, Memᴰ.tail n)
  taken_name i j (a ∷ table) (e, b) r rest (inr (x, others, q, s, y, v, t)) =
      let z : r ≡ x = head-eq_of_cons-eq q in
      (ap (λ (u : FlatRow). u.sort) z ∙ s, Memᴰ.head (ap (λ (k : ℕ). name_at k (attribute_names form)) (ap (λ (u : FlatRow). u.index) z ∙ y) ∙ e.name))

  pub strip_taken : (i j : ℕ) (table : List Attribute) → Block version F form i j table → Distinct (map attribute_name table) → (rs : List FlatRow)
      → Taken version j table rs → (back : List Row) → head_attribute back ≡ false
      → strip version table (map (row_read form) rs ++ back) ≡ some back
  unfolding strip
  strip_taken i j [] b d rs t back h = rw t
  strip_taken i j (a ∷ table) (e, b) (out, d) rs (inl (m, t)) back h = strip_past version a table (map (row_read form) rs ++ back) (other rs t) m ∙ strip_taken i (suc j) table b d rs t back h
    where
      other : (rs : List FlatRow) → Taken version (suc j) table rs → begins a.name (map (row_read form) rs ++ back) ≡ false
      other [] t = begins_none a.name back h
      other (r ∷ rs) t =
          let (s, n) = taken_name i (suc j) table b r rs t in
          begins_other a.name (row_read form r) (map (row_read form) rs ++ back) (ap row_sort_of s) (λ q. out (Memᴰ.cast (q ∙ name_read form r s) n))
  strip_taken i j (a ∷ table) (e, b) (out, d) rs (inr (r, rest, q, s, x, v, t)) back h =
      ap (λ (z : List FlatRow). strip version (a ∷ table) (map (row_read form) z ++ back)) q
      ∙ strip_take version a table (row_read form r) (map (row_read form) rest ++ back)
      (begins_this a.name (row_read form r) (map (row_read form) rest ++ back) (ap row_sort_of s) (name_read form r s ∙ ap (λ (k : ℕ). name_at k (attribute_names form)) x ∙ e.name)) v
      ∙ strip_taken i (suc j) table b d rest t back h

  -- ---- rows that are written
  taken_first : (i j : ℕ) (a : Attribute) (table : List Attribute) → Entry version F form i j a → (r : Row) (front : List Row) → r.sort ≡ attribute
      → a.name ≡ r.name → allows a.sort a.value r.value ≡ true
      → Taken version (suc j) table (map (row_written form (name_at i (names_of form))) front)
      → (x : FlatRow) × (rest : List FlatRow) × (map (row_written form (name_at i (names_of form))) (r ∷ front) ≡ x ∷ rest) × (x.sort ≡ 2) × (x.index ≡ j)
      × (allows a.sort a.value x.value ≡ true) × Taken version (suc j) table rest
  taken_first i j a table e r front s n p t = (
    row_written form (name_at i (names_of form)) r,
    map (row_written form (name_at i (names_of form))) front,
    refl,
    ap row_code s,
    index_written form (name_at i (names_of form)) r s ∙ ap (λ (l : Bytes). attribute_index (name_at i (names_of form)) l form) (sym n) ∙ e.found,
    p,
    t,
  )

  pub taken_strip : (i j : ℕ) (table : List Attribute) → Block version F form i j table → (rows rest : List Row) → strip version table rows ≡ some rest
      → (front : List Row) × (front ++ rest ≡ rows) × Taken version j table (map (row_written form (name_at i (names_of form))) front)
  unfolding strip
  taken_strip i j [] b rows rest h = ([], (let z : rest ≡ rows = cc h in z), refl)
  taken_strip i j (a ∷ table) (e, b) [] rest h = by (must_be_present version a.sort) refl (taken_strip i (suc j) table b [] rest)
    where
      by : (c : Bool) → must_be_present version a.sort ≡ c
          → (strip version table [] ≡ some rest
          → (front : List Row) × (front ++ rest ≡ []) × Taken version (suc j) table (map (row_written form (name_at i (names_of form))) front))
          → (front : List Row) × (front ++ rest ≡ []) × Taken version j (a ∷ table) (map (row_written form (name_at i (names_of form))) front)
      by true q f = absurd (none-ne-some _ (rw (q, strip) at h))
      by false q f = let (front, z, t) = f (rw (q, strip) at h) in (front, z, inl (q, t))
  taken_strip i j (a ∷ table) (e, b) (r ∷ rows) rest h =
      by (is_attribute r.sort && same a.name r.name) refl (allows a.sort a.value r.value) refl (must_be_present version a.sort) refl
      (taken_strip i (suc j) table b rows rest) (taken_strip i (suc j) table b (r ∷ rows) rest)
    where
      Goal : List Row → ℕ → List Attribute → Type 0
      Goal rows j table = (front : List Row) × (front ++ rest ≡ rows) × Taken version j table (map (row_written form (name_at i (names_of form))) front)

      first : r.sort ≡ attribute → a.name ≡ r.name → allows a.sort a.value r.value ≡ true → Goal rows (suc j) table → Goal (r ∷ rows) j (a ∷ table)
      first s n p (front, u, t) = (r ∷ front, ap (λ (l : List Row). r ∷ l) u, inr (taken_first i j a table e r front s n p t))

      by : (x : Bool) → (is_attribute r.sort && same a.name r.name) ≡ x → (y : Bool) → allows a.sort a.value r.value ≡ y → (z : Bool)
          → must_be_present version a.sort ≡ z → (strip version table rows ≡ some rest → Goal rows (suc j) table)
          → (strip version table (r ∷ rows) ≡ some rest → Goal (r ∷ rows) (suc j) table) → Goal (r ∷ rows) j (a ∷ table)
      by true q true p z m f g =
          let (k, n) = and_split (is_attribute r.sort) (same a.name r.name) q in
          first (is_attribute_lem r.sort k) (same_eq a.name r.name n) p (f (rw (q, strip, p) at h))
      by true q false p z m f g = absurd (none-ne-some _ (rw (q, strip, p) at h))
      by false q y p true m f g = absurd (none-ne-some _ (rw (q, strip, m) at h))
      by false q y p false m f g = let (front, u, t) = g (rw (q, strip, m) at h) in (front, u, inl (m, t))
