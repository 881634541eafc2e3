-- The rows right below an element without an attribute's row, with one more, or with another value: what is tested.
use Prim.Native.Nat.{ℕ}
use mathlib.Core.Path.{◌≡◌, refl, sym, ap, ap₂, ◌∙◌, subst}
use mathlib.Core.Logic.{◌⊎◌, inl, inr}
use mathlib.Core.Bool.{Bool, true, false, ◌&&◌, not, false≢true, and-false}
use mathlib.Core.Option.{Option, none, some}
use mathlib.Core.List.{List, [], ◌∷◌, map, Memᴰ}
use mathlib.Core.List.{nil≢cons, head-eq_of_cons-eq}
use borrow.Author.Tests.{eq-eqb}
use Rattle.rules.specs.Bytes.{Bytes, same, same_eq, bytes, all}
use Rattle.rules.specs.Model.{Distinct, member}
use Rattle.rules.specs.Store.{Attribute, attribute, Row}
use Rattle.rules.specs.WellFormed.{attribute_name}
use Rattle.rules.specs.Conforming.{is_attribute, must_be_present, allows, strip}
use Rattle.rules.specs.Lines.{attribute_named}
use Rattle.rules.specs.Change.{names_before, revalue, setting}
use Rattle.rules.proofs.Words.{and_both, and_split}
use Rattle.rules.proofs.Apart.{differs}
use Rattle.rules.proofs.ConformingLaws.{begins, begins_this, strip_past, strip_take, strip_lacks, strip_wrong}
use Rattle.change_laws.proofs.RowEdits.{row_serial, keep}
use Rattle.change_laws.proofs.Untouched.{map_same, revalued_other}
use Rattle.change_laws.proofs.InstanceRows.{keep_none, keep_all, keep_in}
use Rattle.change_laws.proofs.AttributeEdits.{Step, took, passed, strip_step, no_attribute, owned_rows}

-- what is stripped, if a test passes
abbrev pub given : Bool → List Row → Option (List Row)
given true rest = some rest
given false rest = none

begins_off : (c : Bytes) (rows : List Row) → ((r : Row) → Memᴰ r rows → attribute_named c r ≡ false) → begins c rows ≡ false
unfolding begins
begins_off c [] f = refl
begins_off c (r ∷ rows) f = f r (mathlib.Core.List.Memᴰ.head refl)

-- only the first row matters
begins_same : (c : Bytes) (r : Row) (rows rows' : List Row) → begins c (r ∷ rows) ≡ true → begins c (r ∷ rows') ≡ true
unfolding begins
begins_same c r rows rows' h = h

-- no row of an attribute that the table does not have
none_named : (version : ℕ) (n : Bytes) (table : List Attribute) (rows rest : List Row) → all no_attribute rest ≡ true → strip version table rows ≡ some rest
    → (Memᴰ n (map attribute_name table) → ⊥) → (r : Row) → Memᴰ r rows → attribute_named n r ≡ false
none_named version n table rows rest p e out r m = by (attribute_named n r) refl
  where
    by : (c : Bool) → attribute_named n r ≡ c → c ≡ false
    by false q = refl
    by true q =
        let (x, y) = and_split (is_attribute r.sort) (same n r.name) q in
        absurd (out (mathlib.Core.List.Memᴰ.cast (same_eq n r.name y) (owned_rows version table rows rest p e r m x)))

module _ (n : Bytes) where
  -- a row of another attribute is not of this one
  not_named : (c : Attribute) (r : Row) (rows : List Row) → begins c.name (r ∷ rows) ≡ true → same n c.name ≡ false → attribute_named n r ≡ false
  unfolding begins
  not_named c r rows h e =
      let (x, y) = and_split (is_attribute r.sort) (same c.name r.name) h in
      ap₂ (λ (a b : Bool). a && b) x (ap (same n) (sym (same_eq c.name r.name y)) ∙ e)

  is_named : (c : Attribute) (r : Row) (rows : List Row) → begins c.name (r ∷ rows) ≡ true → n ≡ c.name → attribute_named n r ≡ true
  unfolding begins
  is_named c r rows h e = ap (λ (z : Bytes). is_attribute r.sort && same z r.name) e ∙ h

  -- ---- without the row
  abbrev pub stays : Row → Bool
  stays r = not (attribute_named n r)

  keep_yes : (r : Row) (rows : List Row) → attribute_named n r ≡ false → keep stays (r ∷ rows) ≡ r ∷ keep stays rows
  unfolding keep
  keep_yes r rows e = rw (e, keep)

  keep_no : (r : Row) (rows : List Row) → attribute_named n r ≡ true → keep stays (r ∷ rows) ≡ keep stays rows
  unfolding keep
  keep_no r rows e = rw (e, keep)

  keep_plain : (version : ℕ) (table : List Attribute) (rows rest : List Row) → all no_attribute rest ≡ true → strip version table rows ≡ some rest
      → (Memᴰ n (map attribute_name table) → ⊥) → keep stays rows ≡ rows
  keep_plain version table rows rest p e out = keep_all stays rows (λ r m. ap not (none_named version n table rows rest p e out r m))

  -- the attribute itself, or a later one
  later_name : (c : Attribute) (table : List Attribute) (a : Attribute) → (Memᴰ c.name (map attribute_name table) → ⊥) → Memᴰ a table → a.name ≡ n → same n c.name ≡ false
  later_name c table a new m e = differs bytes n c.name (λ q. new (mathlib.Core.List.Memᴰ.cast (sym (e ∙ q)) (mathlib.Core.List.Memᴰ.map attribute_name m)))

  out_of : (c : Attribute) (table : List Attribute) → (Memᴰ c.name (map attribute_name table) → ⊥) → c.name ≡ n → Memᴰ n (map attribute_name table) → ⊥
  out_of c table new e m = new (mathlib.Core.List.Memᴰ.cast e m)

  pub strip_without : (version : ℕ) (a : Attribute) → a.name ≡ n → (table : List Attribute) (rows rest : List Row) → Distinct (map attribute_name table)
      → all no_attribute rest ≡ true → strip version table rows ≡ some rest → Memᴰ a table
      → strip version table (keep stays rows) ≡ given (not (must_be_present version a.sort)) rest
  strip_without version a q [] rows rest d p e m = absurd (mathlib.Core.List.Memᴰ.not-nil m)
  strip_without version a q (c ∷ table) rows rest (new, d) p e m = by (mathlib.Core.List.Memᴰ.cases_cons m) (strip_step version c table rows rest e) (λ rows t. strip_without version a q table rows rest d p t)
    where
      Goal : Type 0
      Goal = strip version (c ∷ table) (keep stays rows) ≡ given (not (must_be_present version a.sort)) rest

      cut : (a ≡ c) → (more : List Row) → strip version table more ≡ some rest → keep stays rows ≡ more → Goal
      cut x more t k =
          let out : Memᴰ n (map attribute_name table) → ⊥ = out_of c table new (sym (ap attribute_name x) ∙ q) in
          let b : begins c.name more ≡ false =
          begins_off c.name more
          (λ r i. ap (λ (z : Bytes). attribute_named z r) (sym (ap attribute_name x) ∙ q) ∙ none_named version n table more rest p t out r i) in
          ap (strip version (c ∷ table)) k ∙ by (must_be_present version c.sort) refl b ∙ ap (λ (z : Attribute). given (not (must_be_present version z.sort)) rest) (sym x)
        where
          by : (s : Bool) → must_be_present version c.sort ≡ s → begins c.name more ≡ false → strip version (c ∷ table) more ≡ given (not (must_be_present version c.sort)) rest
          by true s b = strip_lacks version c table more b s ∙ sym (ap (λ (z : Bool). given (not z) rest) s)
          by false s b = strip_past version c table more b s ∙ t ∙ sym (ap (λ (z : Bool). given (not z) rest) s)

      by : (a ≡ c) ⊎ Memᴰ a table → Step version c table rows rest
          → ((rows : List Row) → strip version table rows ≡ some rest → Memᴰ a table → strip version table (keep stays rows) ≡ given (not (must_be_present version a.sort)) rest) → Goal
      by (inl x) (took r more g b v t) f =
          cut x more t
          (ap (keep stays) g ∙ keep_no r more (is_named c r more b (sym q ∙ ap attribute_name x)) ∙ keep_plain version table more rest p t (out_of c table new (sym (ap attribute_name x) ∙ q)))
      by (inl x) (passed b s t) f = cut x rows t (keep_plain version table rows rest p t (out_of c table new (sym (ap attribute_name x) ∙ q)))
      by (inr i) (took r more g b v t) f =
          ap (strip version (c ∷ table)) (ap (keep stays) g ∙ keep_yes r more (not_named c r more b (later_name c table a new i q)))
          ∙ strip_take version c table r (keep stays more) (begins_same c.name r more (keep stays more) b) v ∙ f more t i
      by (inr i) (passed b s t) f =
          strip_past version c table (keep stays rows) (begins_off c.name (keep stays rows) (λ r j. none_named version c.name table rows rest p t new r (keep_in stays rows r j))) s ∙ f rows t i

  -- ---- with a row more; x: the row, at its place in the table's order
  module _ (x : Row) (is : x.sort ≡ attribute) (named : x.name ≡ n) where
    abbrev pub put : List Bytes → List Row → List Row
    put ns [] = x ∷ []
    put ns (r ∷ rows) = elim (is_attribute r.sort && member bytes r.name ns) [ true ↦ r ∷ put ns rows | false ↦ x ∷ (r ∷ rows) ]

    put_past : (ns : List Bytes) (r : Row) (rows : List Row) → (is_attribute r.sort && member bytes r.name ns) ≡ true → put ns (r ∷ rows) ≡ r ∷ put ns rows
    put_past ns r rows e = rw (e, put)

    put_here : (ns : List Bytes) (r : Row) (rows : List Row) → (is_attribute r.sort && member bytes r.name ns) ≡ false → put ns (r ∷ rows) ≡ x ∷ (r ∷ rows)
    put_here ns r rows e = rw (e, put)

    put_first : (rows : List Row) → put [] rows ≡ x ∷ rows
    unfolding member
    put_first [] = refl
    put_first (r ∷ rows) = put_here [] r rows (and-false (is_attribute r.sort))

    -- a name that no row has makes no difference
    put_alike : (c : Bytes) (ns : List Bytes) (rows : List Row) → ((r : Row) → Memᴰ r rows → attribute_named c r ≡ false) → put (c ∷ ns) rows ≡ put ns rows
    unfolding member
    put_alike c ns [] f = refl
    put_alike c ns (r ∷ rows) f = by (is_attribute r.sort) refl (same r.name c) refl (put_alike c ns rows (λ s i. f s (mathlib.Core.List.Memᴰ.tail i)))
      where
        by : (u : Bool) → is_attribute r.sort ≡ u → (v : Bool) → same r.name c ≡ v → put (c ∷ ns) rows ≡ put ns rows → put (c ∷ ns) (r ∷ rows) ≡ put ns (r ∷ rows)
        by false a v b h = rw (a, put)
        by true a true b h = absurd (false≢true (sym (f r (mathlib.Core.List.Memᴰ.head refl)) ∙ and_both a (bytes.same← c r.name (sym (same_eq r.name c b)))))
        by true a false b h = rw (a, b, put, member) (ap (λ (z : List Row). elim (member bytes r.name ns) as (λ w. List Row) [ true ↦ r ∷ z | false ↦ x ∷ (r ∷ rows) ]) h)

    off : (c : Bytes) → same n c ≡ false → attribute_named c x ≡ false
    off c e = ap₂ (λ (a b : Bool). a && b) (ap is_attribute is) (differs bytes c x.name (λ z. false≢true (sym e ∙ bytes.same← n c (sym (z ∙ named)))))

    begins_put : (c : Bytes) (ns : List Bytes) (rows : List Row) → same n c ≡ false → begins c rows ≡ false → begins c (put ns rows) ≡ false
    unfolding begins
    begins_put c ns [] e h = off c e
    begins_put c ns (r ∷ rows) e h = by (is_attribute r.sort && member bytes r.name ns) refl
      where
        by : (z : Bool) → (is_attribute r.sort && member bytes r.name ns) ≡ z → begins c (put ns (r ∷ rows)) ≡ false
        by true q = ap (begins c) (put_past ns r rows q) ∙ h
        by false q = ap (begins c) (put_here ns r rows q) ∙ off c e

    test : (c : Bytes) (ns : List Bytes) (r : Row) (rows : List Row) → begins c (r ∷ rows) ≡ true → (is_attribute r.sort && member bytes r.name (c ∷ ns)) ≡ true
    unfolding begins member
    test c ns r rows h =
        let (a, b) = and_split (is_attribute r.sort) (same c r.name) h in
        and_both a (rw (bytes.same← r.name c (sym (same_eq c r.name b)), member))

    pub strip_put : (version : ℕ) (a : Attribute) → a.name ≡ n → (table : List Attribute) (rows rest : List Row) → Distinct (map attribute_name table)
        → all no_attribute rest ≡ true → strip version table rows ≡ some rest → Memᴰ a table
        → ((r : Row) → Memᴰ r rows → attribute_named n r ≡ false)
        → strip version table (put (names_before n (map attribute_name table)) rows) ≡ given (allows a.sort a.value x.value) rest
    strip_put version a q [] rows rest d p e m f = absurd (mathlib.Core.List.Memᴰ.not-nil m)
    strip_put version a q (c ∷ table) rows rest (new, d) p e m f = by (mathlib.Core.List.Memᴰ.cases_cons m) (strip_step version c table rows rest e) (λ rows t. strip_put version a q table rows rest d p t)
      where
        ns : List Bytes
        ns = names_before n (map attribute_name table)

        result : Attribute → Option (List Row)
        result z = given (allows z.sort z.value x.value) rest

        Goal : Type 0
        Goal = strip version (c ∷ table) (put (names_before n (map attribute_name (c ∷ table))) rows) ≡ result a

        -- here
        this : a ≡ c → strip version table rows ≡ some rest → Goal
        this y t =
            ap (λ (z : List Bytes). strip version (c ∷ table) (put z rows)) before ∙ ap (strip version (c ∷ table)) (put_first rows)
            ∙ by (allows c.sort c.value x.value) refl ∙ ap result (sym y)
          where
            same_name_lem : n ≡ c.name
            same_name_lem = sym q ∙ ap attribute_name y

            before : names_before n (map attribute_name (c ∷ table)) ≡ []
            before = rw (bytes.same← n c.name same_name_lem, names_before)

            first : begins c.name (x ∷ rows) ≡ true
            first = begins_this c.name x rows is (named ∙ same_name_lem)

            by : (z : Bool) → allows c.sort c.value x.value ≡ z → strip version (c ∷ table) (x ∷ rows) ≡ result c
            by true g = strip_take version c table x rows first g ∙ t ∙ sym (ap (λ (z : Bool). given z rest) g)
            by false g = strip_wrong version c table x rows first g ∙ sym (ap (λ (z : Bool). given z rest) g)

        -- further on
        before : Memᴰ a table → names_before n (map attribute_name (c ∷ table)) ≡ c.name ∷ ns
        before i = rw (later_name c table a new i q, names_before)

        by : (a ≡ c) ⊎ Memᴰ a table → Step version c table rows rest
            → ((rows : List Row) → strip version table rows ≡ some rest → Memᴰ a table → ((r : Row) → Memᴰ r rows → attribute_named n r ≡ false)
            → strip version table (put ns rows) ≡ result a)
            → Goal
        by (inl y) (took r more g b v t) h = absurd (false≢true (sym (f r (subst (λ (z : List Row). Memᴰ r z) (sym g) (mathlib.Core.List.Memᴰ.head refl))) ∙ is_named c r more b (sym q ∙ ap attribute_name y)))
        by (inl y) (passed b s t) h = this y t
        by (inr i) (took r more g b v t) h =
            ap₂ (λ (z : List Bytes) (l : List Row). strip version (c ∷ table) (put z l)) (before i) g
            ∙ ap (strip version (c ∷ table))
            (put_past (c.name ∷ ns) r more (test c.name ns r more b)
            ∙ ap (λ (z : List Row). r ∷ z) (put_alike c.name ns more (λ s j. none_named version c.name table more rest p t new s j)))
            ∙ strip_take version c table r (put ns more) (begins_same c.name r more (put ns more) b) v
            ∙ h more t i (λ s j. f s (subst (λ (z : List Row). Memᴰ s z) (sym g) (mathlib.Core.List.Memᴰ.tail j)))
        by (inr i) (passed b s t) h =
            ap (λ (z : List Bytes). strip version (c ∷ table) (put z rows)) (before i)
            ∙ ap (strip version (c ∷ table)) (put_alike c.name ns rows (λ r j. none_named version c.name table rows rest p t new r j))
            ∙ strip_past version c table (put ns rows) (begins_put c.name ns rows (later_name c table a new i q) b) s
            ∙ h rows t i f

  -- ---- with another value; m: the serial of the row
  module _ (m : ℕ) (v : Bytes) where
    set_other : (r : Row) → (r.serial ≡ m → ⊥) → revalue m v r ≡ r
    set_other r f = revalued_other (setting m v) r f

    set_value : (r : Row) → r.serial ≡ m → (revalue m v r).value ≡ v
    set_value r e = rw (eq-eqb r.serial m e, revalue)

    begins_set : (c : Bytes) (rows : List Row) → begins c (map (revalue m v) rows) ≡ begins c rows
    unfolding begins
    begins_set c [] = refl
    begins_set c (r ∷ rows) = refl

    begins_revalued : (c : Bytes) (r : Row) (rows : List Row) → begins c (revalue m v r ∷ rows) ≡ begins c (r ∷ rows)
    unfolding begins
    begins_revalued c r rows = refl

    keep_named : (r : Row) (rows : List Row) → attribute_named n r ≡ true → keep (attribute_named n) (r ∷ rows) ≡ r ∷ keep (attribute_named n) rows
    unfolding keep
    keep_named r rows e = rw (e, keep)

    keep_other : (r : Row) (rows : List Row) → attribute_named n r ≡ false → keep (attribute_named n) (r ∷ rows) ≡ keep (attribute_named n) rows
    unfolding keep
    keep_other r rows e = rw (e, keep)

    pub strip_set : (version : ℕ) (a : Attribute) → a.name ≡ n → (table : List Attribute) (rows rest : List Row) → Distinct (map attribute_name table)
        → all no_attribute rest ≡ true → strip version table rows ≡ some rest → Memᴰ a table
        → Distinct (map row_serial rows) → (y : Row) (ys : List Row) → keep (attribute_named n) rows ≡ y ∷ ys → m ≡ y.serial
        → strip version table (map (revalue m v) rows) ≡ given (allows a.sort a.value v) rest
    strip_set version a q [] rows rest d p e i u y ys k l = absurd (mathlib.Core.List.Memᴰ.not-nil i)
    strip_set version a q (c ∷ table) rows rest (new, d) p e i u y ys k l = by (mathlib.Core.List.Memᴰ.cases_cons i) (strip_step version c table rows rest e) (λ rows t. strip_set version a q table rows rest d p t)
      where
        result : Attribute → Option (List Row)
        result z = given (allows z.sort z.value v) rest

        Goal : Type 0
        Goal = strip version (c ∷ table) (map (revalue m v) rows) ≡ result a

        this : a ≡ c → (r : Row) (more : List Row) → rows ≡ r ∷ more → begins c.name (r ∷ more) ≡ true → strip version table more ≡ some rest → Goal
        this z r more g b t =
            ap (λ (s : List Row). strip version (c ∷ table) (map (revalue m v) s)) g
            ∙ ap (λ (s : List Row). strip version (c ∷ table) (revalue m v r ∷ s)) (map_same (revalue m v) more (λ s j. set_other s (λ w. fresh (mathlib.Core.List.Memᴰ.cast (sym mark ∙ sym w) (mathlib.Core.List.Memᴰ.map row_serial j)))))
            ∙ by (allows c.sort c.value v) refl ∙ ap result (sym z)
          where
            kept : r ∷ keep (attribute_named n) more ≡ y ∷ ys
            kept = sym (keep_named r more (is_named c r more b (sym q ∙ ap attribute_name z))) ∙ sym (ap (keep (attribute_named n)) g) ∙ k

            mark : m ≡ r.serial
            mark = l ∙ sym (ap row_serial (head-eq_of_cons-eq kept))

            fresh : Memᴰ r.serial (map row_serial more) → ⊥
            fresh = (subst (λ (s : List Row). Distinct (map row_serial s)) g u).0

            by : (w : Bool) → allows c.sort c.value v ≡ w → strip version (c ∷ table) (revalue m v r ∷ more) ≡ result c
            by true w = strip_take version c table (revalue m v r) more (begins_revalued c.name r more ∙ b)
                (ap (allows c.sort c.value) (set_value r (sym mark)) ∙ w)
                ∙ t ∙ sym (ap (λ (z : Bool). given z rest) w)
            by false w = strip_wrong version c table (revalue m v r) more (begins_revalued c.name r more ∙ b)
                (ap (allows c.sort c.value) (set_value r (sym mark)) ∙ w)
                ∙ sym (ap (λ (z : Bool). given z rest) w)

        by : (a ≡ c) ⊎ Memᴰ a table → Step version c table rows rest
            → ((rows : List Row) → strip version table rows ≡ some rest → Memᴰ a table → Distinct (map row_serial rows) → (y : Row) (ys : List Row)
            → keep (attribute_named n) rows ≡ y ∷ ys → m ≡ y.serial → strip version table (map (revalue m v) rows) ≡ result a)
            → Goal
        by (inl z) (took r more g b w t) h = this z r more g b t
        by (inl z) (passed b s t) h =
            absurd (nil≢cons (sym (keep_none (attribute_named n) rows (λ r j. none_named version n table rows rest p t (out_of c table new (sym (ap attribute_name z) ∙ q)) r j)) ∙ k))
        by (inr j) (took r more g b w t) h =
            let off : attribute_named n r ≡ false = not_named c r more b (later_name c table a new j q) in
            let kept : keep (attribute_named n) more ≡ y ∷ ys = sym (keep_other r more off) ∙ sym (ap (keep (attribute_named n)) g) ∙ k in
            let (fresh, once) = subst (λ (s : List Row). Distinct (map row_serial s)) g u in
            let there : Memᴰ y more = keep_in (attribute_named n) more y (subst (λ (s : List Row). Memᴰ y s) (sym kept) (mathlib.Core.List.Memᴰ.head refl)) in
            ap (λ (s : List Row). strip version (c ∷ table) (map (revalue m v) s)) g
            ∙ ap (λ (s : Row). strip version (c ∷ table) (s ∷ map (revalue m v) more)) (set_other r (λ z. fresh (mathlib.Core.List.Memᴰ.cast (z ∙ l) (mathlib.Core.List.Memᴰ.map row_serial there))))
            ∙ strip_take version c table r (map (revalue m v) more) (begins_same c.name r more (map (revalue m v) more) b) w
            ∙ h more t j once y ys kept l
        by (inr j) (passed b s t) h = strip_past version c table (map (revalue m v) rows) (begins_set c.name rows ∙ b) s ∙ h rows t j u y ys k l
