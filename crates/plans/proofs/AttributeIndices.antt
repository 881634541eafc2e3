-- Attributes of one owner by name and by index: the same ones, in the same order.
use Prim.Native.Nat.{ℕ, zero, suc, ◌+◌, ◌-◌, ◌≤◌, ◌<◌}
use native.Mathlib.Omega.{arith}
use mathlib.Core.Path.{◌≡◌, refl, sym, ap, ap₂, ◌∙◌}
use mathlib.Core.Bool.{Bool, true, false, ◌&&◌, not, false≢true}
use mathlib.Core.Option.{Option, none, some}
use mathlib.Core.List.Memᴰ
use mathlib.Core.List.{List, [], ◌∷◌, map, Memᴰ}
use mathlib.Core.Logic.{⊎_elim}
use lib.Dec.{eqb, ltb}
use lib.ListN.{length}
use borrow.Author.Tests.{eq-eqb, ne_eqb, lt-ltb, le-ltb, ltb-true, ltb-false}
use Rattle.rules.specs.Bytes.{Bytes, same, bytes, same_eq, same_refl}
use Rattle.rules.specs.Model.{Distinct, member}
use Rattle.rules.specs.Store.{Attribute, Definition, Form, RowSort, element, attribute, text, Row}
use Rattle.rules.specs.Layout.{row_code, index_in, attribute_index, row_index}
use Rattle.rules.specs.WellFormed.{definition_name, attribute_name, lookup}
use Rattle.rules.specs.Conforming.{is_attribute}
use Rattle.rules.specs.Lines.{attribute_named}
use Rattle.rules.specs.Change.{Owned, entry_at, attribute_at, names_before}
use Rattle.rules.proofs.Apart.{differs}
use Rattle.change_laws.proofs.FormLaws.{entry_in, attribute_owned, owner_found}
use Rattle.store_check.proofs.AttributeRows.{row_written}
use Rattle.row_walk.specs.declared.Which.TheVariants.{Attributes}
use Rattle.row_walk.specs.declared.Later.TheVariants.{Past}
use Rattle.row_walk.specs.Walk.{matches, is_later}

-- ---- numbers moved by the same
less_alike : (a b i j : ℕ) → (i < j → a < b) → (j ≤ i → b ≤ a) → ltb a b ≡ ltb i j
less_alike a b i j f g = by (ltb i j) refl
  where
    by : (c : Bool) → ltb i j ≡ c → ltb a b ≡ ltb i j
    by true q = lt-ltb a b (f (ltb-true i j q)) ∙ sym q
    by false q = le-ltb a b (g (ltb-false i j q)) ∙ sym q

-- ---- in one table
module _ (n : Bytes) (a : Attribute) (table : List Attribute) where
  pub index_here : same n a.name ≡ true → index_in n (a ∷ table) ≡ 0
  index_here q = rw (q, index_in)

  pub index_there : same n a.name ≡ false → index_in n (a ∷ table) ≡ suc (index_in n table)
  index_there q = rw (q, index_in)

-- the names before n are those of lower index
before_index : (n x : Bytes) (table : List Attribute) → member bytes x (names_before n (map attribute_name table)) ≡ ltb (index_in x table) (index_in n table)
unfolding member
before_index n x [] = refl
before_index n x (a ∷ table) = by (same n a.name) refl (same x a.name) refl (before_index n x table)
  where
    by : (c : Bool) → same n a.name ≡ c → (e : Bool) → same x a.name ≡ e → member bytes x (names_before n (map attribute_name table)) ≡ ltb (index_in x table) (index_in n table)
        → member bytes x (names_before n (map attribute_name (a ∷ table))) ≡ ltb (index_in x (a ∷ table)) (index_in n (a ∷ table))
    by true q e p f = rw (q, names_before) (sym (le-ltb (index_in x (a ∷ table)) (index_in n (a ∷ table)) (omega (arith, index_here n a table q))))
    by false q true p f = rw (q, names_before) (rw (p, member) (sym (lt-ltb (index_in x (a ∷ table)) (index_in n (a ∷ table)) (omega (arith, index_here x a table p, index_there n a table q)))))
    by false q false p f =
        rw (q, names_before)
        (rw (p, member)
        (f
        ∙ sym (less_alike (index_in x (a ∷ table)) (index_in n (a ∷ table)) (index_in x table) (index_in n table)
        (λ l. omega (arith, index_there x a table p, index_there n a table q)) (λ l. omega (arith, index_there x a table p, index_there n a table q)))))

-- a name of the table has its own index
index_same : (n x : Bytes) (table : List Attribute) → Memᴰ n (map attribute_name table) → index_in x table ≡ index_in n table → x ≡ n
index_same n x [] m e = absurd (Memᴰ.not-nil m)
index_same n x (a ∷ table) m e = by (same n a.name) refl (same x a.name) refl (index_same n x table)
  where
    by : (c : Bool) → same n a.name ≡ c → (d : Bool) → same x a.name ≡ d → (Memᴰ n (map attribute_name table) → index_in x table ≡ index_in n table → x ≡ n) → x ≡ n
    by true q true p f = same_eq x a.name p ∙ sym (same_eq n a.name q)
    by true q false p f = absurd (omega (arith, index_here n a table q, index_there x a table p))
    by false q true p f = absurd (omega (arith, index_there n a table q, index_here x a table p))
    by false q false p f =
        f (⊎_elim (λ z. absurd (false≢true (sym q ∙ bytes.same← n a.name z))) (λ i. i) (Memᴰ.cases_cons m)) (omega (arith, index_there n a table q, index_there x a table p))

entry_index : (i : ℕ) (table : List Attribute) (a : Attribute) → Distinct (map attribute_name table) → entry_at i table ≡ some a → index_in a.name table ≡ i
entry_index i [] a d e = let z : false ≡ true = cc e in absurd (false≢true z)
entry_index zero (b ∷ table) a d e = let t : b ≡ a = cc e in rw (bytes.same← a.name b.name (ap attribute_name (sym t)), index_in)
entry_index (suc i) (b ∷ table) a (out, d) e =
    rw (differs bytes a.name b.name (λ q. out (Memᴰ.cast (sym q) (Memᴰ.map attribute_name (entry_in i table a e)))), index_in) (ap suc (entry_index i table a d e))

entry_past : (i : ℕ) (table : List Attribute) → entry_at i table ≡ none → length table ≤ i
entry_past i [] e = omega arith
entry_past zero (b ∷ table) e = let z : false ≡ true = cc e in absurd (false≢true z)
entry_past (suc i) (b ∷ table) e = omega (arith, entry_past i table e)

-- ---- in the whole table
-- the owner's attributes begin at k
index_from : (owner : Bytes) (form : Form) (d : Definition) → lookup owner form ≡ some d → (k : ℕ) × ((n : Bytes) → attribute_index owner n form ≡ k + index_in n d.attributes)
index_from owner [] d e = let z : false ≡ true = cc e in absurd (false≢true z)
index_from owner (c ∷ form) d e = by (same owner c.name) refl (index_from owner form d)
  where
    by : (b : Bool) → same owner c.name ≡ b → (lookup owner form ≡ some d → (k : ℕ) × ((n : Bytes) → attribute_index owner n form ≡ k + index_in n d.attributes))
        → (k : ℕ) × ((n : Bytes) → attribute_index owner n (c ∷ form) ≡ k + index_in n d.attributes)
    by true q f =
        let s : some c ≡ some d = rw (q, lookup) at e in
        let t : c ≡ d = cc s in
        (0, λ n. rw (q, attribute_index) (ap (λ (z : Definition). index_in n z.attributes) t ∙ omega arith))
    by false q f =
        let (k, g) = f (rw (q, lookup) at e) in
        (length c.attributes + k, λ n. rw (q, attribute_index) (omega (arith, g n)))

-- an attribute stands at its index
owned_index : (a : ℕ) (form : Form) (o : Owned) → Distinct (map definition_name form)
    → ((d : Definition) → Memᴰ d form → Distinct (map attribute_name d.attributes)) → attribute_at a form ≡ some o
    → attribute_index o.owner.name o.attribute.name form ≡ a
unfolding attribute_at
owned_index a [] o u d e = let z : false ≡ true = cc e in absurd (false≢true z)
owned_index a (c ∷ form) o (out, u) d e = by (entry_at a c.attributes) refl (owned_index (a - length c.attributes) form o u (λ x m. d x (Memᴰ.tail m)))
  where
    by : (x : Option Attribute) → entry_at a c.attributes ≡ x
        → (attribute_at (a - length c.attributes) form ≡ some o → attribute_index o.owner.name o.attribute.name form ≡ a - length c.attributes)
        → attribute_index o.owner.name o.attribute.name (c ∷ form) ≡ a
    by none q f =
        let z : attribute_at (a - length c.attributes) form ≡ some o = rw (q, attribute_at) at e in
        rw (differs bytes o.owner.name c.name (λ t. out (Memᴰ.cast (sym t) (Memᴰ.map definition_name (attribute_owned (a - length c.attributes) form o z).0))), attribute_index)
        (omega (arith, f z, entry_past a c.attributes q))
    by (some b) q f =
        let s : some (record { owner = c; attribute = b }) ≡ some o = rw (q, attribute_at) at e in
        let t : record { owner = c; attribute = b } ≡ o = cc s in
        rw (← t) (rw (same_refl c.name, attribute_index) (entry_index a c.attributes b (d c (Memᴰ.head refl)) q))

-- ---- an attribute of the form, and names below its owner
module _ (a : ℕ) (form : Form) (o : Owned) (once : Distinct (map definition_name form))
    (apart : (d : Definition) → Memᴰ d form → Distinct (map attribute_name d.attributes)) (at : attribute_at a form ≡ some o) where
  pub own_index : attribute_index o.owner.name o.attribute.name form ≡ a
  own_index = owned_index a form o once apart at

  -- earlier names have lower indices
  before_lower : (x : Bytes) → ltb (attribute_index o.owner.name x form) a ≡ member bytes x (names_before o.attribute.name (map attribute_name o.owner.attributes))
  before_lower x =
      let (k, f) = index_from o.owner.name form o.owner (owner_found a form once o at) in
      less_alike (attribute_index o.owner.name x form) a (index_in x o.owner.attributes) (index_in o.attribute.name o.owner.attributes)
      (λ l. omega (arith, own_index, f x, f o.attribute.name)) (λ l. omega (arith, own_index, f x, f o.attribute.name))
      ∙ sym (before_index o.attribute.name x o.owner.attributes)

  -- the same name has the same index
  pub name_index : (x : Bytes) → eqb (attribute_index o.owner.name x form) a ≡ same o.attribute.name x
  name_index x = by (same o.attribute.name x) refl
    where
      by : (c : Bool) → same o.attribute.name x ≡ c → eqb (attribute_index o.owner.name x form) a ≡ same o.attribute.name x
      by true q = eq-eqb (attribute_index o.owner.name x form) a (ap (λ (z : Bytes). attribute_index o.owner.name z form) (sym (same_eq o.attribute.name x q)) ∙ own_index) ∙ sym q
      by false q =
          let (k, f) = index_from o.owner.name form o.owner (owner_found a form once o at) in
          ne_eqb (attribute_index o.owner.name x form) a
          (λ e. false≢true (sym q
          ∙ bytes.same← o.attribute.name x (sym (index_same o.attribute.name x o.owner.attributes
          (Memᴰ.map attribute_name (attribute_owned a form o at).1) (omega (arith, own_index, f x, f o.attribute.name))))))
          ∙ sym q

  -- ---- rows right below an element of the owner
  pub attribute_test : (r : Row) → matches (Attributes a) (row_written form o.owner.name r) ≡ attribute_named o.attribute.name r
  attribute_test r = by r.sort refl
    where
      by : (t : RowSort) → r.sort ≡ t → (eqb (row_code r.sort) 2 && eqb (row_index form o.owner.name r) a) ≡ (is_attribute r.sort && same o.attribute.name r.name)
      by element q = rw q
      by attribute q = rw q (name_index r.name)
      by text q = rw q

  pub past_test : (ms : Bytes) (r : Row)
      → is_later ms (Past a) (row_written form o.owner.name r)
      ≡ not (is_attribute r.sort && member bytes r.name (names_before o.attribute.name (map attribute_name o.owner.attributes)))
  past_test ms r = by r.sort refl
    where
      by : (t : RowSort) → r.sort ≡ t
          → not (eqb (row_code r.sort) 2 && ltb (row_index form o.owner.name r) a)
          ≡ not (is_attribute r.sort && member bytes r.name (names_before o.attribute.name (map attribute_name o.owner.attributes)))
      by element q = rw q
      by attribute q = rw q (ap not (before_lower r.name))
      by text q = rw q

  -- below a row that is the owner's where c holds
  pub take_test : (sel c : Bool) (u r : Row) → sel ≡ c → (c ≡ true → u.name ≡ o.owner.name)
      → (sel && matches (Attributes a) (row_written form u.name r)) ≡ (c && attribute_named o.attribute.name r)
  take_test sel true u r x n = ap₂ (λ (b d : Bool). b && d) x (ap (λ (z : Bytes). matches (Attributes a) (row_written form z r)) (n refl) ∙ attribute_test r)
  take_test sel false u r x n = ap (λ (b : Bool). b && matches (Attributes a) (row_written form u.name r)) x
