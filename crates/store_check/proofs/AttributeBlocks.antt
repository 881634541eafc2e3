-- The attributes of a definition are a block of the table of all attributes, at
-- the indices from the number of attributes before it on.
use Prim.Native.Nat.{ℕ, zero, suc, ◌+◌, ◌<◌, ◌≤◌}
use native.Mathlib.Nat.{eq-or-lt_of_le}
use native.Mathlib.Omega.{arith}
use mathlib.Core.Path.{◌≡◌, refl, ap, ◌∙◌, sym, subst}
use mathlib.Core.Logic.{◌⊎◌, inl, inr, ⊎_elim}
use mathlib.Core.List.Memᴰ
use mathlib.Core.List.{List, [], ◌∷◌, ◌++◌, map, Memᴰ}
use lib.ListN.{length, length-append, length-map}
use Rattle.rules.specs.declared.AttributeSort.{AttributeSort}
use Rattle.rules.specs.Bytes.{Bytes, bytes, same_refl}
use Rattle.rules.specs.Model.{Distinct}
use Rattle.rules.specs.Store.{Attribute, Form}
use Rattle.rules.specs.Layout.{FlatAttribute, index_in, attribute_index, own_attributes, all_attributes}
use Rattle.rules.specs.Decode.{name_at, sort_of, flat_attribute_name}
use Rattle.rules.specs.WellFormed.{attribute_name}
use Rattle.rules.specs.Conforming.{must_be_present, allows}
use Rattle.rules.specs.Change.{definition_at}
use Rattle.rules.proofs.Apart.{differs}
use Rattle.rules.proofs.DecodeLaws.{attribute_names, length_own, sort_code_lem}
use Rattle.rules.proofs.Words.{below_or}
use Rattle.form_index.specs.Indices.{IndexForm}
use Rattle.store_check.specs.Reading.{entry_of, Agrees}
use Rattle.store_check.proofs.IndexLaws.{names_of, name_in, later_name}
use Rattle.store_check.proofs.AttributeReads.{own_owners, all_owners}

-- ---- the index of an attribute of an owner
index_own : (table : List Attribute) → Distinct (map attribute_name table) → (k : ℕ) → k < length table → index_in (name_at k (map attribute_name table)) table ≡ k
index_own [] d k l = absurd (omega arith)
index_own (a ∷ table) (out, d) zero l = rw (same_refl a.name, index_in)
index_own (a ∷ table) (out, d) (suc k) l =
    rw (differs bytes (name_at k (map attribute_name table)) a.name (λ e. out (Memᴰ.cast (sym e) (name_in k (map attribute_name table) (rw length-map (omega arith))))), index_in)
    (ap suc (index_own table d k (omega arith)))

-- how many attributes the definitions before i have
abbrev pub offset : ℕ → Form → ℕ
offset i [] = 0
offset zero (d ∷ ds) = 0
offset (suc i) (d ∷ ds) = length d.attributes + offset i ds

pub owner_index : (form : Form) → Distinct (names_of form) → (i : ℕ) (n : Bytes) → i < length form
    → attribute_index (name_at i (names_of form)) n form ≡ offset i form + index_in n (definition_at i form).attributes
owner_index [] u i n l = absurd (omega arith)
owner_index (d ∷ ds) u zero n l = rw (same_refl d.name, attribute_index) (omega arith)
owner_index (d ∷ ds) u (suc i) n l = rw (later_name d ds u i (omega arith), attribute_index) (omega (arith, owner_index ds u.1 i n (omega arith)))

name_entry : (cs : List FlatAttribute) (j : ℕ) → j < length cs → name_at j (map flat_attribute_name cs) ≡ (entry_of j cs).name
name_entry [] j l = absurd (omega arith)
name_entry (c ∷ cs) zero l = refl
name_entry (c ∷ cs) (suc j) l = name_entry cs j (omega arith)

module _ (version : ℕ) (F : IndexForm) (form : Form) where
  -- what the index form says at j is what the entry says
  record Told (j : ℕ) (c : FlatAttribute) : Type 0 where
    owner : F.owner j ≡ c.owner
    needed : F.needed j ≡ must_be_present version (sort_of c.sort)
    allowed : (v : Bytes) → F.allows j v ≡ allows (sort_of c.sort) c.value v
    name : name_at j (attribute_names form) ≡ c.name

  -- entry by entry, from j on
  abbrev Tells : ℕ → List FlatAttribute → Type 0
  Tells j [] = Unit {0}
  Tells j (c ∷ cs) = Told j c × Tells (suc j) cs

  tells_of : (j : ℕ) (cs : List FlatAttribute) → ((k : ℕ) → k < length cs → Told (j + k) (entry_of k cs)) → Tells j cs
  tells_of j [] f = tt
  tells_of j (c ∷ cs) f = (
    subst (λ (z : ℕ). Told z c) (let e : j + 0 ≡ j = omega arith in e) (f 0 (omega arith)),
    tells_of (suc j) cs (λ k l. subst (λ (z : ℕ). Told z (entry_of k cs)) (let e : j + suc k ≡ suc j + k = omega arith in e) (f (suc k) (omega arith))),
  )

  tells_left : (j : ℕ) (xs ys : List FlatAttribute) → Tells j (xs ++ ys) → Tells j xs
  tells_left j [] ys t = tt
  tells_left j (x ∷ xs) ys t = (t.0, tells_left (suc j) xs ys t.1)

  tells_right : (j k : ℕ) (xs ys : List FlatAttribute) → k ≡ j + length xs → Tells j (xs ++ ys) → Tells k ys
  tells_right j k [] ys e t = subst (λ (z : ℕ). Tells z ys) (let q : j ≡ k = omega arith in q) t
  tells_right j k (x ∷ xs) ys e t = tells_right (suc j) k xs ys (omega arith) t.1

  tells_find : (j k : ℕ) (cs : List FlatAttribute) → Tells j cs → j ≤ k → k < j + length cs → (c : FlatAttribute) × Memᴰ c cs × (F.owner k ≡ c.owner)
  tells_find j k [] t l m = absurd (omega arith)
  tells_find j k (c ∷ cs) t l m =
      ⊎_elim (λ e. (c, Memᴰ.head refl, ap F.owner (sym e) ∙ t.0.owner)) (λ g. let (x, i, e) = tells_find (suc j) k cs t.1 g (omega arith) in (x, Memᴰ.tail i, e)) (eq-or-lt_of_le l)

  -- the entry at j is attribute a of definition i; below the name of definition i, the name of a has index j
  pub record Entry (i j : ℕ) (a : Attribute) : Type 0 where
    pub inside : j < F.attributes
    pub owner : F.owner j ≡ i
    pub needed : F.needed j ≡ must_be_present version a.sort
    pub allowed : (v : Bytes) → F.allows j v ≡ allows a.sort a.value v
    pub name : name_at j (attribute_names form) ≡ a.name
    pub found : attribute_index (name_at i (names_of form)) a.name form ≡ j

  -- the entries from j on are the attributes of definition i, and no later one is
  abbrev pub Block : ℕ → ℕ → List Attribute → Type 0
  Block i j [] = (k : ℕ) → j ≤ k → k < F.attributes → F.owner k ≡ i → ⊥
  Block i j (a ∷ table) = Entry i j a × Block i (suc j) table

  own_block : (i j : ℕ) (table : List Attribute) (rest : List FlatAttribute) → Tells j (own_attributes i table ++ rest)
      → F.attributes ≡ j + length (own_attributes i table ++ rest) → ((c : FlatAttribute) → Memᴰ c rest → i < c.owner)
      → ((k : ℕ) → k < length table → attribute_index (name_at i (names_of form)) (name_at k (map attribute_name table)) form ≡ j + k) → Block i j table
  own_block i j [] rest t e later found = λ k l m q.
      let (c, n, p) = tells_find j k rest t l (omega arith) in
      omega (arith, later c n)
  own_block i j (a ∷ table) rest t e later found = (
    record {
      inside = omega arith;
      owner = t.0.owner;
      needed = t.0.needed ∙ ap (must_be_present version) (sort_code_lem a.sort);
      allowed = λ v. t.0.allowed v ∙ ap (λ (s : AttributeSort). allows s a.value v) (sort_code_lem a.sort);
      name = t.0.name;
      found = found 0 (omega arith) ∙ (let q : j + 0 ≡ j = omega arith in q);
    },
    own_block i (suc j) table rest t.1 (omega arith) later (λ k l. found (suc k) (omega arith) ∙ (let q : j + suc k ≡ suc j + k = omega arith in q)),
  )

  block_in : (o j : ℕ) (fs : Form) (i m b : ℕ) → Tells j (all_attributes o fs) → F.attributes ≡ j + length (all_attributes o fs) → i < length fs → m ≡ o + i → b ≡ j + offset i fs
      → ((k : ℕ) → k < length (definition_at i fs).attributes
      → attribute_index (name_at m (names_of form)) (name_at k (map attribute_name (definition_at i fs).attributes)) form ≡ b + k)
      → Block m b (definition_at i fs).attributes
  block_in o j [] i m b t e l p q found = absurd (omega arith)
  block_in o j (d ∷ fs) zero m b t e l p q found =
      let p₁ : o ≡ m = omega arith in
      let q₁ : j ≡ b = omega arith in
      own_block m b d.attributes (all_attributes (suc o) fs)
      (subst (λ (z : ℕ). Tells z (own_attributes m d.attributes ++ all_attributes (suc o) fs)) q₁
      (subst (λ (z : ℕ). Tells j (own_attributes z d.attributes ++ all_attributes (suc o) fs)) p₁ t))
      (omega (
        arith,
        length-append (own_attributes o d.attributes) (all_attributes (suc o) fs),
        length-append (own_attributes m d.attributes) (all_attributes (suc o) fs),
        length_own o d.attributes,
        length_own m d.attributes,
      ))
      (λ c n. omega (arith, (all_owners (suc o) fs c n).0)) found
  block_in o j (d ∷ fs) (suc i) m b t e l p q found =
      block_in (suc o) (j + length d.attributes) fs i m b (tells_right j (j + length d.attributes) (own_attributes o d.attributes)
      (all_attributes (suc o) fs) (omega (arith, length_own o d.attributes)) t)
      (omega (arith, length-append (own_attributes o d.attributes) (all_attributes (suc o) fs), length_own o d.attributes)) (omega arith) (omega arith) (omega arith) found

  -- no entry before the block is of definition i
  before : (o j : ℕ) (fs : Form) (i k : ℕ) → Tells j (all_attributes o fs) → i < length fs → j ≤ k → k < F.attributes → F.owner k ≡ o + i → j + offset i fs ≤ k
  before o j [] i k t l m n e = absurd (omega arith)
  before o j (d ∷ fs) zero k t l m n e = omega arith
  before o j (d ∷ fs) (suc i) k t l m n e =
      by (below_or k (j + length d.attributes)) (λ g. before (suc o) (j + length d.attributes) fs i k
      (tells_right j (j + length d.attributes) (own_attributes o d.attributes) (all_attributes (suc o) fs) (omega (arith, length_own o d.attributes)) t)
      (omega arith) g n (omega arith))
    where
      by : (k < j + length d.attributes) ⊎ (j + length d.attributes ≤ k) → (j + length d.attributes ≤ k → j + length d.attributes + offset i fs ≤ k)
          → j + (length d.attributes + offset i fs) ≤ k
      by (inl g) f =
          let (c, x, p) =
          tells_find j k (own_attributes o d.attributes) (tells_left j (own_attributes o d.attributes) (all_attributes (suc o) fs) t) m
          (omega (arith, length_own o d.attributes)) in
          absurd (omega (arith, (own_owners o d.attributes c x).0))
      by (inr g) f = omega (arith, f g)

  module _ (agrees : Agrees version F form) (apart : Distinct (names_of form)) where
    tells : Tells 0 (all_attributes 0 form)
    tells =
        tells_of 0 (all_attributes 0 form)
        (λ k l.
        subst (λ (z : ℕ). Told z (entry_of k (all_attributes 0 form))) (let e : k ≡ 0 + k = omega arith in e)
        record { owner = agrees.owner k l; needed = agrees.needed k l; allowed = agrees.allows k l; name = name_entry (all_attributes 0 form) k l })

    module _ (i : ℕ) (l : i < length form) where
      pub block_at : Distinct (map attribute_name (definition_at i form).attributes) → Block i (offset i form) (definition_at i form).attributes
      block_at d =
          block_in 0 0 form i i (offset i form) tells (omega (arith, agrees.attributes)) l (omega arith) (omega arith)
          (λ k m. owner_index form apart i (name_at k (map attribute_name (definition_at i form).attributes)) l ∙ ap (λ (z : ℕ). offset i form + z) (index_own (definition_at i form).attributes d k m))

      pub block_first : (k : ℕ) → k < F.attributes → F.owner k ≡ i → offset i form ≤ k
      block_first k m e = omega (arith, before 0 0 form i k tells l (omega arith) m (omega arith))

  -- an entry of definition i stands in the block
  pub block_found : (i j : ℕ) (table : List Attribute) → Block i j table → (k : ℕ) → j ≤ k → k < F.attributes → F.owner k ≡ i
      → attribute_index (name_at i (names_of form)) (name_at k (attribute_names form)) form ≡ k
  block_found i j [] b k l m e = absurd (b k l m e)
  block_found i j (a ∷ table) b k l m e =
      ⊎_elim
      (λ q. ap (λ (z : ℕ). attribute_index (name_at i (names_of form)) (name_at z (attribute_names form)) form) (sym q)
      ∙ ap (λ (z : Bytes). attribute_index (name_at i (names_of form)) z form) b.0.name ∙ b.0.found ∙ q)
      (λ g. block_found i (suc j) table b.1 k g m e) (eq-or-lt_of_le l)
