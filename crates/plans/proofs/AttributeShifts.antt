-- Indices of attributes after the attributes of one definition have changed.
use Prim.Native.Nat.{ℕ, zero, suc, ◌+◌, ◌-◌, ◌≤◌, ◌<◌}
use native.Mathlib.Omega.{arith}
use mathlib.Core.Path.{◌≡◌, refl, sym, ap, ◌∙◌, subst}
use mathlib.Core.Logic.{◌⊎◌, inl, inr, ⊎_elim}
use mathlib.Core.Bool.{Bool, true, false, false≢true}
use mathlib.Core.Option.{some}
use mathlib.Core.List.Memᴰ
use mathlib.Core.List.{List, [], ◌∷◌, ◌++◌, map, Memᴰ}
use lib.ListN.{length, length-append}
use borrow.Author.Tests.{le-leb, lt-leb}
use Rattle.rules.specs.Bytes.{Bytes, same, bytes, same_eq, same_refl}
use Rattle.rules.specs.Model.{Distinct}
use Rattle.rules.specs.Store.{Attribute, Definition, Form}
use Rattle.rules.specs.Layout.{index_in, attribute_index}
use Rattle.rules.specs.WellFormed.{definition_name, attribute_name, lookup}
use Rattle.rules.specs.Change.{definition_at, name_at_index, update, with_attributes, lacking}
use Rattle.rules.proofs.Apart.{differs}
use Rattle.rules.proofs.WellFormedLaws.{definition_stands}
use Rattle.change_laws.proofs.FormLaws.{definition_found}
use Rattle.store_check.proofs.IndexLaws.{name_of_lem}
use Rattle.store_check.proofs.AttributeBlocks.{offset, owner_index}
use Rattle.row_walk.specs.declared.Shift.{Shift}
use Rattle.row_walk.specs.Walk.{shifted}
use Rattle.plans.proofs.AttributeIndices.{index_here, index_there}

-- ---- in one table
index_inside : (x : Bytes) (table : List Attribute) → Memᴰ x (map attribute_name table) → index_in x table < length table
index_inside x [] m = absurd (Memᴰ.not-nil m)
index_inside x (a ∷ table) m = by (same x a.name) refl (index_inside x table)
  where
    by : (c : Bool) → same x a.name ≡ c → (Memᴰ x (map attribute_name table) → index_in x table < length table) → index_in x (a ∷ table) < suc (length table)
    by true q f = omega (arith, index_here x a table q)
    by false q f =
        let l : index_in x table < length table = f (⊎_elim (λ e. absurd (false≢true (sym q ∙ bytes.same← x a.name e))) (λ i. i) (Memᴰ.cases_cons m)) in
        omega (arith, index_there x a table q)

-- a name that is there, in a longer table
index_longer : (x : Bytes) (table more : List Attribute) → Memᴰ x (map attribute_name table) → index_in x (table ++ more) ≡ index_in x table
index_longer x [] more m = absurd (Memᴰ.not-nil m)
index_longer x (a ∷ table) more m = by (same x a.name) refl (index_longer x table more)
  where
    by : (c : Bool) → same x a.name ≡ c → (Memᴰ x (map attribute_name table) → index_in x (table ++ more) ≡ index_in x table) → index_in x (a ∷ (table ++ more)) ≡ index_in x (a ∷ table)
    by true q f = rw (q, index_in)
    by false q f = rw (q, index_in) (ap suc (f (⊎_elim (λ e. absurd (false≢true (sym q ∙ bytes.same← x a.name e))) (λ i. i) (Memᴰ.cases_cons m))))

-- a name that is not there comes after it
pub index_new : (x : Bytes) (table : List Attribute) (a : Attribute) → (Memᴰ x (map attribute_name table) → ⊥) → x ≡ a.name → index_in x (table ++ a ∷ []) ≡ length table
index_new x [] a f e = index_here x a [] (bytes.same← x a.name e)
index_new x (b ∷ table) a f e = index_there x b (table ++ a ∷ []) (differs bytes x b.name (λ q. f (Memᴰ.head q))) ∙ ap suc (index_new x table a (λ m. f (Memᴰ.tail m)) e)

-- a table without the name n, where n is there
lacking_length : (n : Bytes) (table : List Attribute) → Memᴰ n (map attribute_name table) → suc (length (lacking n table)) ≡ length table
lacking_length n [] m = absurd (Memᴰ.not-nil m)
lacking_length n (a ∷ table) m = by (same n a.name) refl (lacking_length n table)
  where
    by : (c : Bool) → same n a.name ≡ c → (Memᴰ n (map attribute_name table) → suc (length (lacking n table)) ≡ length table) → suc (length (lacking n (a ∷ table))) ≡ suc (length table)
    by true q f = rw (q, lacking)
    by false q f = rw (q, lacking) (ap suc (f (⊎_elim (λ e. absurd (false≢true (sym q ∙ bytes.same← n a.name e))) (λ i. i) (Memᴰ.cases_cons m))))

-- the other names: those before n keep their index, those after it come one earlier
abbrev Earlier : ℕ → ℕ → ℕ → Type 0
Earlier a i j = ((i < a) × (j ≡ i)) ⊎ ((a < i) × (i ≡ suc j))

lacking_index : (n x : Bytes) (table : List Attribute) → Memᴰ n (map attribute_name table) → (x ≡ n → ⊥) → Earlier (index_in n table) (index_in x table) (index_in x (lacking n table))
lacking_index n x [] m f = absurd (Memᴰ.not-nil m)
lacking_index n x (a ∷ table) m f = by (same n a.name) refl (same x a.name) refl (λ i. lacking_index n x table i f)
  where
    by : (c : Bool) → same n a.name ≡ c → (e : Bool) → same x a.name ≡ e → (Memᴰ n (map attribute_name table) → Earlier (index_in n table) (index_in x table) (index_in x (lacking n table)))
        → Earlier (index_in n (a ∷ table)) (index_in x (a ∷ table)) (index_in x (lacking n (a ∷ table)))
    by true q true p h = absurd (f (same_eq x a.name p ∙ sym (same_eq n a.name q)))
    by true q false p h =
        let e : index_in x (lacking n (a ∷ table)) ≡ index_in x table = rw (q, lacking) in
        inr (omega (arith, index_here n a table q, index_there x a table p), omega (arith, index_there x a table p))
    by false q true p h =
        let e : index_in x (lacking n (a ∷ table)) ≡ 0 = rw (q, lacking) (index_here x a (lacking n table) p) in
        inl (omega (arith, index_there n a table q, index_here x a table p), omega (arith, index_here x a table p))
    by false q false p h =
        let e : index_in x (lacking n (a ∷ table)) ≡ suc (index_in x (lacking n table)) = rw (q, lacking) (index_there x a (lacking n table) p) in
        ⊎_elim (λ (l, z). inl (omega (arith, index_there n a table q, index_there x a table p), omega (arith, index_there x a table p)))
        (λ (l, z). inr (omega (arith, index_there n a table q, index_there x a table p), omega (arith, index_there x a table p)))
        (h (⊎_elim (λ e. absurd (false≢true (sym q ∙ bytes.same← n a.name e))) (λ i. i) (Memᴰ.cases_cons m)))

-- ---- in the whole table
pub offset_first : (form : Form) → offset 0 form ≡ 0
offset_first [] = refl
offset_first (d ∷ form) = refl

pub offset_next : (i : ℕ) (form : Form) → offset (suc i) form ≡ offset i form + length (definition_at i form).attributes
offset_next i [] = refl
offset_next zero (d ∷ form) = omega (arith, offset_first form)
offset_next (suc i) (d ∷ form) = omega (arith, offset_next i form)

module _ (e : List Attribute → List Attribute) where
  -- the attributes of definition i are changed: those of definitions before it, its own, and those after it
  pub data Spot (i : ℕ) (form : Form) (owner x : Bytes) (old new : ℕ) : Type 0 where
    before : old < offset i form → new ≡ old → Spot i form owner x old new
    here : name_at_index i form ≡ owner → old ≡ offset i form + index_in x (definition_at i form).attributes
        → new ≡ offset i form + index_in x (e (definition_at i form).attributes) → Spot i form owner x old new
    after : (k : ℕ) → old ≡ offset i form + (length (definition_at i form).attributes + k) → new ≡ offset i form + (length (e (definition_at i form).attributes) + k) → Spot i form owner x old new

  spot_later : (d : Definition) (i : ℕ) (form : Form) (owner x : Bytes) (old new : ℕ) → Spot i form owner x old new
      → Spot (suc i) (d ∷ form) owner x (length d.attributes + old) (length d.attributes + new)
  spot_later d i form owner x old new (before l q) = before (omega arith) (omega arith)
  spot_later d i form owner x old new (here n p q) = here n (omega arith) (omega arith)
  spot_later d i form owner x old new (after k p q) = after k (omega arith) (omega arith)

  pub spot : (i : ℕ) (form : Form) → i < length form → (owner : Bytes) (d : Definition) → lookup owner form ≡ some d → (x : Bytes) → Memᴰ x (map attribute_name d.attributes)
      → Spot i form owner x (attribute_index owner x form) (attribute_index owner x (update i (with_attributes e) form))
  spot i [] l owner d f x m = absurd (omega arith)
  spot zero (c ∷ form) l owner d f x m = by (same owner c.name) refl
    where
      by : (b : Bool) → same owner c.name ≡ b → Spot zero (c ∷ form) owner x (attribute_index owner x (c ∷ form)) (attribute_index owner x (with_attributes e c ∷ form))
      by true q = here (sym (same_eq owner c.name q)) (rw (q, attribute_index) (omega arith)) (rw (q, attribute_index) (omega arith))
      by false q = after (attribute_index owner x form) (rw (q, attribute_index) (omega arith)) (rw (q, attribute_index) (omega arith))
  spot (suc i) (c ∷ form) l owner d f x m = by (same owner c.name) refl (λ g. spot i form (omega arith) owner d g x m)
    where
      by : (b : Bool) → same owner c.name ≡ b → (lookup owner form ≡ some d → Spot i form owner x (attribute_index owner x form) (attribute_index owner x (update i (with_attributes e) form)))
          → Spot (suc i) (c ∷ form) owner x (attribute_index owner x (c ∷ form)) (attribute_index owner x (c ∷ update i (with_attributes e) form))
      by true q g =
          let s : some c ≡ some d = rw (q, lookup) at f in
          let t : d ≡ c = cc s in
          let z : attribute_index owner x (c ∷ form) ≡ index_in x c.attributes = rw (q, attribute_index) in
          before (omega (arith, index_inside x c.attributes (rw (← t) m))) (rw (q, attribute_index))
      by false q g = rw (q, attribute_index) (spot_later c i form owner x (attribute_index owner x form) (attribute_index owner x (update i (with_attributes e) form)) (g (rw (q, lookup) at f)))

  -- any name below the definition that is changed
  pub spot_own : (i : ℕ) (form : Form) → Distinct (map definition_name form) → i < length form → (x : Bytes)
      → attribute_index (name_at_index i form) x (update i (with_attributes e) form) ≡ offset i form + index_in x (e (definition_at i form).attributes)
  spot_own i [] u l x = absurd (omega arith)
  spot_own zero (c ∷ form) u l x = rw (same_refl c.name, attribute_index) (omega arith)
  spot_own (suc i) (c ∷ form) (out, u) l x =
      rw (differs bytes (name_at_index i form) c.name (λ q. out (Memᴰ.cast (sym q) (Memᴰ.map definition_name (definition_stands form i (omega arith))))), attribute_index)
      (omega (arith, spot_own i form u (omega arith) x))

-- ---- indices moved
module _ (s : Shift) (i : ℕ) where
  shifted_before : i < s.from → shifted s i ≡ i
  shifted_before l = rw (lt-leb s.from i l, shifted)

  shifted_from : s.from ≤ i → shifted s i ≡ i + s.more - s.less
  shifted_from l = rw (le-leb s.from i l, shifted)

module _ (i : ℕ) (form : Form) (once : Distinct (map definition_name form)) (below : i < length form) where
  abbrev table : List Attribute
  table = (definition_at i form).attributes

  pub own_at : (x : Bytes) → attribute_index (name_at_index i form) x form ≡ offset i form + index_in x (definition_at i form).attributes
  own_at x = ap (λ (m : Bytes). attribute_index m x form) (sym (name_of_lem form i below)) ∙ owner_index form once i x below

  -- the attributes of the definition that has the name
  own_table : (owner : Bytes) (d : Definition) → lookup owner form ≡ some d → name_at_index i form ≡ owner → definition_at i form ≡ d
  own_table owner d f n =
      let s : some (definition_at i form) ≡ some d = sym (definition_found i form once below) ∙ ap (λ (z : Bytes). lookup z form) n ∙ f in
      cc s

  module _ (owner : Bytes) (d : Definition) (found : lookup owner form ≡ some d) (x : Bytes) (there : Memᴰ x (map attribute_name d.attributes)) where
    abbrev old : ℕ
    old = attribute_index owner x form

    in_table : name_at_index i form ≡ owner → Memᴰ x (map attribute_name table)
    in_table n = subst (λ (c : Definition). Memᴰ x (map attribute_name c.attributes)) (sym (own_table owner d found n)) there

    pub own_lower : name_at_index i form ≡ owner → old < offset (suc i) form
    own_lower n =
        let z : old ≡ offset i form + index_in x table = ap (λ (m : Bytes). attribute_index m x form) (sym n) ∙ own_at x in
        omega (arith, offset_next i form, index_inside x table (in_table n))

    -- an attribute added to definition i
    pub added_shift : (a : Attribute) → shifted (record { from = offset (suc i) form; more = 1; less = 0 }) old ≡ attribute_index owner x (update i (with_attributes (λ t. t ++ a ∷ [])) form)
    added_shift a = by (spot (λ t. t ++ a ∷ []) i form below owner d found x there)
      where
        s : Shift
        s = record { from = offset (suc i) form; more = 1; less = 0 }

        new : ℕ
        new = attribute_index owner x (update i (with_attributes (λ t. t ++ a ∷ [])) form)

        by : Spot (λ t. t ++ a ∷ []) i form owner x old new → shifted s old ≡ new
        by (before l q) = shifted_before s old (omega (arith, offset_next i form)) ∙ sym q
        by (here n p q) = shifted_before s old (own_lower n) ∙ omega (arith, index_longer x table (a ∷ []) (in_table n))
        by (after k p q) = shifted_from s old (omega (arith, offset_next i form)) ∙ omega (arith, length-append table (a ∷ []))

    -- attribute n of definition i taken out
    pub dropped_shift : (n : Bytes) (a : ℕ) → Memᴰ n (map attribute_name table) → a ≡ offset i form + index_in n table → (name_at_index i form ≡ owner → x ≡ n → ⊥)
        → shifted (record { from = a; more = 0; less = 1 }) old ≡ attribute_index owner x (update i (with_attributes (lacking n)) form)
    dropped_shift n a m at other = by (spot (lacking n) i form below owner d found x there)
      where
        s : Shift
        s = record { from = a; more = 0; less = 1 }

        new : ℕ
        new = attribute_index owner x (update i (with_attributes (lacking n)) form)

        by : Spot (lacking n) i form owner x old new → shifted s old ≡ new
        by (before l q) = shifted_before s old (omega arith) ∙ sym q
        by (here z p q) =
            ⊎_elim (λ (l, e). shifted_before s old (omega arith) ∙ omega arith) (λ (l, e). shifted_from s old (omega arith) ∙ omega arith) (lacking_index n x table m (other z))
        by (after k p q) = shifted_from s old (omega (arith, index_inside n table m)) ∙ omega (arith, lacking_length n table m)
