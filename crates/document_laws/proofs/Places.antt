-- Where definitions and attributes stand in the tables of a form: the words on tables find what the indices of a store
-- say. By induction over the tables.
use Prim.Native.Nat.{ℕ, suc, ◌+◌, ◌<◌}
use native.Mathlib.Nat.{zero-add, suc-add}
use native.Mathlib.Omega.{arith}
use mathlib.Core.Path.{◌≡◌, refl, sym, ap, ◌∙◌, subst}
use mathlib.Core.Logic.{◌⊎◌, inl, inr}
use mathlib.Core.Bool.{Bool, true, false, false≢true}
use mathlib.Core.Option.{some, none-ne-some, some-injective}
use mathlib.Core.List.Memᴰ
use mathlib.Core.List.{List, [], ◌∷◌, ◌++◌, map, Memᴰ}
use lib.ListN.{length}
use borrow.Author.Tests.{eq-eqb, ne_eqb}
use Rattle.rules.specs.Bytes.{Bytes, same, bytes}
use Rattle.rules.specs.Store.{Attribute, Definition, Form}
use Rattle.rules.specs.Layout.{FlatAttribute, index_of, index_in, attribute_index, kind_code, flat_definition, own_attributes, all_attributes}
use Rattle.rules.specs.WellFormed.{attribute_name, lookup}
use Rattle.document_tokens.specs.Tokens.{kind_of_definition, attribute_among}

-- ---- definitions
pub kind_index : (n : Bytes) (form fs : Form) (d : Definition) → lookup n fs ≡ some d → kind_of_definition (index_of n fs) (map (flat_definition form) fs) ≡ kind_code d.content
unfolding kind_of_definition
kind_index n form [] d e = absurd (none-ne-some d e)
kind_index n form (c ∷ fs) d e = by (same n c.name) e (kind_index n form fs d)
  where
    by : (b : Bool) → elim b [ true ↦ some c | false ↦ lookup n fs ] ≡ some d → (lookup n fs ≡ some d → kind_of_definition (index_of n fs) (map (flat_definition form) fs) ≡ kind_code d.content)
        → kind_of_definition (elim b [ true ↦ 0 | false ↦ suc (index_of n fs) ]) (map (flat_definition form) (c ∷ fs)) ≡ kind_code d.content
    by true e h = ap (λ (z : Definition). kind_code z.content) (some-injective _ _ e)
    by false e h = h e

-- ---- attributes
another : (n : Bytes) (a : Attribute) (table : List Attribute) → same n a.name ≡ false → Memᴰ n (map attribute_name (a ∷ table)) → Memᴰ n (map attribute_name table)
another n a table q m = by (Memᴰ.cases_cons m)
  where
    by : (n ≡ a.name) ⊎ Memᴰ n (map attribute_name table) → Memᴰ n (map attribute_name table)
    by (inl e) = absurd (false≢true (sym q ∙ bytes.same← n a.name e))
    by (inr h) = h

-- found at a place that is in the table
pub record InTable (o : ℕ) (n : Bytes) (table : List FlatAttribute) (i : ℕ) : Type 0 where
  pub place : attribute_among o n table ≡ i
  pub there : i < length table

-- .. of the owner, before those of others
own_among : (o : ℕ) (n : Bytes) (table : List Attribute) (others : List FlatAttribute) → Memᴰ n (map attribute_name table) → InTable o n (own_attributes o table ++ others) (index_in n table)
unfolding attribute_among
own_among o n [] others m = absurd (Memᴰ.not-nil m)
own_among o n (a ∷ table) others m = by (same n a.name) refl (own_among o n table others)
  where
    by : (c : Bool) → same n a.name ≡ c → (Memᴰ n (map attribute_name table) → InTable o n (own_attributes o table ++ others) (index_in n table))
        → InTable o n (own_attributes o (a ∷ table) ++ others) (index_in n (a ∷ table))
    by true q h =
        let first : index_in n (a ∷ table) ≡ 0 = rw (q, index_in) in
        let among : attribute_among o n (own_attributes o (a ∷ table) ++ others) ≡ 0 = rw (eq-eqb o o refl, attribute_among, q) in
        record { place = among ∙ sym first; there = rw first (omega arith) }
    by false q h =
        let t = h (another n a table q m) in
        let next : index_in n (a ∷ table) ≡ suc (index_in n table) = rw (q, index_in) in
        let among : attribute_among o n (own_attributes o (a ∷ table) ++ others) ≡ suc (attribute_among o n (own_attributes o table ++ others)) = rw (eq-eqb o o refl, attribute_among, q) in
        record { place = among ∙ ap suc t.place ∙ sym next; there = rw next (omega arith) }

-- .. behind those of another owner
other_among : (k o : ℕ) (n : Bytes) (i : ℕ) (xs : List Attribute) (ys : List FlatAttribute) → (k ≡ o → ⊥) → InTable k n ys i → InTable k n (own_attributes o xs ++ ys) (length xs + i)
unfolding attribute_among
other_among k o n i [] ys h t = rw zero-add t
other_among k o n i (a ∷ xs) ys h t =
    let u = other_among k o n i xs ys h t in
    rw suc-add (record { place = rw (ne_eqb k o h, attribute_among) (ap suc u.place); there = omega arith })

pub attribute_among_lem : (o : ℕ) (form : Form) (owner n : Bytes) (d : Definition) → lookup owner form ≡ some d → Memᴰ n (map attribute_name d.attributes)
    → InTable (o + index_of owner form) n (all_attributes o form) (attribute_index owner n form)
attribute_among_lem o [] owner n d e m = absurd (none-ne-some d e)
attribute_among_lem o (c ∷ ds) owner n d e m = by (same owner c.name) refl (attribute_among_lem (suc o) ds owner n d)
  where
    by : (b : Bool) → same owner c.name ≡ b
        → (lookup owner ds ≡ some d → Memᴰ n (map attribute_name d.attributes) → InTable (suc o + index_of owner ds) n (all_attributes (suc o) ds) (attribute_index owner n ds))
        → InTable (o + index_of owner (c ∷ ds)) n (all_attributes o (c ∷ ds)) (attribute_index owner n (c ∷ ds))
    by true q h =
        let first : o + 0 ≡ o = omega arith in
        let is : c ≡ d = some-injective _ _ (rw (q, lookup) at e) in
        rw (q, index_of, attribute_index, first) (own_among o n c.attributes (all_attributes (suc o) ds) (subst (λ (z : Definition). Memᴰ n (map attribute_name z.attributes)) (sym is) m))
    by false q h =
        let t : InTable (suc o + index_of owner ds) n (all_attributes (suc o) ds) (attribute_index owner n ds) = h (rw (q, lookup) at e) m in
        let p : suc o + index_of owner ds ≡ o + suc (index_of owner ds) = omega arith in
        rw (q, index_of, attribute_index)
        (other_among (o + suc (index_of owner ds)) o n (attribute_index owner n ds) c.attributes (all_attributes (suc o) ds) (λ z. omega arith) (rw p at t))
