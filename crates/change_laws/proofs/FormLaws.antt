-- What is found under a name in a form that a change has made.
use Prim.Native.Nat.{ℕ, zero, suc, ◌-◌, ◌<◌}
use native.Mathlib.Omega.{arith}
use mathlib.Core.Path.{◌≡◌, refl, sym, ap, ◌∙◌}
use mathlib.Core.Logic.{◌⊎◌, inl, inr, ⊎_elim, ◌↔◌}
use mathlib.Core.Bool.{Bool, true, false, false≢true}
use mathlib.Core.Option.{Option, none, some}
use mathlib.Core.List.Memᴰ
use mathlib.Core.List.{List, [], ◌∷◌, ◌++◌, map, Memᴰ}
use lib.ListN.{length}
use Rattle.rules.specs.Bytes.{Bytes, same, same_eq, bytes}
use Rattle.rules.specs.Model.{Distinct}
use Rattle.rules.specs.Store.{Attribute, Definition, Form}
use Rattle.rules.specs.Layout.{index_of}
use Rattle.rules.specs.WellFormed.{definition_name, lookup, is_there, known}
use Rattle.rules.specs.Change.{definition_at, name_at_index, Owned, entry_at, attribute_at, update, without}
use Rattle.rules.proofs.Apart.{differs}
use Rattle.rules.proofs.Height.{known_found}
use Rattle.rules.proofs.WellFormedLaws.{lookup_member, lookup_distinct, lookup_here, lookup_there, definition_stands}

-- a name is that name or not
pub same_or : (n m : Bytes) → (n ≡ m) ⊎ (n ≡ m → ⊥)
same_or n m = by (same n m) refl
  where
    by : (b : Bool) → same n m ≡ b → (n ≡ m) ⊎ (n ≡ m → ⊥)
    by true q = inl (same_eq n m q)
    by false q = inr (λ e. false≢true (sym q ∙ bytes.same← n m e))

-- two forms that begin with definitions of one name
lookup_beside : (n : Bytes) (c d : Definition) (form more : Form) → c.name ≡ d.name → (n ≡ d.name → some c ≡ some d) → lookup n form ≡ lookup n more → lookup n (c ∷ form) ≡ lookup n (d ∷ more)
lookup_beside n c d form more q here there =
    ⊎_elim (λ e. lookup_here n c form (e ∙ sym q) ∙ here e ∙ sym (lookup_here n d more e)) (λ f. lookup_there n c form (λ e. f (e ∙ q)) ∙ there ∙ sym (lookup_there n d more f)) (same_or n d.name)

pub lookup_missing : (n : Bytes) (form : Form) → (Memᴰ n (map definition_name form) → ⊥) → lookup n form ≡ none
lookup_missing n [] f = refl
lookup_missing n (d ∷ form) f = lookup_there n d form (λ e. f (Memᴰ.head e)) ∙ lookup_missing n form (λ m. f (Memᴰ.tail m))

-- the names known are those of the definitions
pub known_named : (n : Bytes) (form : Form) → (known form n ≡ true) ↔ Memᴰ n (map definition_name form)
known_named n form = (to, from form)
  where
    to : known form n ≡ true → Memᴰ n (map definition_name form)
    to k =
        let (d, e) = known_found form n k in
        let (m, q) = lookup_member n form d e in
        Memᴰ.cast (sym q) (Memᴰ.map definition_name m)

    from : (more : Form) → Memᴰ n (map definition_name more) → known more n ≡ true
    from [] m = absurd (Memᴰ.not-nil m)
    from (d ∷ more) m =
        ⊎_elim (λ e. ap is_there (lookup_here n d more e)) (λ f. ap is_there (lookup_there n d more f) ∙ ⊎_elim (λ e. absurd (f e)) (from more) (Memᴰ.cases_cons m)) (same_or n d.name)

-- ---- definitions by index
pub definition_found : (i : ℕ) (form : Form) → Distinct (map definition_name form) → i < length form → lookup (name_at_index i form) form ≡ some (definition_at i form)
definition_found i form u l = lookup_distinct form u (definition_at i form) (definition_stands form i l)

-- a definition stands at the index of its name
pub index_found : (n : Bytes) (form : Form) (d : Definition) → lookup n form ≡ some d → (index_of n form < length form) × (definition_at (index_of n form) form ≡ d)
index_found n [] d e = let z : false ≡ true = cc e in absurd (false≢true z)
index_found n (c ∷ form) d e = by (same_or n c.name) (index_found n form d)
  where
    by : (n ≡ c.name) ⊎ (n ≡ c.name → ⊥) → (lookup n form ≡ some d → (index_of n form < length form) × (definition_at (index_of n form) form ≡ d))
        → (index_of n (c ∷ form) < length (c ∷ form)) × (definition_at (index_of n (c ∷ form)) (c ∷ form) ≡ d)
    by (inl q) f =
        let j : index_of n (c ∷ form) ≡ 0 = rw (bytes.same← n c.name q, index_of) in
        let s : some c ≡ some d = sym (lookup_here n c form q) ∙ e in
        (omega arith, ap (λ (k : ℕ). definition_at k (c ∷ form)) j ∙ cc s)
    by (inr g) f =
        let j : index_of n (c ∷ form) ≡ suc (index_of n form) = rw (differs bytes n c.name g, index_of) in
        let (l, s) = f (sym (lookup_there n c form g) ∙ e) in
        (omega arith, ap (λ (k : ℕ). definition_at k (c ∷ form)) j ∙ s)

-- ---- an attribute and its owner
pub entry_in : (i : ℕ) (table : List Attribute) (a : Attribute) → entry_at i table ≡ some a → Memᴰ a table
entry_in i [] a e = let z : false ≡ true = cc e in absurd (false≢true z)
entry_in zero (b ∷ table) a e = Memᴰ.head (let t : a ≡ b = cc e in t)
entry_in (suc i) (b ∷ table) a e = Memᴰ.tail (entry_in i table a e)

pub attribute_owned : (i : ℕ) (form : Form) (o : Owned) → attribute_at i form ≡ some o → Memᴰ o.owner form × Memᴰ o.attribute o.owner.attributes
unfolding attribute_at
attribute_owned i [] o e = let z : false ≡ true = cc e in absurd (false≢true z)
attribute_owned i (d ∷ form) o e = by (entry_at i d.attributes) refl (attribute_owned (i - length d.attributes) form o)
  where
    by : (x : Option Attribute) → entry_at i d.attributes ≡ x
        → (attribute_at (i - length d.attributes) form ≡ some o → Memᴰ o.owner form × Memᴰ o.attribute o.owner.attributes)
        → Memᴰ o.owner (d ∷ form) × Memᴰ o.attribute o.owner.attributes
    by none q f = let (m, a) = f (rw (q, attribute_at) at e) in (Memᴰ.tail m, a)
    by (some a) q f =
        let s : some (record { owner = d; attribute = a }) ≡ some o = rw (q, attribute_at) at e in
        let t : record { owner = d; attribute = a } ≡ o = cc s in
        rw (← t) (Memᴰ.head refl, entry_in i d.attributes a q)

module _ (i : ℕ) (form : Form) (once : Distinct (map definition_name form)) (o : Owned) (at : attribute_at i form ≡ some o) where
  pub owner_found : lookup o.owner.name form ≡ some o.owner
  owner_found = lookup_distinct form once o.owner (attribute_owned i form o at).0

  pub owner_at_lem : definition_at (index_of o.owner.name form) form ≡ o.owner
  owner_at_lem = (index_found o.owner.name form o.owner owner_found).1

  pub owner_below : index_of o.owner.name form < length form
  owner_below = (index_found o.owner.name form o.owner owner_found).0

-- ---- a definition changed
module _ (u : Definition → Definition) (keeps : (d : Definition) → (u d).name ≡ d.name) where
  pub update_names : (i : ℕ) (form : Form) → map definition_name (update i u form) ≡ map definition_name form
  update_names i [] = refl
  update_names zero (d ∷ form) = ap (λ (z : Bytes). z ∷ map definition_name form) (keeps d)
  update_names (suc i) (d ∷ form) = ap (λ (z : List Bytes). d.name ∷ z) (update_names i form)

  pub index_kept : (i : ℕ) (form : Form) (n : Bytes) → index_of n (update i u form) ≡ index_of n form
  index_kept i [] n = refl
  index_kept zero (d ∷ form) n = ap (λ (m : Bytes). elim (same n m) as (λ z. ℕ) [ true ↦ 0 | false ↦ suc (index_of n form) ]) (keeps d)
  index_kept (suc i) (d ∷ form) n = ap (λ (j : ℕ). elim (same n d.name) as (λ z. ℕ) [ true ↦ 0 | false ↦ suc j ]) (index_kept i form n)

  pub update_other : (i : ℕ) (form : Form) (n : Bytes) → (n ≡ name_at_index i form → ⊥) → lookup n (update i u form) ≡ lookup n form
  update_other i [] n f = refl
  update_other zero (d ∷ form) n f = lookup_beside n (u d) d form form (keeps d) (λ e. absurd (f e)) refl
  update_other (suc i) (d ∷ form) n f = lookup_beside n d d (update i u form) form refl (λ e. refl) (update_other i form n f)

  pub update_this : (i : ℕ) (form : Form) → Distinct (map definition_name form) → i < length form → lookup (name_at_index i form) (update i u form) ≡ some (u (definition_at i form))
  update_this i [] once l = absurd (omega arith)
  update_this zero (d ∷ form) once l = lookup_here d.name (u d) form (sym (keeps d))
  update_this (suc i) (d ∷ form) (new, once) l =
      lookup_there (name_at_index i form) d (update i u form) (λ e. new (Memᴰ.cast (sym e) (Memᴰ.map definition_name (definition_stands form i (omega arith)))))
      ∙ update_this i form once (omega arith)

  pub update_known : (i : ℕ) (form : Form) (n : Bytes) → known form n ≡ true → known (update i u form) n ≡ true
  update_known i form n k = (known_named n (update i u form)).1 (rw (update_names i form) ((known_named n form).0 k))

-- ---- definitions added
pub lookup_old : (n : Bytes) (form more : Form) → known form n ≡ true → lookup n (form ++ more) ≡ lookup n form
lookup_old n [] more k = absurd (false≢true k)
lookup_old n (d ∷ form) more k = by (same_or n d.name) (lookup_old n form more)
  where
    by : (n ≡ d.name) ⊎ (n ≡ d.name → ⊥) → (known form n ≡ true → lookup n (form ++ more) ≡ lookup n form) → lookup n (d ∷ (form ++ more)) ≡ lookup n (d ∷ form)
    by (inl e) f = lookup_here n d (form ++ more) e ∙ sym (lookup_here n d form e)
    by (inr g) f = lookup_there n d (form ++ more) g ∙ f (sym (ap is_there (lookup_there n d form g)) ∙ k) ∙ sym (lookup_there n d form g)

pub lookup_new : (n : Bytes) (form more : Form) → known form n ≡ false → lookup n (form ++ more) ≡ lookup n more
lookup_new n [] more k = refl
lookup_new n (d ∷ form) more k = by (same_or n d.name) (lookup_new n form more)
  where
    by : (n ≡ d.name) ⊎ (n ≡ d.name → ⊥) → (known form n ≡ false → lookup n (form ++ more) ≡ lookup n more) → lookup n (d ∷ (form ++ more)) ≡ lookup n more
    by (inl e) f = absurd (false≢true (sym k ∙ ap is_there (lookup_here n d form e)))
    by (inr g) f = lookup_there n d (form ++ more) g ∙ f (sym (ap is_there (lookup_there n d form g)) ∙ k)

-- ---- a definition removed
pub without_other : (i : ℕ) (form : Form) (n : Bytes) → (n ≡ name_at_index i form → ⊥) → lookup n (without i form) ≡ lookup n form
without_other i [] n f = refl
without_other zero (d ∷ form) n f = sym (lookup_there n d form f)
without_other (suc i) (d ∷ form) n f = lookup_beside n d d (without i form) form refl (λ e. refl) (without_other i form n f)

pub without_this : (i : ℕ) (form : Form) → Distinct (map definition_name form) → i < length form → lookup (name_at_index i form) (without i form) ≡ none
without_this i [] once l = refl
without_this zero (d ∷ form) (new, once) l = lookup_missing d.name form new
without_this (suc i) (d ∷ form) (new, once) l =
    lookup_there (name_at_index i form) d (without i form) (λ e. new (Memᴰ.cast (sym e) (Memᴰ.map definition_name (definition_stands form i (omega arith)))))
    ∙ without_this i form once (omega arith)
