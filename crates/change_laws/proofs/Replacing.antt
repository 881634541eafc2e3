-- A well-formed form stays so when a definition is replaced, added or removed, under the conditions of the changes.
use Prim.Native.Nat.{ℕ, zero, suc, ◌<◌}
use mathlib.Core.Path.{◌≡◌, refl, sym, ap, ◌∙◌}
use mathlib.Core.Logic.{◌⊎◌, inl, inr, ⊎_elim}
use mathlib.Core.Bool.{Bool, true, false, false≢true}
use mathlib.Core.Option.{Option, none, some}
use mathlib.Core.List.{List, [], ◌∷◌, ◌++◌, map, map-append, Memᴰ}
use lib.ListN.{length}
use Rattle.rules.specs.Bytes.{Bytes}
use Rattle.rules.specs.Model.{names, Distinct, Full}
use Rattle.rules.specs.Store.{Attribute, Definition, Form, members}
use Rattle.rules.specs.WellFormed.{definition_name, attribute_name, lookup, is_there, known, names_in, members_of, Reaches, directly, through, is_attribute_of, GoodDefinition, WellFormed, well_formed}
use Rattle.rules.specs.Change.{definition_at, update, without}
use Rattle.rules.proofs.Height.{reaches_then}
use Rattle.rules.proofs.WellFormedLaws.{well_formed_lem, lookup_member, lookup_distinct, definition_good, no_circle}
use Rattle.change_laws.proofs.FormLaws.{same_or, known_named, definition_found, update_names, update_other, update_this, update_known, lookup_old, lookup_new, without_other, without_this}

-- ---- lists without an entry twice
module _ {A : Type 0} where
  pub distinct_last : (xs : List A) (x : A) → Distinct xs → (Memᴰ x xs → ⊥) → Distinct (xs ++ x ∷ [])
  distinct_last [] x d f = (λ m. mathlib.Core.List.Memᴰ.not-nil m, tt)
  distinct_last (y ∷ xs) x (g, d) f = (
    λ m. ⊎_elim g (λ i. f (mathlib.Core.List.Memᴰ.head (sym (mathlib.Core.List.Memᴰ.eq_of_singleton i)))) (mathlib.Core.List.Memᴰ.append_cases xs m),
    distinct_last xs x d (λ m. f (mathlib.Core.List.Memᴰ.tail m)),
  )

  pub without_in : (i : ℕ) (xs : List A) {x : A} → Memᴰ x (without i xs) → Memᴰ x xs
  without_in i [] m = m
  without_in zero (y ∷ xs) m = mathlib.Core.List.Memᴰ.tail m
  without_in (suc i) (y ∷ xs) m = ⊎_elim (λ e. mathlib.Core.List.Memᴰ.head e) (λ k. mathlib.Core.List.Memᴰ.tail (without_in i xs k)) (mathlib.Core.List.Memᴰ.cases_cons m)

  without_distinct : (i : ℕ) (xs : List A) → Distinct xs → Distinct (without i xs)
  without_distinct i [] d = d
  without_distinct zero (y ∷ xs) (f, d) = d
  without_distinct (suc i) (y ∷ xs) (f, d) = (λ m. f (without_in i xs m), without_distinct i xs d)

without_names : (i : ℕ) (form : Form) → map definition_name (without i form) ≡ without i (map definition_name form)
without_names i [] = refl
without_names zero (d ∷ form) = refl
without_names (suc i) (d ∷ form) = ap (λ (z : List Bytes). d.name ∷ z) (without_names i form)

-- ---- well-formed by what is found
by_lookup : (w : ℕ) (form : Form) → Distinct (map definition_name form) → ((n : Bytes) (d : Definition) → lookup n form ≡ some d → GoodDefinition w form d) → WellFormed w form
by_lookup w form once f = record { names = once; definitions = λ d m. f d.name d (lookup_distinct form once d m) }

-- a definition in another form
good_moved : (w : ℕ) (form more : Form) (d : Definition) → GoodDefinition w form d → ((m : Bytes) → Memᴰ m (names (members d)) → known more m ≡ true)
    → ((n : Bytes) → Reaches more n n → ⊥) → GoodDefinition w more d
good_moved w form more d g k c =
    record {
      name = g.name;
      in_range = k;
      once = g.once;
      groups = g.groups;
      circle = c d.name;
      attribute_names = g.attribute_names;
      attributes = g.attributes;
    }

-- fewer members reach less
reaches_fewer : (form more : Form) → ((n m : Bytes) → Memᴰ m (members_of n more) → Memᴰ m (members_of n form)) → {n m : Bytes} → Reaches more n m → Reaches form n m
reaches_fewer form more f {n} (directly {m = m} i) = directly (f n m i)
reaches_fewer form more f {n} (through {m = m} i r) = through (f n m i) (reaches_fewer form more f r)

-- ---- a definition replaced
-- m can be a member of the definition named `owner`
pub record Joins (form : Form) (owner m : Bytes) : Type 0 where
  pub known : known form m ≡ true
  pub other : m ≡ owner → ⊥
  pub straight : Reaches form m owner → ⊥

-- d can stand in place of the definition named `owner`
pub record Replaces (w : ℕ) (form : Form) (owner : Bytes) (d : Definition) : Type 0 where
  pub joins : (m : Bytes) → Memᴰ m (names (members d)) → Joins form owner m
  pub once : Distinct (names (members d))
  pub groups : Full (members d)
  pub attribute_names : Distinct (map attribute_name d.attributes)
  pub attributes : (a : Attribute) → Memᴰ a d.attributes → is_attribute_of w a ≡ true

module _ (w : ℕ) (form : Form) (ok : well_formed w form ≡ true) (i : ℕ) (below : i < length form) where
  once_named : Distinct (map definition_name form)
  once_named = ((well_formed_lem w form).0 ok).names

  abbrev old : Definition
  old = definition_at i form

  pub old_found : lookup old.name form ≡ some old
  old_found = definition_found i form once_named below

  pub old_good : GoodDefinition w form old
  old_good = definition_good w form ok old.name old old_found

  -- what is a member can be one
  pub old_joins : (m : Bytes) → Memᴰ m (names (members old)) → Joins form old.name m
  old_joins m k =
      let j : Memᴰ m (members_of old.name form) = rw old_found k in
      record {
        known = old_good.in_range m k;
        other = λ e. no_circle w form ok old.name (directly (mathlib.Core.List.Memᴰ.cast (sym e) j));
        straight = λ r. no_circle w form ok old.name (through j r);
      }

  module _ (u : Definition → Definition) (keeps : (d : Definition) → (u d).name ≡ d.name) (new : Replaces w form old.name (u old)) where
    abbrev changed : Form
    changed = update i u form

    members_other : (n m : Bytes) → (n ≡ old.name → ⊥) → Memᴰ m (members_of n changed) → Memᴰ m (members_of n form)
    members_other n m f k = rw (update_other u keeps i form n f) at k

    members_this : (m : Bytes) → Memᴰ m (members_of old.name changed) → Joins form old.name m
    members_this m k = new.joins m (rw (update_this u keeps i form once_named below) at k)

    -- what does not reach the owner reaches no more than before
    away : {n m : Bytes} → Reaches changed n m → (n ≡ old.name → ⊥) → (Reaches form n old.name → ⊥) → Reaches form n m
    away {n} (directly {m = m} k) f g = directly (members_other n m f k)
    away {n} (through {m = m} k r) f g =
        let j : Memᴰ m (members_of n form) = members_other n m f k in
        through j (away r (λ e. g (directly (mathlib.Core.List.Memᴰ.cast (sym e) j))) (λ s. g (through j s)))

    at_owner : {n m : Bytes} → Reaches changed n m → n ≡ old.name → Reaches changed old.name m
    at_owner r e = rw e at r

    -- what is reached was reached before, or is reached from the owner
    before_or : {n m : Bytes} → Reaches changed n m → Reaches form n m ⊎ Reaches changed old.name m
    before_or {n} (directly {m = m} k) = ⊎_elim (λ e. inr (at_owner (directly k) e)) (λ f. inl (directly (members_other n m f k))) (same_or n old.name)
    before_or {n} (through {m = m} k r) =
        ⊎_elim (λ e. inr (at_owner (through k r) e)) (λ f. ⊎_elim (λ s. inl (through (members_other n m f k) s)) (λ s. inr s) (before_or r)) (same_or n old.name)

    from_owner : {n : Bytes} → Reaches changed old.name n → Reaches changed n n → Reaches form n n
    from_owner {n} (directly k) r = let j = members_this n k in away r j.other j.straight
    from_owner {n} (through {m = m} k s) r =
        let j = members_this m k in
        let t : Reaches form m n = away s j.other j.straight in
        away r (λ e. j.straight (rw e at t)) (λ v. j.straight (reaches_then form t v))

    no_circle_after : (n : Bytes) → Reaches changed n n → ⊥
    no_circle_after n r = no_circle w form ok n (⊎_elim (λ s. s) (λ s. from_owner s r) (before_or r))

    new_good : GoodDefinition w changed (u old)
    new_good =
        record {
          name = rw (keeps old) old_good.name;
          in_range = λ m k. update_known u keeps i form m (new.joins m k).known;
          once = new.once;
          groups = new.groups;
          circle = no_circle_after (u old).name;
          attribute_names = new.attribute_names;
          attributes = new.attributes;
        }

    found_good : (n : Bytes) (d : Definition) → lookup n changed ≡ some d → GoodDefinition w changed d
    found_good n d e = ⊎_elim this other (same_or n old.name)
      where
        this : n ≡ old.name → GoodDefinition w changed d
        this q =
            let s : some (u old) ≡ some d = sym (update_this u keeps i form once_named below) ∙ ap (λ (z : Bytes). lookup z changed) (sym q) ∙ e in
            let t : u old ≡ d = cc s in
            rw t at new_good

        other : (n ≡ old.name → ⊥) → GoodDefinition w changed d
        other f =
            let g : GoodDefinition w form d = definition_good w form ok n d (sym (update_other u keeps i form n f) ∙ e) in
            good_moved w form changed d g (λ m k. update_known u keeps i form m (g.in_range m k)) no_circle_after

    pub replaced : well_formed w changed ≡ true
    replaced = (well_formed_lem w changed).1 (by_lookup w changed (rw (update_names u keeps i form) once_named) found_good)

  -- ---- a definition removed
  module _ (unused : (d : Definition) → Memᴰ d form → Memᴰ old.name (names (members d)) → ⊥) where
    abbrev fewer : Form
    fewer = without i form

    fewer_found : (n : Bytes) (d : Definition) → lookup n fewer ≡ some d → lookup n form ≡ some d
    fewer_found n d e = ⊎_elim gone (λ f. sym (without_other i form n f) ∙ e) (same_or n old.name)
      where
        gone : n ≡ old.name → lookup n form ≡ some d
        gone q =
            let s : none ≡ some d = sym (without_this i form once_named below) ∙ ap (λ (z : Bytes). lookup z fewer) (sym q) ∙ e in
            let z : false ≡ true = cc s in
            absurd (false≢true z)

    fewer_members : (n m : Bytes) → Memᴰ m (members_of n fewer) → Memᴰ m (members_of n form)
    fewer_members n m = by (lookup n fewer) refl
      where
        by : (o : Option Definition) → lookup n fewer ≡ o → Memᴰ m (names_in o) → Memᴰ m (members_of n form)
        by none q k = absurd (mathlib.Core.List.Memᴰ.not-nil k)
        by (some d) q k = rw (fewer_found n d q) k

    fewer_good : (n : Bytes) (d : Definition) → lookup n fewer ≡ some d → GoodDefinition w fewer d
    fewer_good n d e =
        let q : lookup n form ≡ some d = fewer_found n d e in
        let g : GoodDefinition w form d = definition_good w form ok n d q in
        good_moved w form fewer d g
        (λ m k. ap is_there (without_other i form m (λ z. unused d (lookup_member n form d q).0 (mathlib.Core.List.Memᴰ.cast (sym z) k))) ∙ g.in_range m k)
        (λ x r. no_circle w form ok x (reaches_fewer form fewer fewer_members r))

    pub removed : well_formed w fewer ≡ true
    removed = (well_formed_lem w fewer).1 (by_lookup w fewer (rw (without_names i form) (without_distinct i (map definition_name form) once_named)) fewer_good)

-- ---- a definition added
module _ (w : ℕ) (form : Form) (ok : well_formed w form ≡ true) (d : Definition) (good : GoodDefinition w [] d) (fresh : known form d.name ≡ false) where
  abbrev more : Form
  more = form ++ d ∷ []

  more_known : (n : Bytes) → known form n ≡ true → known more n ≡ true
  more_known n k = ap is_there (lookup_old n form (d ∷ []) k) ∙ k

  -- d has no members, as it is good where nothing is known
  memberless : (m : Bytes) → Memᴰ m (names (members d)) → ⊥
  memberless m k = false≢true (good.in_range m k)

  more_found : (n : Bytes) (c : Definition) → lookup n more ≡ some c → (lookup n form ≡ some c) ⊎ (c ≡ d)
  more_found n c e = by (known form n) refl
    where
      by : (b : Bool) → known form n ≡ b → (lookup n form ≡ some c) ⊎ (c ≡ d)
      by true k = inl (sym (lookup_old n form (d ∷ []) k) ∙ e)
      by false k =
          let (m, q) = lookup_member n (d ∷ []) c (sym (lookup_new n form (d ∷ []) k) ∙ e) in
          inr (mathlib.Core.List.Memᴰ.eq_of_singleton m)

  more_members : (n m : Bytes) → Memᴰ m (members_of n more) → Memᴰ m (members_of n form)
  more_members n m = by (lookup n more) refl
    where
      at : (c : Definition) → Memᴰ m (names (members c)) → (lookup n form ≡ some c) ⊎ (c ≡ d) → Memᴰ m (members_of n form)
      at c k (inl q) = rw q k
      at c k (inr q) = absurd (memberless m (rw q at k))

      by : (o : Option Definition) → lookup n more ≡ o → Memᴰ m (names_in o) → Memᴰ m (members_of n form)
      by none q k = absurd (mathlib.Core.List.Memᴰ.not-nil k)
      by (some c) q k = at c k (more_found n c q)

  no_circle_more : (n : Bytes) → Reaches more n n → ⊥
  no_circle_more n r = no_circle w form ok n (reaches_fewer form more more_members r)

  more_good : (n : Bytes) (c : Definition) → lookup n more ≡ some c → GoodDefinition w more c
  more_good n c e = by (more_found n c e)
    where
      by : (lookup n form ≡ some c) ⊎ (c ≡ d) → GoodDefinition w more c
      by (inl q) = let g : GoodDefinition w form c = definition_good w form ok n c q in good_moved w form more c g (λ m k. more_known m (g.in_range m k)) no_circle_more
      by (inr q) = rw q (good_moved w [] more d good (λ m k. absurd (memberless m k)) no_circle_more)

  more_once : Distinct (map definition_name more)
  more_once =
      rw (map-append definition_name form (d ∷ []))
      (distinct_last (map definition_name form) d.name ((well_formed_lem w form).0 ok).names (λ m. false≢true (sym fresh ∙ (known_named d.name form).1 m)))

  pub added : well_formed w more ≡ true
  added = (well_formed_lem w more).1 (by_lookup w more more_once more_good)
