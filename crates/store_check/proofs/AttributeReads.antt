-- The attribute body: what its tests say of the attributes that are read from it, that writing gives it back, and that
-- what a form writes passes them.
use Prim.Native.Nat.{ℕ, zero, suc, ◌+◌, ◌<◌, ◌≤◌}
use native.Mathlib.Omega.{arith}
use mathlib.Core.Path.{◌≡◌, refl, ap, ap₂, ◌∙◌, sym}
use mathlib.Core.Logic.{⊎_elim}
use mathlib.Core.Bool.{Bool, true, false, not}
use mathlib.Core.List.Memᴰ
use mathlib.Core.List.{List, [], ◌∷◌, ◌++◌, map, Memᴰ}
use lib.Dec.{eqb, leb}
use lib.ListN.{length, drop}
use borrow.Author.Tests.{eqb-true, eqb-false, leb-true, le-leb, eq-eqb, ne_eqb}
use Rattle.rules.specs.declared.AttributeSort.{AttributeSort}
use Rattle.rules.specs.Bytes.{Bytes, same, same_eq, same_refl, any}
use Rattle.rules.specs.Model.{Distinct}
use Rattle.rules.specs.Store.{Attribute, Form}
use Rattle.rules.specs.Preorder.{Deep}
use Rattle.rules.specs.Layout.{FlatDefinition, FlatParticle, FlatAttribute, sort_code, own_attributes, all_attributes}
use Rattle.rules.specs.Decode.{sort_of, of_owner, read_form}
use Rattle.rules.specs.WellFormed.{attribute_name, stored_name, is_value, is_fill, is_attribute_of}
use Rattle.rules.proofs.Words.{and_both, and_split}
use Rattle.rules.proofs.BooleanLaws.{Every, every_append, every_map, every_right}
use Rattle.rules.proofs.TestLaws.{any_test, not_test}
use Rattle.form_check.specs.FormTests.{owners_rise, clashes, attributes_apart}
use Rattle.store_check.specs.Reading.{AttributeFits}
use Rattle.records.proofs.StringLaws.{sort_few}
use Rattle.rules.proofs.DecodeLaws.{sort_code_lem}

pub sort_back : (s : ℕ) → s ≤ 2 → sort_code (sort_of s) ≡ s
sort_back zero h = refl
sort_back (suc zero) h = refl
sort_back (suc (suc zero)) h = refl
sort_back (suc (suc (suc s))) h = absurd (omega arith)

abbrev read : FlatAttribute → Attribute
read a = record { name = a.name; sort = sort_of a.sort; value = a.value }

own_here : (o : ℕ) (a : FlatAttribute) (cs : List FlatAttribute) → o ≡ a.owner → of_owner o (a ∷ cs) ≡ read a ∷ of_owner o cs
own_here o a cs e = rw (eq-eqb o a.owner e, of_owner)

own_past : (o : ℕ) (a : FlatAttribute) (cs : List FlatAttribute) → (o ≡ a.owner → ⊥) → of_owner o (a ∷ cs) ≡ of_owner o cs
own_past o a cs f = rw (ne_eqb o a.owner f, of_owner)

-- ---- writing what was read
own_none : (o k : ℕ) (cs : List FlatAttribute) → o < k → owners_rise k cs ≡ true → of_owner o cs ≡ []
unfolding owners_rise
own_none o k [] l h = refl
own_none o k (a ∷ cs) l h =
    let (x, y) = and_split (leb k a.owner) (owners_rise a.owner cs) h in
    let z : k ≤ a.owner = leb-true k a.owner x in
    own_past o a cs (λ e. omega arith) ∙ own_none o a.owner cs (omega arith) y

-- of the attributes of owners from o on: those of o, and then the others
record Front (o : ℕ) (cs : List FlatAttribute) : Type 0 where
  rest : List FlatAttribute
  split : own_attributes o (of_owner o cs) ++ rest ≡ cs
  rises : owners_rise (suc o) rest ≡ true
  others : (k : ℕ) → suc o ≤ k → of_owner k cs ≡ of_owner k rest

front : (o : ℕ) (cs : List FlatAttribute) → Every (λ a. a.sort ≤ 2) cs → owners_rise o cs ≡ true → Front o cs
unfolding owners_rise
front o [] s h = record { rest = []; split = refl; rises = refl; others = λ k l. refl }
front o (a ∷ cs) s h =
    let (x, y) = and_split (leb o a.owner) (owners_rise a.owner cs) h in
    by (leb-true o a.owner x) y (eqb o a.owner) refl (λ e. front o cs s.1 (rw e y))
  where
    by : o ≤ a.owner → owners_rise a.owner cs ≡ true → (c : Bool) → eqb o a.owner ≡ c → (o ≡ a.owner → Front o cs) → Front o (a ∷ cs)
    by l r true q f =
        let e : o ≡ a.owner = eqb-true o a.owner q in
        let x : Front o cs = f e in
        record {
          rest = x.rest;
          split = ap (λ (z : List Attribute). own_attributes o z ++ x.rest) (own_here o a cs e)
              ∙ (λ i. record { owner = e i; name = a.name; sort = sort_back a.sort s.0 i; value = a.value } ∷ x.split i);
          rises = x.rises;
          others = λ k l. own_past k a cs (λ z. omega arith) ∙ x.others k l;
        }
    by l r false q f =
        let n : o ≡ a.owner → ⊥ = eqb-false o a.owner q in
        let m : o < a.owner = omega (arith, n) in
        record {
          rest = a ∷ cs;
          split = ap (λ (z : List Attribute). own_attributes o z ++ (a ∷ cs)) (own_past o a cs n ∙ own_none o a.owner cs m r);
          rises = and_both (le-leb (suc o) a.owner (omega arith)) r;
          others = λ k l. refl;
        }

-- `cs₀`: the whole body; `cs`: the attributes of the owners from o on
pub attributes_back : (ns : List Bytes) (o : ℕ) (ds : List FlatDefinition) (ps : List (Deep FlatParticle)) (cs₀ cs : List FlatAttribute)
    → Every (λ a. a.sort ≤ 2) cs → Every (λ a. a.owner < o + length ds) cs → owners_rise o cs ≡ true
    → ((k : ℕ) → o ≤ k → of_owner k cs₀ ≡ of_owner k cs) → all_attributes o (read_form ns o ds ps cs₀) ≡ cs
unfolding owners_rise
attributes_back ns o [] ps cs₀ [] s b r h = refl
attributes_back ns o [] ps cs₀ (a ∷ cs) s b r h =
    let (x, y) = and_split (leb o a.owner) (owners_rise a.owner cs) r in
    absurd (omega (arith, leb-true o a.owner x))
attributes_back ns o (d ∷ ds) ps cs₀ cs s b r h =
    let x : Front o cs = front o cs s r in
    ap₂ (λ (u v : List FlatAttribute). u ++ v) (ap (own_attributes o) (h o (omega arith)))
    (attributes_back ns (suc o) ds (drop d.particles ps) cs₀ x.rest (every_right (λ a. a.sort ≤ 2) (own_attributes o (of_owner o cs)) x.rest (rw x.split s))
    (every_map (λ a. a.owner < o + suc (length ds)) (λ a. a.owner < suc o + length ds) x.rest (λ a l. omega arith)
    (every_right (λ a. a.owner < o + suc (length ds)) (own_attributes o (of_owner o cs)) x.rest (rw x.split b)))
    x.rises (λ k l. h k (omega arith) ∙ x.others k l))
    ∙ x.split

-- ---- the attributes of an owner
own_in : (n : Bytes) (o : ℕ) (cs : List FlatAttribute) → Memᴰ n (map attribute_name (of_owner o cs)) → (c : FlatAttribute) × Memᴰ c cs × (o ≡ c.owner) × (n ≡ c.name)
own_in n o [] m = absurd (Memᴰ.not-nil m)
own_in n o (a ∷ cs) m = by (eqb o a.owner) refl (own_in n o cs)
  where
    by : (c : Bool) → eqb o a.owner ≡ c → (Memᴰ n (map attribute_name (of_owner o cs)) → (c : FlatAttribute) × Memᴰ c cs × (o ≡ c.owner) × (n ≡ c.name))
        → (c : FlatAttribute) × Memᴰ c (a ∷ cs) × (o ≡ c.owner) × (n ≡ c.name)
    by true q f =
        let e : o ≡ a.owner = eqb-true o a.owner q in
        ⊎_elim (λ z. (a, Memᴰ.head refl, e, z)) (λ k. let (c, i, u, v) = f k in (c, Memᴰ.tail i, u, v)) (Memᴰ.cases_cons (rw (own_here o a cs e) at m))
    by false q f = let (c, i, u, v) = f (rw (own_past o a cs (eqb-false o a.owner q)) at m) in (c, Memᴰ.tail i, u, v)

clash : (a c : FlatAttribute) → a.owner ≡ c.owner → a.name ≡ c.name → clashes a c ≡ true
clash a c e f = and_both (eq-eqb a.owner c.owner e) (rw f (same_refl c.name))

pub own_apart : (o : ℕ) (cs : List FlatAttribute) → attributes_apart cs ≡ true → Distinct (map attribute_name (of_owner o cs))
unfolding attributes_apart
own_apart o [] h = tt
own_apart o (a ∷ cs) h =
    let (x, y) = and_split (not (any (clashes a) cs)) (attributes_apart cs) h in
    by ((not_test (any (clashes a) cs)).0 x) (eqb o a.owner) refl (own_apart o cs y)
  where
    by : (any (clashes a) cs ≡ true → ⊥) → (c : Bool) → eqb o a.owner ≡ c → Distinct (map attribute_name (of_owner o cs)) → Distinct (map attribute_name (of_owner o (a ∷ cs)))
    by n true q d =
        let e : o ≡ a.owner = eqb-true o a.owner q in
        rw (own_here o a cs e) (
          λ m.
              let (c, i, u, v) = own_in a.name o cs m in
              n ((any_test (clashes a) cs).1 (c, i, clash a c (sym e ∙ u) v)),
          d,
        )
    by n false q d = rw (own_past o a cs (eqb-false o a.owner q)) d

pub own_good : (w n o : ℕ) (cs : List FlatAttribute) → Every (AttributeFits w n) cs → Every (λ a. is_attribute_of w a ≡ true) (of_owner o cs)
own_good w n o [] h = tt
own_good w n o (a ∷ cs) h = by (eqb o a.owner) refl (own_good w n o cs h.1)
  where
    by : (c : Bool) → eqb o a.owner ≡ c → Every (λ a. is_attribute_of w a ≡ true) (of_owner o cs) → Every (λ a. is_attribute_of w a ≡ true) (of_owner o (a ∷ cs))
    by true q e = rw (own_here o a cs (eqb-true o a.owner q)) (and_both h.0.name (and_both h.0.value h.0.fill), e)
    by false q e = rw (own_past o a cs (eqb-false o a.owner q)) e

-- ---- what a form writes
pub own_owners : (o : ℕ) (table : List Attribute) (c : FlatAttribute) → Memᴰ c (own_attributes o table) → (c.owner ≡ o) × Memᴰ c.name (map attribute_name table)
own_owners o [] c m = absurd (Memᴰ.not-nil m)
own_owners o (a ∷ table) c m =
    ⊎_elim (λ e. (ap (λ (z : FlatAttribute). z.owner) e, Memᴰ.head (ap (λ (z : FlatAttribute). z.name) e)))
    (λ k. let (x, y) = own_owners o table c k in (x, Memᴰ.tail y)) (Memᴰ.cases_cons m)

pub all_owners : (o : ℕ) (fs : Form) (c : FlatAttribute) → Memᴰ c (all_attributes o fs) → (o ≤ c.owner) × (c.owner < o + length fs)
all_owners o [] c m = absurd (Memᴰ.not-nil m)
all_owners o (d ∷ fs) c m =
    ⊎_elim (λ k. let e : c.owner ≡ o = (own_owners o d.attributes c k).0 in (omega arith, omega arith))
    (λ k. let (x, y) = all_owners (suc o) fs c k in (omega arith, omega arith)) (Memᴰ.append_cases (own_attributes o d.attributes) m)

own_rise : (k o : ℕ) (table : List Attribute) (rest : List FlatAttribute) → k ≤ o → ((j : ℕ) → j ≤ suc o → owners_rise j rest ≡ true) → owners_rise k (own_attributes o table ++ rest) ≡ true
unfolding owners_rise
own_rise k o [] rest l h = h k (omega arith)
own_rise k o (a ∷ table) rest l h = and_both (le-leb k o l) (own_rise o o table rest (omega arith) h)

pub all_rise : (k o : ℕ) (fs : Form) → k ≤ o → owners_rise k (all_attributes o fs) ≡ true
unfolding owners_rise
all_rise k o [] l = refl
all_rise k o (d ∷ fs) l = own_rise k o d.attributes (all_attributes (suc o) fs) l (λ j m. all_rise j (suc o) fs m)

apart_own : (o : ℕ) (table : List Attribute) (rest : List FlatAttribute) → Distinct (map attribute_name table) → ((c : FlatAttribute) → Memᴰ c rest → o < c.owner) → attributes_apart rest ≡ true
    → attributes_apart (own_attributes o table ++ rest) ≡ true
unfolding attributes_apart
apart_own o [] rest d f h = h
apart_own o (a ∷ table) rest (out, d) f h = and_both ((not_test (any (clashes x) (own_attributes o table ++ rest))).1 none) (apart_own o table rest d f h)
  where
    x : FlatAttribute
    x = record { owner = o; name = a.name; sort = sort_code a.sort; value = a.value }

    none : any (clashes x) (own_attributes o table ++ rest) ≡ true → ⊥
    none e =
        let (c, m, q) = (any_test (clashes x) (own_attributes o table ++ rest)).0 e in
        let (u, v) = and_split (eqb o c.owner) (same a.name c.name) q in
        let e₁ : o ≡ c.owner = eqb-true o c.owner u in
        ⊎_elim (λ k. out (Memᴰ.cast (same_eq a.name c.name v) (own_owners o table c k).1)) (λ k. omega (arith, f c k)) (Memᴰ.append_cases (own_attributes o table) m)

pub all_apart : (o : ℕ) (fs : Form) → Every (λ d. Distinct (map attribute_name d.attributes)) fs → attributes_apart (all_attributes o fs) ≡ true
unfolding attributes_apart
all_apart o [] h = refl
all_apart o (d ∷ fs) h = apart_own o d.attributes (all_attributes (suc o) fs) h.0 (λ c m. omega (arith, (all_owners (suc o) fs c m).0)) (all_apart (suc o) fs h.1)

fits_own : (w n o : ℕ) (table : List Attribute) → o < n → Every (λ a. is_attribute_of w a ≡ true) table → Every (AttributeFits w n) (own_attributes o table)
fits_own w n o [] l h = tt
fits_own w n o (a ∷ table) l h =
    let (x, y) = and_split (stored_name a.name) _ h.0 in
    let (u, v) = and_split (is_value w a.value) (is_fill a.sort a.value) y in
    (record { owner = l; name = x; sort = sort_few a.sort; value = u; fill = ap (λ (s : AttributeSort). is_fill s a.value) (sort_code_lem a.sort) ∙ v }, fits_own w n o table l h.1)

pub all_fit : (w n o : ℕ) (fs : Form) → o + length fs ≤ n → Every (λ d. Every (λ a. is_attribute_of w a ≡ true) d.attributes) fs → Every (AttributeFits w n) (all_attributes o fs)
all_fit w n o [] l h = tt
all_fit w n o (d ∷ fs) l h =
    every_append (AttributeFits w n) (own_attributes o d.attributes) (all_attributes (suc o) fs) (fits_own w n o d.attributes (omega arith) h.0)
    (all_fit w n (suc o) fs (omega arith) h.1)
