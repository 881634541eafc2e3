-- Heights of definitions as indices are those of the form, by name; a form whose heights fit has no circle.
use Prim.Native.Nat.{ℕ, zero, suc, ◌+◌, ◌<◌}
use native.Mathlib.Omega.{arith}
use native.Mathlib.Nat.{not-suc-le-zero, le_of_suc-le-suc}
use mathlib.Core.Path.{◌≡◌, refl, ap, ap₂, ◌∙◌, sym, subst}
use mathlib.Core.Logic.{◌↔◌}
use mathlib.Core.Bool.{Bool, true, false, ◌&&◌, false≢true}
use mathlib.Core.Option.{Option, none, some}
use mathlib.Core.List.Memᴰ
use mathlib.Core.List.{List, [], ◌∷◌, map, Memᴰ}
use lib.ListN.{length}
use borrow.Author.Tests.{lt-ltb}
use Rattle.rules.specs.Bytes.{Bytes, same, same_eq, all}
use Rattle.rules.specs.Model.{names, Distinct}
use Rattle.rules.specs.Store.{Definition, Form, members}
use Rattle.rules.specs.Decode.{name_at}
use Rattle.rules.specs.WellFormed.{definition_name, lookup, is_there, known, names_in, members_of, Reaches}
use Rattle.rules.proofs.Height.{deep, member_known, height}
use Rattle.rules.proofs.WellFormedLaws.{lookup_here, lookup_there}
use Rattle.rules.proofs.BooleanLaws.{all_map}
use Rattle.circle_check.specs.Deep.{deep_index}
use Rattle.circle_check.proofs.RoundLaws.{deep_index_member, deep_index_known}

-- ---- what the heights say
-- chains that end lead to no index that is not a definition's
pub fit_within : (n : ℕ) (indices : ℕ → List ℕ) → ((i : ℕ) → i < n → deep_index indices n n i ≡ true) → (i : ℕ) → i < n → (j : ℕ) → Memᴰ j (indices i) → j < n
fit_within zero indices f i l j m = absurd (not-suc-le-zero l)
fit_within (suc n) indices f i l j m = deep_index_known indices (suc n) n j (deep_index_member indices (suc n) n (f i l) m)

-- ---- a form by indices
-- of definitions numbered from i on: the names in each model are those of its members' indices
abbrev pub Models : List Bytes → (ℕ → List ℕ) → ℕ → Form → Type 0
Models ns indices i [] = Unit {0}
Models ns indices i (d ∷ ds) = (names (members d) ≡ map (λ j. name_at j ns) (indices i)) × Models ns indices (suc i) ds

pub record Indexed (indices : ℕ → List ℕ) (form : Form) : Type 0 where
  pub once : Distinct (map definition_name form)
  pub within : (i : ℕ) → i < length form → (j : ℕ) → Memᴰ j (indices i) → j < length form
  pub models : Models (map definition_name form) indices 0 form

name_member : (i : ℕ) (form : Form) → i < length form → Memᴰ (name_at i (map definition_name form)) (map definition_name form)
name_member i [] l = absurd (not-suc-le-zero l)
name_member zero (d ∷ form) l = Memᴰ.head refl
name_member (suc i) (d ∷ form) l = Memᴰ.tail (name_member i form (le_of_suc-le-suc l))

module _ (ns : List Bytes) (indices : ℕ → List ℕ) where
  -- the definition with an index is the one that its name finds
  at_name : (o : ℕ) (form : Form) → Distinct (map definition_name form) → Models ns indices o form → (i : ℕ) → i < length form
      → (d : Definition) × (lookup (name_at i (map definition_name form)) form ≡ some d) × (names (members d) ≡ map (λ j. name_at j ns) (indices (o + i)))
  at_name o [] once ms i l = absurd (not-suc-le-zero l)
  at_name o (c ∷ form) (fresh, once) (m, ms) zero l = (c, lookup_here c.name c form refl, m ∙ ap (λ (k : ℕ). map (λ j. name_at j ns) (indices k)) (let e : o ≡ o + 0 = omega arith in e))
  at_name o (c ∷ form) (fresh, once) (m, ms) (suc i) l =
      let k : i < length form = le_of_suc-le-suc l in
      let (d, e, q) = at_name (suc o) form once ms i k in (
        d,
        lookup_there (name_at i (map definition_name form)) c form (λ z. fresh (rw (sym z) (name_member i form k))) ∙ e,
        q ∙ ap (λ (x : ℕ). map (λ j. name_at j ns) (indices x)) (let e : suc o + i ≡ o + suc i = omega arith in e),
      )

-- a name that is known has an index
known_index : (form : Form) (n : Bytes) → known form n ≡ true → (i : ℕ) × (i < length form) × (name_at i (map definition_name form) ≡ n)
known_index [] n k = absurd (false≢true k)
known_index (d ∷ form) n k = by (same n d.name) refl (known_index form n)
  where
    by : (b : Bool) → same n d.name ≡ b → (known form n ≡ true → (i : ℕ) × (i < length form) × (name_at i (map definition_name form) ≡ n))
        → (i : ℕ) × (i < suc (length form)) × (name_at i (d.name ∷ map definition_name form) ≡ n)
    by true e f = (0, omega arith, sym (same_eq n d.name e))
    by false e f =
        let (i, l, q) = f (sym (ap (λ (b : Bool). is_there {A = Definition} (elim b [ true ↦ some d | false ↦ lookup n form ])) e) ∙ k) in
        (suc i, omega arith, q)

all_alike : {A : Type 0} (p q : A → Bool) (xs : List A) → ((x : A) → Memᴰ x xs → p x ≡ q x) → all p xs ≡ all q xs
all_alike p q [] h = refl
all_alike p q (x ∷ xs) h = ap₂ (λ (a b : Bool). a && b) (h x (Memᴰ.head refl)) (all_alike p q xs (λ y m. h y (Memᴰ.tail m)))

module _ {indices : ℕ → List ℕ} {form : Form} (w : Indexed indices form) where
  abbrev name_of : ℕ → Bytes
  name_of i = name_at i (map definition_name form)

  found : (i : ℕ) → i < length form → (d : Definition) × (lookup (name_of i) form ≡ some d) × (names (members d) ≡ map name_of (indices i))
  found i l =
      let (d, e, q) = at_name (map definition_name form) indices 0 form w.once w.models i l in
      (d, e, q ∙ ap (λ (k : ℕ). map name_of (indices k)) (let z : 0 + i ≡ i = omega arith in z))

  -- the names in a model are those of its members' indices
  pub members_named : (i : ℕ) → i < length form → members_of (name_at i (map definition_name form)) form ≡ map (λ j. name_at j (map definition_name form)) (indices i)
  members_named i l = let (d, e, q) = found i l in ap names_in e ∙ q

  -- the heights of indices are those of names
  pub deep_index_is : (h i : ℕ) → i < length form → deep_index indices (length form) h i ≡ deep h form (name_at i (map definition_name form))
  unfolding deep_index deep
  deep_index_is zero i l = refl
  deep_index_is (suc h) i l =
      let (d, e, q) = found i l in
      ap (λ (b : Bool). b && all (λ j. deep_index indices (length form) h j) (indices i)) (lt-ltb i (length form) l)
      ∙ all_alike (λ j. deep_index indices (length form) h j) (λ j. deep h form (name_of j)) (indices i) (λ j m. deep_index_is h j (w.within i l j m))
      ∙ sym (all_map (λ x. deep h form x) name_of (indices i))
      ∙ ap (λ (xs : List Bytes). all (λ x. deep h form x) xs) (sym q)
      ∙ ap (λ (o : Option Definition). elim o [ none ↦ false | some d ↦ all (λ m. deep h form m) (names (members d)) ]) (sym e)

  index_known : (i : ℕ) → i < length form → known form (name_of i) ≡ true
  index_known i l = let (d, e, q) = found i l in ap is_there e

  -- models name definitions
  pub names_known : (n m : Bytes) → Memᴰ m (members_of n form) → known form m ≡ true
  names_known n m k =
      let (i, l, e) = known_index form n (member_known form n m k) in
      let (d, f, q) = found i l in
      let g : members_of n form ≡ map name_of (indices i) = ap (λ (x : Bytes). members_of x form) (sym e) ∙ ap names_in f ∙ q in
      let (j, u, v) = Memᴰ.of_map name_of (indices i) (subst (λ (xs : List Bytes). Memᴰ m xs) g k) in
      ap (known form) (sym v) ∙ index_known j (w.within i l j u)

  -- all chains of members end just where no definition reaches itself
  pub fit_acyclic : ((i : ℕ) → i < length form → deep_index indices (length form) (length form) i ≡ true) ↔ ((n : Bytes) → Reaches form n n → ⊥)
  fit_acyclic = (
    λ f. (height form names_known).1 (λ n k. let (i, l, e) = known_index form n k in ap (deep (length form) form) (sym e) ∙ sym (deep_index_is (length form) i l) ∙ f i l),
    λ a i l. deep_index_is (length form) i l ∙ (height form names_known).0 a (name_of i) (index_known i l),
  )
