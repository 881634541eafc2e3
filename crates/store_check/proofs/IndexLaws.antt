-- Names by index: where names stand once, a name and its index say the same.
use Prim.Native.Nat.{ℕ, zero, suc, ◌<◌}
use native.Mathlib.Omega.{arith}
use mathlib.Core.Path.{◌≡◌, refl, ap, ◌∙◌, sym}
use mathlib.Core.Bool.{Bool, true, false, ◌&&◌, false≢true}
use mathlib.Core.Option.{some}
use mathlib.Core.List.Memᴰ
use mathlib.Core.List.{List, [], ◌∷◌, map, Memᴰ}
use lib.Dec.{eqb}
use lib.ListN.{length, length-map}
use borrow.Author.Tests.{eq-eqb, ne_eqb}
use Rattle.rules.specs.Bytes.{Bytes, same, bytes, same_eq, same_refl}
use Rattle.rules.specs.Model.{Distinct}
use Rattle.rules.specs.Store.{Definition, Form, RowSort, element, attribute, text, Row}
use Rattle.rules.specs.Layout.{index_of, row_code, row_index}
use Rattle.rules.specs.Decode.{name_at}
use Rattle.rules.specs.WellFormed.{definition_name, lookup, is_there, known}
use Rattle.rules.specs.Conforming.{is_element}
use Rattle.rules.specs.Lines.{element_named}
use Rattle.rules.specs.Change.{definition_at, name_at_index}
use Rattle.rules.proofs.Apart.{differs}

-- ---- lists whose entries stand once
pub distinct_map : {A B : Type 0} (f : A → B) (xs : List A) → ((x y : A) → Memᴰ x xs → Memᴰ y xs → f x ≡ f y → x ≡ y) → Distinct xs → Distinct (map f xs)
distinct_map f [] once d = tt
distinct_map f (x ∷ xs) once (out, d) = (
  λ m.
      let (y, k, e) = Memᴰ.of_map f xs m in
      out (Memᴰ.cast (sym (once y x (Memᴰ.tail k) (Memᴰ.head refl) e)) k),
  distinct_map f xs (λ a b i j. once a b (Memᴰ.tail i) (Memᴰ.tail j)) d,
)

pub distinct_unmap : {A B : Type 0} (f : A → B) (xs : List A) → Distinct (map f xs) → Distinct xs
distinct_unmap f [] d = tt
distinct_unmap f (x ∷ xs) (out, d) = (λ m. out (Memᴰ.map f m), distinct_unmap f xs d)

-- ---- names
pub name_in : (i : ℕ) (ns : List Bytes) → i < length ns → Memᴰ (name_at i ns) ns
name_in i [] h = absurd (omega arith)
name_in zero (n ∷ ns) h = Memᴰ.head refl
name_in (suc i) (n ∷ ns) h = Memᴰ.tail (name_in i ns (omega arith))

pub name_once : (ns : List Bytes) → Distinct ns → (i j : ℕ) → i < length ns → j < length ns → name_at i ns ≡ name_at j ns → i ≡ j
name_once [] d i j h g e = absurd (omega arith)
name_once (n ∷ ns) (out, d) zero zero h g e = refl
name_once (n ∷ ns) (out, d) zero (suc j) h g e = absurd (out (Memᴰ.cast e (name_in j ns (omega arith))))
name_once (n ∷ ns) (out, d) (suc i) zero h g e = absurd (out (Memᴰ.cast (sym e) (name_in i ns (omega arith))))
name_once (n ∷ ns) (out, d) (suc i) (suc j) h g e = ap suc (name_once ns d i j (omega arith) (omega arith) e)

-- ---- definitions
abbrev pub names_of : Form → List Bytes
names_of form = map definition_name form

-- a later name is not that of the first definition
pub later_name : (d : Definition) (ds : Form) → Distinct (names_of (d ∷ ds)) → (i : ℕ) → i < length ds → same (name_at i (names_of ds)) d.name ≡ false
later_name d ds (out, u) i h = differs bytes (name_at i (names_of ds)) d.name (λ e. out (Memᴰ.cast (sym e) (name_in i (names_of ds) (rw length-map h))))

pub index_name : (form : Form) → Distinct (names_of form) → (i : ℕ) → i < length form → index_of (name_at i (names_of form)) form ≡ i
index_name [] u i h = absurd (omega arith)
index_name (d ∷ ds) u zero h = rw (same_refl d.name, index_of)
index_name (d ∷ ds) u (suc i) h = rw (later_name d ds u i (omega arith), index_of) (ap suc (index_name ds u.1 i (omega arith)))

pub lookup_at : (form : Form) → Distinct (names_of form) → (i : ℕ) → i < length form → lookup (name_at i (names_of form)) form ≡ some (definition_at i form)
lookup_at [] u i h = absurd (omega arith)
lookup_at (d ∷ ds) u zero h = rw (same_refl d.name, lookup)
lookup_at (d ∷ ds) u (suc i) h = rw (later_name d ds u i (omega arith), lookup) (lookup_at ds u.1 i (omega arith))

pub known_at : (form : Form) → Distinct (names_of form) → (i : ℕ) → i < length form → known form (name_at i (names_of form)) ≡ true
known_at form u i h = ap is_there (lookup_at form u i h)

pub name_of_lem : (form : Form) (i : ℕ) → i < length form → name_at i (names_of form) ≡ (definition_at i form).name
name_of_lem [] i h = absurd (omega arith)
name_of_lem (d ∷ ds) zero h = refl
name_of_lem (d ∷ ds) (suc i) h = name_of_lem ds i (omega arith)

-- a known name, by its index
pub record Indexed (form : Form) (n : Bytes) : Type 0 where
  pub below : index_of n form < length form
  pub name : name_at (index_of n form) (names_of form) ≡ n
  pub found : lookup n form ≡ some (definition_at (index_of n form) form)

pub known_index : (form : Form) (n : Bytes) → known form n ≡ true → Indexed form n
known_index [] n h = absurd (false≢true h)
known_index (d ∷ ds) n h = by (same n d.name) refl (known_index ds n)
  where
    by : (c : Bool) → same n d.name ≡ c → (known ds n ≡ true → Indexed ds n) → Indexed (d ∷ ds) n
    by true q k = record { below = rw (q, index_of) (omega arith); name = rw (q, index_of) (sym (same_eq n d.name q)); found = rw (q, lookup, index_of) }
    by false q k =
        let x : Indexed ds n = k (rw (q, lookup) at h) in
        record { below = rw (q, index_of) (omega arith); name = rw (q, index_of) x.name; found = rw (q, lookup, index_of) x.found }

pub index_once : (form : Form) (n m : Bytes) → known form n ≡ true → known form m ≡ true → index_of n form ≡ index_of m form → n ≡ m
index_once form n m h g e = sym (known_index form n h).name ∙ ap (λ (i : ℕ). name_at i (names_of form)) e ∙ (known_index form m g).name

-- a name stands at its index
index_at : (n : Bytes) (form : Form) → index_of n form < length form → name_at_index (index_of n form) form ≡ n
index_at n [] l = absurd (omega arith)
index_at n (d ∷ form) l = by (same n d.name) refl (index_at n form)
  where
    by : (c : Bool) → same n d.name ≡ c → (index_of n form < length form → name_at_index (index_of n form) form ≡ n) → name_at_index (index_of n (d ∷ form)) (d ∷ form) ≡ n
    by true q f = rw (q, index_of) (sym (same_eq n d.name q))
    by false q f =
        let e : index_of n (d ∷ form) ≡ suc (index_of n form) = rw (q, index_of) in
        ap (λ (i : ℕ). name_at_index i (d ∷ form)) e ∙ f (omega arith)

-- of the definition with index i: the name is the one with that index
module _ (form : Form) (once : Distinct (names_of form)) (i : ℕ) (h : i < length form) where
  abbrev n : Bytes
  n = name_at_index i form

  pub name_index : index_of n form ≡ i
  name_index = ap (λ (m : Bytes). index_of m form) (sym (name_of_lem form i h)) ∙ index_name form once i h

  pub index_same : (m : Bytes) → eqb (index_of m form) i ≡ same n m
  index_same m = by (same n m) refl
    where
      by : (b : Bool) → same n m ≡ b → eqb (index_of m form) i ≡ b
      by true e = eq-eqb (index_of m form) i (ap (λ (x : Bytes). index_of x form) (sym (bytes.same→ n m e)) ∙ name_index)
      by false e =
          ne_eqb (index_of m form) i
          (λ z.
          let l : index_of m form < length form = omega arith in
          false≢true (sym e ∙ bytes.same← n m (ap (λ (j : ℕ). name_at_index j form) (sym z) ∙ index_at m form l)))

  -- an element of that definition, by index and by name
  pub element_test : (owner : Bytes) (r : Row) → (eqb (row_code r.sort) 1 && eqb (row_index form owner r) i) ≡ element_named (name_at_index i form) r
  element_test owner r = by r.sort refl
    where
      by : (t : RowSort) → r.sort ≡ t → (eqb (row_code r.sort) 1 && eqb (row_index form owner r) i) ≡ (is_element r.sort && same (name_at_index i form) r.name)
      by element q = rw q (index_same r.name)
      by attribute q = rw q
      by text q = rw q
