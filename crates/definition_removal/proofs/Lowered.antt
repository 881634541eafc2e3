-- Indices and bodies of a form that a definition is taken out of.
use Prim.Native.Nat.{ℕ, zero, suc, ◌+◌, ◌-◌, ◌<◌, ◌≤◌}
use native.Mathlib.Omega.{arith}
use native.Mathlib.Nat.{zero-add}
use mathlib.Core.Path.{◌≡◌, refl, sym, ap, ap₂, ◌∙◌}
use mathlib.Core.Bool.{Bool, true, false}
use mathlib.Core.List.{List, [], ◌∷◌, ◌++◌, map, map-append}
use lib.Dec.{leb}
use lib.ListN.{length, drop}
use lib.Seq.{drop-append_seam}
use borrow.Author.Tests.{le-leb, lt-leb, leb-true, leb-false, lt-ltb, le-ltb}
use Rattle.rules.specs.Bytes.{Bytes, same, bytes}
use Rattle.rules.specs.Store.{Attribute, Form}
use Rattle.rules.specs.Preorder.{Deep}
use Rattle.rules.specs.Layout.{FlatDefinition, FlatParticle, FlatAttribute, index_of, index_in, attribute_index, content_particles, flat_definition, all_particles, own_attributes, all_attributes, sort_code}
use Rattle.rules.specs.Change.{without, name_at_index}
use Rattle.rules.proofs.Apart.{differs}
use Rattle.rules.proofs.DecodeLaws.{length_own, own_bound}
use Rattle.definition_removal.specs.Bodies.{lowered, cut_out, particles_up_to, attributes_up_to, moved_attribute}

-- ---- numbers that fall
pub lowered_high : (from less x : ℕ) → from ≤ x → lowered from less x ≡ x - less
lowered_high from less x h = ap (λ (b : Bool). elim b as (λ z. ℕ) [ true ↦ x - less | false ↦ x ]) (le-leb from x h)

pub lowered_low : (from less x : ℕ) → x + less ≤ from → lowered from less x ≡ x
lowered_low from less x h = by (leb from x) refl
  where
    by : (b : Bool) → leb from x ≡ b → elim b as (λ z. ℕ) [ true ↦ x - less | false ↦ x ] ≡ x
    by true e = omega (arith, leb-true from x e)
    by false e = refl

pub lowered_past : (a from less x : ℕ) → less ≤ from → a + lowered from less x ≡ lowered (a + from) less (a + x)
lowered_past a from less x h = by (leb from x) refl
  where
    by : (b : Bool) → leb from x ≡ b → a + elim b as (λ z. ℕ) [ true ↦ x - less | false ↦ x ] ≡ lowered (a + from) less (a + x)
    by true e = omega (arith, leb-true from x e, lowered_high (a + from) less (a + x) (omega (arith, leb-true from x e)))
    by false e = sym (ap (λ (b : Bool). elim b as (λ z. ℕ) [ true ↦ a + x - less | false ↦ a + x ]) (lt-leb (a + from) (a + x) (omega (arith, leb-false from x e))))

-- ---- the entries left
pub cut_first : {A : Type 0} (xs ys : List A) → cut_out 0 (length xs) (xs ++ ys) ≡ ys
unfolding cut_out
cut_first xs ys = ap (λ (k : ℕ). drop k (xs ++ ys)) (zero-add (length xs)) ∙ drop-append_seam xs ys

pub cut_later : {A : Type 0} (xs ys : List A) (a n : ℕ) → cut_out (length xs + a) n (xs ++ ys) ≡ xs ++ cut_out a n ys
unfolding cut_out
cut_later [] ys a n = rw zero-add refl
cut_later (x ∷ xs) ys a n =
    let e : suc (length xs) + a ≡ suc (length xs + a) = omega arith in
    let e' : suc (length xs + a) + n ≡ suc (length xs + a + n) = omega arith in
    rw (e, e') (ap (λ (l : List _). x ∷ l) (cut_later xs ys a n))

pub without_cut : {A : Type 0} (i : ℕ) (xs : List A) → without i xs ≡ cut_out i 1 xs
unfolding cut_out
without_cut zero [] = refl
without_cut zero (x ∷ xs) = refl
without_cut (suc i) [] = let e : suc i + 1 ≡ suc (i + 1) = omega arith in rw e refl
without_cut (suc i) (x ∷ xs) = let e : suc i + 1 ≡ suc (i + 1) = omega arith in rw e (ap (λ (l : List _). x ∷ l) (without_cut i xs))

pub map_without : {A B : Type 0} (f : A → B) (i : ℕ) (xs : List A) → map f (without i xs) ≡ without i (map f xs)
map_without f i [] = refl
map_without f zero (x ∷ xs) = refl
map_without f (suc i) (x ∷ xs) = ap (λ (l : List _). f x ∷ l) (map_without f i xs)

-- ---- definitions
pub index_lowered : (m : Bytes) (i : ℕ) (form : Form) → i < length form → (m ≡ name_at_index i form → ⊥) → index_of m (without i form) ≡ lowered (suc i) 1 (index_of m form)
index_lowered m i [] h o = absurd (omega arith)
index_lowered m zero (d ∷ form) h o =
    let e : index_of m (d ∷ form) ≡ suc (index_of m form) = rw (differs bytes m d.name o, index_of) refl in
    let e' : lowered 1 1 (suc (index_of m form)) ≡ index_of m form = omega (arith, lowered_high 1 1 (suc (index_of m form)) (omega arith)) in
    sym (ap (lowered 1 1) e ∙ e')
index_lowered m (suc i) (d ∷ form) h o = by (same m d.name) refl (index_lowered m i form (omega arith) o)
  where
    by : (b : Bool) → same m d.name ≡ b → index_of m (without i form) ≡ lowered (suc i) 1 (index_of m form) → index_of m (d ∷ without i form) ≡ lowered (suc (suc i)) 1 (index_of m (d ∷ form))
    by true e k = rw (e, index_of) (sym (lowered_low (suc (suc i)) 1 0 (omega arith)))
    by false e k = rw (e, index_of) (ap suc k ∙ shift)
      where
        shift : suc (lowered (suc i) 1 (index_of m form)) ≡ lowered (suc (suc i)) 1 (suc (index_of m form))
        shift =
            let e₁ : 1 + lowered (suc i) 1 (index_of m form) ≡ suc (lowered (suc i) 1 (index_of m form)) = omega arith in
            let e₂ : 1 + suc i ≡ suc (suc i) = omega arith in
            let e₃ : 1 + index_of m form ≡ suc (index_of m form) = omega arith in
            sym e₁ ∙ lowered_past 1 (suc i) 1 (index_of m form) (omega arith) ∙ ap₂ (λ (f x : ℕ). lowered f 1 x) e₂ e₃

-- ---- models
module _ (F : Form) where
  abbrev records : Form → List FlatDefinition
  records ds = map (flat_definition F) ds

  pub particles_cut : (i : ℕ) (ds : Form) → i < length ds
      → all_particles F (without i ds) ≡ cut_out (particles_up_to i (records ds)) (particles_up_to (suc i) (records ds) - particles_up_to i (records ds)) (all_particles F ds)
  unfolding particles_up_to
  particles_cut i [] h = absurd (omega arith)
  particles_cut zero (d ∷ ds) h =
      let e : length (content_particles F d.content) ≡ length (content_particles F d.content) + 0 - 0 = omega arith in
      sym (ap (λ (k : ℕ). cut_out 0 k (content_particles F d.content ++ all_particles F ds)) (sym e) ∙ cut_first (content_particles F d.content) (all_particles F ds))
  particles_cut (suc i) (d ∷ ds) h =
      let n : ℕ = length (content_particles F d.content) in
      let e : particles_up_to (suc i) (records ds) - particles_up_to i (records ds) ≡ n + particles_up_to (suc i) (records ds) - (n + particles_up_to i (records ds)) = omega arith in
      ap (λ (l : List (Deep FlatParticle)). content_particles F d.content ++ l) (particles_cut i ds (omega arith))
      ∙ sym (cut_later (content_particles F d.content) (all_particles F ds) (particles_up_to i (records ds)) (particles_up_to (suc i) (records ds) - particles_up_to i (records ds)))
      ∙ ap (λ (k : ℕ). cut_out (n + particles_up_to i (records ds)) k (content_particles F d.content ++ all_particles F ds)) e

-- ---- attributes
-- how many the first i definitions have
unfoldable owned_before : ℕ → Form → ℕ
owned_before zero ds = 0
owned_before (suc i) [] = 0
owned_before (suc i) (d ∷ ds) = length d.attributes + owned_before i ds

below_append : (i : ℕ) (xs ys : List FlatAttribute) → attributes_up_to i (xs ++ ys) ≡ attributes_up_to i xs + attributes_up_to i ys
unfolding attributes_up_to
below_append i [] ys = sym (zero-add (attributes_up_to i ys))
below_append i (x ∷ xs) ys = omega (arith, below_append i xs ys)

below_own : (i o : ℕ) (xs : List Attribute) → o < i → attributes_up_to i (own_attributes o xs) ≡ length xs
unfolding attributes_up_to
below_own i o [] h = refl
below_own i o (x ∷ xs) h = ap₂ (λ (b : Bool) (k : ℕ). elim b as (λ z. ℕ) [ true ↦ 1 | false ↦ 0 ] + k) (lt-ltb o i h) (below_own i o xs h) ∙ omega arith

above_own : (i o : ℕ) (xs : List Attribute) → i ≤ o → attributes_up_to i (own_attributes o xs) ≡ 0
unfolding attributes_up_to
above_own i o [] h = refl
above_own i o (x ∷ xs) h = ap₂ (λ (b : Bool) (k : ℕ). elim b as (λ z. ℕ) [ true ↦ 1 | false ↦ 0 ] + k) (le-ltb o i h) (above_own i o xs h)

above_all : (i o : ℕ) (ds : Form) → i ≤ o → attributes_up_to i (all_attributes o ds) ≡ 0
unfolding attributes_up_to
above_all i o [] h = refl
above_all i o (d ∷ ds) h =
    below_append i (own_attributes o d.attributes) (all_attributes (suc o) ds)
    ∙ ap₂ (λ (x y : ℕ). x + y) (above_own i o d.attributes h) (above_all i (suc o) ds (omega arith))

owned_count : (i o : ℕ) (ds : Form) → attributes_up_to (o + i) (all_attributes o ds) ≡ owned_before i ds
unfolding owned_before attributes_up_to
owned_count zero o ds = above_all (o + 0) o ds (omega arith)
owned_count (suc i) o [] = refl
owned_count (suc i) o (d ∷ ds) =
    let e : o + suc i ≡ suc o + i = omega arith in
    below_append (o + suc i) (own_attributes o d.attributes) (all_attributes (suc o) ds)
    ∙ ap₂ (λ (x y : ℕ). x + y) (below_own (o + suc i) o d.attributes (omega arith)) (ap (λ (k : ℕ). attributes_up_to k (all_attributes (suc o) ds)) e ∙ owned_count i (suc o) ds)

attributes_count : (i : ℕ) (ds : Form) → attributes_up_to i (all_attributes 0 ds) ≡ owned_before i ds
attributes_count i ds = let e : i ≡ 0 + i = omega arith in ap (λ (k : ℕ). attributes_up_to k (all_attributes 0 ds)) e ∙ owned_count i 0 ds

owned_step : (i : ℕ) (ds : Form) → owned_before i ds ≤ owned_before (suc i) ds
unfolding owned_before
owned_step zero [] = omega arith
owned_step zero (d ∷ ds) = omega arith
owned_step (suc i) [] = omega arith
owned_step (suc i) (d ∷ ds) = omega (arith, owned_step i ds)

attribute_lowered : (o m : Bytes) (i : ℕ) (form : Form) → i < length form → (o ≡ name_at_index i form → ⊥)
    → attribute_index o m (without i form) ≡ lowered (owned_before (suc i) form) (owned_before (suc i) form - owned_before i form) (attribute_index o m form)
unfolding owned_before
attribute_lowered o m i [] h k = absurd (omega arith)
attribute_lowered o m zero (d ∷ form) h k =
    let n : ℕ = length d.attributes in
    let e : attribute_index o m (d ∷ form) ≡ n + attribute_index o m form = rw (differs bytes o d.name k, attribute_index) refl in
    let e' : lowered (n + 0) (n + 0 - 0) (n + attribute_index o m form) ≡ attribute_index o m form = omega (arith, lowered_high (n + 0) (n + 0 - 0) (n + attribute_index o m form) (omega arith)) in
    sym (ap (lowered (n + 0) (n + 0 - 0)) e ∙ e')
attribute_lowered o m (suc i) (d ∷ form) h k = by (same o d.name) refl (attribute_lowered o m i form (omega arith) k)
  where
    n : ℕ
    n = length d.attributes

    a : ℕ
    a = owned_before i form

    b : ℕ
    b = owned_before (suc i) form

    by : (c : Bool) → same o d.name ≡ c → attribute_index o m (without i form) ≡ lowered b (b - a) (attribute_index o m form)
        → attribute_index o m (d ∷ without i form) ≡ lowered (n + b) (n + b - (n + a)) (attribute_index o m (d ∷ form))
    by true e f = rw (e, attribute_index) (sym (lowered_low (n + b) (n + b - (n + a)) (index_in m d.attributes) (omega (arith, own_bound m d.attributes, owned_step i form))))
    by false e f =
        let z : b - a ≡ n + b - (n + a) = omega arith in
        rw (e, attribute_index) (ap (λ (x : ℕ). n + x) f ∙ lowered_past n b (b - a) (attribute_index o m form) (omega arith) ∙ ap (λ (x : ℕ). lowered (n + b) x (n + attribute_index o m form)) z)

pub attributes_lowered : (o m : Bytes) (i : ℕ) (form : Form) → i < length form → (o ≡ name_at_index i form → ⊥)
    → attribute_index o m (without i form)
    ≡ lowered (attributes_up_to (suc i) (all_attributes 0 form)) (attributes_up_to (suc i) (all_attributes 0 form) - attributes_up_to i (all_attributes 0 form))
    (attribute_index o m form)
attributes_lowered o m i form h k =
    attribute_lowered o m i form h k ∙ ap₂ (λ (b a : ℕ). lowered b (b - a) (attribute_index o m form)) (sym (attributes_count (suc i) form)) (sym (attributes_count i form))

-- the owners' numbers
own_stays : (i o : ℕ) (xs : List Attribute) → o ≤ i → map (moved_attribute (lowered (suc i) 1)) (own_attributes o xs) ≡ own_attributes o xs
unfolding moved_attribute
own_stays i o [] h = refl
own_stays i o (x ∷ xs) h =
    ap₂ (λ (j : ℕ) (l : List FlatAttribute). record { owner = j; name = x.name; sort = sort_code x.sort; value = x.value } ∷ l) (lowered_low (suc i) 1 o (omega arith)) (own_stays i o xs h)

own_falls : (i o : ℕ) (xs : List Attribute) → i ≤ o → map (moved_attribute (lowered (suc i) 1)) (own_attributes (suc o) xs) ≡ own_attributes o xs
unfolding moved_attribute
own_falls i o [] h = refl
own_falls i o (x ∷ xs) h =
    let e : lowered (suc i) 1 (suc o) ≡ o = omega (arith, lowered_high (suc i) 1 (suc o) (omega arith)) in
    ap₂ (λ (j : ℕ) (l : List FlatAttribute). record { owner = j; name = x.name; sort = sort_code x.sort; value = x.value } ∷ l) e (own_falls i o xs h)

all_fall : (i o : ℕ) (ds : Form) → i ≤ o → map (moved_attribute (lowered (suc i) 1)) (all_attributes (suc o) ds) ≡ all_attributes o ds
all_fall i o [] h = refl
all_fall i o (d ∷ ds) h =
    map-append (moved_attribute (lowered (suc i) 1)) (own_attributes (suc o) d.attributes) (all_attributes (suc (suc o)) ds)
    ∙ ap₂ (λ (x y : List FlatAttribute). x ++ y) (own_falls i o d.attributes h) (all_fall i (suc o) ds (omega arith))

owners_fall : (i o : ℕ) (ds : Form) → i < length ds
    → all_attributes o (without i ds)
    ≡ map (moved_attribute (lowered (suc (o + i)) 1)) (cut_out (owned_before i ds) (owned_before (suc i) ds - owned_before i ds) (all_attributes o ds))
unfolding owned_before
owners_fall i o [] h = absurd (omega arith)
owners_fall zero o (d ∷ ds) h =
    let e : length (own_attributes o d.attributes) ≡ length d.attributes + 0 - 0 = omega (arith, length_own o d.attributes) in
    sym (ap (λ (k : ℕ). map (moved_attribute (lowered (suc (o + 0)) 1)) (cut_out 0 k (own_attributes o d.attributes ++ all_attributes (suc o) ds))) (sym e)
    ∙ ap (map (moved_attribute (lowered (suc (o + 0)) 1))) (cut_first (own_attributes o d.attributes) (all_attributes (suc o) ds))
    ∙ all_fall (o + 0) o ds (omega arith))
owners_fall (suc i) o (d ∷ ds) h =
    let own : List FlatAttribute = own_attributes o d.attributes in
    let n : ℕ = length d.attributes in
    let a : ℕ = owned_before i ds in
    let b : ℕ = owned_before (suc i) ds in
    let m : FlatAttribute → FlatAttribute = moved_attribute (lowered (suc (o + suc i)) 1) in
    let e : suc (suc o + i) ≡ suc (o + suc i) = omega arith in
    let z : b - a ≡ n + b - (n + a) = omega arith in
    ap₂ (λ (x y : List FlatAttribute). x ++ y) (sym (own_stays (o + suc i) o d.attributes (omega arith)))
    (owners_fall i (suc o) ds (omega arith) ∙ ap (λ (k : ℕ). map (moved_attribute (lowered k 1)) (cut_out a (b - a) (all_attributes (suc o) ds))) e)
    ∙ sym (map-append m own (cut_out a (b - a) (all_attributes (suc o) ds)))
    ∙ ap (map m)
    (sym (cut_later own (all_attributes (suc o) ds) a (b - a)) ∙ ap₂ (λ (x y : ℕ). cut_out (x + a) y (own ++ all_attributes (suc o) ds)) (length_own o d.attributes) z)

pub attributes_cut : (i : ℕ) (ds : Form) → i < length ds
    → all_attributes 0 (without i ds)
    ≡ map (moved_attribute (lowered (suc i) 1))
    (cut_out (attributes_up_to i (all_attributes 0 ds)) (attributes_up_to (suc i) (all_attributes 0 ds) - attributes_up_to i (all_attributes 0 ds)) (all_attributes 0 ds))
attributes_cut i ds h =
    let e : suc (0 + i) ≡ suc i = omega arith in
    owners_fall i 0 ds h
    ∙ ap (λ (k : ℕ). map (moved_attribute (lowered k 1)) (cut_out (owned_before i ds) (owned_before (suc i) ds - owned_before i ds) (all_attributes 0 ds))) e
    ∙ ap₂ (λ (a b : ℕ). map (moved_attribute (lowered (suc i) 1)) (cut_out a (b - a) (all_attributes 0 ds))) (sym (attributes_count i ds)) (sym (attributes_count (suc i) ds))
