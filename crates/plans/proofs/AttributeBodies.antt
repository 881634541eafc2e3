-- The bodies of a form after the attributes of one definition have changed.
use Prim.Native.Nat.{ℕ, zero, suc, ◌+◌, ◌≤◌, ◌<◌}
use native.Mathlib.Omega.{arith}
use mathlib.Core.Path.{◌≡◌, refl, sym, ap, ap₂, ◌∙◌}
use mathlib.Core.Logic.{⊎_elim}
use mathlib.Core.Bool.{Bool, true, false, false≢true}
use mathlib.Core.List.Memᴰ
use mathlib.Core.List.{List, [], ◌∷◌, ◌++◌, map, append_assoc, Memᴰ}
use lib.ListN.{length, length-append, take, drop}
use lib.Seq.{take_at, drop_at, get_or_at}
use borrow.Author.Tests.{le-leb, lt-leb}
use Rattle.rules.specs.Bytes.{Bytes, same, bytes}
use Rattle.rules.specs.Store.{Attribute, Definition, Form}
use Rattle.rules.specs.Preorder.{Deep}
use Rattle.rules.specs.Layout.{FlatDefinition, FlatParticle, FlatAttribute, index_in, sort_code}
use Rattle.rules.specs.Layout.{content_particles, flat_definition, all_particles, own_attributes, all_attributes}
use Rattle.rules.specs.WellFormed.{attribute_name}
use Rattle.rules.specs.Change.{definition_at, update, with_attributes, lacking}
use Rattle.rules.proofs.DecodeLaws.{length_own}
use Rattle.change_laws.proofs.FormLaws.{index_kept}
use Rattle.model_writer.proofs.FormAfter.{all_alike, definitions_alike}
use Rattle.store_check.specs.Reading.{no_attribute}
use Rattle.store_check.proofs.AttributeBlocks.{offset}
use Rattle.plans.specs.AttributeCalls.{attributes_to, owner_at}
use Rattle.plans.proofs.AttributeIndices.{index_here, index_there}
use Rattle.plans.proofs.AttributeShifts.{offset_first, offset_next}

-- ---- definitions and particles
module _ (e : List Attribute → List Attribute) where
  definitions_update : (new : Form) (o : ℕ) (ds : Form) → map (flat_definition new) (update o (with_attributes e) ds) ≡ map (flat_definition new) ds
  definitions_update new o [] = refl
  definitions_update new zero (d ∷ ds) = refl
  definitions_update new (suc o) (d ∷ ds) = ap (λ (z : List FlatDefinition). flat_definition new d ∷ z) (definitions_update new o ds)

  all_update : (new : Form) (o : ℕ) (ds : Form) → all_particles new (update o (with_attributes e) ds) ≡ all_particles new ds
  all_update new o [] = refl
  all_update new zero (d ∷ ds) = refl
  all_update new (suc o) (d ∷ ds) = ap (λ (z : List (Deep FlatParticle)). content_particles new d.content ++ z) (all_update new o ds)

  pub definitions_kept : (o : ℕ) (form : Form) → map (flat_definition (update o (with_attributes e) form)) (update o (with_attributes e) form) ≡ map (flat_definition form) form
  definitions_kept o form =
      definitions_update (update o (with_attributes e) form) o form
      ∙ definitions_alike (update o (with_attributes e) form) form (index_kept (with_attributes e) (λ d. refl) o form) form

  pub particles_kept : (o : ℕ) (form : Form) → all_particles (update o (with_attributes e) form) (update o (with_attributes e) form) ≡ all_particles form form
  particles_kept o form =
      all_update (update o (with_attributes e) form) o form
      ∙ all_alike (update o (with_attributes e) form) form (index_kept (with_attributes e) (λ d. refl) o form) form

-- ---- the attributes of definition o, which has number i, among all of definitions numbered from k on
record Among (o k i : ℕ) (form : Form) : Type 0 where
  front : List FlatAttribute
  back : List FlatAttribute
  sized : length front ≡ offset o form
  whole : all_attributes k form ≡ front ++ (own_attributes i (definition_at o form).attributes ++ back)
  changed : (e : List Attribute → List Attribute) → all_attributes k (update o (with_attributes e) form) ≡ front ++ (own_attributes i (e (definition_at o form).attributes) ++ back)

among_later : (d : Definition) (o k i : ℕ) (form : Form) → Among o (suc k) i form → Among (suc o) k i (d ∷ form)
among_later d o k i form x =
    record {
      front = own ++ x.front;
      back = x.back;
      sized = length-append own x.front ∙ ap₂ (λ (a b : ℕ). a + b) (length_own k d.attributes) x.sized;
      whole = ap (λ (z : List FlatAttribute). own ++ z) x.whole ∙ sym (append_assoc own x.front (own_attributes i (definition_at o form).attributes ++ x.back));
      changed = λ e. ap (λ (z : List FlatAttribute). own ++ z) (x.changed e) ∙ sym (append_assoc own x.front (own_attributes i (e (definition_at o form).attributes) ++ x.back));
    }
  where
    own : List FlatAttribute
    own = own_attributes k d.attributes

among : (o k i : ℕ) (form : Form) → i ≡ k + o → o < length form → Among o k i form
among o k i [] n l = absurd (omega arith)
among zero k i (d ∷ form) n l =
    let z : k ≡ i = omega arith in
    record {
      front = [];
      back = all_attributes (suc k) form;
      sized = refl;
      whole = ap (λ (j : ℕ). own_attributes j d.attributes ++ all_attributes (suc k) form) z;
      changed = λ e. ap (λ (j : ℕ). own_attributes j (e d.attributes) ++ all_attributes (suc k) form) z;
    }
among (suc o) k i (d ∷ form) n l = among_later d o k i form (among o (suc k) i form (omega arith) (omega arith))

-- ---- one added
abbrev flat_attribute : ℕ → Attribute → FlatAttribute
flat_attribute o a = record { owner = o; name = a.name; sort = sort_code a.sort; value = a.value }

own_added : (o : ℕ) (table : List Attribute) (a : Attribute) → own_attributes o (table ++ a ∷ []) ≡ own_attributes o table ++ flat_attribute o a ∷ []
own_added o [] a = refl
own_added o (b ∷ table) a = ap (λ (z : List FlatAttribute). flat_attribute o b ∷ z) (own_added o table a)

module _ {A : Type 0} where
  list_added : (xs ys zs : List A) (c : A) (a : ℕ) → length xs + length ys ≡ a → xs ++ ((ys ++ c ∷ []) ++ zs) ≡ take a (xs ++ (ys ++ zs)) ++ c ∷ drop a (xs ++ (ys ++ zs))
  list_added xs ys zs c a n =
      let z : length (xs ++ ys) ≡ a = length-append xs ys ∙ n in
      let w : xs ++ (ys ++ zs) ≡ (xs ++ ys) ++ zs = sym (append_assoc xs ys zs) in
      ap (λ (l : List A). xs ++ l) (append_assoc ys (c ∷ []) zs)
      ∙ sym (append_assoc xs ys (c ∷ zs))
      ∙ ap₂ (λ (u v : List A). u ++ c ∷ v) (sym (ap (take a) w ∙ take_at (xs ++ ys) zs a z)) (sym (ap (drop a) w ∙ drop_at (xs ++ ys) zs a z))

  list_cut : (xs ps qs zs : List A) (c : A) → xs ++ ((ps ++ c ∷ qs) ++ zs) ≡ (xs ++ ps) ++ c ∷ (qs ++ zs)
  list_cut xs ps qs zs c = ap (λ (l : List A). xs ++ l) (append_assoc ps (c ∷ qs) zs) ∙ sym (append_assoc xs ps (c ∷ (qs ++ zs)))

  list_dropped : (xs ps qs zs : List A) (c : A) (a : ℕ) → length xs + length ps ≡ a → xs ++ ((ps ++ qs) ++ zs) ≡ take a (xs ++ ((ps ++ c ∷ qs) ++ zs)) ++ drop (suc a) (xs ++ ((ps ++ c ∷ qs) ++ zs))
  list_dropped xs ps qs zs c a n =
      let w : xs ++ ((ps ++ c ∷ qs) ++ zs) ≡ (xs ++ ps) ++ c ∷ (qs ++ zs) = list_cut xs ps qs zs c in
      let z : length (xs ++ ps) ≡ a = length-append xs ps ∙ n in
      ap (λ (l : List A). xs ++ l) (append_assoc ps qs zs)
      ∙ sym (append_assoc xs ps (qs ++ zs))
      ∙ ap₂ (λ (u v : List A). u ++ v) (sym (ap (take a) w ∙ take_at (xs ++ ps) (c ∷ (qs ++ zs)) a z))
      (sym
      (ap (drop (suc a)) (w ∙ sym (append_assoc (xs ++ ps) (c ∷ []) (qs ++ zs)))
      ∙ drop_at ((xs ++ ps) ++ c ∷ []) (qs ++ zs) (suc a) (length-append (xs ++ ps) (c ∷ []) ∙ (let y : length (xs ++ ps) + 1 ≡ suc a = omega arith in y))))

pub attributes_added : (o : ℕ) (form : Form) (a : Attribute) → o < length form
    → take (offset (suc o) form) (all_attributes 0 form) ++ flat_attribute o a ∷ drop (offset (suc o) form) (all_attributes 0 form)
    ≡ all_attributes 0 (update o (with_attributes (λ table. table ++ a ∷ [])) form)
attributes_added o form a l =
    let x : Among o 0 o form = among o 0 o form (omega arith) l in
    let own : List FlatAttribute = own_attributes o (definition_at o form).attributes in
    let n : length x.front + length own ≡ offset (suc o) form = omega (arith, x.sized, length_own o (definition_at o form).attributes, offset_next o form) in
    sym
    (x.changed (λ table. table ++ a ∷ [])
    ∙ ap (λ (z : List FlatAttribute). x.front ++ (z ++ x.back)) (own_added o (definition_at o form).attributes a)
    ∙ list_added x.front own x.back (flat_attribute o a) (offset (suc o) form) n
    ∙ ap (λ (z : List FlatAttribute). take (offset (suc o) form) z ++ flat_attribute o a ∷ drop (offset (suc o) form) z) (sym x.whole))

-- ---- one left out
record Entry (n : Bytes) (o : ℕ) (table : List Attribute) : Type 0 where
  front : List FlatAttribute
  back : List FlatAttribute
  this : FlatAttribute
  owner : this.owner ≡ o
  sized : length front ≡ index_in n table
  whole : own_attributes o table ≡ front ++ this ∷ back
  left : own_attributes o (lacking n table) ≡ front ++ back

lacking_there : (n : Bytes) (a : Attribute) (table : List Attribute) → same n a.name ≡ false → lacking n (a ∷ table) ≡ a ∷ lacking n table
lacking_there n a table q = rw (q, lacking)

entry : (n : Bytes) (o : ℕ) (table : List Attribute) → Memᴰ n (map attribute_name table) → Entry n o table
entry n o [] m = absurd (Memᴰ.not-nil m)
entry n o (a ∷ table) m = by (same n a.name) refl (entry n o table)
  where
    by : (c : Bool) → same n a.name ≡ c → (Memᴰ n (map attribute_name table) → Entry n o table) → Entry n o (a ∷ table)
    by true q f = record { front = []; back = own_attributes o table; this = flat_attribute o a; owner = refl; sized = sym (index_here n a table q); whole = refl; left = rw (q, lacking) }
    by false q f =
        let x : Entry n o table = f (⊎_elim (λ e. absurd (false≢true (sym q ∙ bytes.same← n a.name e))) (λ i. i) (Memᴰ.cases_cons m)) in
        record {
          front = flat_attribute o a ∷ x.front;
          back = x.back;
          this = x.this;
          owner = x.owner;
          sized = ap suc x.sized ∙ sym (index_there n a table q);
          whole = ap (λ (z : List FlatAttribute). flat_attribute o a ∷ z) x.whole;
          left = ap (own_attributes o) (lacking_there n a table q) ∙ ap (λ (z : List FlatAttribute). flat_attribute o a ∷ z) x.left;
        }

module _ (o : ℕ) (form : Form) (l : o < length form) (n : Bytes) (there : Memᴰ n (map attribute_name (definition_at o form).attributes)) (a : ℕ)
    (at : a ≡ offset o form + index_in n (definition_at o form).attributes) where
  parts : Among o 0 o form
  parts = among o 0 o form (omega arith) l

  cut : Entry n o (definition_at o form).attributes
  cut = entry n o (definition_at o form).attributes there

  whole_cut : all_attributes 0 form ≡ parts.front ++ ((cut.front ++ cut.this ∷ cut.back) ++ parts.back)
  whole_cut = parts.whole ∙ ap (λ (z : List FlatAttribute). parts.front ++ (z ++ parts.back)) cut.whole

  cut_at : length parts.front + length cut.front ≡ a
  cut_at = omega (arith, parts.sized, cut.sized)

  pub attributes_dropped : take a (all_attributes 0 form) ++ drop (suc a) (all_attributes 0 form) ≡ all_attributes 0 (update o (with_attributes (lacking n)) form)
  attributes_dropped =
      sym
      (parts.changed (lacking n)
      ∙ ap (λ (z : List FlatAttribute). parts.front ++ (z ++ parts.back)) cut.left
      ∙ list_dropped parts.front cut.front cut.back parts.back cut.this a cut_at
      ∙ ap (λ (z : List FlatAttribute). take a z ++ drop (suc a) z) (sym whole_cut))

  pub owner_read : owner_at a (all_attributes 0 form) ≡ o
  owner_read =
      ap (owner_at a) (whole_cut ∙ list_cut parts.front cut.front cut.back parts.back cut.this)
      ∙ ap (λ (c : FlatAttribute). c.owner) (get_or_at (parts.front ++ cut.front) cut.this (cut.back ++ parts.back) no_attribute a (length-append parts.front cut.front ∙ cut_at))
      ∙ cut.owner

-- ---- the attributes up to a definition
to_own : (m o : ℕ) (table : List Attribute) (rest : List FlatAttribute) → o ≤ m → attributes_to m (own_attributes o table ++ rest) ≡ length table + attributes_to m rest
to_own m o [] rest l = omega arith
to_own m o (a ∷ table) rest l = rw (le-leb o m l, attributes_to) (omega (arith, to_own m o table rest l))

to_later : (m o : ℕ) (table : List Attribute) (rest : List FlatAttribute) → m < o → attributes_to m (own_attributes o table ++ rest) ≡ attributes_to m rest
to_later m o [] rest l = refl
to_later m o (a ∷ table) rest l = rw (lt-leb o m l, attributes_to) (to_later m o table rest l)

to_none : (m k : ℕ) (form : Form) → m < k → attributes_to m (all_attributes k form) ≡ 0
to_none m k [] l = refl
to_none m k (d ∷ form) l = to_later m k d.attributes (all_attributes (suc k) form) l ∙ to_none m (suc k) form (omega arith)

to_offset : (o k m : ℕ) (form : Form) → m ≡ k + o → attributes_to m (all_attributes k form) ≡ offset (suc o) form
to_offset o k m [] n = refl
to_offset zero k m (d ∷ form) n = to_own m k d.attributes (all_attributes (suc k) form) (omega arith) ∙ omega (arith, to_none m (suc k) form (omega arith), offset_first form)
to_offset (suc o) k m (d ∷ form) n = to_own m k d.attributes (all_attributes (suc k) form) (omega arith) ∙ ap (λ (i : ℕ). length d.attributes + i) (to_offset o (suc k) m form (omega arith))

pub attributes_to_lem : (o : ℕ) (form : Form) → attributes_to o (all_attributes 0 form) ≡ offset (suc o) form
attributes_to_lem o form = to_offset o 0 o form (omega arith)
