-- The conditions of changes 9 and 10, by what the code tests.
use Prim.Native.Nat.{ℕ, zero, suc, ◌+◌, ◌-◌, ◌<◌, ◌≤◌}
use native.Mathlib.Omega.{arith}
use borrow.Author.Tests.{lt-ltb, le-ltb, eq-eqb, ne_eqb}
use mathlib.Core.Path.{◌≡◌, refl, sym, ap, ap₂, ◌∙◌}
use mathlib.Core.Logic.{◌⊎◌, inl, inr}
use mathlib.Core.Bool.{Bool, true, false, ◌&&◌, ◌||◌, not, false≢true, or-false}
use mathlib.Core.Option.{Option, none, some}
use mathlib.Core.List.{List, [], ◌∷◌, map}
use lib.Dec.{eqb, ltb}
use lib.ListN.{length, length-append}
use Rattle.rules.specs.declared.AttributeSort.{AttributeSort}
use Rattle.rules.specs.declared.AttributeSort.TheVariants.{Implied, Required, Fixed}
use Rattle.rules.specs.Bytes.{Bytes, same, bytes, any, is_none}
use Rattle.rules.specs.Model.{member}
use Rattle.rules.specs.Store.{Attribute, Form}
use Rattle.rules.specs.Layout.{attribute_size, FlatStore, own_attributes, all_attributes, sort_code}
use Rattle.rules.specs.Decode.{read_attribute, read_many, attribute_count, sort_of}
use Rattle.rules.specs.WellFormed.{attribute_name, is_there, given_name, is_fill}
use Rattle.rules.specs.Change.{add_attribute, destroy_attribute, Owned, entry_at, attribute_at, definition_at}
use Rattle.rules.specs.Refusal.{conditions, bad_text, is_other, wrong_default}
use Rattle.lookup.specs.Bodies.{bodies_of}
use Rattle.layout.specs.Bodies.{WidthIn, Number, attributes_in}
use Rattle.layout.proofs.LayoutLaws.{attributes_read}
use Rattle.rules.proofs.BooleanLaws.{any_append}
use Rattle.rules.proofs.DecodeLaws.{length_own}
use Rattle.rules.proofs.Words.{below_or}
use Rattle.store_laws.specs.Stores.{store_in}
use Rattle.store_check.proofs.AttributeReads.{sort_back}
use Rattle.store_check.proofs.StoreFacts.{form_in, Whole}
use Rattle.change_laws.specs.FirstCondition.{Gives}
use Rattle.change_laws.proofs.FirstCondition.{gives_hit, gives_next, gives_none}
use Rattle.attribute_refusals.specs.OwnAttributes.{own_named}

-- ---- attributes of a form
entry_in : (i : ℕ) (table : List Attribute) → is_there (entry_at i table) ≡ true → i < length table
entry_in i [] e = absurd (false≢true e)
entry_in zero (a ∷ table) e = omega arith
entry_in (suc i) (a ∷ table) e = let l : i < length table = entry_in i table e in omega arith

entry_out : (i : ℕ) (table : List Attribute) → is_there (entry_at i table) ≡ false → length table ≤ i
entry_out i [] e = omega arith
entry_out zero (a ∷ table) e = absurd (false≢true (sym e))
entry_out (suc i) (a ∷ table) e = let l : length table ≤ i = entry_out i table e in omega arith

moved : (i own rest all : ℕ) → all ≡ own + rest → own ≤ i → ltb i all ≡ ltb (i - own) rest
moved i own rest all e l = by (below_or i all)
  where
    by : (i < all) ⊎ (all ≤ i) → ltb i all ≡ ltb (i - own) rest
    by (inl h) = lt-ltb i all h ∙ sym (lt-ltb (i - own) rest (omega arith))
    by (inr h) = le-ltb i all h ∙ sym (le-ltb (i - own) rest (omega arith))

other_is : (k : ℕ) (form : Form) (i : ℕ) → is_other (attribute_at i form) none ≡ not (ltb i (length (all_attributes k form)))
unfolding attribute_at
other_is k [] i = sym (ap not (le-ltb i 0 (omega arith)))
other_is k (d ∷ ds) i = by (entry_at i d.attributes) refl (other_is (suc k) ds (i - length d.attributes))
  where
    all_is : length (all_attributes k (d ∷ ds)) ≡ length d.attributes + length (all_attributes (suc k) ds)
    all_is = length-append (own_attributes k d.attributes) (all_attributes (suc k) ds) ∙ ap (λ (z : ℕ). z + length (all_attributes (suc k) ds)) (length_own k d.attributes)

    by : (o : Option Attribute) → entry_at i d.attributes ≡ o
        → is_other (attribute_at (i - length d.attributes) ds) none ≡ not (ltb (i - length d.attributes) (length (all_attributes (suc k) ds)))
        → is_other (attribute_at i (d ∷ ds)) none ≡ not (ltb i (length (all_attributes k (d ∷ ds))))
    by (some a) e ih =
        let l : i < length d.attributes = entry_in i d.attributes (ap is_there e) in
        ap (λ (z : Option Attribute). is_other (elim z as (λ x. Option Owned) [ some a ↦ some (record { owner = d; attribute = a }) | none ↦ attribute_at (i - length d.attributes) ds ]) none) e
        ∙ sym (ap not (lt-ltb i (length (all_attributes k (d ∷ ds))) (omega (arith, all_is))))
    by none e ih =
        let l : length d.attributes ≤ i = entry_out i d.attributes (ap is_there e) in
        ap (λ (z : Option Attribute). is_other (elim z as (λ x. Option Owned) [ some a ↦ some (record { owner = d; attribute = a }) | none ↦ attribute_at (i - length d.attributes) ds ]) none) e
        ∙ (ih ∙ ap not (sym (moved i (length d.attributes) (length (all_attributes (suc k) ds)) (length (all_attributes k (d ∷ ds))) all_is l)))

-- those of definition o, by name
or_member : (n m : Bytes) (ns : List Bytes) → (same n m || member bytes n ns) ≡ member bytes n (m ∷ ns)
unfolding member
or_member n m ns = by (same n m)
  where
    by : (b : Bool) → (b || member bytes n ns) ≡ elim b as (λ z. Bool) [ true ↦ true | false ↦ member bytes n ns ]
    by true = refl
    by false = refl

module _ (o : ℕ) (n : Bytes) where
  own_any : (k : ℕ) → eqb k o ≡ true → (table : List Attribute) → any (own_named o n) (own_attributes k table) ≡ member bytes n (map attribute_name table)
  unfolding member
  own_any k e [] = refl
  own_any k e (a ∷ table) = ap₂ (λ (x y : Bool). (x && same n a.name) || y) e (own_any k e table) ∙ or_member n a.name (map attribute_name table)

  other_any : (k : ℕ) → eqb k o ≡ false → (table : List Attribute) → any (own_named o n) (own_attributes k table) ≡ false
  other_any k e [] = refl
  other_any k e (a ∷ table) = ap₂ (λ (x y : Bool). (x && same n a.name) || y) e (other_any k e table)

  later_any : (k : ℕ) → o < k → (form : Form) → any (own_named o n) (all_attributes k form) ≡ false
  later_any k l [] = refl
  later_any k l (d ∷ ds) =
      any_append (own_named o n) (own_attributes k d.attributes) (all_attributes (suc k) ds)
      ∙ ap₂ (λ (x y : Bool). x || y) (other_any k (ne_eqb k o (λ z. omega arith)) d.attributes) (later_any (suc k) (omega arith) ds)

  pub all_any : (form : Form) (k i : ℕ) → o ≡ k + i → any (own_named o n) (all_attributes k form) ≡ member bytes n (map attribute_name (definition_at i form).attributes)
  unfolding member
  all_any [] k i e = refl
  all_any (d ∷ ds) k zero e =
      any_append (own_named o n) (own_attributes k d.attributes) (all_attributes (suc k) ds)
      ∙ ap₂ (λ (x y : Bool). x || y) (own_any k (eq-eqb k o (omega arith)) d.attributes) (later_any (suc k) (omega arith) ds)
      ∙ or-false (member bytes n (map attribute_name d.attributes))
  all_any (d ∷ ds) k (suc i) e =
      any_append (own_named o n) (own_attributes k d.attributes) (all_attributes (suc k) ds)
      ∙ ap₂ (λ (x y : Bool). x || y) (other_any k (ne_eqb k o (λ z. omega arith)) d.attributes) (all_any ds (suc k) i (omega arith))

-- ---- the loop over the attributes
pub attributes_any : (bs n : Bytes) (o : ℕ) {w count : ℕ} {attrs : Bytes} {r : Bool} → WidthIn bs w → attrs ≡ attributes_in bs → Number (attribute_count bs) count
    → r ≡ any (own_named o n) (read_many read_attribute (attribute_size w) count attrs) → r ≡ any (own_named o n) (bodies_of bs).attributes
unfolding bodies_of
attributes_any bs n o v f e q =
    q ∙ (λ j. any (own_named o n) (read_many read_attribute (attribute_size (v.value j)) (e.value j) (f j))) ∙ ap (any (own_named o n)) (attributes_read bs)

-- ---- the conditions
module _ (bs : Bytes) (w : Whole bs) where
  -- 10
  module _ {n : ℕ} (e : Number (attribute_count bs) n) (i : ℕ) where
    count_is : n ≡ length (all_attributes 0 (form_in bs))
    count_is = e.value ∙ w.agrees.attributes

    pub destroy_6 : n ≤ i → Gives 6 (conditions (destroy_attribute i) (store_in bs))
    unfolding conditions
    destroy_6 l = gives_hit (other_is 0 (form_in bs) i ∙ ap not (le-ltb i (length (all_attributes 0 (form_in bs))) (omega (arith, count_is))))

    pub destroy_0 : i < n → Gives 0 (conditions (destroy_attribute i) (store_in bs))
    unfolding conditions
    destroy_0 l = gives_next (other_is 0 (form_in bs) i ∙ ap not (lt-ltb i (length (all_attributes 0 (form_in bs))) (omega (arith, count_is)))) gives_none

  -- 9
  pub own_named_lem : (o : ℕ) (n : Bytes) → any (own_named o n) (bodies_of bs).attributes ≡ member bytes n (map attribute_name (definition_at o (form_in bs)).attributes)
  own_named_lem o n = ap (λ (f : FlatStore). any (own_named o n) f.attributes) w.holds.bodies ∙ all_any o n (form_in bs) 0 o (omega arith)

  module _ (o : ℕ) (n : Bytes) (k : ℕ) (v : Bytes) where
    -- the conditions up to here do not hold
    pub add_2 : not (given_name n) ≡ true → Gives 2 (conditions (add_attribute o n k v) (store_in bs))
    unfolding conditions
    add_2 h = gives_hit h

    module _ (h₂ : not (given_name n) ≡ false) where
      pub add_3 : bad_text (store_in bs) v ≡ true → Gives 3 (conditions (add_attribute o n k v) (store_in bs))
      unfolding conditions
      add_3 h = gives_next h₂ (gives_hit h)

      module _ (h₃ : bad_text (store_in bs) v ≡ false) where
        pub add_4 : 2 < k → Gives 4 (conditions (add_attribute o n k v) (store_in bs))
        unfolding conditions
        add_4 h = gives_next h₂ (gives_next h₃ (gives_hit (lt-ltb 2 k h)))

        module _ (h₄ : k ≤ 2) where
          pub add_5 : any (own_named o n) (bodies_of bs).attributes ≡ true → Gives 5 (conditions (add_attribute o n k v) (store_in bs))
          unfolding conditions
          add_5 h = gives_next h₂ (gives_next h₃ (gives_next (le-ltb 2 k h₄) (gives_hit (sym (own_named_lem o n) ∙ h))))

          module _ (h₅ : any (own_named o n) (bodies_of bs).attributes ≡ false) where
            pub add_6 : not (ltb o (length (form_in bs))) ≡ true → Gives 6 (conditions (add_attribute o n k v) (store_in bs))
            unfolding conditions
            add_6 h = gives_next h₂ (gives_next h₃ (gives_next (le-ltb 2 k h₄) (gives_next (sym (own_named_lem o n) ∙ h₅) (gives_hit h))))

            module _ (h₆ : not (ltb o (length (form_in bs))) ≡ false) where
              pub add_12 : wrong_default k v ≡ true → Gives 12 (conditions (add_attribute o n k v) (store_in bs))
              unfolding conditions
              add_12 h = gives_next h₂ (gives_next h₃ (gives_next (le-ltb 2 k h₄) (gives_next (sym (own_named_lem o n) ∙ h₅) (gives_next h₆ (gives_hit h)))))

              pub add_0 : wrong_default k v ≡ false → Gives 0 (conditions (add_attribute o n k v) (store_in bs))
              unfolding conditions
              add_0 h = gives_next h₂ (gives_next h₃ (gives_next (le-ltb 2 k h₄) (gives_next (sym (own_named_lem o n) ∙ h₅) (gives_next h₆ (gives_next h gives_none)))))

-- ---- a default
-- a value goes with a sort, or is the wrong default for it
fill_right : (s : AttributeSort) (v : Bytes) → not (is_fill s v) ≡ wrong_default (sort_code s) v
fill_right Implied v = refl
fill_right Required v = by (is_none v)
  where
    by : (b : Bool) → not (not b) ≡ b
    by true = refl
    by false = refl
fill_right Fixed v = refl

-- of the sort that a code no greater than 2 is read as
pub default_as : (k : ℕ) (v : Bytes) {s : AttributeSort} {r : Bool} → s ≡ sort_of k → k ≤ 2 → r ≡ is_fill s v → not r ≡ wrong_default k v
default_as k v {s} e l q = ap not q ∙ fill_right s v ∙ ap (λ (z : ℕ). wrong_default z v) (ap sort_code e ∙ sort_back k l)

-- ---- a record
pub own_at : (o : ℕ) (n : Bytes) {rec at : Bytes} {r : Bool} → r ≡ own_named o n (read_attribute rec) → rec ≡ at → r ≡ own_named o n (read_attribute at)
own_at o n e q = e ∙ ap (λ (z : Bytes). own_named o n (read_attribute z)) q

pub own_read : (o : ℕ) (n rec : Bytes) {name : Bytes} {owner : ℕ} {same-is : Bool} → name ≡ (read_attribute rec).name → same-is ≡ same n name → owner ≡ (read_attribute rec).owner
    → (eqb owner o && same-is) ≡ own_named o n (read_attribute rec)
own_read o n rec t e w = ap₂ (λ (x : ℕ) (b : Bool). eqb x o && b) w (e ∙ ap (same n) t)
