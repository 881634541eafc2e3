-- The plan of each change takes the lines that the taking rule names, sets the values that the rules give, and makes
-- the rows that they name.
use Prim.Native.Nat.{ℕ, ◌≤◌}
use native.Mathlib.Omega.{arith}
use mathlib.Core.Path.{◌≡◌, refl, sym, ap, ◌∙◌}
use mathlib.Core.Logic.{◌⊎◌, inl, inr}
use mathlib.Core.Bool.{Bool, true, false, ◌&&◌, not, false≢true}
use mathlib.Core.Option.{Option, none, some}
use mathlib.Core.List.{List, [], ◌∷◌, Memᴰ, cons≢nil}
use lib.Dec.{eqb}
use Rattle.rules.specs.declared.Quantifier.{Quantifier}
use Rattle.rules.specs.Bytes.{Bytes, is_none, eqb_eq, eqb_of}
use Rattle.rules.specs.Model.{Members, done, el, group, names, skips}
use Rattle.rules.specs.Quantifiers.{gains, cuts}
use Rattle.rules.specs.Place.{Context, Found, spine}
use Rattle.rules.specs.Edit.{insert, remove, quantify}
use Rattle.rules.specs.Store.{Form, Row}
use Rattle.rules.specs.Decode.{quantifier_of, sort_of}
use Rattle.rules.specs.Conforming.{is_element, must_be_present}
use Rattle.rules.specs.Filling.{fill_definition}
use Rattle.rules.specs.Lines.{Line, ground, is_text_row, element_named, element_among, attribute_named, element_with, children_of, serial_at}
use Rattle.rules.specs.Change.{Call, create_definition, destroy_definition, insert_element, remove_element, change_quantifier, convert_to_group, flatten_group}
use Rattle.rules.specs.Change.{change_group_quantifier, add_attribute, destroy_attribute, add_document, add_element, destroy_element, set_attribute}
use Rattle.rules.specs.Change.{destroy_attribute_row, set_text, name_at_index, Owned, attribute_at, Plan, plan, picked_plan, quantify_plan, remove_plan}
use Rattle.rules.specs.Change.{insert_plan, drop_plan, set_plan, set_at}
use Rattle.rules.specs.Refusal.{no_element_at, no_group_at}
use Rattle.rules.specs.MadeTakenGiven.{HasLine, StandsBelow, IsFirst, found_in, AtPlace, OfElement, AtElement, OfGroup, AtGroup, OfAttribute, IsRemoved}
use Rattle.rules.specs.MadeTakenGiven.{IsCut, IsDropped, NamedBy, value_if, is_row_of, value_after, MakesBelow, set_row, filling_of, filling_at, rows_made}
use Rattle.rules.proofs.Words.{and_both, and_split}
use borrow.Author.Tests.{not-true}
use Rattle.rules.proofs.BooleanLaws.{none_nil}

-- What acceptance says of a call: 5 picks an element and 8 a group; the element of 12 and of 14 is there.
abbrev pub Known : Call → Form → List Line → Type 0
Known (create_definition n k) form ls = Unit {0}
Known (destroy_definition i) form ls = Unit {0}
Known (insert_element o p i q t) form ls = Unit {0}
Known (remove_element o p) form ls = Unit {0}
Known (change_quantifier o p q t) form ls = no_element_at (found_in (quantify (quantifier_of q)) o p form) ≡ false
Known (convert_to_group o p n k) form ls = Unit {0}
Known (flatten_group o p) form ls = Unit {0}
Known (change_group_quantifier o p q t) form ls = no_group_at (found_in (quantify (quantifier_of q)) o p form) ≡ false
Known (add_attribute o n k v) form ls = Unit {0}
Known (destroy_attribute a) form ls = Unit {0}
Known (add_document i t) form ls = Unit {0}
Known (add_element k j i t) form ls = HasLine (element_with k) ls k
Known (destroy_element k) form ls = Unit {0}
Known (set_attribute k a v) form ls = HasLine (element_with k) ls k
Known (destroy_attribute_row k a) form ls = Unit {0}
Known (set_text k t) form ls = Unit {0}

-- u stands above the lines, or is the row of one of them
abbrev pub Above : List Line → Row → Type 0
Above ls u = (u ≡ ground) ⊎ ((v : Line) × Memᴰ v ls × (v.row ≡ u))

-- the plan's rule takes the line
abbrev pub Ruled : (Row → Row → Bool) → List Line → Line → Type 0
Ruled takes ls l = (u : Row) × Above ls u × (u.serial ≡ l.parent) × (takes u l.row ≡ true)

-- ---- given
-- what a plan sets of a line
abbrev pub set_by : Plan → Line → Bytes
set_by p l = value_if (eqb l.row.serial p.set) p.value l

-- at most one line right below a row passes a test
abbrev pub AtMostOne : (Row → Bool) → List Line → Type 0
AtMostOne test ls = (l m : Line) → Memᴰ l ls → Memᴰ m ls → l.parent ≡ m.parent → test l.row ≡ true → test m.row ≡ true → l ≡ m

module _ (test : Row → Bool) (k : ℕ) where
  -- the first child is a line's
  first_in : (ls : List Line) → 1 ≤ serial_at 0 (children_of test k ls)
      → (v : Line) × Memᴰ v ls × (v.row.serial ≡ serial_at 0 (children_of test k ls)) × (v.parent ≡ k) × (test v.row ≡ true)
  unfolding children_of
  first_in [] h = absurd (omega (arith, h))
  first_in (l ∷ ls) h = by (eqb l.parent k && test l.row) refl (first_in ls)
    where
      First : List Line → List Line → Type 0
      First here ls = (v : Line) × Memᴰ v here × (v.row.serial ≡ serial_at 0 (children_of test k ls)) × (v.parent ≡ k) × (test v.row ≡ true)

      by : (c : Bool) → (eqb l.parent k && test l.row) ≡ c → (1 ≤ serial_at 0 (children_of test k ls) → First ls ls) → First (l ∷ ls) (l ∷ ls)
      by true q f = let s = and_split (eqb l.parent k) (test l.row) q in (l, Memᴰ.head refl, rw (q, children_of), eqb_eq l.parent k s.0, s.1)
      by false q f = let r = f (rw (q, children_of) at h) in (r.0, Memᴰ.tail r.1, rw (q, children_of) r.2, r.3, r.4)

  -- a line that passes the test has a first child before it or is it
  some_first : (ls : List Line) → ((m : Line) → Memᴰ m ls → 1 ≤ m.row.serial) → (l : Line) → Memᴰ l ls → l.parent ≡ k → test l.row ≡ true → 1 ≤ serial_at 0 (children_of test k ls)
  unfolding children_of
  some_first [] big l i e h = elim i [ ]
  some_first (m ∷ ls) big l i e h = by (eqb m.parent k && test m.row) refl (some_first ls (λ x j. big x (Memᴰ.tail j)) l) i
    where
      by : (c : Bool) → (eqb m.parent k && test m.row) ≡ c → (Memᴰ l ls → l.parent ≡ k → test l.row ≡ true → 1 ≤ serial_at 0 (children_of test k ls)) → Memᴰ l (m ∷ ls)
          → 1 ≤ serial_at 0 (children_of test k (m ∷ ls))
      by true q f j = rw (q, children_of) (big m (Memᴰ.head refl))
      by false q f (Memᴰ.head g) = absurd (false≢true (sym q ∙ and_both (eqb_of m.parent k (ap (λ (z : Line). z.parent) (sym g) ∙ e)) (ap (λ (z : Line). test z.row) (sym g) ∙ h)))
      by false q f (Memᴰ.tail j) = rw (q, children_of) (f j e h)

  -- where there is at most one, it is the first
  module _ (ls : List Line) (big : (m : Line) → Memᴰ m ls → 1 ≤ m.row.serial) (same : (l m : Line) → Memᴰ l ls → Memᴰ m ls → l.row.serial ≡ m.row.serial → l ≡ m)
      (one : AtMostOne test ls) (l : Line) (i : Memᴰ l ls) where
    the_first : eqb l.row.serial (serial_at 0 (children_of test k ls)) ≡ (eqb l.parent k && test l.row)
    the_first = by (eqb l.parent k && test l.row) refl (eqb l.row.serial (serial_at 0 (children_of test k ls))) refl
      where
        by : (c : Bool) → (eqb l.parent k && test l.row) ≡ c → (d : Bool) → eqb l.row.serial (serial_at 0 (children_of test k ls)) ≡ d
            → eqb l.row.serial (serial_at 0 (children_of test k ls)) ≡ (eqb l.parent k && test l.row)
        by true q d g =
            let s = and_split (eqb l.parent k) (test l.row) q in
            let e : l.parent ≡ k = eqb_eq l.parent k s.0 in
            let r = first_in ls (some_first ls big l i e s.1) in
            eqb_of l.row.serial (serial_at 0 (children_of test k ls)) (ap (λ (z : Line). z.row.serial) (one l r.0 i r.1 (e ∙ sym r.3) s.1 r.4) ∙ r.2) ∙ sym q
        by false q true g =
            let f : l.row.serial ≡ serial_at 0 (children_of test k ls) = eqb_eq l.row.serial (serial_at 0 (children_of test k ls)) g in
            let r = first_in ls (omega (arith, big l i, f)) in
            let x : l ≡ r.0 = same l r.0 i r.1 (f ∙ sym r.2) in
            absurd (false≢true (sym q ∙ and_both (eqb_of l.parent k (ap (λ (z : Line). z.parent) x ∙ r.3)) (ap (λ (z : Line). test z.row) x ∙ r.4)))
        by false q false g = g ∙ sym q

module _ (ls : List Line) (big : (m : Line) → Memᴰ m ls → 1 ≤ m.row.serial) (same : (l m : Line) → Memᴰ l ls → Memᴰ m ls → l.row.serial ≡ m.row.serial → l ≡ m)
    (attributes : (n : Bytes) → AtMostOne (attribute_named n) ls) (texts : AtMostOne is_text_row ls) (l : Line) (i : Memᴰ l ls) where
  not_zero : eqb l.row.serial 0 ≡ false
  not_zero = by (eqb l.row.serial 0) refl
    where
      by : (c : Bool) → eqb l.row.serial 0 ≡ c → eqb l.row.serial 0 ≡ false
      by true q = absurd (let z : l.row.serial ≡ 0 = eqb_eq l.row.serial 0 q in omega (arith, big l i))
      by false q = q

  unset : (p : Plan) → p.set ≡ 0 → set_by p l ≡ l.row.value
  unset p e = ap (λ (z : Bool). value_if z p.value l) (ap (λ (k : ℕ). eqb l.row.serial k) e ∙ not_zero)

  set_inserted : (version : ℕ) (form : Form) (o t n : Bytes) (q : Quantifier) (f : Option (Found Bytes)) → (insert_plan version form o t q n f).set ≡ 0
  set_inserted version form o t n q none = refl
  set_inserted version form o t n q (some f) = refl

  set_removed : (o : Bytes) (f : Option (Found Bytes)) → (picked_plan (λ c t. remove_plan o t) f).set ≡ 0
  set_removed o none = refl
  set_removed o (some f) = by f.picked
    where
      by : (t : Members Bytes) → (remove_plan o t).set ≡ 0
      by done = refl
      by (el q x rest) = refl
      by (group q k ms rest) = refl

  set_quantified : (version : ℕ) (form : Form) (o t : Bytes) (q : Quantifier) (f : Option (Found Bytes)) → (picked_plan (quantify_plan version form ls o t q) f).set ≡ 0
  set_quantified version form o t q none = refl
  set_quantified version form o t q (some f) = by f.context f.picked
    where
      by : (c : Context Bytes) (x : Members Bytes) → (quantify_plan version form ls o t q c x).set ≡ 0
      by c done = refl
      by c (el q x rest) = refl
      by c (group q k ms rest) = refl

  set_dropped : (above : Owned → Row → Bool) (o : Option Owned) → (drop_plan above o).set ≡ 0
  set_dropped above none = refl
  set_dropped above (some o) = refl

  -- the rows below the element that pass a test: at most one, which gets the value
  set_one : (k : ℕ) (v : Bytes) (o : Owned) (test : Row → Bool) → AtMostOne test ls → set_by (set_at k o v (children_of test k ls)) l ≡ value_if (eqb l.parent k && test l.row) v l
  set_one k v o test one = by (children_of test k ls) ∙ ap (λ (z : Bool). value_if z v l) (the_first test k ls big same one l i)
    where
      by : (ks : List ℕ) → set_by (set_at k o v ks) l ≡ value_if (eqb l.row.serial (serial_at 0 ks)) v l
      by [] = ap (λ (z : Bool). value_if z [] l) not_zero ∙ ap (λ (z : Bool). value_if z v l) (sym not_zero)
      by (s ∷ ss) = refl

  set_given : (k : ℕ) (v : Bytes) (o : Option Owned) → set_by (set_plan ls k v o) l ≡ value_if (is_row_of k o l) v l
  set_given k v none = ap (λ (z : Bool). value_if z [] l) not_zero
  set_given k v (some o) = set_one k v o (attribute_named o.attribute.name) (attributes o.attribute.name)

  -- THE VALUES: what the plan sets of a line is its value after the call
  pub set_after : (c : Call) (version : ℕ) (form : Form) → set_by (plan c version form ls) l ≡ value_after c form l
  unfolding plan value_after
  set_after (create_definition n k) version form = unset (plan (create_definition n k) version form ls) refl
  set_after (destroy_definition j) version form = unset (plan (destroy_definition j) version form ls) refl
  set_after (insert_element o p j q t) version form =
      unset (plan (insert_element o p j q t) version form ls)
      (set_inserted version form (name_at_index o form) t (name_at_index j form) (quantifier_of q) (found_in (insert (quantifier_of q) (name_at_index j form)) o p form))
  set_after (remove_element o p) version form = unset (plan (remove_element o p) version form ls) (set_removed (name_at_index o form) (found_in remove o p form))
  set_after (change_quantifier o p q t) version form =
      unset (plan (change_quantifier o p q t) version form ls) (set_quantified version form (name_at_index o form) t (quantifier_of q) (found_in (quantify (quantifier_of q)) o p form))
  set_after (convert_to_group o p n k) version form = unset (plan (convert_to_group o p n k) version form ls) refl
  set_after (flatten_group o p) version form = unset (plan (flatten_group o p) version form ls) refl
  set_after (change_group_quantifier o p q t) version form =
      unset (plan (change_group_quantifier o p q t) version form ls) (set_quantified version form (name_at_index o form) t (quantifier_of q) (found_in (quantify (quantifier_of q)) o p form))
  set_after (add_attribute o n k v) version form = unset (plan (add_attribute o n k v) version form ls) refl
  set_after (destroy_attribute a) version form = unset (plan (destroy_attribute a) version form ls) (set_dropped _ (attribute_at a form))
  set_after (add_document j t) version form = unset (plan (add_document j t) version form ls) refl
  set_after (add_element k j d t) version form = unset (plan (add_element k j d t) version form ls) refl
  set_after (destroy_element k) version form = unset (plan (destroy_element k) version form ls) refl
  set_after (set_attribute k a v) version form = set_given k v (attribute_at a form)
  set_after (destroy_attribute_row k a) version form = unset (plan (destroy_attribute_row k a) version form ls) (set_dropped _ (attribute_at a form))
  set_after (set_text k t) version form = ap (λ (z : Bool). value_if z t l) (the_first is_text_row k ls big same texts l i)

-- ---- taken
module _ (ls : List Line) (l : Line) where
  below_of : (above : Row → Bool) → above ground ≡ false → (u : Row) → Above ls u → u.serial ≡ l.parent → above u ≡ true → StandsBelow above ls l
  below_of above g u (inl e) q h = absurd (false≢true (sym g ∙ ap above (sym e) ∙ h))
  below_of above g u (inr (v, i, f)) q h = (v, i, ap (λ (x : Row). x.serial) f ∙ q, ap above f ∙ h)

  nothing_ruled : (takes : Row → Row → Bool) → ((u r : Row) → takes u r ≡ false) → Ruled takes ls l → ⊥
  nothing_ruled takes f (u, a, e, h) = false≢true (sym (f u l.row) ∙ h)

  inserts : (version : ℕ) (form : Form) (o t n : Bytes) (q : Quantifier) (f : Option (Found Bytes)) (u r : Row) → (insert_plan version form o t q n f).takes u r ≡ false
  inserts version form o t n q none u r = refl
  inserts version form o t n q (some f) u r = refl

  sets_at : (k : ℕ) (o : Owned) (v : Bytes) (ks : List ℕ) (u r : Row) → (set_at k o v ks).takes u r ≡ false
  sets_at k o v [] u r = refl
  sets_at k o v (s ∷ ss) u r = refl

  sets : (k : ℕ) (v : Bytes) (o : Option Owned) (u r : Row) → (set_plan ls k v o).takes u r ≡ false
  sets k v none u r = refl
  sets k v (some o) u r = sets_at k o v (children_of (attribute_named o.attribute.name) k ls) u r

  regroups : (version : ℕ) (form : Form) (o t : Bytes) (new : Quantifier) (f : Option (Found Bytes)) → no_group_at f ≡ false → (u r : Row)
      → (picked_plan (quantify_plan version form ls o t new) f).takes u r ≡ false
  regroups version form o t new none g u r = refl
  regroups version form o t new (some f) g u r = by f.context f.picked g
    where
      by : (c : Context Bytes) (x : Members Bytes) → no_group_at (some (record { context = c; picked = x })) ≡ false → (quantify_plan version form ls o t new c x).takes u r ≡ false
      by c done g = refl
      by c (el q x rest) g = absurd (false≢true (sym g))
      by c (group q k ms rest) g = refl

  removed : (o : Bytes) (f : Option (Found Bytes)) → Ruled (picked_plan (λ c t. remove_plan o t) f).takes ls l → AtElement (λ c q x. IsRemoved o x ls l) f
  removed o none (u, a, e, h) = absurd (false≢true h)
  removed o (some f) z = by f.picked z
    where
      by : (t : Members Bytes) → Ruled (remove_plan o t).takes ls l → OfElement (λ q x. IsRemoved o x ls l) t
      by done (u, a, e, h) = absurd (false≢true h)
      by (el q x rest) (u, a, e, h) = let s = and_split (element_named o u) (element_named x l.row) h in (s.1, below_of (element_named o) refl u a e s.0)
      by (group q k ms rest) (u, a, e, h) = absurd (false≢true h)

  removed_back : (o : Bytes) (f : Option (Found Bytes)) → AtElement (λ c q x. IsRemoved o x ls l) f → Ruled (picked_plan (λ c t. remove_plan o t) f).takes ls l
  removed_back o none z = absurd z
  removed_back o (some f) z = by f.picked z
    where
      by : (t : Members Bytes) → OfElement (λ q x. IsRemoved o x ls l) t → Ruled (remove_plan o t).takes ls l
      by done z = absurd z
      by (el q x rest) (n, (u, i, e, h)) = (u.row, inr (u, i, refl), e, and_both h n)
      by (group q k ms rest) z = absurd z

  -- the first child of that name
  first_test : (x : Bytes) (k : ℕ) → k ≡ l.parent → eqb l.row.serial (serial_at 0 (children_of (element_named x) k ls)) ≡ false → IsFirst (element_named x) ls l → ⊥
  first_test x k e h f =
      false≢true
      (sym h ∙ ap (λ (j : ℕ). eqb l.row.serial (serial_at 0 (children_of (element_named x) j ls))) e ∙ eqb_of l.row.serial (serial_at 0 (children_of (element_named x) l.parent ls)) f)

  first_back : (x : Bytes) (k : ℕ) → k ≡ l.parent → (IsFirst (element_named x) ls l → ⊥) → eqb l.row.serial (serial_at 0 (children_of (element_named x) k ls)) ≡ false
  first_back x k e f = by (eqb l.row.serial (serial_at 0 (children_of (element_named x) k ls))) refl
    where
      by : (b : Bool) → eqb l.row.serial (serial_at 0 (children_of (element_named x) k ls)) ≡ b → eqb l.row.serial (serial_at 0 (children_of (element_named x) k ls)) ≡ false
      by true q = absurd (f (eqb_eq l.row.serial (serial_at 0 (children_of (element_named x) k ls)) q ∙ ap (λ (j : ℕ). serial_at 0 (children_of (element_named x) j ls)) e))
      by false q = q

  cut_back : (version : ℕ) (form : Form) (o t : Bytes) (new : Quantifier) (f : Option (Found Bytes)) → AtElement (IsCut o new ls l) f
      → Ruled (picked_plan (quantify_plan version form ls o t new) f).takes ls l
  cut_back version form o t new none z = absurd z
  cut_back version form o t new (some f) z = by f.context f.picked z
    where
      by : (c : Context Bytes) (y : Members Bytes) → OfElement (IsCut o new ls l c) y → Ruled (quantify_plan version form ls o t new c y).takes ls l
      by c done z = absurd z
      by c (el old x rest) (s, k, (n, (u, i, e, h)), d) = (u.row, inr (u, i, refl), e, and_both (and_both s k) (and_both h (and_both n (ap not (first_back x u.row.serial e d)))))
      by c (group q k ms rest) z = absurd z

  cut : (version : ℕ) (form : Form) (o t : Bytes) (new : Quantifier) (f : Option (Found Bytes)) → Ruled (picked_plan (quantify_plan version form ls o t new) f).takes ls l
      → AtElement (IsCut o new ls l) f
  cut version form o t new none (u, a, e, h) = absurd (false≢true h)
  cut version form o t new (some f) z = by f.context f.picked z
    where
      by : (c : Context Bytes) (y : Members Bytes) → Ruled (quantify_plan version form ls o t new c y).takes ls l → OfElement (IsCut o new ls l c) y
      by c done (u, a, e, h) = absurd (false≢true h)
      by c (el old x rest) (u, a, e, h) =
          let s = and_split (spine c && cuts old new) _ h in
          let s₁ = and_split (spine c) (cuts old new) s.0 in
          let s₂ = and_split (element_named o u) _ s.1 in
          let s₃ = and_split (element_named x l.row) _ s₂.1 in
          (s₁.0, s₁.1, (s₃.0, below_of (element_named o) refl u a e s₂.0), first_test x u.serial e (not-true _ s₃.1))
      by c (group q k ms rest) (u, a, e, h) = absurd (false≢true h)

  dropped : (above : Owned → Row → Bool) → ((o : Owned) → above o ground ≡ false) → (o : Option Owned) → Ruled (drop_plan above o).takes ls l → OfAttribute (IsDropped above ls l) o
  dropped above g none (u, a, e, h) = absurd (false≢true h)
  dropped above g (some o) (u, a, e, h) = let s = and_split (above o u) (attribute_named o.attribute.name l.row) h in (s.1, below_of (above o) (g o) u a e s.0)

  dropped_back : (above : Owned → Row → Bool) (o : Option Owned) → OfAttribute (IsDropped above ls l) o → Ruled (drop_plan above o).takes ls l
  dropped_back above none z = absurd z
  dropped_back above (some o) (n, (u, i, e, h)) = (u.row, inr (u, i, refl), e, and_both h n)

  -- THE TAKING RULE: the lines that the plan's rule takes are those that the call names
  pub named : (c : Call) (version : ℕ) (form : Form) → Known c form ls → Ruled (plan c version form ls).takes ls l → NamedBy c form ls l
  unfolding plan NamedBy
  named (create_definition n k) version form g r = absurd (false≢true r.3)
  named (destroy_definition i) version form g r = absurd (false≢true r.3)
  named (insert_element o p i q t) version form g r =
      nothing_ruled _ (inserts version form (name_at_index o form) t (name_at_index i form) (quantifier_of q) (found_in (insert (quantifier_of q) (name_at_index i form)) o p form)) r
  named (remove_element o p) version form g r = removed (name_at_index o form) (found_in remove o p form) r
  named (change_quantifier o p q t) version form g r = cut version form (name_at_index o form) t (quantifier_of q) (found_in (quantify (quantifier_of q)) o p form) r
  named (convert_to_group o p n k) version form g r = absurd (false≢true r.3)
  named (flatten_group o p) version form g r = absurd (false≢true r.3)
  named (change_group_quantifier o p q t) version form g r = nothing_ruled _ (regroups version form (name_at_index o form) t (quantifier_of q) (found_in (quantify (quantifier_of q)) o p form) g) r
  named (add_attribute o n k v) version form g r = absurd (false≢true r.3)
  named (destroy_attribute a) version form g r = dropped _ (λ o. refl) (attribute_at a form) r
  named (add_document i t) version form g r = absurd (false≢true r.3)
  named (add_element k j i t) version form g r = absurd (false≢true r.3)
  named (destroy_element k) version form g r = r.3
  named (set_attribute k a v) version form g r = nothing_ruled _ (sets k v (attribute_at a form)) r
  named (destroy_attribute_row k a) version form g r = dropped _ (λ o. refl) (attribute_at a form) r
  named (set_text k t) version form g r = absurd (false≢true r.3)

  pub ruled : (c : Call) (version : ℕ) (form : Form) → (w : Row) × Above ls w × (w.serial ≡ l.parent) → NamedBy c form ls l → Ruled (plan c version form ls).takes ls l
  unfolding plan NamedBy
  ruled (create_definition n k) version form up z = absurd z
  ruled (destroy_definition i) version form up z = absurd z
  ruled (insert_element o p i q t) version form up z = absurd z
  ruled (remove_element o p) version form up z = removed_back (name_at_index o form) (found_in remove o p form) z
  ruled (change_quantifier o p q t) version form up z = cut_back version form (name_at_index o form) t (quantifier_of q) (found_in (quantify (quantifier_of q)) o p form) z
  ruled (convert_to_group o p n k) version form up z = absurd z
  ruled (flatten_group o p) version form up z = absurd z
  ruled (change_group_quantifier o p q t) version form up z = absurd z
  ruled (add_attribute o n k v) version form up z = absurd z
  ruled (destroy_attribute a) version form up z = dropped_back _ (attribute_at a form) z
  ruled (add_document i t) version form up z = absurd z
  ruled (add_element k j i t) version form up z = absurd z
  ruled (destroy_element k) version form up z = (up.0, up.1, up.2, z)
  ruled (set_attribute k a v) version form up z = absurd z
  ruled (destroy_attribute_row k a) version form up z = dropped_back _ (attribute_at a form) z
  ruled (set_text k t) version form up z = absurd z

-- ---- made
-- the plan makes rows below the row with serial u; the documents stand below `ground`
abbrev pub Filled : (Row → Bool) → List Line → ℕ → Type 0
Filled fills ls u = ((u ≡ 0) × (fills ground ≡ true)) ⊎ HasLine fills ls u

-- where only rows that pass another test are filled, and that not `ground`
filled_there : (fills test : Row → Bool) (ls : List Line) → ((r : Row) → fills r ≡ true → test r ≡ true) → test ground ≡ false → (u : ℕ) → Filled fills ls u → HasLine fills ls u × HasLine test ls u
filled_there fills test ls f g u (inl (e, h)) = absurd (false≢true (sym g ∙ f ground h))
filled_there fills test ls f g u (inr (l, i, e, h)) = ((l, i, e, h), (l, i, e, f l.row h))

nowhere : (fills : Row → Bool) → ((r : Row) → fills r ≡ false) → (ls : List Line) (u : ℕ) → Filled fills ls u → ⊥
nowhere fills f ls u (inl (e, h)) = false≢true (sym (f ground) ∙ h)
nowhere fills f ls u (inr (l, i, e, h)) = false≢true (sym (f l.row) ∙ h)

-- an element with that serial
element_with_lem : (k : ℕ) (ls : List Line) (u : ℕ) → Filled (element_with k) ls u → u ≡ k
element_with_lem k ls u (inl (e, h)) = absurd (false≢true h)
element_with_lem k ls u (inr (l, i, e, h)) = sym e ∙ eqb_eq l.row.serial k (and_split (is_element l.row.sort) (eqb l.row.serial k) h).1

module _ (ls : List Line) (u : ℕ) where
  removes_fill : (o : Bytes) (f : Option (Found Bytes)) (r : Row) → (picked_plan (λ c t. remove_plan o t) f).fills r ≡ false
  removes_fill o none r = refl
  removes_fill o (some f) r = by f.picked
    where
      by : (t : Members Bytes) → (remove_plan o t).fills r ≡ false
      by done = refl
      by (el q x rest) = refl
      by (group q k ms rest) = refl

  drops_fill : (above : Owned → Row → Bool) (o : Option Owned) (r : Row) → (drop_plan above o).fills r ≡ false
  drops_fill above none r = refl
  drops_fill above (some o) r = refl

  inserted : (version : ℕ) (form : Form) (o t n : Bytes) (q : Quantifier) (f : Option (Found Bytes)) → Filled (insert_plan version form o t q n f).fills ls u
      → AtPlace (λ c. (spine c ≡ true) × (skips q ≡ false)) f × HasLine (element_named o) ls u
  inserted version form o t n q none z = absurd (nowhere (λ r. false) (λ r. refl) ls u z)
  inserted version form o t n q (some f) z =
      let fills : Row → Bool = λ r. (not (skips q) && spine f.context) && element_named o r in
      let (y, w) = filled_there fills (element_named o) ls (λ r h. (and_split (not (skips q) && spine f.context) (element_named o r) h).1) refl u z in
      let s = and_split (not (skips q)) (spine f.context) (and_split (not (skips q) && spine f.context) (element_named o y.0.row) y.3).0 in
      ((s.1, not-true (skips q) s.0), w)

  inserted_back : (version : ℕ) (form : Form) (o t n : Bytes) (q : Quantifier) (f : Option (Found Bytes)) → AtPlace (λ c. (spine c ≡ true) × (skips q ≡ false)) f → HasLine (element_named o) ls u
      → Filled (insert_plan version form o t q n f).fills ls u
  inserted_back version form o t n q none z y = absurd z
  inserted_back version form o t n q (some f) (s, k) (l, i, e, h) = inr (l, i, e, and_both (and_both (ap not k) s) h)

  -- the lines of an instance that lacks a child
  lacks : (test : Row → Bool) (o : Bytes) (a : Bool) → Filled (λ r. a && (element_named o r && is_none (children_of test r.serial ls))) ls u
      → (a ≡ true) × (children_of test u ls ≡ []) × HasLine (element_named o) ls u
  lacks test o a z =
      let fills : Row → Bool = λ r. a && (element_named o r && is_none (children_of test r.serial ls)) in
      let (y, w) = filled_there fills (element_named o) ls (λ r h. (and_split (element_named o r) _ (and_split a _ h).1).0) refl u z in
      let s = and_split a _ y.3 in
      let t = and_split (element_named o y.0.row) (is_none (children_of test y.0.row.serial ls)) s.1 in
      (s.0, ap (λ (k : ℕ). children_of test k ls) (sym y.2) ∙ none_nil (children_of test y.0.row.serial ls) t.1, w)

  lacks_back : (test : Row → Bool) (o : Bytes) (a : Bool) → a ≡ true → children_of test u ls ≡ [] → HasLine (element_named o) ls u
      → Filled (λ r. a && (element_named o r && is_none (children_of test r.serial ls))) ls u
  lacks_back test o a x y (l, i, e, h) = inr (l, i, e, and_both x (and_both h (ap is_none (ap (λ (k : ℕ). children_of test k ls) e ∙ y))))

  abbrev Lacking : Bytes → Quantifier → Context Bytes → Quantifier → Bytes → Type 0
  Lacking o new c old x = (spine c ≡ true) × (gains old new ≡ true) × (children_of (element_named x) u ls ≡ [])

  gained : (version : ℕ) (form : Form) (o t : Bytes) (new : Quantifier) (f : Option (Found Bytes)) → no_element_at f ≡ false → Filled (picked_plan (quantify_plan version form ls o t new) f).fills ls u
      → AtElement (λ c old x. Lacking o new c old x) f × HasLine (element_named o) ls u
  gained version form o t new none g z = absurd (false≢true (sym g))
  gained version form o t new (some f) g z = by f.context f.picked g z
    where
      by : (c : Context Bytes) (x : Members Bytes) → no_element_at (some (record { context = c; picked = x })) ≡ false → Filled (quantify_plan version form ls o t new c x).fills ls u
          → OfElement (λ old x. Lacking o new c old x) x × HasLine (element_named o) ls u
      by c done g z = absurd (false≢true (sym g))
      by c (el old x rest) g z =
          let (a, e, w) = lacks (element_named x) o (spine c && gains old new) z in
          let s = and_split (spine c) (gains old new) a in
          ((s.0, s.1, e), w)
      by c (group q k ms rest) g z = absurd (false≢true (sym g))

  gained_back : (version : ℕ) (form : Form) (o t : Bytes) (new : Quantifier) (f : Option (Found Bytes)) → AtElement (λ c old x. Lacking o new c old x) f → HasLine (element_named o) ls u
      → Filled (picked_plan (quantify_plan version form ls o t new) f).fills ls u
  gained_back version form o t new none z y = absurd z
  gained_back version form o t new (some f) z y = by f.context f.picked z
    where
      by : (c : Context Bytes) (x : Members Bytes) → OfElement (λ old x. Lacking o new c old x) x → Filled (quantify_plan version form ls o t new c x).fills ls u
      by c done z = absurd z
      by c (el old x rest) (s, g, e) = lacks_back (element_named x) o (spine c && gains old new) (and_both s g) e y
      by c (group q k ms rest) z = absurd z

  abbrev LackingAll : Bytes → Quantifier → Context Bytes → Quantifier → Members Bytes → Type 0
  LackingAll o new c old ms = (spine c ≡ true) × (gains old new ≡ true) × (children_of (element_among (names ms)) u ls ≡ [])

  group_gained : (version : ℕ) (form : Form) (o t : Bytes) (new : Quantifier) (f : Option (Found Bytes)) → no_group_at f ≡ false
      → Filled (picked_plan (quantify_plan version form ls o t new) f).fills ls u
      → AtGroup (λ c old ms. LackingAll o new c old ms) f × HasLine (element_named o) ls u
  group_gained version form o t new none g z = absurd (false≢true (sym g))
  group_gained version form o t new (some f) g z = by f.context f.picked g z
    where
      by : (c : Context Bytes) (x : Members Bytes) → no_group_at (some (record { context = c; picked = x })) ≡ false → Filled (quantify_plan version form ls o t new c x).fills ls u
          → OfGroup (λ old ms. LackingAll o new c old ms) x × HasLine (element_named o) ls u
      by c done g z = absurd (false≢true (sym g))
      by c (el old x rest) g z = absurd (false≢true (sym g))
      by c (group old k ms rest) g z =
          let (a, e, w) = lacks (element_among (names ms)) o (spine c && gains old new) z in
          let s = and_split (spine c) (gains old new) a in
          ((s.0, s.1, e), w)

  group_gained_back : (version : ℕ) (form : Form) (o t : Bytes) (new : Quantifier) (f : Option (Found Bytes)) → AtGroup (λ c old ms. LackingAll o new c old ms) f → HasLine (element_named o) ls u
      → Filled (picked_plan (quantify_plan version form ls o t new) f).fills ls u
  group_gained_back version form o t new none z y = absurd z
  group_gained_back version form o t new (some f) z y = by f.context f.picked z
    where
      by : (c : Context Bytes) (x : Members Bytes) → OfGroup (λ old ms. LackingAll o new c old ms) x → Filled (quantify_plan version form ls o t new c x).fills ls u
      by c done z = absurd z
      by c (el old x rest) z = absurd z
      by c (group old k ms rest) (s, g, e) = lacks_back (element_among (names ms)) o (spine c && gains old new) (and_both s g) e y

  set_fill : (k : ℕ) (v : Bytes) (o : Option Owned) → Filled (set_plan ls k v o).fills ls u → OfAttribute (λ o. children_of (attribute_named o.attribute.name) k ls ≡ []) o × (u ≡ k)
  set_fill k v none z = absurd (nowhere (λ r. false) (λ r. refl) ls u z)
  set_fill k v (some o) z = by (children_of (attribute_named o.attribute.name) k ls) z
    where
      by : (ks : List ℕ) → Filled (set_at k o v ks).fills ls u → (ks ≡ []) × (u ≡ k)
      by [] z = (refl, element_with_lem k ls u z)
      by (s ∷ ss) z = absurd (nowhere (λ r. false) (λ r. refl) ls u z)

  set_fill_back : (k : ℕ) (v : Bytes) (o : Option Owned) → OfAttribute (λ o. children_of (attribute_named o.attribute.name) k ls ≡ []) o → Filled (element_with k) ls u
      → Filled (set_plan ls k v o).fills ls u
  set_fill_back k v none z y = absurd z
  set_fill_back k v (some o) z y = by (children_of (attribute_named o.attribute.name) k ls) z
    where
      by : (ks : List ℕ) → ks ≡ [] → Filled (set_at k o v ks).fills ls u
      by [] e = y
      by (s ∷ ss) e = absurd (cons≢nil e)

  -- WHERE ROWS ARE MADE: the plan fills below the rows below which the call makes rows
  pub makes : (c : Call) (version : ℕ) (form : Form) → Known c form ls → Filled (plan c version form ls).fills ls u → MakesBelow c version form ls u
  unfolding plan MakesBelow
  makes (create_definition n k) version form g z = nowhere (λ r. false) (λ r. refl) ls u z
  makes (destroy_definition i) version form g z = nowhere (λ r. false) (λ r. refl) ls u z
  makes (insert_element o p i q t) version form g z =
      inserted version form (name_at_index o form) t (name_at_index i form) (quantifier_of q) (found_in (insert (quantifier_of q) (name_at_index i form)) o p form) z
  makes (remove_element o p) version form g z = nowhere _ (removes_fill (name_at_index o form) (found_in remove o p form)) ls u z
  makes (change_quantifier o p q t) version form g z = gained version form (name_at_index o form) t (quantifier_of q) (found_in (quantify (quantifier_of q)) o p form) g z
  makes (convert_to_group o p n k) version form g z = nowhere (λ r. false) (λ r. refl) ls u z
  makes (flatten_group o p) version form g z = nowhere (λ r. false) (λ r. refl) ls u z
  makes (change_group_quantifier o p q t) version form g z = group_gained version form (name_at_index o form) t (quantifier_of q) (found_in (quantify (quantifier_of q)) o p form) g z
  makes (add_attribute o n k v) version form g z =
      let fills : Row → Bool = λ r. must_be_present version (sort_of k) && element_named (name_at_index o form) r in
      let (y, w) = filled_there fills (element_named (name_at_index o form)) ls (λ r h. (and_split (must_be_present version (sort_of k)) (element_named (name_at_index o form) r) h).1) refl u z in
      ((and_split (must_be_present version (sort_of k)) _ y.3).0, w)
  makes (destroy_attribute a) version form g z = nowhere _ (drops_fill _ (attribute_at a form)) ls u z
  makes (add_document i t) version form g (inl (e, h)) = e
  makes (add_document i t) version form g (inr (l, i', e, h)) = sym e ∙ eqb_eq l.row.serial 0 h
  makes (add_element k j i t) version form g z = element_with_lem k ls u z
  makes (destroy_element k) version form g z = nowhere (λ r. false) (λ r. refl) ls u z
  makes (set_attribute k a v) version form g z = set_fill k v (attribute_at a form) z
  makes (destroy_attribute_row k a) version form g z = nowhere _ (drops_fill _ (attribute_at a form)) ls u z
  makes (set_text k t) version form g z = nowhere (λ r. false) (λ r. refl) ls u z

  pub filled : (c : Call) (version : ℕ) (form : Form) → Known c form ls → MakesBelow c version form ls u → Filled (plan c version form ls).fills ls u
  unfolding plan MakesBelow
  filled (create_definition n k) version form g z = absurd z
  filled (destroy_definition i) version form g z = absurd z
  filled (insert_element o p i q t) version form g (x, y) =
      inserted_back version form (name_at_index o form) t (name_at_index i form) (quantifier_of q) (found_in (insert (quantifier_of q) (name_at_index i form)) o p form) x y
  filled (remove_element o p) version form g z = absurd z
  filled (change_quantifier o p q t) version form g (x, y) = gained_back version form (name_at_index o form) t (quantifier_of q) (found_in (quantify (quantifier_of q)) o p form) x y
  filled (convert_to_group o p n k) version form g z = absurd z
  filled (flatten_group o p) version form g z = absurd z
  filled (change_group_quantifier o p q t) version form g (x, y) = group_gained_back version form (name_at_index o form) t (quantifier_of q) (found_in (quantify (quantifier_of q)) o p form) x y
  filled (add_attribute o n k v) version form g (x, (l, i, e, h)) = inr (l, i, e, and_both x h)
  filled (destroy_attribute a) version form g z = absurd z
  filled (add_document i t) version form g z = inl (z, refl)
  filled (add_element k j i t) version form (l, i', e, h) z = inr (l, i', e ∙ sym z, h)
  filled (destroy_element k) version form g z = absurd z
  filled (set_attribute k a v) version form (l, i, e, h) (x, y) = set_fill_back k v (attribute_at a form) x (inr (l, i, e ∙ sym y, h))
  filled (destroy_attribute_row k a) version form g z = absurd z
  filled (set_text k t) version form g z = absurd z

  filling_inserted : (version : ℕ) (form : Form) (o t n : Bytes) (q : Quantifier) (f : Option (Found Bytes)) → AtPlace (λ c. (spine c ≡ true) × (skips q ≡ false)) f
      → (insert_plan version form o t q n f).filling ≡ fill_definition version form t n
  filling_inserted version form o t n q none z = absurd z
  filling_inserted version form o t n q (some f) z = refl

  filling_quantified : (version : ℕ) (form : Form) (o t : Bytes) (new : Quantifier) (f : Option (Found Bytes))
      → (picked_plan (quantify_plan version form ls o t new) f).filling ≡ filling_at version form t new f
  filling_quantified version form o t new none = refl
  filling_quantified version form o t new (some f) = by f.context f.picked
    where
      by : (c : Context Bytes) (x : Members Bytes) → (quantify_plan version form ls o t new c x).filling ≡ filling_of version form t new x
      by c done = refl
      by c (el q x rest) = refl
      by c (group q k ms rest) = refl

  filling_set : (k : ℕ) (v : Bytes) (o : Option Owned) → OfAttribute (λ o. children_of (attribute_named o.attribute.name) k ls ≡ []) o → (set_plan ls k v o).filling ≡ set_row v o
  filling_set k v none z = absurd z
  filling_set k v (some o) z = by (children_of (attribute_named o.attribute.name) k ls) z
    where
      by : (ks : List ℕ) → ks ≡ [] → (set_at k o v ks).filling ≡ set_row v (some o)
      by [] e = refl
      by (s ∷ ss) e = absurd (cons≢nil e)

  -- WHICH ROWS: what the plan fills with there are the rows that the call makes
  pub filling_made : (c : Call) (version : ℕ) (form : Form) → MakesBelow c version form ls u → (plan c version form ls).filling ≡ rows_made c version form
  unfolding plan MakesBelow rows_made
  filling_made (create_definition n k) version form z = absurd z
  filling_made (destroy_definition i) version form z = absurd z
  filling_made (insert_element o p i q t) version form (x, y) =
      filling_inserted version form (name_at_index o form) t (name_at_index i form) (quantifier_of q) (found_in (insert (quantifier_of q) (name_at_index i form)) o p form) x
  filling_made (remove_element o p) version form z = absurd z
  filling_made (change_quantifier o p q t) version form z = filling_quantified version form (name_at_index o form) t (quantifier_of q) (found_in (quantify (quantifier_of q)) o p form)
  filling_made (convert_to_group o p n k) version form z = absurd z
  filling_made (flatten_group o p) version form z = absurd z
  filling_made (change_group_quantifier o p q t) version form z = filling_quantified version form (name_at_index o form) t (quantifier_of q) (found_in (quantify (quantifier_of q)) o p form)
  filling_made (add_attribute o n k v) version form z = refl
  filling_made (destroy_attribute a) version form z = absurd z
  filling_made (add_document i t) version form z = refl
  filling_made (add_element k j i t) version form z = refl
  filling_made (destroy_element k) version form z = absurd z
  filling_made (set_attribute k a v) version form (x, y) = filling_set k v (attribute_at a form) x
  filling_made (destroy_attribute_row k a) version form z = absurd z
  filling_made (set_text k t) version form z = absurd z
