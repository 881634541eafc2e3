-- The conditions of changes 5 and 8, by what the code finds.
use Prim.Native.Nat.{ℕ, ◌<◌, ◌≤◌}
use native.Mathlib.Omega.{arith}
use borrow.Author.Tests.{lt-ltb, le-ltb, ltb-true, ltb-false, not-false}
use mathlib.Core.Path.{◌≡◌, refl, sym, ap, ap₂, ◌∙◌, subst}
use mathlib.Core.Bool.{Bool, true, false, ◌&&◌, ◌||◌, not, false≢true, or-false, beq}
use mathlib.Core.Option.{Option, none, some}
use mathlib.Core.List.{List, [], ◌∷◌}
use lib.Dec.{eqb, ltb}
use lib.ListN.{length}
use Rattle.rules.specs.declared.Quantifier.{Quantifier}
use Rattle.rules.specs.declared.GroupKind.{GroupKind}
use Rattle.rules.specs.Bytes.{Bytes, is_none}
use Rattle.rules.specs.Quantifiers.{gains, cuts, relaxes}
use Rattle.rules.specs.Decode.{quantifier_of, definition_count}
use Rattle.rules.specs.WellFormed.{is_value}
use Rattle.rules.specs.Place.{Context, Found as Spot}
use Rattle.rules.specs.Edit.{quantify, quantify_off, quantify_group_off}
use Rattle.rules.specs.Change.{name_at_index}
use Rattle.rules.specs.Refusal.{◌if◌, Condition, first, conditions, bad_text, found_at, no_element_at, no_group_at, at_place, on_element, on_group, instance_exists}
use Rattle.rules.proofs.Words.{and_off, and_held}
use Rattle.rules.proofs.BooleanLaws.{none_long}
use Rattle.model.specs.declared.place.Holder.{Holder}
use Rattle.layout.specs.Bodies.{WidthIn, Number}
use Rattle.store_laws.specs.Stores.{store_in}
use Rattle.store_check.proofs.StoreFacts.{form_in, Whole, bad_text_lem, fine_text}
use Rattle.change_laws.specs.FirstCondition.{Gives}
use Rattle.change_laws.proofs.FirstCondition.{gives_hit, gives_next, gives_none}
use Rattle.instance_search.specs.Instances.{has_instance}
use Rattle.std.specs.Prelude.{Option as Maybe, Some}
use Rattle.model.specs.declared.What.{What}
use Rattle.model.specs.declared.What.TheVariants.{Element, Group}
use Rattle.model_places.specs.declared.Picked.{Picked}
use Rattle.model_places.specs.Placing.{model_in, found_by, Placed, ElementAt, GroupAt, Picking}
use Rattle.model_places.proofs.PickLaws.{as_element, as_group}
use Rattle.quantifier_refusals.specs.Requantifying.{is_off, early_tests, quantifier_tests, requantify}
use Rattle.model_places.proofs.PlaceLaws.{found_quantify}
use Rattle.instance_search.proofs.InstanceLaws.{instance_is}

-- ---- the first three
abbrev three : Bool → Bool → Bool → List Condition → List Condition
three a b c cs = 3 if a ∷ 4 if b ∷ 6 if c ∷ cs

three_held : (a b c : Bool) (cs : List Condition) {r : ℕ} → Gives r (three a b c []) → (r ≡ 0 → ⊥) → Gives r (three a b c cs)
three_held true b c cs f h = record { is = f.is }
three_held false true c cs f h = record { is = f.is }
three_held false false true cs f h = record { is = f.is }
three_held false false false cs f h = absurd (h f.is)

pub record Off (a b c : Bool) : Type 0 where
  pub value : a ≡ false
  pub code : b ≡ false
  pub index : c ≡ false

three_off : (a b c : Bool) {r : ℕ} → Gives r (three a b c []) → r ≡ 0 → Off a b c
three_off true b c f h = absurd (omega (arith, f.is))
three_off false true c f h = absurd (omega (arith, f.is))
three_off false false true f h = absurd (omega (arith, f.is))
three_off false false false f h = record { value = refl; code = refl; index = refl }

module _ (o q : ℕ) (t bs : Bytes) where
  -- the tests of the code
  pub early_3 : {n : ℕ} {a : Bool} → WidthIn bs n → a ≡ is_value n t → not a ≡ true → Gives 3 (early_tests o q t bs)
  early_3 v e h = gives_hit (bad_text_lem bs t v e h)

  module _ {n : ℕ} {a : Bool} (v : WidthIn bs n) (e : a ≡ is_value n t) (h : not a ≡ false) where
    pub early_4 : 3 < q → Gives 4 (early_tests o q t bs)
    early_4 l = gives_next (fine_text bs t v e h) (gives_hit (lt-ltb 3 q l))

    module _ (l : q ≤ 3) {m : ℕ} (u : Number (definition_count bs) m) where
      pub early_6 : m ≤ o → Gives 6 (early_tests o q t bs)
      early_6 k = gives_next (fine_text bs t v e h) (gives_next (le-ltb 3 q l) (gives_hit (ap not (le-ltb o (definition_count bs) (omega (arith, u.value))))))

      pub early_0 : o < m → Gives 0 (early_tests o q t bs)
      early_0 k = gives_next (fine_text bs t v e h) (gives_next (le-ltb 3 q l) (gives_next (ap not (lt-ltb o (definition_count bs) (omega (arith, u.value)))) gives_none))

  -- none of them holds
  module _ {r : ℕ} (f : Gives r (early_tests o q t bs)) (z : r ≡ 0) where
    off : Off (bad_text (store_in bs) t) (ltb 3 q) (not (ltb o (definition_count bs)))
    off = three_off (bad_text (store_in bs) t) (ltb 3 q) (not (ltb o (definition_count bs))) f z

    pub early_code : q ≤ 3
    early_code = ltb-false 3 q off.code

    pub early_index : o < definition_count bs
    early_index = ltb-true o (definition_count bs) (not-false _ off.index)

-- ---- the others
module _ (exists spine : Bool) (old new : Quantifier) (t : Bytes) (is_group : Bool) {g : Bool} (e : g ≡ gains old new) where
  gain_is : {v : Bool} → (g && eqb (length t) 0) ≡ v → (gains old new && is_none t) ≡ v
  gain_is h = ap₂ (λ (a b : Bool). a && b) (sym e) (sym (none_long t)) ∙ h

  pub at_12 : (g && eqb (length t) 0) ≡ true → Gives 12 (quantifier_tests exists spine old new t is_group)
  at_12 h = gives_hit (gain_is h)

  module _ (h : (g && eqb (length t) 0) ≡ false) {b : Bool} (f : b ≡ is_off spine old new is_group) where
    pub at_fine : not b ≡ true → Gives 0 (quantifier_tests exists spine old new t is_group)
    at_fine k = gives_next (gain_is h) (gives_next (and_off exists (is_off spine old new is_group) (sym f ∙ by b k)) gives_none)
      where
        by : (b : Bool) → not b ≡ true → b ≡ false
        by true k = absurd (false≢true k)
        by false k = refl

    pub at_exists : not b ≡ false → {x : ℕ} → x ≡ first (13 if exists ∷ []) → Gives x (quantifier_tests exists spine old new t is_group)
    at_exists k z = gives_next (gain_is h) (record { is = z ∙ ap (λ (v : Bool). first (13 if v ∷ [])) (sym (and_held exists _ (sym f ∙ not-false b k))) })

-- two tests that are the same, or not
pub same_test : (a b : Bool) → not (beq a b) ≡ false → a ≡ b
same_test true true e = refl
same_test true false e = absurd (false≢true (sym e))
same_test false true e = absurd (false≢true (sym e))
same_test false false e = refl

pub other_test : (a b : Bool) → not (beq a b) ≡ true → a ≡ b → ⊥
other_test true true e z = false≢true e
other_test true false e z = false≢true (sym z)
other_test false true e z = false≢true z
other_test false false e z = false≢true e

-- whether it is a group
abbrev pub is_group : What → Bool
is_group (Element i) = false
is_group (Group k n) = true

-- ---- the conditions
module _ (bs : Bytes) (w : Whole bs) (o : ℕ) (p : List ℕ) (q : ℕ) (t : Bytes) {r : ℕ} (f : Gives r (early_tests o q t bs)) where
  past_same : not (ltb o (definition_count bs)) ≡ not (ltb o (length (form_in bs)))
  past_same = ap (λ (z : ℕ). not (ltb o z)) w.agrees.size

  held : (cs : List Condition) → (r ≡ 0 → ⊥) → Gives r (three (bad_text (store_in bs) t) (ltb 3 q) (not (ltb o (length (form_in bs)))) cs)
  held cs h =
      three_held (bad_text (store_in bs) t) (ltb 3 q) (not (ltb o (length (form_in bs)))) cs (record { is = f.is ∙ ap (λ (z : Bool). first (three (bad_text (store_in bs) t) (ltb 3 q) z [])) past_same }) h

  pub requantify_early : (g : Bool) → (r ≡ 0 → ⊥) → Gives r (conditions (requantify g o p q t) (store_in bs))
  unfolding conditions
  requantify_early false h = held _ h
  requantify_early true h = held _ h

  module _ (z : r ≡ 0) where
    none_early : Off (bad_text (store_in bs) t) (ltb 3 q) (not (ltb o (definition_count bs)))
    none_early = three_off (bad_text (store_in bs) t) (ltb 3 q) (not (ltb o (definition_count bs))) f z

    on_early : {s : ℕ} {cs : List Condition} → Gives s cs → Gives s (three (bad_text (store_in bs) t) (ltb 3 q) (not (ltb o (length (form_in bs)))) cs)
    on_early g = gives_next none_early.value (gives_next none_early.code (gives_next (sym past_same ∙ none_early.index) g))

    within : o < length (form_in bs)
    within = let l : o < definition_count bs = early_index o q t bs f z in omega (arith, w.agrees.size)

    abbrev found : Option (Spot Bytes)
    found = found_at (quantify (quantifier_of q)) o p (store_in bs)

    exists_is : has_instance bs o ≡ instance_exists (name_at_index o (form_in bs)) (store_in bs)
    exists_is = instance_is bs w o within

    pub requantify_none : (g : Bool) → found_by false p (model_in bs o) ≡ none → Gives 8 (conditions (requantify g o p q t) (store_in bs))
    unfolding conditions
    requantify_none false e = on_early (gives_hit (ap no_element_at (found_quantify (quantifier_of q) o p bs ∙ e)))
    requantify_none true e = on_early (gives_hit (ap no_group_at (found_quantify (quantifier_of q) o p bs ∙ e)))

    -- 5
    pub element_group : (g : Bool) → g ≡ false → {l : Holder} {n : ℕ} {old : Quantifier} {k : GroupKind} {m : ℕ} → GroupAt bs o p l n old k m → Gives 8 (conditions (requantify g o p q t) (store_in bs))
    unfolding conditions
    element_group false b x = on_early (gives_hit (ap no_element_at (found_quantify (quantifier_of q) o p bs ∙ x.placed.there) ∙ ap (on_element true (λ q. false)) x.is))
    element_group true b x = absurd (false≢true (sym b))

    pub element_there : (g : Bool) → g ≡ false → {l : Holder} {n : ℕ} {old new : Quantifier} → ElementAt bs o p l n old → new ≡ quantifier_of q → {s : ℕ}
        → Gives s (quantifier_tests (has_instance bs o) l.spine old new t false) → Gives s (conditions (requantify g o p q t) (store_in bs))
    unfolding conditions
    element_there false b {l} {n} {old} {new} x i {s} y =
        let e : found ≡ some x.placed.found = found_quantify (quantifier_of q) o p bs ∙ x.placed.there in
        let c : Context Bytes = x.placed.found.context in
        let gain : at_place (λ c y. on_element false (λ d. gains d (quantifier_of q)) y) found ≡ gains old new =
        ap (at_place (λ c y. on_element false (λ d. gains d (quantifier_of q)) y)) e ∙ ap (on_element false (λ d. gains d (quantifier_of q))) x.is ∙ ap (gains old) (sym i) in
        let off : at_place (λ c y. on_element false (λ d. quantify_off c d (quantifier_of q)) y) found ≡ is_off l.spine old new false =
        ap (at_place (λ c y. on_element false (λ d. quantify_off c d (quantifier_of q)) y)) e
        ∙ ap (on_element false (λ d. quantify_off c d (quantifier_of q))) x.is
        ∙ ap₂ (λ (a : Quantifier) (b : Bool). not (relaxes old a) && not b) (sym i) (sym x.placed.spine)
        ∙ sym (or-false (not (relaxes old new) && not l.spine)) in
        on_early (gives_next (ap no_element_at e ∙ ap (on_element true (λ q. false)) x.is)
        (record { is = y.is ∙ sym (λ j. first (12 if (gain j && is_none t) ∷ 13 if (sym exists_is j && off j) ∷ [])) }))
    -- 8
    element_there true b {l} {n} {old} {new} x i {s} y = absurd (false≢true (sym b))

    pub group_element : (g : Bool) → g ≡ true → {l : Holder} {n : ℕ} {old : Quantifier} → ElementAt bs o p l n old → Gives 8 (conditions (requantify g o p q t) (store_in bs))
    unfolding conditions
    group_element true b x = on_early (gives_hit (ap no_group_at (found_quantify (quantifier_of q) o p bs ∙ x.placed.there) ∙ ap (on_group true (λ q. false)) x.is))
    group_element false b x = absurd (false≢true b)

    pub group_there : (g : Bool) → g ≡ true → {l : Holder} {n : ℕ} {old new : Quantifier} {k : GroupKind} {m : ℕ} → GroupAt bs o p l n old k m → new ≡ quantifier_of q → {s : ℕ}
        → Gives s (quantifier_tests (has_instance bs o) l.spine old new t true)
        → Gives s (conditions (requantify g o p q t) (store_in bs))
    unfolding conditions
    group_there true b {l} {n} {old} {new} x i {s} y =
        let e : found ≡ some x.placed.found = found_quantify (quantifier_of q) o p bs ∙ x.placed.there in
        let c : Context Bytes = x.placed.found.context in
        let gain : at_place (λ c y. on_group false (λ d. gains d (quantifier_of q)) y) found ≡ gains old new =
        ap (at_place (λ c y. on_group false (λ d. gains d (quantifier_of q)) y)) e ∙ ap (on_group false (λ d. gains d (quantifier_of q))) x.is ∙ ap (gains old) (sym i) in
        let off : at_place (λ c y. on_group false (λ d. quantify_group_off c d (quantifier_of q)) y) found ≡ is_off l.spine old new true =
        ap (at_place (λ c y. on_group false (λ d. quantify_group_off c d (quantifier_of q)) y)) e
        ∙ ap (on_group false (λ d. quantify_group_off c d (quantifier_of q))) x.is
        ∙ ap₂ (λ (a : Quantifier) (b : Bool). (not (relaxes old a) && not b) || cuts old a) (sym i) (sym x.placed.spine) in
        on_early (gives_next (ap no_group_at e ∙ ap (on_group true (λ q. false)) x.is)
        (record { is = y.is ∙ sym (λ j. first (12 if (gain j && is_none t) ∷ 13 if (sym exists_is j && off j) ∷ [])) }))
    group_there false b {l} {n} {old} {new} x i {s} y = absurd (false≢true b)

    -- the one that is picked, by whether a group is asked for
    module _ (g : Bool) {s : Maybe Picked} (x : Picking bs o p s) {y : Picked} (e : s ≡ Some y) where
      pub requantify_other : (is_group y.member.what ≡ g → ⊥) → Gives 8 (conditions (requantify g o p q t) (store_in bs))
      requantify_other other = by y.member.what refl
        where
          is_true : (b : Bool) → (false ≡ b → ⊥) → b ≡ true
          is_true true n = refl
          is_true false n = absurd (n refl)

          is_false : (b : Bool) → (true ≡ b → ⊥) → b ≡ false
          is_false true n = absurd (n refl)
          is_false false n = refl

          by : (v : What) → y.member.what ≡ v → Gives 8 (conditions (requantify g o p q t) (store_in bs))
          by (Element i) v = group_element g (is_true g (λ z. other (ap is_group v ∙ z))) (as_element x e v)
          by (Group k n) v = element_group g (is_false g (λ z. other (ap is_group v ∙ z))) (as_group x e v)

      module _ (same : is_group y.member.what ≡ g) where
        pub requantify_there : {new : Quantifier} → new ≡ quantifier_of q → {n : ℕ}
            → Gives n (quantifier_tests (has_instance bs o) y.place.holder.spine y.member.quantifier new t g)
            → Gives n (conditions (requantify g o p q t) (store_in bs))
        requantify_there {new} i {n} tests = by y.member.what refl
          where
            by : (v : What) → y.member.what ≡ v → Gives n (conditions (requantify g o p q t) (store_in bs))
            by (Element j) v =
                let z : g ≡ false = sym same ∙ ap is_group v in
                element_there g z (as_element x e v) i
                (subst (λ (b : Bool). Gives n (quantifier_tests (has_instance bs o) y.place.holder.spine y.member.quantifier new t b)) z tests)
            by (Group k m) v =
                let z : g ≡ true = sym same ∙ ap is_group v in
                group_there g z (as_group x e v) i
                (subst (λ (b : Bool). Gives n (quantifier_tests (has_instance bs o) y.place.holder.spine y.member.quantifier new t b)) z tests)

pub picked_placed : {bs : Bytes} {o : ℕ} {p : List ℕ} {s : Maybe Picked} (x : Picking bs o p s) {y : Picked} → s ≡ Some y → Placed bs o false p y.place.holder y.place.particle
picked_placed {bs} {o} {p} x {y} e = by y.member.what refl
  where
    by : (v : What) → y.member.what ≡ v → Placed bs o false p y.place.holder y.place.particle
    by (Element i) v = (as_element x e v).placed
    by (Group k n) v = (as_group x e v).placed
