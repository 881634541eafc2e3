-- The first condition that holds, of the change that inserts an element: what the code finds, put together.
use Prim.Native.Nat.{ℕ, ◌<◌, ◌≤◌}
use native.Mathlib.Omega.{arith}
use mathlib.Core.Path.{◌≡◌, refl, sym, ap, ap₂, ◌∙◌, subst}
use mathlib.Core.Bool.{Bool, true, false, not, ◌&&◌, ◌||◌, and-false, and-true, false≢true}
use mathlib.Core.Option.{Option, none, some}
use mathlib.Core.List.{List, [], ◌∷◌}
use lib.Dec.{eqb}
use lib.ListN.{length}
use borrow.Author.Tests.{not-true, not-false, lt-ltb, le-ltb, eq-eqb, eqb-true}
use denote.Enum.Bare.{sameb}
use Rattle.rules.specs.declared.GroupKind.{GroupKind}
use Rattle.rules.specs.declared.GroupKind.TheVariants.{Sequence}
use Rattle.rules.specs.Bytes.{Bytes, is_none}
use Rattle.rules.specs.Model.{skips}
use Rattle.rules.specs.Place.{Found as Spot, kind_at, spine}
use Rattle.rules.specs.Edit.{insert, same_kind, insert_off}
use Rattle.rules.specs.Store.{Content, empty, pcdata, complex, Store}
use Rattle.rules.specs.Layout.{kind_code}
use Rattle.rules.specs.Decode.{quantifier_of, definition_count}
use Rattle.rules.specs.declared.Kind.{Kind}
use Rattle.rules.specs.contracts.Kind.{the_type}
use Rattle.rules.specs.Kinds.{kind_by, kind_number}
use Rattle.rules.proofs.KindLaws.{kind_test}
use Rattle.rules.specs.WellFormed.{is_value}
use Rattle.rules.specs.Passing.{passes}
use Rattle.rules.specs.Change.{insert_element, definition_at, name_at_index}
use Rattle.rules.specs.Refusal.{Condition, ◌if◌, first, conditions, past_end, found_at, at_place, no_place, is_complex, instance_exists}
use Rattle.rules.proofs.Words.{test_is}
use Rattle.rules.proofs.BooleanLaws.{none_long}
use Rattle.layout.specs.Bodies.{WidthIn, Number, definitions_in}
use Rattle.model.specs.declared.place.Found.{Found}
use Rattle.std.specs.Prelude.{Option as Maybe, Some, None}
use Rattle.model.specs.Places.{place_in}
use Rattle.form_index.specs.Reading.{definition_in}
use Rattle.store_laws.specs.Stores.{store_in}
use Rattle.store_check.proofs.StoreFacts.{form_in, bad_text_lem, fine_text, past_definitions, within_definitions}
use Rattle.change_laws.specs.FirstCondition.{Gives}
use Rattle.change_laws.proofs.FirstCondition.{gives_hit, gives_next, gives_none}
use Rattle.instance_search.specs.Instances.{has_instance}
use Rattle.model_places.specs.Placing.{model_in, part_in, found_by, Placed}
use Rattle.instance_search.proofs.InstanceLaws.{instance_is}
use Rattle.model_places.proofs.PlaceLaws.{found_insert, absent, present_at}
use Rattle.model_reach.specs.Reach.{stands_in_model, comes_round}
use Rattle.insert_refusals.specs.Inserting.{model_conditions, off_spine, place_conditions}
use Rattle.model_reach.proofs.FormFacts.{Reads}
use Rattle.model_reach.proofs.ModelLaws.{size}

-- a kind compared with another
pub other_kind_is : (k j : Kind) {b : Bool} → b ≡ not (sameb the_type k j) → b ≡ true → kind_number k ≡ kind_number j → ⊥
other_kind_is k j e h z = false≢true (sym (ap not (kind_test k j ∙ eq-eqb _ _ z)) ∙ sym e ∙ h)

pub same_kind_is : (k j : Kind) {b : Bool} → b ≡ not (sameb the_type k j) → b ≡ false → kind_number k ≡ kind_number j
same_kind_is k j e h = eqb-true _ _ (sym (kind_test k j) ∙ not-false _ (sym e ∙ h))

complex_code : (c : Content) → kind_code c ≡ 2 → not (is_complex c) ≡ false
complex_code empty e = absurd (omega arith)
complex_code pcdata e = absurd (omega arith)
complex_code (complex ms) e = refl

code_read : (c : Content) → kind_number (kind_by (kind_code c)) ≡ kind_code c
code_read empty = refl
code_read pcdata = refl
code_read (complex ms) = refl

other_code : (c : Content) → (kind_code c ≡ 2 → ⊥) → not (is_complex c) ≡ true
other_code empty e = refl
other_code pcdata e = refl
other_code (complex ms) e = absurd (e refl)

-- ---- from row 9 on
module _ (bs : Bytes) (w : Reads bs) (o i : ℕ) (lo : o < definition_count bs) (needed unfilled off : Bool) {k : Kind} {defs : Bytes} (kind : k ≡ kind_by (definition_in defs o).kind)
    (body : defs ≡ definitions_in bs) where
  abbrev Result : ℕ → Type 0
  Result n = Gives n (model_conditions o i needed unfilled off (store_in bs))

  kind_is : kind_number k ≡ kind_code (definition_at o (form_in bs)).content
  kind_is =
      ap kind_number (kind ∙ ap (λ (d : Bytes). kind_by (definition_in d o).kind) body ∙ ap kind_by (w.whole.agrees.kind o (omega (arith, size bs w))))
      ∙ code_read (definition_at o (form_in bs)).content

  pub model_9 : (kind_number k ≡ 2 → ⊥) → Result 9
  model_9 f = gives_hit (other_code (definition_at o (form_in bs)).content (λ z. f (kind_is ∙ z)))

  module _ (is : kind_number k ≡ 2) {b : Bool} (e10 : b ≡ stands_in_model (form_in bs) o i) where
    past_9 : not (is_complex (definition_at o (form_in bs)).content) ≡ false
    past_9 = complex_code (definition_at o (form_in bs)).content (sym kind_is ∙ is)

    pub model_10 : b ≡ true → Result 10
    model_10 f = gives_next past_9 (gives_hit (test_is e10 f))

    module _ (f10 : b ≡ false) {c : Bool} (e11 : c ≡ comes_round (form_in bs) o i) where
      pub model_11 : c ≡ true → Result 11
      model_11 f = gives_next past_9 (gives_next (test_is e10 f10) (gives_hit (test_is e11 f)))

      module _ (f11 : c ≡ false) where
        pub model_12 : (needed && unfilled) ≡ true → Result 12
        model_12 f = gives_next past_9 (gives_next (test_is e10 f10) (gives_next (test_is e11 f11) (gives_hit f)))

        module _ (f12 : (needed && unfilled) ≡ false) where
          last : {n : ℕ} {d : Bool} → (instance_exists (name_at_index o (form_in bs)) (store_in bs) && (needed && off)) ≡ d → Gives n ((13 if d) ∷ []) → Result n
          last {n} {d} e x = gives_next past_9 (gives_next (test_is e10 f10) (gives_next (test_is e11 f11) (gives_next f12 (subst (λ (z : Bool). Gives n ((13 if z) ∷ [])) (sym e) x))))

          pub model_on : not (needed && off) ≡ true → Result 0
          model_on f =
              last (ap (λ (z : Bool). instance_exists (name_at_index o (form_in bs)) (store_in bs) && z) (not-true (needed && off) f)
              ∙ and-false (instance_exists (name_at_index o (form_in bs)) (store_in bs))) (gives_next refl gives_none)

          module _ (off-is : not (needed && off) ≡ false) where
            there : (instance_exists (name_at_index o (form_in bs)) (store_in bs) && (needed && off)) ≡ has_instance bs o
            there =
                ap₂ (λ (u v : Bool). u && v) (sym (instance_is bs w.whole o (omega (arith, size bs w)))) (not-false (needed && off) off-is)
                ∙ and-true (has_instance bs o)

            pub model_13 : {n : ℕ} → n ≡ first (13 if has_instance bs o ∷ []) → Result n
            model_13 e = last there (record { is = e })

-- ---- from row 8 on
module _ (bs : Bytes) (o i : ℕ) (needed unfilled : Bool) (place : List ℕ) where
  abbrev pub spot : Option (Spot Bytes)
  spot = found_by true place (model_in bs o)

  module _ (pass : passes bs ≡ true) (lo : o < definition_count bs) {part : Bytes} (own : part ≡ part_in bs o) {found : Maybe Found} (e : found ≡ place_in true place part) where
    find_is : place_in true place (part_in bs o) ≡ found
    find_is = sym (e ∙ ap (place_in true place) own)

    pub place_8 : found ≡ None → Gives 8 (place_conditions spot o i needed unfilled (store_in bs))
    place_8 q = gives_hit (ap no_place (absent bs pass o lo true place (find_is ∙ q)))

    pub place_there : {f : Found} → found ≡ Some f → Placed bs o true place f.holder f.particle
    place_there {f} q = present_at bs pass o lo true place f.holder f.particle (find_is ∙ q)

    pub place_on : {f : Found} → found ≡ Some f → {off : Bool} → off ≡ (same_kind f.holder.kind Sequence && not f.holder.spine) → {r : ℕ}
        → r ≡ first (model_conditions o i needed unfilled off (store_in bs)) → Gives r (place_conditions spot o i needed unfilled (store_in bs))
    place_on {f} q {off} w {r} g =
        let x : Placed bs o true place f.holder f.particle = place_there q in
        let d : off ≡ off_spine spot = w ∙ ap₂ (λ (k : GroupKind) (b : Bool). same_kind k Sequence && not b) x.kind x.spine ∙ sym (ap off_spine x.there) in
        gives_next (ap no_place x.there) (record { is = g ∙ ap (λ (b : Bool). first (model_conditions o i needed unfilled b (store_in bs))) d })

-- ---- all
needed_off : (b : Bool) (found : Option (Spot Bytes)) → (b && off_spine found) ≡ at_place (λ c x. b && (same_kind (kind_at Sequence c) Sequence && not (spine c))) found
needed_off b none = and-false b
needed_off b (some x) = refl

-- the conditions from row 8 on, with the tests of rows 12 and 13
abbrev later_conditions : Option (Spot Bytes) → Bool → Bool → ℕ → ℕ → Store → List Condition
later_conditions found x y o i s =
    8 if no_place found
    ∷ 9 if not (is_complex (definition_at o s.form).content)
    ∷ 10 if stands_in_model s.form o i
    ∷ 11 if comes_round s.form o i
    ∷ 12 if x
    ∷ 13 if (instance_exists (definition_at o s.form).name s && y)
    ∷ []

insert_same : (bs : Bytes) (o : ℕ) (place : List ℕ) (i q : ℕ) (t : Bytes)
    → first (place_conditions (found_by true place (model_in bs o)) o i (not (skips (quantifier_of q))) (eqb (length t) 0) (store_in bs))
    ≡ first (later_conditions (found_at (insert (quantifier_of q) (name_at_index i (form_in bs))) o place (store_in bs)) (not (skips (quantifier_of q)) && is_none t)
    (at_place (λ c x. insert_off c (quantifier_of q)) (found_at (insert (quantifier_of q) (name_at_index i (form_in bs))) o place (store_in bs))) o i (store_in bs))
insert_same bs o place i q t =
    ap₂ (λ (x y : Bool). first (later_conditions (found_by true place (model_in bs o)) x y o i (store_in bs)))
    (ap (λ (y : Bool). not (skips (quantifier_of q)) && y) (none_long t))
    (needed_off (not (skips (quantifier_of q))) (found_by true place (model_in bs o)))
    ∙ ap (λ (f : Option (Spot Bytes)). first (later_conditions f (not (skips (quantifier_of q)) && is_none t) (at_place (λ c x. insert_off c (quantifier_of q)) f) o i (store_in bs)))
    (sym (found_insert (quantifier_of q) (name_at_index i (form_in bs)) o place bs))

module _ (bs : Bytes) (w : Reads bs) (o : ℕ) (place : List ℕ) (i q : ℕ) (t : Bytes) {n : ℕ} {a : Bool} (v : WidthIn bs n) (e3 : a ≡ is_value n t) where
  abbrev Given : ℕ → Type 0
  Given r = Gives r (conditions (insert_element o place i q t) (store_in bs))

  pub insert_3 : not a ≡ true → Given 3
  unfolding conditions
  insert_3 f = gives_hit (bad_text_lem bs t v e3 f)

  module _ (f3 : not a ≡ false) where
    pub insert_4 : 3 < q → Given 4
    unfolding conditions
    insert_4 l = gives_next (fine_text bs t v e3 f3) (gives_hit (lt-ltb 3 q l))

    module _ (l : q ≤ 3) {m : ℕ} (e : Number (definition_count bs) m) where
      unknown : {a b c : Bool} → past_end o (form_in bs) ≡ a → past_end i (form_in bs) ≡ b → (a || b) ≡ c → (past_end o (form_in bs) || past_end i (form_in bs)) ≡ c
      unknown x y z = ap₂ (λ (u v : Bool). u || v) x y ∙ z

      pub insert_6 : m ≤ o → Given 6
      unfolding conditions
      insert_6 f = gives_next (fine_text bs t v e3 f3) (gives_next (le-ltb 3 q l) (gives_hit (unknown (past_definitions bs w.whole e o f) refl refl)))

      module _ (lo : o < m) where
        pub insert_6_too : m ≤ i → Given 6
        unfolding conditions
        insert_6_too f = gives_next (fine_text bs t v e3 f3) (gives_next (le-ltb 3 q l) (gives_hit (unknown (within_definitions bs w.whole e o lo) (past_definitions bs w.whole e i f) refl)))

        pub insert_on : i < m → {needed : Bool} → needed ≡ not (skips (quantifier_of q)) → {r : ℕ}
            → r ≡ first (place_conditions (found_by true place (model_in bs o)) o i needed (eqb (length t) 0) (store_in bs)) → Given r
        unfolding conditions
        insert_on li d g =
            gives_next (fine_text bs t v e3 f3)
            (gives_next (le-ltb 3 q l)
            (gives_next (unknown (within_definitions bs w.whole e o lo) (within_definitions bs w.whole e i li) refl)
            (record { is = g ∙ ap (λ (b : Bool). first (place_conditions (found_by true place (model_in bs o)) o i b (eqb (length t) 0) (store_in bs))) d ∙ insert_same bs o place i q t })))
