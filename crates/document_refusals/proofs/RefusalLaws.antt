-- The first condition that holds, of the changes of documents: what the code finds, put together.
use Prim.Native.Nat.{ℕ, ◌<◌, ◌≤◌}
use native.Mathlib.Omega.{arith}
use mathlib.Core.Path.{◌≡◌, refl, sym, ap, ◌∙◌}
use mathlib.Core.Bool.{Bool, true, false, not, false≢true}
use borrow.Author.Tests.{eq-eqb, eqb-true, not-false}
use denote.Enum.Bare.{sameb}
use mathlib.Core.Option as maybe
use mathlib.Core.Option.{none, some}
use Rattle.std.specs.Prelude.{Option, None, Result, Err, ok_or}
use Rattle.rules.specs.declared.Kind.{Kind}
use Rattle.rules.specs.contracts.Kind.{the_type}
use Rattle.rules.specs.Kinds.{kind_by, kind_number}
use Rattle.rules.proofs.KindLaws.{kind_test}
use Rattle.rules.specs.declared.Refusal.{Refusal}
use Rattle.rules.specs.Given.{refusal_number, number_given}
use Rattle.rules.specs.Bytes.{Bytes}
use Rattle.rules.specs.Store.{Content, empty, pcdata, complex, Definition, Row}
use Rattle.rules.specs.Layout.{kind_code}
use Rattle.rules.specs.Decode.{definition_count}
use Rattle.rules.specs.WellFormed.{is_value, lookup}
use Rattle.rules.specs.Change.{add_document, set_text}
use Rattle.rules.specs.Refusal.{conditions, is_pcdata, pcdata_element}
use Rattle.layout.specs.Bodies.{WidthIn, Number}
use Rattle.store_laws.specs.Stores.{store_in}
use Rattle.document_rows.specs.Finding.{row_definition_kind}
use Rattle.change_laws.specs.FirstCondition.{Gives}
use Rattle.store_check.proofs.StoreFacts.{form_in, Whole, bad_text_lem, fine_text, past_definitions, within_definitions}
use Rattle.document_rows.proofs.ElementFacts.{Element, NoElement, defined}
use Rattle.document_rows.proofs.RowFacts.{kind_is}
use Rattle.change_laws.proofs.FirstCondition.{gives_hit, gives_next, gives_none}

-- a kind compared with another
pub other_kind_is : (k j : Kind) {b : Bool} → b ≡ not (sameb the_type k j) → b ≡ true → kind_number k ≡ kind_number j → ⊥
other_kind_is k j e h z = false≢true (sym (ap not (kind_test k j ∙ eq-eqb _ _ z)) ∙ sym e ∙ h)

pub same_kind_is : (k j : Kind) {b : Bool} → b ≡ not (sameb the_type k j) → b ≡ false → kind_number k ≡ kind_number j
same_kind_is k j e h = eqb-true _ _ (sym (kind_test k j) ∙ not-false _ (sym e ∙ h))

-- the number of the refusal where there is nothing
pub refused_number : {A : Type 0} {o : Option A} (r : Refusal) {e : Refusal} → o ≡ None → Err e ≡ ok_or o r → refusal_number e ≡ refusal_number r
refused_number {A} {o} r {e} n q = ap (λ (z : Result A Refusal). number_given z) q ∙ ap (λ (z : Option A). number_given (ok_or z r)) n

module _ (bs : Bytes) (w : Whole bs) where
  -- ---- 11
  module _ {n : ℕ} {a : Bool} (t : Bytes) (i : ℕ) (v : WidthIn bs n) (e : a ≡ is_value n t) where
    pub document_3 : not a ≡ true → Gives 3 (conditions (add_document i t) (store_in bs))
    unfolding conditions
    document_3 h = gives_hit (bad_text_lem bs t v e h)

    pub document_6 : not a ≡ false → {m : ℕ} → Number (definition_count bs) m → m ≤ i → Gives 6 (conditions (add_document i t) (store_in bs))
    unfolding conditions
    document_6 h u l = gives_next (fine_text bs t v e h) (gives_hit (past_definitions bs w u i l))

    pub document_0 : not a ≡ false → {m : ℕ} → Number (definition_count bs) m → i < m → Gives 0 (conditions (add_document i t) (store_in bs))
    unfolding conditions
    document_0 h u l = gives_next (fine_text bs t v e h) (gives_next (within_definitions bs w u i l) gives_none)

  -- the kind that is read has the code that the form has
  pub kind_read : {k i : ℕ} (e : Element bs k i) {j : Kind} → j ≡ kind_by (row_definition_kind bs i) → kind_number j ≡ row_definition_kind bs i
  kind_read {k} {i} e q =
      ap kind_number q
      ∙ ap (λ (n : ℕ). kind_number (kind_by n)) (kind_is bs w e)
      ∙ by (defined bs w k i e).definition.content
      ∙ sym (kind_is bs w e)
    where
      by : (x : Content) → kind_number (kind_by (kind_code x)) ≡ kind_code x
      by empty = refl
      by pcdata = refl
      by (complex ms) = refl

  pcdata_is : {k i : ℕ} (e : Element bs k i) → pcdata_element k (store_in bs) ≡ is_pcdata (some (defined bs w k i e).definition)
  pcdata_is {k} {i} e =
      ap (λ (o : maybe.Option Row). elim o as (λ z. Bool) [ none ↦ false | some r ↦ is_pcdata (lookup r.name (form_in bs)) ]) e.found
      ∙ ap is_pcdata (defined bs w k i e).found

  pcdata_code : (d : Definition) → kind_code d.content ≡ 1 → is_pcdata (some d) ≡ true
  pcdata_code d h = by d.content refl h
    where
      by : (x : Content) → d.content ≡ x → kind_code x ≡ 1 → is_pcdata (some d) ≡ true
      by empty q h = absurd (omega arith)
      by pcdata q h = rw q
      by (complex ms) q h = absurd (omega arith)

  other_code : (d : Definition) → (kind_code d.content ≡ 1 → ⊥) → is_pcdata (some d) ≡ false
  other_code d h = by d.content refl h
    where
      by : (x : Content) → d.content ≡ x → (kind_code x ≡ 1 → ⊥) → is_pcdata (some d) ≡ false
      by empty q h = rw q
      by pcdata q h = absurd (h refl)
      by (complex ms) q h = rw q

  -- ---- 16
  module _ {n : ℕ} {a : Bool} (t : Bytes) (k : ℕ) (v : WidthIn bs n) (e : a ≡ is_value n t) where
    pub text_3 : not a ≡ true → Gives 3 (conditions (set_text k t) (store_in bs))
    unfolding conditions
    text_3 h = gives_hit (bad_text_lem bs t v e h)

    pub text_7 : not a ≡ false → NoElement bs k → Gives 7 (conditions (set_text k t) (store_in bs))
    unfolding conditions
    text_7 h f = gives_next (fine_text bs t v e h) (gives_hit f.there)

    module _ (h : not a ≡ false) {i : ℕ} (x : Element bs k i) {c : ℕ} (kind : c ≡ row_definition_kind bs i) where
      pub text_9 : (c ≡ 1 → ⊥) → Gives 9 (conditions (set_text k t) (store_in bs))
      unfolding conditions
      text_9 f = gives_next (fine_text bs t v e h) (gives_next x.there (gives_hit (ap not (pcdata_is x ∙ other_code (defined bs w k i x).definition (λ z. f (kind ∙ kind_is bs w x ∙ z))))))

      pub text_0 : c ≡ 1 → Gives 0 (conditions (set_text k t) (store_in bs))
      unfolding conditions
      text_0 f =
          gives_next (fine_text bs t v e h) (gives_next x.there (gives_next (ap not (pcdata_is x ∙ pcdata_code (defined bs w k i x).definition (sym (kind_is bs w x) ∙ sym kind ∙ f))) gives_none))
