-- The form of a text in the call's local array, and the answers of the whole call: those of the stages, which are the
-- promised ones (`reads_stages` of Outcome in `text_reading`).
use Prim.Native.Nat.{ℕ, ◌*◌, ◌≤◌, ◌<◌}
use native.Mathlib.Omega.{arith}
use native.Mathlib.Nat.{zero-add, mul-zero}
use mathlib.Core.Path.{◌≡◌, refl, sym, ap, ◌∙◌, subst}
use mathlib.Core.Bool.{Bool, true, false, ◌&&◌}
use Rattle.std.specs.Prelude.{Option, None, Some, is_some}
use Rattle.std.proofs.lemmas.Option.{none-some}
use lib.ListN.{length, take, drop, length-take}
use lib.Seq.{length-sets, sets-eq, take_at}
use Rattle.rules.specs.Bytes.{Bytes}
use Rattle.rules.specs.Layout.{base_version, value_width, row_size, flat_bytes}
use Rattle.rules.specs.Decode.{row_count}
use Rattle.rules.specs.WellFormed.{within_ceilings}
use Rattle.rules.specs.Passing.{passes}
use Rattle.rules.specs.Outcome.{Outcome, Answers}
use Rattle.rules.proofs.Words.{and_split}
use Rattle.rules.proofs.LayoutLaws.{unle_le, length_flat_bytes}
use Rattle.rules.proofs.DecodeLaws.{width_most}
use Rattle.layout.proofs.HeaderLaws.{attributes_short}
use Rattle.store_laws.proofs.FormBytesLaws.{Few, few_of, few_definitions, few_particles, few_attributes}
use Rattle.form_front.specs.Front.{front_stands}
use Rattle.reading_rules.specs.Reading.{ReadPromise}
use Rattle.declaration_scan.specs.Declared.{declared_form}
use Rattle.declaration_reading.specs.Lines.{FormRead}
use Rattle.text_reading.specs.Stages.{declared_bytes, declared_text, form_stands, stages_outcome, documents_outcome}
use Rattle.text_reading.proofs.Outcome.{stages_refused, stages_on, reads_stages}
use Rattle.read_call.specs.Reading.{Confirmed}

small : base_version < 4294967296
small = omega arith

-- an answer of the stages is a promised one
promised : (txt out : Bytes) {number len : ℕ} {left : Bytes} → Answers (stages_outcome base_version txt (length out)) out number len left → ReadPromise base_version txt out number len left
promised txt out a = (stages_outcome base_version txt (length out), reads_stages base_version small txt (length out), a)

pub promised_bad : (txt out : Bytes) {number len : ℕ} → number ≡ 19 → len ≡ 0 → form_stands base_version txt ≡ false → ReadPromise base_version txt out number len out
promised_bad txt out n l e =
    promised txt out (rw (stages_refused base_version small txt (length out) e) (record { number_is = n; length_is = l; buffer_is = refl }))

-- ---- the local array
module _ (txt : Bytes) where
  -- read at the width that the version says
  pub read_at_lem : {w : ℕ} → w ≡ value_width base_version → {form form' : Bytes} {r : Option ℕ}
      → FormRead (flat_bytes w (declared_form base_version w txt)) (within_ceilings (declared_form base_version w txt)) form r form'
      → FormRead (declared_bytes base_version txt) (within_ceilings (declared_form base_version (value_width base_version) txt)) form r form'
  read_at_lem e {form} {form'} {r} x = subst (λ (w : ℕ). FormRead (flat_bytes w (declared_form base_version w txt)) (within_ceilings (declared_form base_version w txt)) form r form') e x

  -- nothing was read
  pub none_read : {form form' : Bytes} → FormRead (declared_bytes base_version txt) (within_ceilings (declared_form base_version (value_width base_version) txt)) form None form'
      → form_stands base_version txt ≡ false
  unfolding form_stands
  none_read x = by (within_ceilings (declared_form base_version (value_width base_version) txt)) refl
    where
      by : (c : Bool) → within_ceilings (declared_form base_version (value_width base_version) txt) ≡ c
          → (c && (passes (declared_bytes base_version txt) && front_stands (declared_bytes base_version txt) txt)) ≡ false
      by true q = absurd (x.written q)
      by false q = refl

  module _ {form form' : Bytes} {r : ℕ} (x : FormRead (declared_bytes base_version txt) (within_ceilings (declared_form base_version (value_width base_version) txt)) form (Some r) form') where
    module _ (room : length form ≡ 9768) where
      fits : within_ceilings (declared_form base_version (value_width base_version) txt) ≡ true
      fits = by (within_ceilings (declared_form base_version (value_width base_version) txt)) refl
        where
          by : (c : Bool) → within_ceilings (declared_form base_version (value_width base_version) txt) ≡ c → c ≡ true
          by true q = refl
          by false q = absurd (none-some r (sym (x.refused q)))

      no_rows : row_size (value_width base_version) * length (declared_form base_version (value_width base_version) txt).rows ≡ 0
      unfolding declared_form
      no_rows = mul-zero (row_size (value_width base_version))

      bytes_few : length (declared_bytes base_version txt) ≤ 9768
      bytes_few =
          let few : Few (declared_form base_version (value_width base_version) txt) = few_of (declared_form base_version (value_width base_version) txt) fits in
          omega (
            arith,
            length_flat_bytes (value_width base_version) (declared_form base_version (value_width base_version) txt),
            no_rows,
            few_definitions few,
            few_particles few,
            attributes_short (value_width base_version) (length (declared_form base_version (value_width base_version) txt).attributes) (width_most base_version) (few_attributes few),
          )

      long : r ≡ length (declared_bytes base_version txt)
      long = (x.written fits).next ∙ zero-add (length (declared_bytes base_version txt))

      -- it is in the array, and what is lent of it is the form
      pub array_room : r ≤ length form'
      array_room = omega (arith, long, bytes_few, ap length (x.written fits).stored, length-sets form 0 (declared_bytes base_version txt))

      pub array_lent : r ≡ length (take r form')
      array_lent = omega (arith, array_room, length-take r form')

      lent : take r form' ≡ declared_bytes base_version txt
      lent =
          ap (take r) ((x.written fits).stored ∙ sets-eq (declared_bytes base_version txt) form 0 (omega (arith, bytes_few)))
          ∙ take_at (declared_bytes base_version txt) _ r (sym long)

      none_there : row_count (declared_bytes base_version txt) ≡ 0
      unfolding declared_form
      none_there = unle_le 4 0 (omega arith)

      -- it has no rows
      pub array_bare : row_count (take r form') ≡ 0
      array_bare = ap row_count lent ∙ none_there

      stands_is : {o : Option ℕ} → Confirmed (take r form') txt o → form_stands base_version txt ≡ is_some o
      unfolding form_stands
      stands_is {o} c =
          ap (λ (b : Bool). b && (passes (declared_bytes base_version txt) && front_stands (declared_bytes base_version txt) txt)) fits
          ∙ sym (subst (λ (bs : Bytes). Confirmed bs txt o) lent c).is

      pub form_refused : Confirmed (take r form') txt None → form_stands base_version txt ≡ false
      form_refused c = stands_is c

      module _ {n : ℕ} (c : Confirmed (take r form') txt (Some n)) where
        pub form_passes : passes (take r form') ≡ true
        form_passes = (and_split (passes (take r form')) _ (sym c.is)).0

        -- the answer for the documents is the call's
        pub promised_on : {rest : Bytes} → rest ≡ drop n txt → (out : Bytes) {number len : ℕ} {left : Bytes}
            → Answers (documents_outcome (take r form') rest (length out)) out number len left → ReadPromise base_version txt out number len left
        promised_on {rest} e out {number} {len} {left} a =
            let behind : drop n txt ≡ drop (length (declared_text base_version txt)) txt = ap (λ (k : ℕ). drop k txt) (subst (λ (bs : Bytes). Confirmed bs txt (Some n)) lent c).size in
            promised txt out
            (rw (stages_on base_version small txt (length out) (stands_is c))
            (subst (λ (o : Outcome). Answers o out number len left) (λ i. documents_outcome (lent i) ((e ∙ behind) i) (length out)) a))
