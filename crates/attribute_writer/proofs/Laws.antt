-- The bytes of a form with an attribute more or less, as they are written.
use Prim.Native.Nat.{ℕ, suc, ◌+◌, ◌*◌, ◌<◌, ◌≤◌}
use native.Mathlib.Omega.{arith}
use native.Mathlib.Numerals.{add-one}
use mathlib.Core.Path.{◌≡◌, sym, ap, ◌∙◌}
use mathlib.Core.List.{◌∷◌, ◌++◌}
use lib.ListN.{length, take, drop}
use Rattle.rules.specs.Bytes.{Bytes}
use Rattle.rules.specs.Layout.{definition_size, particle_size, attribute_size, FlatAttribute, FlatStore, attribute_bytes, each}
use Rattle.codec.specs.Laid.{Laid}
use Rattle.codec.proofs.Writers.{laid_then, laid_as}
use Rattle.layout.specs.Bodies.{width_of, WidthIn}
use Rattle.store_laws.specs.Forms.{form_bytes}
use Rattle.plans.specs.AttributeCalls.{attribute_added, attribute_dropped}
use Rattle.attribute_form.specs.Attributes.{AttributeStands}
use Rattle.attribute_form.proofs.FormParts.{front_then, form_from, before_is}

-- an attribute at the width that the code reads
pub wide_attribute : {bs : Bytes} {w : ℕ} {out : Bytes} {at r : ℕ} {out' : Bytes} → WidthIn bs w → (c : FlatAttribute) → Laid (attribute_bytes w c) out at r out'
    → Laid (attribute_bytes (width_of bs) c) out at r out'
wide_attribute x c l = laid_as (ap (λ (k : ℕ). attribute_bytes k c) (sym x.value)) l

module _ {w : ℕ} (f : FlatStore) (i : ℕ) {form : Bytes} {at : ℕ} (same : form ≡ form_bytes w f) (s : AttributeStands w f i at) {u out out₁ : Bytes} {r₁ : ℕ} (u-is : u ≡ take at form)
    (x : Laid u out 0 r₁ out₁) where
  pub added_laid : i ≤ length f.attributes → (c : FlatAttribute) {r₂ r₃ : ℕ} {v out₂ out₃ : Bytes} → v ≡ drop at form → Laid (attribute_bytes w c) out₁ r₁ r₂ out₂ → Laid v out₂ r₂ r₃ out₃
      → Laid (form_bytes w (attribute_added i c f)) out 0 r₃ out₃
  added_laid h c {v = v} v-is y z =
      let e : v ≡ each (attribute_bytes w) (drop i f.attributes) = v-is ∙ ap (drop at) same ∙ form_from w f i at s.place h in
      laid_as (front_then w f i (c ∷ drop i f.attributes) ∙ (λ j. sym (before_is f i same s u-is x h) j ++ (attribute_bytes w c ++ sym e j))) (laid_then x (laid_then y z))

  -- past: where the next attribute stands
  pub dropped_laid : i < length f.attributes → {past r₂ : ℕ} {v out₂ : Bytes} → AttributeStands w f (i + 1) past → v ≡ drop past form → Laid v out₁ r₁ r₂ out₂
      → Laid (form_bytes w (attribute_dropped i f)) out 0 r₂ out₂
  dropped_laid h {past} {v = v} q v-is y =
      let e : v ≡ each (attribute_bytes w) (drop (suc i) f.attributes) =
      v-is ∙ ap (drop past) same ∙ form_from w f (suc i) past
      (q.place ∙ ap (λ (k : ℕ). definition_size * length f.definitions + (particle_size * length f.particles + attribute_size w * k)) (add-one i)) (omega arith)
      in
      laid_as (front_then w f i (drop (suc i) f.attributes) ∙ (λ j. sym (before_is f i same s u-is x (omega arith)) j ++ sym e j)) (laid_then x y)
