-- The bytes of a definition, a particle and an attribute, written part by part.
use mathlib.Core.Path.{◌≡◌, refl, sym, ap, ◌∙◌}
use mathlib.Core.List.{[], ◌∷◌, ◌++◌}
use Prim.Native.Nat.{ℕ, zero, suc, ◌+◌, ◌-◌, ◌*◌, ◌≤◌}
use native.Mathlib.Nat.{le_of_suc-le-suc}
use native.Mathlib.Omega.{arith}
use lib.ListN.{length, take, drop, replicate, length-drop}
use lib.Seq.{take_all}
use Rattle.rules.specs.Bytes.{Bytes}
use Rattle.rules.specs.Layout.{le, field, name_width, definition_size, attribute_size, definition_bytes, attribute_bytes}
use Rattle.rules.specs.Decode.{read_particle}
use Rattle.codec.specs.Laid.{Laid}
use Rattle.codec.proofs.Writers.{laid_then, laid_as}
use Rattle.layout.specs.Fields.{definition_particles_at}
use Rattle.layout.specs.Bodies.{window_of, Product}
use Rattle.layout.specs.RecordBytes.{definition_of, attribute_of, indexed_bytes, owned_bytes}
use Rattle.layout.proofs.LayoutLaws.{cut_past}

-- ---- a value, zero filled
pub field_is : (w : ℕ) (v : Bytes) → length v ≤ w → field w v ≡ v ++ replicate (w - length v) 0
field_is zero [] h = refl
field_is zero (x ∷ v) h = absurd (omega arith)
field_is (suc w) [] h = let e : suc w - 0 ≡ suc (w - 0) = omega arith in rw e (ap (λ (l : Bytes). 0 ∷ l) (field_is w [] (omega arith)))
field_is (suc w) (x ∷ v) h = let e : suc w - suc (length v) ≡ w - length v = omega arith in rw e (ap (λ (l : Bytes). x ∷ l) (field_is w v (le_of_suc-le-suc h)))

-- ---- records
pub definition_laid : (name : Bytes) (kind particles : ℕ) {out out₁ out₂ out₃ : Bytes} {at at₁ at₂ at₃ : ℕ}
    → Laid (length name ∷ field name_width name) out at at₁ out₁ → Laid (kind ∷ []) out₁ at₁ at₂ out₂ → Laid (le 2 particles) out₂ at₂ at₃ out₃
    → Laid (definition_bytes (definition_of name kind particles)) out at at₃ out₃
definition_laid name kind particles a b c = laid_then a (laid_then b c)

pub value_laid : (w : ℕ) (value : Bytes) {out out₁ out₂ : Bytes} {at at₁ at₂ : ℕ} → Laid (length value ∷ []) out at at₁ out₁
    → Laid (field w value) out₁ at₁ at₂ out₂ → Laid (length value ∷ field w value) out at at₂ out₂
value_laid w value a b = laid_then a b

pub attribute_laid : (w owner : ℕ) (name : Bytes) (sort : ℕ) (value : Bytes) {out out₁ out₂ out₃ out₄ : Bytes} {at at₁ at₂ at₃ at₄ : ℕ}
    → Laid (owner ∷ []) out at at₁ out₁ → Laid (length name ∷ field name_width name) out₁ at₁ at₂ out₂
    → Laid (sort ∷ []) out₂ at₂ at₃ out₃ → Laid (length value ∷ field w value) out₃ at₃ at₄ out₄ → Laid (attribute_bytes w (attribute_of owner name sort value)) out at at₄ out₄
attribute_laid w owner name sort value a b c d = laid_then a (laid_then b (laid_then c d))

-- ---- an old record
pub indexed_laid : (rec : Bytes) (index depth : ℕ) {u out out₁ out₂ out₃ : Bytes} {at at₁ at₂ at₃ : ℕ} → depth ≡ (read_particle rec).depth → u ≡ take 2 rec
    → Laid u out at at₁ out₁ → Laid (index ∷ []) out₁ at₁ at₂ out₂ → Laid (depth ∷ []) out₂ at₂ at₃ out₃
    → Laid (indexed_bytes index rec) out at at₃ out₃
unfolding indexed_bytes
indexed_laid rec index depth e g a b c = laid_as (λ j. sym g j ++ (index ∷ sym e j ∷ [])) (laid_then a (laid_then b c))

pub owned_laid : (w : ℕ) (rec : Bytes) (owner : ℕ) {u out out₁ out₂ : Bytes} {at at₁ at₂ : ℕ} → length rec ≤ attribute_size w → u ≡ window_of 1 (20 + w) rec
    → Laid (owner ∷ []) out at at₁ out₁ → Laid u out₁ at₁ at₂ out₂
    → Laid (owned_bytes owner rec) out at at₂ out₂
unfolding owned_bytes
owned_laid w rec owner h g a b = laid_as (ap (λ (l : Bytes). owner ∷ l) (sym (g ∙ take_all (20 + w) (drop 1 rec) (omega (arith, length-drop 1 rec))))) (laid_then a b)

-- the definitions after the count that is written
pub rest_counted : (o : ℕ) (s : Bytes) {r : Bytes} → r ≡ take (length s) (drop (definition_size * o + definition_particles_at + 2) s) → drop (definition_size * o + definition_size) s ≡ r
rest_counted o s e =
    let z : definition_size * o + definition_size ≡ definition_size * o + definition_particles_at + 2 = omega arith in
    ap (λ (k : ℕ). drop k s) z ∙ sym (e ∙ cut_past s (definition_size * o + definition_particles_at + 2))

-- ---- parts of a body
pub records_rest : (s r : Bytes) (size i p : ℕ) → Product size i p → r ≡ window_of p (length s) s → r ≡ drop (size * i) s
records_rest s r size i p x e = e ∙ cut_past s p ∙ ap (λ (k : ℕ). drop k s) x.value
