-- The header of a store, written part by part.
use mathlib.Core.Path.{◌≡◌, sym, ap, ◌∙◌}
use mathlib.Core.List.{◌++◌}
use Prim.Native.Nat.{ℕ, ◌+◌, ◌*◌, ◌<◌, ◌≤◌}
use native.Mathlib.Omega.{arith}
use native.Mathlib.Nat.{mul-le-mul}
use lib.ListN.{length, take, drop, length-append, length-take}
use Rattle.rules.specs.Bytes.{Bytes}
use Rattle.rules.specs.Layout.{le, entry, header_size, definition_size, particle_size, attribute_size, row_size}
use Rattle.rules.specs.Decode.{definition_count}
use Rattle.codec.specs.Laid.{Laid}
use Rattle.codec.proofs.Writers.{laid_then, laid_as}
use Rattle.layout.specs.Bodies.{Width, width_of, WidthIn, Product, Place, shape_of, definition_body, definitions_in}
use Rattle.layout.specs.Header.{contents, headed}

-- the attributes that the ceilings allow, at any width and at one that a version has
pub attributes_few : (w a : ℕ) → Width w → a ≤ 64 → attribute_size w * a ≤ 17664
attributes_few w a h g = mul-le-mul {n₁ = attribute_size w} {m₁ = a} {n₂ = 276} {m₂ = 64} (omega arith) g

pub attributes_short : (w a : ℕ) → w ≤ 96 → a ≤ 64 → attribute_size w * a ≤ 7424
attributes_short w a h g = mul-le-mul {n₁ = attribute_size w} {m₁ = a} {n₂ = 116} {m₂ = 64} (omega arith) g

-- the definitions that the ceilings allow
pub definition_table_short : (bs : Bytes) {d : Bytes} → definition_count bs ≤ 64 → d ≡ definitions_in bs → length d ≤ definition_size * 64
unfolding definition_body shape_of
definition_table_short bs h e = omega (arith, ap length e, length-take (definition_size * definition_count bs) (drop header_size bs))

-- bytes of n rows of a byte string, as the code counts them
pub rows_take : {bs : Bytes} {w size n k : ℕ} → WidthIn bs w → size ≡ row_size w → Product size n k → k ≡ row_size (width_of bs) * n
rows_take {n = n} x e p = p.value ∙ ap (λ (z : ℕ). z * n) (e ∙ ap row_size x.value)

-- a place below the rows of a store within the ceilings
pub place_low : (w d p a : ℕ) {r : ℕ} → Width w → d ≤ 65 → p ≤ 256 → a ≤ 64 → Place (header_size + definition_size * d + particle_size * p + attribute_size w * a) r → r < 4294967296
place_low w d p a h x y z q = omega (arith, q.value, attributes_few w a h z)

-- n records from a place that the code has counted
pub place_as : (n : ℕ) {at r : ℕ} {out out' : Bytes} {k next : ℕ} → Place at r → Laid (entry r n) out k next out' → Laid (entry at n) out k next out'
place_as n q l = laid_as (ap (λ (z : ℕ). entry z n) (sym q.value)) l

module _ (w d p a r : ℕ) {out out₁ out₂ out₃ out₄ : Bytes} {at at₁ at₂ at₃ at₄ : ℕ} where
  pub contents_laid : Laid (entry header_size d) out at at₁ out₁ → Laid (entry (header_size + definition_size * d) p) out₁ at₁ at₂ out₂
      → Laid (entry (header_size + definition_size * d + particle_size * p) a) out₂ at₂ at₃ out₃
      → Laid (entry (header_size + definition_size * d + particle_size * p + attribute_size w * a) r) out₃ at₃ at₄ out₄ → Laid (contents w d p a r) out at at₄ out₄
  unfolding contents
  contents_laid x y z u = laid_then x (laid_then y (laid_then z u))

pub headed_short : (w next d p a r : ℕ) (bs : Bytes) → length (headed w next d p a r bs) ≤ header_size
unfolding headed contents
headed_short w next d p a r bs = omega (arith, length-append (take 4 bs) (le 4 next ++ contents w d p a r), length-take 4 bs)

pub header_laid : (w next d p a r : ℕ) (bs : Bytes) {v out out₁ out₂ out₃ : Bytes} {at₁ at₂ at₃ : ℕ} → v ≡ take 4 bs → Laid v out 0 at₁ out₁
    → Laid (le 4 next) out₁ at₁ at₂ out₂ → Laid (contents w d p a r) out₂ at₂ at₃ out₃
    → Laid (headed w next d p a r bs) out 0 at₃ out₃
unfolding headed
header_laid w next d p a r bs e x y z = laid_as (ap (λ (l : Bytes). l ++ (le 4 next ++ contents w d p a r)) (sym e)) (laid_then x (laid_then y z))
