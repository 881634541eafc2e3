-- Single records with indices moved, and counts of attributes, as the code makes them.
use Prim.Native.Nat.{ℕ, zero, suc, ◌+◌, ◌*◌}
use native.Mathlib.Omega.{arith}
use native.Mathlib.Nat.{mul-zero}
use mathlib.Core.Path.{◌≡◌, refl, sym, ap, ◌∙◌, subst}
use mathlib.Core.Bool.{Bool, true, false}
use mathlib.Core.List.{◌∷◌}
use lib.Dec.{ltb}
use lib.ListN.{length, drop}
use lib.Seq.{drop-drop}
use Rattle.std.specs.Prelude.{cond}
use Rattle.std.specs.List.{filter, range_with_len}
use Rattle.rules.specs.Bytes.{Bytes}
use Rattle.rules.specs.Layout.{attribute_size}
use Rattle.rules.specs.Decode.{read_particle, read_attribute, read_many}
use Rattle.codec.specs.Laid.{Laid}
use Rattle.codec.proofs.Writers.{laid_as}
use Rattle.layout.specs.Bodies.{record_at}
use Rattle.layout.specs.RecordBytes.{indexed_bytes, owned_bytes}
use Rattle.definition_writer.specs.Bodies.{member_moved}
use Rattle.definition_removal.specs.Bodies.{particle_record, attribute_record, CountWithin, attributes_up_to}

-- ---- records
module _ (g : ℕ → ℕ) (rec : Bytes) where
  pub particle_laid : {s i x : ℕ} {out out₁ : Bytes} {at at₁ : ℕ} → s ≡ (read_particle rec).row.sort → i ≡ (read_particle rec).row.index → x ≡ member_moved g s i
      → Laid (indexed_bytes x rec) out at at₁ out₁ → Laid (particle_record g rec) out at at₁ out₁
  unfolding particle_record
  particle_laid es ei ex a = laid_as (ap (λ (z : ℕ). indexed_bytes z rec) ((λ j. member_moved g (sym es j) (sym ei j)) ∙ sym ex)) a

  pub attribute_laid : {o x : ℕ} {out out₁ : Bytes} {at at₁ : ℕ} → o ≡ (read_attribute rec).owner → x ≡ g o → Laid (owned_bytes x rec) out at at₁ out₁ → Laid (attribute_record g rec) out at at₁ out₁
  unfolding attribute_record
  attribute_laid eo ex a = laid_as (ap (λ (z : ℕ). owned_bytes z rec) (ap g (sym eo) ∙ sym ex)) a

-- ---- attributes of the first i definitions
module _ (w i : ℕ) (body : Bytes) where
  -- whether attribute j is one
  abbrev pub below_at : ℕ → Bool
  below_at j = ltb (read_attribute (record_at (attribute_size w) j body)).owner i

  count_from : (n j : ℕ) → CountWithin (attributes_up_to i (read_many read_attribute (attribute_size w) n (drop (attribute_size w * j) body))) n (length (filter below_at (range_with_len j n)))
  unfolding attributes_up_to
  count_from zero j = record { is = refl; most = omega arith }
  count_from (suc n) j = by (count_from n (j + 1)) (below_at j)
    where
      size : ℕ
      size = attribute_size w

      left : Bytes
      left = drop size (drop (size * j) body)

      z : size * j + size ≡ size * (j + 1)
      z = omega arith

      later : drop (size * (j + 1)) body ≡ left
      later = sym (drop-drop size (size * j) body ∙ ap (λ (k : ℕ). drop k body) z)

      Rest : Bytes → Type 0
      Rest s = CountWithin (attributes_up_to i (read_many read_attribute size n s)) n (length (filter below_at (range_with_len (j + 1) n)))

      by : Rest (drop (size * (j + 1)) body) → (b : Bool)
          → CountWithin ((elim b as (λ z. ℕ) [ true ↦ 1 | false ↦ 0 ]) + attributes_up_to i (read_many read_attribute size n left)) (suc n)
          (length (cond b (j ∷ filter below_at (range_with_len (j + 1) n)) (filter below_at (range_with_len (j + 1) n))))
      by h true = let k = subst Rest later h in record { is = omega (arith, k.is); most = omega (arith, k.most) }
      by h false = let k = subst Rest later h in record { is = omega (arith, k.is); most = omega (arith, k.most) }

  pub count_below : (n r : ℕ) → r ≡ length (filter below_at (range_with_len 0 n)) → CountWithin (attributes_up_to i (read_many read_attribute (attribute_size w) n body)) n r
  count_below n r e =
      let h = subst (λ (k : ℕ). CountWithin (attributes_up_to i (read_many read_attribute (attribute_size w) n (drop k body))) n (length (filter below_at (range_with_len 0 n))))
      (mul-zero (attribute_size w)) (count_from n 0) in
      subst (λ (k : ℕ). CountWithin (attributes_up_to i (read_many read_attribute (attribute_size w) n body)) n k) (sym e) h
