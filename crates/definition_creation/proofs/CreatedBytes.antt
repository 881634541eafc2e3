-- The bytes of a store after change 1, as the code writes them.
use Prim.Native.Nat.{ℕ, ◌+◌, ◌*◌, ◌≤◌}
use native.Mathlib.Omega.{arith}
use native.Mathlib.Nat.{mul-le-mul}
use mathlib.Core.Path.{◌≡◌, sym, ap, ap₂, ◌∙◌}
use mathlib.Core.List.{[], ◌∷◌, ◌++◌, append_assoc, append-nil}
use lib.ListN.{length, drop, length-append, length-drop}
use Rattle.rules.specs.Bytes.{Bytes}
use Rattle.rules.specs.Layout.{header_size, definition_size, row_size, FlatStore, flat_bytes, definition_bytes, each}
use Rattle.rules.specs.Decode.{number_at, definition_count, particle_count, attribute_count, row_count}
use Rattle.rules.proofs.LayoutLaws.{each_append}
use Rattle.codec.specs.Laid.{Laid}
use Rattle.codec.proofs.Writers.{laid_then, laid_as}
use Rattle.layout.specs.Bodies.{width_of, Number, Place, definitions_in}
use Rattle.layout.specs.Header.{headed}
use Rattle.layout.proofs.LayoutLaws.{width_small}
use Rattle.layout.proofs.HeaderLaws.{attributes_few, headed_short, definition_table_short}
use Rattle.definition_writer.specs.Bodies.{new_definition}
use Rattle.store_laws.proofs.Encoded.{Encoded, length_is, bytes_are, others, definitions_at, others_at}
use Rattle.definition_creation.specs.Bodies.{created}
use Rattle.layout.specs.Fields.{next_at}

module _ {bs : Bytes} {f : FlatStore} (n : Bytes) (k : ℕ) (x : Encoded bs f) where
  new_bytes : each definition_bytes (new_definition n k ∷ []) ≡ definition_bytes (new_definition n k)
  new_bytes = append-nil (definition_bytes (new_definition n k))

  header_is : headed (width_of bs) (created n k f).next (length (created n k f).definitions) (length f.particles) (length f.attributes) (length f.rows)
      (flat_bytes (width_of bs) (created n k f))
      ≡ headed (width_of bs) (number_at next_at 4 bs) (definition_count bs + 1) (particle_count bs) (attribute_count bs) (row_count bs) bs
  unfolding created headed
  header_is =
      λ i.
      headed (width_of bs) (sym x.serial i) ((length-append f.definitions (new_definition n k ∷ []) ∙ ap (λ (m : ℕ). m + 1) (sym x.definitions)) i) (sym x.particles i)
      (sym x.attributes i) (sym x.rows i) (x.written i)

  created_bytes : flat_bytes (width_of bs) (created n k f)
      ≡ headed (width_of bs) (number_at next_at 4 bs) (definition_count bs + 1) (particle_count bs) (attribute_count bs)
      (row_count bs) bs ++ (definitions_in bs ++ (definition_bytes (new_definition n k) ++ drop (header_size + definition_size * definition_count bs) bs))
  unfolding created
  created_bytes =
      bytes_are (width_of bs) (created n k f)
      ∙ ap₂ (λ (u v : Bytes). u ++ v) header_is
      (ap (λ (l : Bytes). l ++ others (width_of bs) f) (each_append definition_bytes f.definitions (new_definition n k ∷ []) ∙ ap₂ (λ (u v : Bytes). u ++ v) (sym (definitions_at x)) new_bytes)
      ∙ append_assoc (definitions_in bs) (definition_bytes (new_definition n k)) (others (width_of bs) f)
      ∙ ap (λ (l : Bytes). definitions_in bs ++ (definition_bytes (new_definition n k) ++ l)) (sym (others_at x)))

  -- what the writers wrote; the counts are the ones that they read
  pub created_laid : {d p a rest : ℕ} {u v out out₁ out₂ out₃ out₄ : Bytes} {at₁ at₂ at₃ at₄ : ℕ} → Number (definition_count bs) d → Number (particle_count bs) p → Number (attribute_count bs) a
      → Place (header_size + definition_size * d) rest → u ≡ definitions_in bs → v ≡ drop rest bs
      → Laid (headed (width_of bs) (number_at next_at 4 bs) (d + 1) p a (row_count bs) bs) out 0 at₁ out₁ → Laid u out₁ at₁ at₂ out₂ → Laid (definition_bytes (new_definition n k)) out₂ at₂ at₃ out₃
      → Laid v out₃ at₃ at₄ out₄
      → Laid (flat_bytes (width_of bs) (created n k f)) out 0 at₄ out₄
  created_laid {u = u} {v = v} dd pp aa place eu ev header front new back =
      let e : drop (header_size + definition_size * definition_count bs) bs ≡ v = sym (ev ∙ ap (λ (j : ℕ). drop j bs) (place.value ∙ ap (λ (j : ℕ). header_size + definition_size * j) dd.value)) in
      laid_as
      (created_bytes
      ∙ λ i. headed (width_of bs) (number_at next_at 4 bs) (sym dd.value i + 1) (sym pp.value i) (sym aa.value i) (row_count bs) bs ++ (sym eu i ++ (definition_bytes (new_definition n k) ++ e i)))
      (laid_then header (laid_then front (laid_then new back)))

  -- how far they have come
  pub after_header : (d p a : ℕ) {out out₁ : Bytes} {at₁ : ℕ} → Laid (headed (width_of bs) (number_at next_at 4 bs) d p a (row_count bs) bs) out 0 at₁ out₁ → at₁ ≤ header_size
  after_header d p a header = omega (arith, header.next, headed_short (width_of bs) (number_at next_at 4 bs) d p a (row_count bs) bs)

  pub front_short : {u : Bytes} → u ≡ definitions_in bs → length u ≤ definition_size * 64
  front_short = definition_table_short bs (omega (arith, x.definitions, x.few_definitions))

  pub back_short : (rest : ℕ) {v : Bytes} → v ≡ drop rest bs → length v ≤ 2000000
  back_short rest e =
      omega (
        arith,
        ap length e,
        length-drop rest bs,
        length_is x,
        x.definitions,
        x.few_definitions,
        x.particles,
        x.few_particles,
        attributes_few (width_of bs) (attribute_count bs) (width_small bs) (omega (arith, x.attributes, x.few_attributes)),
        mul-le-mul {n₁ = row_size (width_of bs)} {m₁ = row_count bs} {n₂ = row_size 256} {m₂ = 4096} (omega (arith, width_small bs)) (omega (arith, x.rows, x.few_rows)),
      )
