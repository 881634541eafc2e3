-- A filling has as many rows at one depth as at another.
use Prim.Native.Nat.{ℕ, zero, suc}
use native.Mathlib.Omega.{arith}
use mathlib.Core.Path.{◌≡◌, refl, ap, ◌∙◌}
use mathlib.Core.Bool.{Bool, true, false, ◌&&◌}
use mathlib.Core.List.{List, [], ◌∷◌}
use lib.Dec.{eqb}
use lib.ListN.{length, length-append}
use Rattle.rules.specs.declared.GroupKind.TheVariants.{Sequence}
use Rattle.rules.specs.Bytes.{Bytes}
use Rattle.rules.specs.Model.{Members, filling}
use Rattle.rules.specs.Preorder.{Deep}
use Rattle.rules.specs.Layout.{FlatRow}
use Rattle.form_index.specs.Indices.{IndexForm}
use Rattle.filling.specs.declared.Filling.{Filling}
use Rattle.filling.specs.declared.Filling.TheVariants.{Nothing, Definition, Attribute, Particles}
use Rattle.filling.specs.Fillings.{new_attribute_row, group_filled, required_rows, fillings_of, content_rows, fill_index, filling_rows}

module _ (F : IndexForm) (value : ℕ → Bytes) where
  length_required : (d e i j n : ℕ) → length (required_rows F value d i j n) ≡ length (required_rows F value e i j n)
  unfolding required_rows
  length_required d e i j zero = refl
  length_required d e i j (suc n) = by (eqb (F.owner j) i && F.needed j) (length_required d e i (suc j) n)
    where
      by : (b : Bool) → length (required_rows F value d i (suc j) n) ≡ length (required_rows F value e i (suc j) n)
          → length {A = Deep FlatRow} (elim b as (λ z. List (Deep FlatRow)) [ true ↦ new_attribute_row d j (value j) ∷ required_rows F value d i (suc j) n | false ↦ required_rows F value d i (suc j) n ])
          ≡ length {A = Deep FlatRow} (elim b as (λ z. List (Deep FlatRow)) [ true ↦ new_attribute_row e j (value j) ∷ required_rows F value e i (suc j) n | false ↦ required_rows F value e i (suc j) n ])
      by true h = ap suc h
      by false h = h

  length_fillings : (f g : ℕ → List (Deep FlatRow)) → ((i : ℕ) → length (f i) ≡ length (g i)) → (is : List ℕ) → length (fillings_of F value f is) ≡ length (fillings_of F value g is)
  unfolding fillings_of
  length_fillings f g h [] = refl
  length_fillings f g h (i ∷ is) = omega (arith, length-append (f i) (fillings_of F value f is), length-append (g i) (fillings_of F value g is), h i, length_fillings f g h is)

  length_content : (f g : ℕ → List (Deep FlatRow)) → ((i : ℕ) → length (f i) ≡ length (g i)) → (txt : Bytes) (d e : ℕ) (ms : Members ℕ) (k : ℕ)
      → length (content_rows F value f txt d ms k) ≡ length (content_rows F value g txt e ms k)
  unfolding content_rows
  length_content f g h txt d e ms zero = refl
  length_content f g h txt d e ms (suc zero) = refl
  length_content f g h txt d e ms (suc (suc k)) = length_fillings f g h (filling Sequence ms)

  length_index : (h : ℕ) (txt : Bytes) (d e i : ℕ) → length (fill_index F value h txt d i) ≡ length (fill_index F value h txt e i)
  unfolding fill_index
  length_index zero txt d e i = refl
  length_index (suc h) txt d e i =
      let below : (k : ℕ) → ℕ → List (Deep FlatRow) = λ k j. fill_index F value h txt (suc k) j in
      let content : (k : ℕ) → List (Deep FlatRow) = λ k. content_rows F value (below k) txt (suc k) (F.model i) (F.kind i) in
      omega (
        arith,
        length-append (required_rows F value (suc d) i 0 F.attributes) (content d),
        length-append (required_rows F value (suc e) i 0 F.attributes) (content e),
        length_required (suc d) (suc e) i 0 F.attributes,
        length_content (below d) (below e) (λ j. length_index h txt (suc d) (suc e) j) txt (suc d) (suc e) (F.model i) (F.kind i),
      )

  pub length_filling : (at : ℕ → ℕ → Members ℕ) (what : Filling) (txt : Bytes) (d e : ℕ) → length (filling_rows F value at what txt d) ≡ length (filling_rows F value at what txt e)
  length_filling at Nothing txt d e = refl
  length_filling at (Definition i) txt d e = length_index F.size txt d e i
  length_filling at (Attribute j) txt d e = refl
  length_filling at (Particles g k n) txt d e =
      length_fillings (λ i. fill_index F value F.size txt d i) (λ i. fill_index F value F.size txt e i) (λ i. length_index F.size txt d e i) (group_filled g (at k n))

  -- one that has no rows at one depth has none at another
  pub filling_empty : (at : ℕ → ℕ → Members ℕ) (what : Filling) (txt : Bytes) (d : ℕ) → length (filling_rows F value at what txt d) ≡ 0 → (e : ℕ) → [] ≡ filling_rows F value at what txt e
  filling_empty at what txt d none e = by (filling_rows F value at what txt e) (length_filling at what txt e d ∙ none)
    where
      by : (xs : List (Deep FlatRow)) → length xs ≡ 0 → [] ≡ xs
      by [] n = refl
      by (x ∷ xs) n = absurd (omega (arith, n))
