-- All rows of a filling are new.
use Prim.Native.Nat.{ℕ, zero, suc}
use native.Mathlib.Omega.{arith}
use mathlib.Core.Path.{◌≡◌, refl}
use mathlib.Core.Bool.{Bool, true, false, ◌&&◌}
use mathlib.Core.List.{List, [], ◌∷◌, ◌++◌}
use lib.Dec.{eqb}
use lib.ListN.{length, length-append}
use Rattle.rules.specs.declared.GroupKind.TheVariants.{Sequence}
use Rattle.rules.specs.Bytes.{Bytes}
use Rattle.rules.specs.Model.{Members, filling}
use Rattle.rules.specs.Preorder.{Deep}
use Rattle.rules.specs.Layout.{FlatRow}
use Rattle.form_index.specs.Indices.{IndexForm}
use Rattle.row_writer.specs.Written.{new_in}
use Rattle.row_writer.proofs.WrittenLaws.{new_append}
use Rattle.filling.specs.declared.Filling.{Filling}
use Rattle.filling.specs.declared.Filling.TheVariants.{Nothing, Definition, Attribute, Particles}
use Rattle.filling.specs.Fillings.{new_attribute_row, group_filled, required_rows, fillings_of, content_rows, fill_index, filling_rows}

abbrev pub New : List (Deep FlatRow) → Type 0
New xs = new_in xs ≡ length xs

new_both : (xs ys : List (Deep FlatRow)) → New xs → New ys → New (xs ++ ys)
new_both xs ys a b = omega (arith, new_append xs ys, length-append xs ys, a, b)

module _ (F : IndexForm) (value : ℕ → Bytes) where
  new_required : (d i j n : ℕ) → New (required_rows F value d i j n)
  unfolding required_rows
  new_required d i j zero = refl
  new_required d i j (suc n) = by (eqb (F.owner j) i && F.needed j) (new_required d i (suc j) n)
    where
      by : (b : Bool) → New (required_rows F value d i (suc j) n)
          → New (elim b as (λ z. List (Deep FlatRow)) [ true ↦ new_attribute_row d j (value j) ∷ required_rows F value d i (suc j) n | false ↦ required_rows F value d i (suc j) n ])
      by true h = omega (arith, h)
      by false h = h

  new_fillings : (f : ℕ → List (Deep FlatRow)) → ((i : ℕ) → New (f i)) → (is : List ℕ) → New (fillings_of F value f is)
  unfolding fillings_of
  new_fillings f h [] = refl
  new_fillings f h (i ∷ is) = new_both (f i) (fillings_of F value f is) (h i) (new_fillings f h is)

  new_content : (f : ℕ → List (Deep FlatRow)) → ((i : ℕ) → New (f i)) → (txt : Bytes) (d : ℕ) (ms : Members ℕ) (k : ℕ) → New (content_rows F value f txt d ms k)
  unfolding content_rows
  new_content f h txt d ms zero = refl
  new_content f h txt d ms (suc zero) = refl
  new_content f h txt d ms (suc (suc k)) = new_fillings f h (filling Sequence ms)

  new_index : (h : ℕ) (txt : Bytes) (d i : ℕ) → New (fill_index F value h txt d i)
  unfolding fill_index
  new_index zero txt d i = refl
  new_index (suc h) txt d i =
      let below : ℕ → List (Deep FlatRow) = λ j. fill_index F value h txt (suc d) j in
      let required : List (Deep FlatRow) = required_rows F value (suc d) i 0 F.attributes in
      let content : List (Deep FlatRow) = content_rows F value below txt (suc d) (F.model i) (F.kind i) in
      omega (arith, new_both required content (new_required (suc d) i 0 F.attributes) (new_content below (λ j. new_index h txt (suc d) j) txt (suc d) (F.model i) (F.kind i)))

  pub new_filling : (at : ℕ → ℕ → Members ℕ) (what : Filling) (txt : Bytes) (d : ℕ) → New (filling_rows F value at what txt d)
  new_filling at Nothing txt d = refl
  new_filling at (Definition i) txt d = new_index F.size txt d i
  new_filling at (Attribute j) txt d = refl
  new_filling at (Particles g k n) txt d = new_fillings (λ i. fill_index F value F.size txt d i) (λ i. new_index F.size txt d i) (group_filled g (at k n))
