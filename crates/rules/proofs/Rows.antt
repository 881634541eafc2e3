-- The names of the edited rows are the edited names.
use mathlib.Core.Path.{◌≡◌, refl, ap, ◌∙◌}
use mathlib.Core.Bool.{Bool, true, false, not, ◌&&◌, ◌||◌}
use mathlib.Core.List.{List, [], ◌∷◌, map, map-append}
use Rattle.rules.specs.declared.Quantifier.{Quantifier}
use Rattle.rules.specs.declared.GroupKind.{GroupKind}
use Rattle.rules.specs.Model.{Members, done, el, group, Equality, names, skips, nothing, unless, filling, member}
use Rattle.rules.specs.Place.{Context, spine, before_place}
use Rattle.rules.proofs.Children.{any_of, erase, placed, keep_first, refit, refit_group, children}
use Rattle.rules.specs.Quantifiers.{gains, cuts}
use Rattle.rules.specs.Edit.{Edit, insert, remove, quantify, convert, flatten}
use Rattle.rules.proofs.ChildRows.{erase_rows, place_rows, first_rows, refit_rows, refit_group_rows, child_rows}

module _ {A R : Type 0} (name : R → A) where
  map_if : (b : Bool) (u v : List R) (x y : List A) → map name u ≡ x → map name v ≡ y → map name (elim b [ true ↦ u | false ↦ v ]) ≡ elim b [ true ↦ x | false ↦ y ]
  map_if true u v x y e f = e
  map_if false u v x y e f = f

  module _ (E : Equality A) where
    erase_rows_lem : (x : A) (rs : List R) → map name (erase_rows E name x rs) ≡ erase E x (map name rs)
    unfolding erase_rows erase
    erase_rows_lem x [] = refl
    erase_rows_lem x (r ∷ rs) = map_if (E.same (name r) x) _ _ _ _ (erase_rows_lem x rs) (ap (λ (z : List A). name r ∷ z) (erase_rows_lem x rs))

    place_rows_lem : (ns : List A) (f : List R) (rs : List R) → map name (place_rows E name ns f rs) ≡ placed E ns (map name f) (map name rs)
    unfolding place_rows placed
    place_rows_lem ns f [] = refl
    place_rows_lem ns f (r ∷ rs) = map_if (member E (name r) ns) _ _ _ _ (ap (λ (z : List A). name r ∷ z) (place_rows_lem ns f rs)) (map-append name f (r ∷ rs))

    first_rows_lem : (x : A) (rs : List R) → map name (first_rows E name x rs) ≡ keep_first E x (map name rs)
    unfolding first_rows keep_first
    first_rows_lem x [] = refl
    first_rows_lem x (r ∷ rs) = map_if (E.same (name r) x) _ _ _ _ (ap (λ (z : List A). name r ∷ z) (erase_rows_lem x rs)) (ap (λ (z : List A). name r ∷ z) (first_rows_lem x rs))

    module _ (fill : List A → List R) (named : (ns : List A) → map name (fill ns) ≡ ns) where
      place_fill : (ns f : List A) (rs : List R) → map name (place_rows E name ns (fill f) rs) ≡ placed E ns f (map name rs)
      place_fill ns f rs = place_rows_lem ns (fill f) rs ∙ ap (λ (z : List A). placed E ns z (map name rs)) (named f)

      refit_rows_lem : (ns : List A) (x : A) (q r : Quantifier) (rs : List R) → map name (refit_rows E name fill ns x q r rs) ≡ refit E ns x q r (map name rs)
      unfolding refit_rows refit
      refit_rows_lem ns x q r rs =
          map_if (member E x (map name rs)) _ _ _ _ (map_if (cuts q r) _ _ _ _ (first_rows_lem x rs) refl) (map_if (gains q r) _ _ _ _ (place_fill ns (x ∷ []) rs) refl)

      refit_group_rows_lem : (ns : List A) (q r : Quantifier) (j : GroupKind) (ms : Members A) (rs : List R) → map name (refit_group_rows E name fill ns q r j ms rs) ≡ refit_group E ns q r j ms (map name rs)
      unfolding refit_group_rows refit_group
      refit_group_rows_lem ns q r j ms rs =
          map_if (gains q r) _ _ _ _ (map_if (any_of E (names ms) (map name rs)) _ _ _ _ refl (place_fill ns (unless (skips r || nothing j ms) (filling j ms)) rs)) refl

      pub child_rows_lem : (e : Edit A) (c : Context A) (t : Members A) (rs : List R) → map name (child_rows E name fill e c t rs) ≡ children E e c t (map name rs)
      unfolding child_rows children
      child_rows_lem (insert q n) c t rs = map_if (not (skips q) && spine c) _ _ _ _ (place_fill (before_place c) (n ∷ []) rs) refl
      child_rows_lem remove c done rs = refl
      child_rows_lem remove c (el q x t) rs = erase_rows_lem x rs
      child_rows_lem remove c (group q k ms t) rs = refl
      child_rows_lem (quantify r) c done rs = refl
      child_rows_lem (quantify r) c (el q x t) rs = map_if (spine c) _ _ _ _ (refit_rows_lem (before_place c) x q r rs) refl
      child_rows_lem (quantify r) c (group q k ms t) rs = map_if (spine c) _ _ _ _ (refit_group_rows_lem (before_place c) q r k ms rs) refl
      child_rows_lem (convert j n) c t rs = refl
      child_rows_lem flatten c t rs = refl
