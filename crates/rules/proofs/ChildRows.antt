-- The same edits on the rows right below one instance: a row's name is its letter.
use mathlib.Core.Bool.{true, false, not, ◌&&◌, ◌||◌}
use mathlib.Core.List.{List, [], ◌∷◌, ◌++◌, map}
use Rattle.rules.specs.declared.Quantifier.{Quantifier}
use Rattle.rules.specs.declared.GroupKind.{GroupKind}
use Rattle.rules.specs.Model.{Members, done, el, group, Equality, names, skips, nothing, unless, filling, member}
use Rattle.rules.specs.Place.{Context, spine, before_place}
use Rattle.rules.proofs.Children.{any_of}
use Rattle.rules.specs.Quantifiers.{gains, cuts}
use Rattle.rules.specs.Edit.{Edit, insert, remove, quantify, convert, flatten}

-- E: equal names; name: a row's; fill: rows made for names
module _ {A R : Type 0} (E : Equality A) (name : R → A) where
  unfoldable pub erase_rows : A → List R → List R
  erase_rows x [] = []
  erase_rows x (r ∷ rs) = elim (E.same (name r) x) [ true ↦ erase_rows x rs | false ↦ r ∷ erase_rows x rs ]

  unfoldable pub place_rows : List A → List R → List R → List R
  place_rows ns f [] = f
  place_rows ns f (r ∷ rs) = elim (member E (name r) ns) [ true ↦ r ∷ place_rows ns f rs | false ↦ f ++ (r ∷ rs) ]

  unfoldable pub first_rows : A → List R → List R
  first_rows x [] = []
  first_rows x (r ∷ rs) = elim (E.same (name r) x) [ true ↦ r ∷ erase_rows x rs | false ↦ r ∷ first_rows x rs ]

  module _ (fill : List A → List R) where
    unfoldable pub refit_rows : List A → A → Quantifier → Quantifier → List R → List R
    refit_rows ns x q r rs =
        elim (member E x (map name rs)) [
          | true ↦ elim (cuts q r) [ true ↦ first_rows x rs | false ↦ rs ]
          | false ↦ elim (gains q r) [ true ↦ place_rows ns (fill (x ∷ [])) rs | false ↦ rs ]
        ]

    unfoldable pub refit_group_rows : List A → Quantifier → Quantifier → GroupKind → Members A → List R → List R
    refit_group_rows ns q r j ms rs =
        elim (gains q r) [
          | true ↦ elim (any_of E (names ms) (map name rs)) [ true ↦ rs | false ↦ place_rows ns (fill (unless (skips r || nothing j ms) (filling j ms))) rs ]
          | false ↦ rs
        ]

    unfoldable pub child_rows : Edit A → Context A → Members A → List R → List R
    child_rows (insert q n) c t rs = elim (not (skips q) && spine c) [ true ↦ place_rows (before_place c) (fill (n ∷ [])) rs | false ↦ rs ]
    child_rows remove c done rs = rs
    child_rows remove c (el q x t) rs = erase_rows x rs
    child_rows remove c (group q k ms t) rs = rs
    child_rows (quantify r) c done rs = rs
    child_rows (quantify r) c (el q x t) rs = elim (spine c) [ true ↦ refit_rows (before_place c) x q r rs | false ↦ rs ]
    child_rows (quantify r) c (group q k ms t) rs = elim (spine c) [ true ↦ refit_group_rows (before_place c) q r k ms rs | false ↦ rs ]
    child_rows (convert j n) c t rs = rs
    child_rows flatten c t rs = rs
