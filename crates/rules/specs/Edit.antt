-- The changes 3 to 8 of a model at a place.
use Rattle.std.specs.Prelude.{ℕ, zero, suc, Bool, true, false, ◌&&◌, ◌||◌, not, List, leb, length}
use Rattle.std.proofs.Math.Option.{Option, none, some}
use Rattle.rules.specs.declared.Quantifier.{Quantifier}
use Rattle.rules.specs.declared.Quantifier.TheVariants.{None, Qmark, Star, Plus}
use Rattle.rules.specs.declared.GroupKind.{GroupKind}
use Rattle.rules.specs.declared.GroupKind.TheVariants.{Sequence, Choice}
use Rattle.rules.specs.Model.{Members, done, el, group, skips, nothing, is_done}
use Rattle.rules.specs.Quantifiers.{cuts, relaxes}
use Rattle.rules.specs.Place.{Context, plug, kind_at, spine, around, Found, find, gap, nth}

infixr 66 ◌⊕◌
unfoldable pub ◌⊕◌ : {A : Type 0} → Members A → Members A → Members A
done ⊕ r = r
el q n s ⊕ r = el q n (s ⊕ r)
group q k ms s ⊕ r = group q k ms (s ⊕ r)

-- one member and no more
abbrev pub lone : {A : Type 0} → Members A → Bool
lone done = false
lone (el q n rest) = is_done rest
lone (group q k ms rest) = is_done rest

abbrev pub same_kind : GroupKind → GroupKind → Bool
same_kind Sequence Sequence = true
same_kind Sequence Choice = false
same_kind Choice Sequence = false
same_kind Choice Choice = true

-- 3, 4, 5 and 8, 6, 7
pub data Edit (A : Type 0) : Type 0 where
  insert : Quantifier → A → Edit A
  remove : Edit A
  quantify : Quantifier → Edit A
  convert : GroupKind → ℕ → Edit A
  flatten : Edit A

abbrev pub first_members : {A : Type 0} → ℕ → Members A → Members A
first_members zero t = done
first_members (suc n) done = done
first_members (suc n) (el q x t) = el q x (first_members n t)
first_members (suc n) (group q k ms t) = group q k ms (first_members n t)

abbrev pub later_members : {A : Type 0} → ℕ → Members A → Members A
later_members zero t = t
later_members (suc n) done = done
later_members (suc n) (el q x t) = later_members n t
later_members (suc n) (group q k ms t) = later_members n t

-- n members are there, and n is not 0
abbrev pub has_members : {A : Type 0} → ℕ → Members A → Bool
has_members zero t = false
has_members (suc n) done = false
has_members (suc zero) (el q x t) = true
has_members (suc (suc n)) (el q x t) = has_members (suc n) t
has_members (suc zero) (group q k ms t) = true
has_members (suc (suc n)) (group q k ms t) = has_members (suc n) t

abbrev pub is_one : Quantifier → Bool
is_one None = true
is_one Qmark = false
is_one Star = false
is_one Plus = false

unfoldable pub edited : {A : Type 0} → Edit A → Members A → Members A
edited (insert q n) t = el q n t
edited remove done = done
edited remove (el q x t) = t
edited remove (group q k ms t) = group q k ms t
edited (quantify r) done = done
edited (quantify r) (el q x t) = el r x t
edited (quantify r) (group q k ms t) = group r k ms t
edited (convert j n) t = group None j (first_members n t) (later_members n t)
edited flatten done = done
edited flatten (el q x t) = el q x t
edited flatten (group q j s t) = s ⊕ t

-- where a change leads
unfoldable pub place : {A : Type 0} → Edit A → List ℕ → Members A → Option (Found A)
place (insert q n) p ms = find gap p ms
place remove p ms = find nth p ms
place (quantify r) p ms = find nth p ms
place (convert j n) p ms = find nth p ms
place flatten p ms = find nth p ms

-- 'A place of no numbers, or of over five, is absent'
unfoldable pub place_of : {A : Type 0} → Edit A → List ℕ → Members A → Option (Found A)
place_of e p ms = elim (leb (length p) 5) [ true ↦ place e p ms | false ↦ none ]

abbrev pub model_after : {A : Type 0} → Edit A → Found A → Members A
model_after e f = plug f.context (edited e f.picked)

-- ---- when an edit does not fit
-- row 13, 3: a needed member into a LIST off the spine
abbrev pub insert_off : {A : Type 0} → Context A → Quantifier → Bool
insert_off c q = not (skips q) && (same_kind (kind_at Sequence c) Sequence && not (spine c))

-- Change 4 leaves the members `t`, those after the removed one, at the place.
-- row 14, 4: the last of an inner group; the group directly around the place would be left without members
abbrev pub remove_last : {A : Type 0} → Context A → Members A → Bool
remove_last c t = elim (around c) [ none ↦ false | some g ↦ is_done (plug g.inside t) ]

-- a CHOICE that, with its quantifier, doesn't accept nothing
abbrev pub unmatched : {A : Type 0} → Quantifier → GroupKind → Members A → Bool
unmatched q Sequence ms = false
unmatched q Choice ms = not (skips q || nothing Choice ms)

-- row 15, 4: the group directly around the place would be left so
abbrev pub remove_unmatched : {A : Type 0} → Context A → Members A → Bool
remove_unmatched c t = elim (around c) [ none ↦ false | some g ↦ unmatched g.quantifier g.kind (plug g.inside t) ]

-- row 13, 5
abbrev pub quantify_off : {A : Type 0} → Context A → Quantifier → Quantifier → Bool
quantify_off c q r = not (relaxes q r) && not (spine c)

-- row 13, 8
abbrev pub quantify_group_off : {A : Type 0} → Context A → Quantifier → Quantifier → Bool
quantify_group_off c q r = quantify_off c q r || cuts q r

-- row 14, 6 and 7: members s as a group of kind j
abbrev pub group_unlike : {A : Type 0} → Context A → GroupKind → Members A → Bool
group_unlike c j s = not (same_kind j (kind_at Sequence c) || lone s)
