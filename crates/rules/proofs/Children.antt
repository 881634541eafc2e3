-- What changes 3 to 8 do to the names of one instance's children.
use mathlib.Core.Bool.{Bool, true, false, ◌&&◌, ◌||◌, not}
use mathlib.Core.List.{List, [], ◌∷◌, ◌++◌}
use Rattle.rules.specs.declared.Quantifier.{Quantifier}
use Rattle.rules.specs.declared.GroupKind.{GroupKind}
use Rattle.rules.specs.Model.{Members, done, el, group, Equality, names, Distinct, Full, skips, nothing, unless, filling, member, full, distinct}
use Rattle.rules.specs.Quantifiers.{gains, cuts}
use Rattle.rules.specs.Place.{Context, here, past, over, into, plug, spine, before_place}
use Rattle.rules.specs.Edit.{◌⊕◌, Edit, insert, remove, quantify, convert, flatten, first_members, has_members, is_one, insert_off}
use Rattle.rules.specs.Edit.{remove_last, remove_unmatched, quantify_off, quantify_group_off, group_unlike}

-- a word without a name
unfoldable pub erase : {A : Type 0} → Equality A → A → List A → List A
erase E x [] = []
erase E x (y ∷ w) = elim (E.same y x) [ true ↦ erase E x w | false ↦ y ∷ erase E x w ]

-- `f` put after the names that belong to earlier particles
unfoldable pub placed : {A : Type 0} → Equality A → List A → List A → List A → List A
placed E ns f [] = f
placed E ns f (y ∷ w) = elim (member E y ns) [ true ↦ y ∷ placed E ns f w | false ↦ f ++ (y ∷ w) ]

-- of the name x the first stays
unfoldable pub keep_first : {A : Type 0} → Equality A → A → List A → List A
keep_first E x [] = []
keep_first E x (y ∷ w) = elim (E.same y x) [ true ↦ y ∷ erase E x w | false ↦ y ∷ keep_first E x w ]

-- 5: the children of an instance after an element's quantifier went from q to r
unfoldable pub refit : {A : Type 0} → Equality A → List A → A → Quantifier → Quantifier → List A → List A
refit E ns x q r w =
    elim (member E x w) [
      | true ↦ elim (cuts q r) [ true ↦ keep_first E x w | false ↦ w ]
      | false ↦ elim (gains q r) [ true ↦ placed E ns (x ∷ []) w | false ↦ w ]
    ]

-- 8: the same for a group that is not cut: an instance without a child of the group gets its filling
unfoldable pub any_of : {A : Type 0} → Equality A → List A → List A → Bool
any_of E ns [] = false
any_of E ns (y ∷ w) = elim (member E y ns) [ true ↦ true | false ↦ any_of E ns w ]

unfoldable pub refit_group : {A : Type 0} → Equality A → List A → Quantifier → Quantifier → GroupKind → Members A → List A → List A
refit_group E ns q r j ms w =
    elim (gains q r) [
      | true ↦ elim (any_of E (names ms) w) [ true ↦ w | false ↦ placed E ns (unless (skips r || nothing j ms) (filling j ms)) w ]
      | false ↦ w
    ]

-- ---- the members before and after a place on the spine
unfoldable pub ahead : {A : Type 0} → Context A → Members A
ahead here = done
ahead (past q n c) = el q n (ahead c)
ahead (over q k ms c) = group q k ms (ahead c)
ahead (into q k c rest) = ahead c

unfoldable pub behind : {A : Type 0} → Context A → Members A
behind here = done
behind (past q n c) = behind c
behind (over q k ms c) = behind c
behind (into q k c rest) = behind c ⊕ rest

abbrev pub inserted : {A : Type 0} → Equality A → Context A → Quantifier → A → List A → List A
inserted E c q n w = elim (not (skips q) && spine c) [ true ↦ placed E (before_place c) (n ∷ []) w | false ↦ w ]

abbrev pub requantified : {A : Type 0} → Equality A → Context A → A → Quantifier → Quantifier → List A → List A
requantified E c x q r w = elim (spine c) [ true ↦ refit E (before_place c) x q r w | false ↦ w ]

abbrev pub group_requantified : {A : Type 0} → Equality A → Context A → Quantifier → Quantifier → GroupKind → Members A → List A → List A
group_requantified E c q r j ms w = elim (spine c) [ true ↦ refit_group E (before_place c) q r j ms w | false ↦ w ]

-- rows 8, 10 and 14
unfoldable pub misplaced : {A : Type 0} → Equality A → Edit A → Context A → Members A → Bool
misplaced E (insert q n) c t = member E n (names (plug c t))
misplaced E remove c done = true
misplaced E remove c (el q x t) = remove_last c t
misplaced E remove c (group q k ms t) = true
misplaced E (quantify r) c done = true
misplaced E (quantify r) c (el q x t) = false
misplaced E (quantify r) c (group q k ms t) = false
misplaced E (convert j n) c t = not (has_members n t) || group_unlike c j (first_members n t)
misplaced E flatten c done = true
misplaced E flatten c (el q x t) = true
misplaced E flatten c (group q j s t) = not (is_one q) || group_unlike c j s

-- rows 13 and 15, where an instance exists
unfoldable pub unfit : {A : Type 0} → Edit A → Context A → Members A → Bool
unfit (insert q n) c t = insert_off c q
unfit remove c done = false
unfit remove c (el q x t) = remove_unmatched c t
unfit remove c (group q k ms t) = false
unfit (quantify r) c done = false
unfit (quantify r) c (el q x t) = quantify_off c q r
unfit (quantify r) c (group q k ms t) = quantify_group_off c q r
unfit (convert j n) c t = false
unfit flatten c t = false

unfoldable pub children : {A : Type 0} → Equality A → Edit A → Context A → Members A → List A → List A
children E (insert q n) c t w = inserted E c q n w
children E remove c done w = w
children E remove c (el q x t) w = erase E x w
children E remove c (group q k ms t) w = w
children E (quantify r) c done w = w
children E (quantify r) c (el q x t) w = requantified E c x q r w
children E (quantify r) c (group q k ms t) w = group_requantified E c q r k ms w
children E (convert j n) c t w = w
children E flatten c t w = w

-- of a model: no name twice, inner groups not empty
pub record Sound {A : Type 0} (ms : Members A) : Type 0 where
  pub distinct : Distinct (names ms)
  pub full : Full ms

unfoldable pub sound : {A : Type 0} → Equality A → Members A → Bool
sound E ms = distinct E (names ms) && full ms
