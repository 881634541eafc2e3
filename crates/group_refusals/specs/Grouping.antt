-- What the code of changes 6 and 7 tests.
use Rattle.std.specs.Prelude.{ℕ, Bool, ◌||◌, not, List, [], ◌∷◌, eqb}
use Rattle.rules.specs.declared.GroupKind.{GroupKind}
use Rattle.rules.specs.Model.{Members}
use Rattle.rules.specs.Edit.{same_kind, lone, first_members, has_members}
use Rattle.rules.specs.Refusal.{Condition, ◌if◌}

-- n members of a list cannot be a group of kind k
abbrev pub unlike_kind : GroupKind → GroupKind → ℕ → Bool
unlike_kind list k n = not (same_kind k list || eqb n 1)

-- rows 8 and 14 of change 6: n members from the first of t on, in a list of a kind, become a group of kind k
abbrev pub convert_tests : {A : Type 0} → GroupKind → GroupKind → ℕ → Members A → List Condition
convert_tests list k n t = 8 if not (has_members n t) ∷ 14 if not (same_kind k list || lone (first_members n t)) ∷ []
