-- What the code of changes 5 and 8 tests.
use Rattle.std.specs.Prelude.{ℕ, Bool, true, false, ◌&&◌, ◌||◌, not, List, [], ◌∷◌, ltb}
use Rattle.rules.specs.declared.Quantifier.{Quantifier}
use Rattle.rules.specs.Bytes.{Bytes, is_none}
use Rattle.rules.specs.Quantifiers.{relaxes, gains, cuts}
use Rattle.rules.specs.Decode.{definition_count}
use Rattle.rules.specs.Change.{Call, change_quantifier, change_group_quantifier}
use Rattle.rules.specs.Refusal.{Condition, ◌if◌, bad_text}
use Rattle.store_laws.specs.Stores.{store_in}

-- row 13 of changes 5 and 8: without an instance
abbrev pub is_off : Bool → Quantifier → Quantifier → Bool → Bool
is_off spine old new is_group = (not (relaxes old new) && not spine) || (is_group && cuts old new)

-- rows 3, 4 and 6 of changes 5 and 8, then rows 12 and 13
abbrev pub early_tests : ℕ → ℕ → Bytes → Bytes → List Condition
early_tests o q t bs = 3 if bad_text (store_in bs) t ∷ 4 if ltb 3 q ∷ 6 if not (ltb o (definition_count bs)) ∷ []

abbrev pub quantifier_tests : Bool → Bool → Quantifier → Quantifier → Bytes → Bool → List Condition
quantifier_tests exists spine old new t is_group = 12 if (gains old new && is_none t) ∷ 13 if (exists && is_off spine old new is_group) ∷ []

-- changes 5 and 8: a new quantifier for an element, or for a group
abbrev pub requantify : Bool → ℕ → List ℕ → ℕ → Bytes → Call
requantify false o p q t = change_quantifier o p q t
requantify true o p q t = change_group_quantifier o p q t
