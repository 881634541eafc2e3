-- What the readers of codes answer: what has the code that a call gives, or the refusal of a code that nothing has; the
-- kind of a particle by the code of its sort.
use Rattle.std.specs.Prelude.{◌≡◌, ℕ, zero, suc, ◌<◌, ◌≤◌, ◌⊎◌, ◌≢◌, Result, MatchResult, Option, None, Some}
use Rattle.rules.specs.declared.GroupKind.{GroupKind}
use Rattle.rules.specs.declared.Refusal.{Refusal}
use Rattle.rules.specs.declared.Refusal.TheVariants.{BadCode}
use Rattle.rules.specs.Decode.{group_of}

-- `of` the codes from 0 up to the last
abbrev pub IsCodeUpTo : {A : Type 0} → ℕ → (ℕ → A) → ℕ → Result A Refusal → Type 0
IsCodeUpTo last of code r = MatchResult r (λ x. (x ≡ of code) × (code ≤ last)) (λ e. (e ≡ BadCode) × (last < code))

-- the kinds of groups have the codes 1 and 2
abbrev pub IsGroupCode : ℕ → Result GroupKind Refusal → Type 0
IsGroupCode code r = MatchResult r (λ x. (x ≡ group_of code) × ((code ≡ 1) ⊎ (code ≡ 2))) (λ e. (e ≡ BadCode) × (code ≢ 1) × (code ≢ 2))

-- the kind of a particle that is a group; none of an element, whose sort is 0
abbrev pub read_group : ℕ → Option GroupKind
read_group zero = None
read_group (suc k) = Some (group_of (suc k))
