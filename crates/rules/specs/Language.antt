-- The language of a content model.
use Rattle.std.specs.Prelude.{ℕ, zero, suc, ◌≤◌, ◌≡◌, ◌⊎◌, List, [], ◌∷◌, ◌++◌}
use Rattle.rules.specs.declared.Quantifier.{Quantifier}
use Rattle.rules.specs.declared.Quantifier.TheVariants.{None, Qmark, Star, Plus}
use Rattle.rules.specs.declared.GroupKind.{GroupKind}
use Rattle.rules.specs.declared.GroupKind.TheVariants.{Sequence, Choice}
use Rattle.rules.specs.Model.{Members, done, el, group}

-- a language: of each word of names, whether it belongs
abbrev pub Language : Type 0 → Type 1
Language A = List A → Type 0

-- a word of `L`, then one of `M`
abbrev pub Then : {A : Type 0} → Language A → Language A → Language A
Then {A} L M w = (u : List A) × (v : List A) × (u ++ v ≡ w) × L u × M v

-- `n` words of `L`, one after the other
abbrev pub Times : {A : Type 0} → ℕ → Language A → Language A
Times zero L w = w ≡ []
Times (suc n) L w = Then L (Times n L) w

-- how often a quantifier lets its particle stand
abbrev pub Allowed : Quantifier → ℕ → Type 0
Allowed None n = n ≡ 1
Allowed Qmark n = n ≤ 1
Allowed Star n = Unit {0}
Allowed Plus n = 1 ≤ n

abbrev pub Repeated : {A : Type 0} → Quantifier → Language A → Language A
Repeated q L w = (n : ℕ) × Allowed q n × Times n L w

-- a member and the members after it: one after the other in a LIST, one or the other in a CHOICE
abbrev pub Joined : {A : Type 0} → GroupKind → Language A → Language A → Language A
Joined Sequence L M w = Then L M w
Joined Choice L M w = L w ⊎ M w

abbrev pub Ended : {A : Type 0} → GroupKind → Language A
Ended Sequence w = w ≡ []
Ended Choice w = ⊥

unfoldable pub Matches : {A : Type 0} → GroupKind → Members A → Language A
Matches k done w = Ended k w
Matches k (el q n rest) w = Joined k (Repeated q (λ u. u ≡ n ∷ [])) (λ u. Matches k rest u) w
Matches k (group q j ms rest) w = Joined k (Repeated q (λ u. Matches j ms u)) (λ u. Matches k rest u) w

-- the whole model is an unquantified LIST
abbrev pub Conforms : {A : Type 0} → Members A → Language A
Conforms ms w = Matches Sequence ms w
