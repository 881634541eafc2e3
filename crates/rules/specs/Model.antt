-- Content models: members with their quantifiers, over any type of names.
use Rattle.std.specs.Prelude.{◌≡◌, Bool, true, false, not, ◌&&◌, ◌||◌}
use mathlib.Core.List.{List, [], ◌∷◌, ◌++◌, Memᴰ}
use Rattle.rules.specs.declared.Quantifier.{Quantifier}
use Rattle.rules.specs.declared.Quantifier.TheVariants.{None, Qmark, Star, Plus}
use Rattle.rules.specs.declared.GroupKind.{GroupKind}
use Rattle.rules.specs.declared.GroupKind.TheVariants.{Sequence, Choice}

-- The members of a group, in order. An element or a group, each with its quantifier, then the members after it.
pub data Members (A : Type 0) : Type 0 where
  done : Members A
  el : Quantifier → A → Members A → Members A
  group : Quantifier → GroupKind → Members A → Members A → Members A

-- a test for equal names: byte strings in the form, indices in the code
pub record Equality (A : Type 0) : Type 0 where
  pub same : A → A → Bool
  pub same→ : (x y : A) → same x y ≡ true → x ≡ y
  pub same← : (x y : A) → x ≡ y → same x y ≡ true

-- the names, in order
unfoldable pub names : {A : Type 0} → Members A → List A
names done = []
names (el q n rest) = n ∷ names rest
names (group q k ms rest) = names ms ++ names rest

-- no entry stands twice
abbrev pub Distinct : {A : Type 0} → List A → Type 0
Distinct [] = Unit {0}
Distinct (x ∷ xs) = (Memᴰ x xs → ⊥) × Distinct xs

-- 'accepts nothing': a quantifier that lets a particle be absent
abbrev pub skips : Quantifier → Bool
skips None = false
skips Qmark = true
skips Star = true
skips Plus = false

-- of the first member and of the others: all do in a LIST, one does in a CHOICE; and of no members
abbrev pub both : GroupKind → Bool → Bool → Bool
both Sequence a b = a && b
both Choice a b = a || b

abbrev pub neutral : GroupKind → Bool
neutral Sequence = true
neutral Choice = false

-- of the members of a group of kind k, with no regard to its own quantifier
unfoldable pub nothing : {A : Type 0} → GroupKind → Members A → Bool
nothing k done = neutral k
nothing k (el q n rest) = both k (skips q) (nothing k rest)
nothing k (group q j ms rest) = both k (skips q || nothing j ms) (nothing k rest)

-- a particle that accepts nothing fills with nothing
abbrev pub unless : {A : Type 0} → Bool → List A → List A
unless true w = []
unless false w = w

-- of the fillings of a CHOICE's first member and of the others: the first's
abbrev pub chosen : {A : Type 0} → List A → List A → List A
chosen first others = first

abbrev pub beside : {A : Type 0} → GroupKind → List A → List A → List A
beside Sequence u v = u ++ v
beside Choice u v = chosen u v

-- the names of a filling: all members' in a LIST, the first member's in a CHOICE
unfoldable pub filling : {A : Type 0} → GroupKind → Members A → List A
filling k done = []
filling k (el q n rest) = beside k (unless (skips q) (n ∷ [])) (filling k rest)
filling k (group q j ms rest) = beside k (unless (skips q || nothing j ms) (filling j ms)) (filling k rest)

-- there is a member
abbrev pub Some : {A : Type 0} → Members A → Type 0
Some done = ⊥
Some (el q n rest) = Unit {0}
Some (group q k ms rest) = Unit {0}

-- inner groups are not empty
unfoldable pub Full : {A : Type 0} → Members A → Type 0
Full done = Unit {0}
Full (el q n rest) = Full rest
Full (group q k ms rest) = Some ms × Full ms × Full rest

-- the same members under other names
unfoldable pub rename : {A B : Type 0} → (A → B) → Members A → Members B
rename f done = done
rename f (el q n rest) = el q (f n) (rename f rest)
rename f (group q k ms rest) = group q k (rename f ms) (rename f rest)

-- ---- tests
-- an entry stands in a list
unfoldable pub member : {A : Type 0} → Equality A → A → List A → Bool
member E x [] = false
member E x (y ∷ ys) = elim (E.same x y) [ true ↦ true | false ↦ member E x ys ]

-- no member
abbrev pub is_done : {A : Type 0} → Members A → Bool
is_done done = true
is_done (el q n rest) = false
is_done (group q k ms rest) = false

-- `Some`, `Full` and `Distinct` as tests
abbrev pub is_some : {A : Type 0} → Members A → Bool
is_some ms = not (is_done ms)

unfoldable pub full : {A : Type 0} → Members A → Bool
full done = true
full (el q n rest) = full rest
full (group q k ms rest) = is_some ms && (full ms && full rest)

unfoldable pub distinct : {A : Type 0} → Equality A → List A → Bool
distinct E [] = true
distinct E (x ∷ xs) = not (member E x xs) && distinct E xs
