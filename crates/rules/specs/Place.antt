-- Where a place leads: the model around it, and the members from the picked one on.
use Rattle.std.specs.Prelude.{ℕ, zero, suc, Bool, true, false, ◌&&◌, List, [], ◌∷◌, ◌++◌}
use Rattle.std.proofs.Math.Option.{Option, none, some}
use Rattle.rules.specs.declared.Quantifier.{Quantifier}
use Rattle.rules.specs.declared.Quantifier.TheVariants.{None, Qmark, Star, Plus}
use Rattle.rules.specs.declared.GroupKind.{GroupKind}
use Rattle.rules.specs.declared.GroupKind.TheVariants.{Sequence, Choice}
use Rattle.rules.specs.Model.{Members, done, el, group, names, rename}

-- a model with one place open: right here, past an element, past a group, or inside a group
pub data Context (A : Type 0) : Type 0 where
  here : Context A
  past : Quantifier → A → Context A → Context A
  over : Quantifier → GroupKind → Members A → Context A → Context A
  into : Quantifier → GroupKind → Context A → Members A → Context A

-- the model with members put there
unfoldable pub plug : {A : Type 0} → Context A → Members A → Members A
plug here t = t
plug (past q n c) t = el q n (plug c t)
plug (over q k ms c) t = group q k ms (plug c t)
plug (into q k c rest) t = group q k (plug c t) rest

-- the kind of the list that holds the place, in a list of kind k
unfoldable pub kind_at : {A : Type 0} → GroupKind → Context A → GroupKind
kind_at k here = k
kind_at k (past q n c) = kind_at k c
kind_at k (over q j ms c) = kind_at k c
kind_at k (into q j c rest) = kind_at j c

-- an unquantified LIST
abbrev pub plain : Quantifier → GroupKind → Bool
plain None Sequence = true
plain None Choice = false
plain Qmark k = false
plain Star k = false
plain Plus k = false

-- the place stands in a spine list: all groups around it are unquantified LISTs
unfoldable pub spine : {A : Type 0} → Context A → Bool
spine here = true
spine (past q n c) = spine c
spine (over q k ms c) = spine c
spine (into q k c rest) = plain q k && spine c

-- the names before the place
unfoldable pub before_place : {A : Type 0} → Context A → List A
before_place here = []
before_place (past q n c) = n ∷ before_place c
before_place (over q k ms c) = names ms ++ before_place c
before_place (into q k c rest) = before_place c

-- the names after the members there
unfoldable pub after_place : {A : Type 0} → Context A → List A
after_place here = []
after_place (past q n c) = after_place c
after_place (over q k ms c) = after_place c
after_place (into q k c rest) = after_place c ++ names rest

-- the inner group directly around the place: its quantifier and kind, and its members with the place open
pub record Around (A : Type 0) : Type 0 where
  pub quantifier : Quantifier
  pub kind : GroupKind
  pub inside : Context A

-- a group, if no other stands inside it around the place
abbrev pub innermost : {A : Type 0} → Around A → Option (Around A) → Option (Around A)
innermost g none = some g
innermost g (some h) = some h

-- none: the place stands in the top list
unfoldable pub around : {A : Type 0} → Context A → Option (Around A)
around here = none
around (past q n c) = around c
around (over q k ms c) = around c
around (into q k c rest) = innermost (record { quantifier = q; kind = k; inside = c }) (around c)

-- ---- the places of the paper
pub record Found (A : Type 0) : Type 0 where
  pub context : Context A
  pub picked : Members A

abbrev pub within : {A : Type 0} → (Context A → Context A) → Option (Found A) → Option (Found A)
within f none = none
within f (some r) = some (record { context = f r.context; picked = r.picked })

-- after the first n members, where `go` reads the rest of the place
unfoldable pub after_members : {A : Type 0} → (Members A → Option (Found A)) → ℕ → Members A → Option (Found A)
after_members go zero ms = go ms
after_members go (suc n) done = none
after_members go (suc n) (el q x rest) = within (past q x) (after_members go n rest)
after_members go (suc n) (group q k ms rest) = within (over q k ms) (after_members go n rest)

abbrev pub in_group : {A : Type 0} → (Members A → Option (Found A)) → Members A → Option (Found A)
in_group go done = none
in_group go (el q x rest) = none
in_group go (group q k ms rest) = within (λ c. into q k c rest) (go ms)

abbrev pub right : {A : Type 0} → Members A → Option (Found A)
right ms = some (record { context = here; picked = ms })

abbrev pub present : {A : Type 0} → Members A → Option (Found A)
present done = none
present (el q x rest) = right (el q x rest)
present (group q k ms rest) = right (group q k ms rest)

-- the last number: for insertion after the n-th, else the n-th
abbrev pub gap : {A : Type 0} → ℕ → Members A → Option (Found A)
gap n ms = after_members right n ms

abbrev pub nth : {A : Type 0} → ℕ → Members A → Option (Found A)
nth zero ms = none
nth (suc n) ms = after_members present n ms

unfoldable pub find : {A : Type 0} → (ℕ → Members A → Option (Found A)) → List ℕ → Members A → Option (Found A)
find last [] ms = none
find last (n ∷ []) ms = last n ms
find last (zero ∷ m ∷ ns) ms = none
find last (suc n ∷ m ∷ ns) ms = after_members (in_group (λ x. find last (m ∷ ns) x)) n ms

-- the same place under other names
unfoldable pub rename_around : {A B : Type 0} → (A → B) → Context A → Context B
rename_around f here = here
rename_around f (past q n c) = past q (f n) (rename_around f c)
rename_around f (over q k ms c) = over q k (rename f ms) (rename_around f c)
rename_around f (into q k c rest) = into q k (rename_around f c) (rename f rest)
