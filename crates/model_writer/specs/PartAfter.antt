-- The particles of a model after an edit at a place, written from those before it.
use Rattle.std.specs.Prelude.{ℕ, zero, suc, ◌+◌, ◌-◌, Bool, true, false, [], ◌∷◌, ◌++◌, ltb, take, drop, get_or}
use Rattle.rules.specs.declared.Quantifier.{Quantifier}
use Rattle.rules.specs.declared.Quantifier.TheVariants.{None}
use Rattle.rules.specs.Model.{Members, done, el, group}
use Rattle.rules.specs.Preorder.{Deep}
use Rattle.rules.specs.Layout.{FlatParticle, quantifier_code}
use Rattle.rules.specs.Edit.{Edit, insert, remove, quantify, convert, flatten, has_members}
use Rattle.model.specs.declared.place.Holder.{Holder}
use Rattle.model.specs.Places.{Particles, no_particle}
use Rattle.model.specs.Positions.{element_particle, group_particle}

-- the members that an edit asks for are there
abbrev pub suits : {A : Type 0} → Edit A → Members A → Bool
suits (insert q n) t = true
suits remove done = false
suits remove (el q x t) = true
suits remove (group q k ms t) = false
suits (quantify r) done = false
suits (quantify r) (el q x t) = true
suits (quantify r) (group q k ms t) = true
suits (convert j n) t = has_members n t
suits flatten done = false
suits flatten (el q x t) = false
suits flatten (group q k ms t) = true

abbrev pub rename_edit : {A B : Type 0} → (A → B) → Edit A → Edit B
rename_edit f (insert q n) = insert q (f n)
rename_edit f remove = remove
rename_edit f (quantify r) = quantify r
rename_edit f (convert j n) = convert j n
rename_edit f flatten = flatten

-- an edit at a gap, or at a member
abbrev pub inserts : {A : Type 0} → Edit A → Bool
inserts (insert q n) = true
inserts remove = false
inserts (quantify r) = false
inserts (convert j n) = false
inserts flatten = false

-- ---- single particles
abbrev pub redeep : (ℕ → ℕ) → Deep FlatParticle → Deep FlatParticle
redeep g x = record { depth = g x.depth; row = x.row }

abbrev pub recount : (ℕ → ℕ) → Deep FlatParticle → Deep FlatParticle
recount g x = record { depth = x.depth; row = record { sort = x.row.sort; quantifier = x.row.quantifier; index = g x.row.index } }

abbrev pub requantified : Quantifier → Deep FlatParticle → Deep FlatParticle
requantified r x = record { depth = x.depth; row = record { sort = x.row.sort; quantifier = quantifier_code r; index = x.row.index } }

abbrev pub lower : ℕ → ℕ
lower n = n - 1

-- ---- from the place on, where d is the depth there
-- the particles of the first n members of depth d, and all deeper ones before them, to other depths
unfoldable pub moved : (ℕ → ℕ) → ℕ → ℕ → Particles → Particles
moved g d n [] = []
moved g d zero (x ∷ xs) = elim (ltb d x.depth) [ true ↦ redeep g x ∷ moved g d zero xs | false ↦ x ∷ xs ]
moved g d (suc n) (x ∷ xs) = redeep g x ∷ elim (ltb d x.depth) [ true ↦ moved g d (suc n) xs | false ↦ moved g d n xs ]

unfoldable pub tail_after : Edit ℕ → ℕ → Particles → Particles
tail_after (insert q i) d ys = element_particle d q i ∷ ys
tail_after remove d ys = drop 1 ys
tail_after (quantify r) d [] = []
tail_after (quantify r) d (y ∷ ys) = requantified r y ∷ ys
tail_after (convert j n) d ys = group_particle d None j n ∷ moved suc d n ys
tail_after flatten d ys = moved lower d 0 (drop 1 ys)

-- ---- before the place
-- how many members the list around the place has, of n before; ys: the particles from the place on
abbrev pub count_after : Edit ℕ → Particles → ℕ → ℕ
count_after (insert q i) ys n = n + 1
count_after remove ys n = n - 1
count_after (quantify r) ys n = n
count_after (convert j m) ys n = n + 1 - m
count_after flatten ys n = n + (get_or ys 0 no_particle).row.index - 1

-- the members start at particle s, so the group that holds them stands right before it; the top list has none
unfoldable pub recounted : (ℕ → ℕ) → ℕ → Particles → Particles
recounted g s [] = []
recounted g zero (x ∷ xs) = x ∷ xs
recounted g (suc zero) (x ∷ xs) = recount g x ∷ xs
recounted g (suc (suc s)) (x ∷ xs) = x ∷ recounted g (suc s) xs

-- ---- the whole part
unfoldable pub part_after : Edit ℕ → Holder → ℕ → Particles → Particles
part_after e h at xs = recounted (count_after e (drop at xs)) h.start (take at xs) ++ tail_after e h.depth (drop at xs)

-- how many particles there are then, of n
abbrev pub length_after : Edit ℕ → ℕ → ℕ
length_after (insert q i) n = suc n
length_after remove n = n - 1
length_after (quantify r) n = n
length_after (convert j m) n = suc n
length_after flatten n = n - 1
