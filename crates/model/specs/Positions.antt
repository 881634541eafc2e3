-- The particles of a model, and where a place stands among them.
use Rattle.std.specs.Prelude.{ℕ, suc, ◌+◌, ◌&&◌, [], ◌∷◌, ◌++◌, Option as Maybe, None}
use Rattle.std.proofs.Math.Option.{Option, none, some}
use Rattle.rules.specs.declared.Quantifier.{Quantifier}
use Rattle.rules.specs.declared.GroupKind.{GroupKind}
use Rattle.rules.specs.Model.{Members, done, el, group}
use Rattle.rules.specs.Preorder.{Deep}
use Rattle.rules.specs.Layout.{FlatParticle, quantifier_code, group_code, how_many}
use Rattle.rules.specs.Place.{Context, here, past, over, into, plug, plain, Found as Spot}
use Rattle.model.specs.declared.place.Holder.{Holder}
use Rattle.model.specs.declared.place.Found.{Found}
use Rattle.model.specs.Places.{Particles, leads_to}

-- ---- the particles of members of depth d, in order
abbrev pub element_particle : ℕ → Quantifier → ℕ → Deep FlatParticle
element_particle d q i = record { depth = d; row = record { sort = 0; quantifier = quantifier_code q; index = i } }

abbrev pub group_particle : ℕ → Quantifier → GroupKind → ℕ → Deep FlatParticle
group_particle d q k n = record { depth = d; row = record { sort = group_code k; quantifier = quantifier_code q; index = n } }

abbrev pub spread : ℕ → Members ℕ → Particles
spread d done = []
spread d (el q i rest) = element_particle d q i ∷ spread d rest
spread d (group q k ms rest) = group_particle d q k (how_many ms) ∷ (spread (suc d) ms ++ spread d rest)

abbrev pub count : Members ℕ → ℕ
count done = 0
count (el q i rest) = suc (count rest)
count (group q k ms rest) = suc (count ms + count rest)

-- ---- a place in a model: how many particles stand before it
abbrev pub offset : Context ℕ → ℕ
offset here = 0
offset (past q i c) = suc (offset c)
offset (over q k ms c) = suc (count ms + offset c)
offset (into q k c rest) = suc (offset c)

-- the list that holds it, in a list h of which p particles are passed
abbrev pub holder : Holder → ℕ → Context ℕ → Holder
holder h p here = h
holder h p (past q i c) = holder h (suc p) c
holder h p (over q k ms c) = holder h (suc (count ms + p)) c
holder h p (into q k c rest) = holder (record { start = h.start + (p + 1); depth = h.depth + 1; kind = k; spine = h.spine && plain q k }) 0 c

abbrev pub spot_in : Holder → Option (Spot ℕ) → Maybe Found
spot_in h none = None
spot_in h (some f) = leads_to (holder h 0 f.context) (h.start + offset f.context)

-- ---- the particles before a place, at a depth of d around it, where the
-- members t stand there; those after t; and t's own depth
abbrev pub leading : ℕ → Context ℕ → Members ℕ → Particles
leading d here t = []
leading d (past q i c) t = element_particle d q i ∷ leading d c t
leading d (over q k ms c) t = group_particle d q k (how_many ms) ∷ (spread (suc d) ms ++ leading d c t)
leading d (into q k c rest) t = group_particle d q k (how_many (plug c t)) ∷ leading (suc d) c t

abbrev pub trailing : ℕ → Context ℕ → Particles
trailing d here = []
trailing d (past q i c) = trailing d c
trailing d (over q k ms c) = trailing d c
trailing d (into q k c rest) = trailing (suc d) c ++ spread d rest

abbrev pub level : ℕ → Context ℕ → ℕ
level d here = d
level d (past q i c) = level d c
level d (over q k ms c) = level d c
level d (into q k c rest) = level (suc d) c
