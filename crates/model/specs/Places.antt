-- Where a place leads in the particles of a model, counted in particles.
use Rattle.std.specs.Prelude.{ℕ, zero, suc, ◌+◌, Bool, true, false, ◌&&◌, List, [], ◌∷◌, ltb, eqb, leb, length, take, drop, get_or, Option as Maybe, Some, None}
use Rattle.std.proofs.Math.Option.{Option, none, some}
use Rattle.rules.specs.declared.Quantifier.{Quantifier}
use Rattle.rules.specs.declared.GroupKind.{GroupKind}
use Rattle.rules.specs.declared.GroupKind.TheVariants.{Sequence}
use Rattle.rules.specs.Bytes.{Bytes}
use Rattle.rules.specs.Model.{Members}
use Rattle.rules.specs.Preorder.{Deep, build}
use Rattle.rules.specs.Layout.{FlatParticle}
use Rattle.rules.specs.Place.{Found as Spot, kind_at, spine, plain, gap, nth}
use Rattle.model.specs.declared.What.{What}
use Rattle.model.specs.declared.What.TheVariants.{Element, Group}
use Rattle.model.specs.declared.Particle.{Particle}
use Rattle.model.specs.declared.place.Holder.{Holder}
use Rattle.model.specs.declared.place.Reached.{Reached}
use Rattle.model.specs.declared.place.Reached.TheVariants.{Member, End, Few}
use Rattle.model.specs.declared.place.Entered.{Entered}
use Rattle.model.specs.declared.place.Found.{Found}
use Rattle.model.specs.Particle.{particle_of}
use Rattle.model.specs.Members.{index_members, particles_of}

abbrev pub Particles : Type 0
Particles = List (Deep FlatParticle)

-- ---- past n members of depth d
abbrev pub onward : ℕ → Reached → Reached
onward k (Member p) = Member (k + p)
onward k (End p) = End (k + p)
onward k Few = Few

abbrev pub ended : ℕ → Reached
ended zero = End 0
ended (suc n) = Few

unfoldable pub reach : ℕ → ℕ → Particles → Reached
reach d n [] = ended n
reach d zero (x ∷ xs) = elim (ltb d x.depth) [ true ↦ onward 1 (reach d zero xs) | false ↦ elim (eqb d x.depth) [ true ↦ Member 0 | false ↦ End 0 ] ]
reach d (suc n) (x ∷ xs) = elim (ltb d x.depth) [ true ↦ onward 1 (reach d (suc n) xs) | false ↦ elim (eqb d x.depth) [ true ↦ onward 1 (reach d n xs) | false ↦ Few ] ]

-- ---- how many particles deeper than d the list begins with
unfoldable pub span_of : ℕ → Particles → ℕ
span_of d [] = 0
span_of d (x ∷ xs) = elim (ltb d x.depth) [ true ↦ suc (span_of d xs) | false ↦ 0 ]

-- ---- a number of a place
-- it leads to particle p of the list h
abbrev pub leads_to : Holder → ℕ → Maybe Found
leads_to h p = Some (record { holder = h; particle = p })

abbrev pub at_member : Holder → Reached → Maybe Found
at_member h (Member p) = leads_to h (h.start + p)
at_member h (End p) = None
at_member h Few = None

abbrev pub at_gap : Holder → Reached → Maybe Found
at_gap h (Member p) = leads_to h (h.start + p)
at_gap h (End p) = leads_to h (h.start + p)
at_gap h Few = None

-- the last one; true: for insertion
abbrev pub last_of : Bool → ℕ → Holder → Particles → Maybe Found
last_of true n h xs = at_gap h (reach h.depth n xs)
last_of false zero h xs = None
last_of false (suc n) h xs = at_member h (reach h.depth n xs)

-- the part of a group that stands at p
abbrev pub enter_group : Holder → ℕ → Particles → Quantifier → What → Maybe Entered
enter_group h p xs q (Element i) = None
enter_group h p xs q (Group k n) =
    Some
    (record {
      list = record { start = h.start + (p + 1); depth = h.depth + 1; kind = k; spine = h.spine && plain q k };
      from = p + 1;
      size = span_of h.depth (drop (p + 1) xs);
    })

abbrev pub no_particle : Deep FlatParticle
no_particle = record { depth = 0; row = record { sort = 0; quantifier = 0; index = 0 } }

abbrev pub entered_at : Holder → Particles → Reached → Maybe Entered
entered_at h xs (Member p) = let x : Particle = particle_of (get_or xs p no_particle) in enter_group h p xs x.quantifier x.what
entered_at h xs (End p) = None
entered_at h xs Few = None

-- one that picks a group
abbrev pub entered_of : ℕ → Holder → Particles → Maybe Entered
entered_of zero h xs = None
entered_of (suc n) h xs = entered_at h xs (reach h.depth n xs)

-- ---- the whole place
abbrev pub go_on : Maybe Entered → (Holder → ℕ → ℕ → Maybe Found) → Maybe Found
go_on None f = None
go_on (Some e) f = f e.list e.from e.size

unfoldable pub spot_of : Bool → List ℕ → Holder → Particles → Maybe Found
spot_of insert [] h xs = None
spot_of insert (n ∷ []) h xs = last_of insert n h xs
spot_of insert (n ∷ m ∷ ns) h xs = go_on (entered_of n h xs) (λ g from size. spot_of insert (m ∷ ns) g (take size (drop from xs)))

-- the top list
abbrev pub top : Holder
top = record { start = 0; depth = 0; kind = Sequence; spine = true }

unfoldable pub place_in : Bool → List ℕ → Bytes → Maybe Found
place_in insert place s = elim (leb (length place) 5) [ true ↦ spot_of insert place top (particles_of s) | false ↦ None ]

-- ---- what is told of a place, by the rules and by the code
pub record PlaceTold : Type 0 where
  pub kind : GroupKind
  pub spine : Bool
  pub picked : Members ℕ

-- in a list of kind k that is a spine list or not
abbrev pub told : GroupKind → Bool → Option (Spot ℕ) → Option PlaceTold
told k b none = none
told k b (some f) = some (record { kind = kind_at k f.context; spine = b && spine f.context; picked = f.picked })

abbrev pub shown : Particles → Maybe Found → Option PlaceTold
shown xs None = none
shown xs (Some f) = some (record { kind = f.holder.kind; spine = f.holder.spine; picked = index_members (build (drop f.particle xs) f.holder.depth) })

abbrev pub last_by : Bool → ℕ → Members ℕ → Option (Spot ℕ)
last_by true n ms = gap n ms
last_by false n ms = nth n ms
