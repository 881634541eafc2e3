-- What the code finds at a place is what the rules find there.
use mathlib.Core.Path.{◌≡◌, refl, sym, ap, ap₂, ◌∙◌}
use mathlib.Core.Bool.{Bool, true, false, ◌&&◌}
use mathlib.Core.Option.{Option, none, some}
use mathlib.Core.List.{List, [], ◌∷◌}
use Prim.Native.Nat.{ℕ, zero, suc, ◌+◌, ◌<◌, ◌≤◌}
use native.Mathlib.Omega.{arith}
use borrow.Author.Tests.{le-ltb, ne_eqb, ltb-false}
use lib.Dec.{ltb, eqb, leb}
use lib.ListN.{length, take, drop, get_or, length-take, length-drop}
use lib.Seq.{drop-drop}
use Rattle.rules.specs.declared.Quantifier.{Quantifier}
use Rattle.rules.specs.declared.GroupKind.{GroupKind}
use Rattle.rules.specs.declared.GroupKind.TheVariants.{Sequence}
use Rattle.rules.specs.Bytes.{Bytes}
use Rattle.rules.specs.Model.{Members, done}
use Rattle.rules.specs.Store.{Forest, bare, tree}
use Rattle.rules.specs.Preorder.{Deep, build}
use Rattle.rules.specs.Layout.{FlatParticle}
use Rattle.rules.specs.Decode.{quantifier_of, group_of}
use Rattle.rules.specs.Place.{Found as Spot, past, over, into, kind_at, spine, plain, within, after_members, in_group as inside, right, present, gap, nth, find}
use Rattle.model.specs.declared.place.Holder.{Holder}
use Rattle.model.specs.declared.place.Reached.{Reached}
use Rattle.model.specs.declared.place.Reached.TheVariants.{Member, End, Few}
use Rattle.model.specs.declared.place.Found.{Found}
use Rattle.std.specs.Prelude.{Option as Maybe, None}
use Rattle.model.specs.Particle.{what_of, particle_of}
use Rattle.model.specs.Members.{index_member, index_members, particles_of, members_from, all_members}
use Rattle.model.specs.Places.{Particles, leads_to, onward, ended, reach, span_of, at_member, at_gap, last_of, enter_group, no_particle, entered_at, entered_of, go_on}
use Rattle.model.specs.Places.{spot_of, top, place_in, PlaceTold, told, shown, last_by}
use Rattle.model.proofs.ParticleLaws.{Bounded, reach_bounded, span_bounded}

-- the members of depth d that particles begin with
abbrev pub members_in : ℕ → Particles → Members ℕ
members_in d xs = index_members (build xs d)

-- ---- one particle on
build_step : (x : Deep FlatParticle) (xs : Particles) (d : ℕ)
    → build (x ∷ xs) d ≡ elim (ltb d x.depth) [ true ↦ build xs d | false ↦ elim (eqb d x.depth) [ true ↦ tree x.row (build xs (suc d)) (build xs d) | false ↦ bare ] ]
build_step x xs d = refl

module _ (x : Deep FlatParticle) (xs : Particles) (d : ℕ) where
  in_deeper : ltb d x.depth ≡ true → members_in d (x ∷ xs) ≡ members_in d xs
  in_deeper e = let g : build (x ∷ xs) d ≡ build xs d = build_step x xs d ∙ rw e in ap index_members g

  in_here : ltb d x.depth ≡ false → eqb d x.depth ≡ true → members_in d (x ∷ xs) ≡ index_member x.row x.row.sort (members_in (suc d) xs) (members_in d xs)
  in_here e f = let g : build (x ∷ xs) d ≡ tree x.row (build xs (suc d)) (build xs d) = build_step x xs d ∙ rw (e, f) in ap index_members g

  in_stop : ltb d x.depth ≡ false → eqb d x.depth ≡ false → members_in d (x ∷ xs) ≡ done
  in_stop e f = let g : build (x ∷ xs) d ≡ bare = build_step x xs d ∙ rw (e, f) in ap index_members g

  pub reach_deeper : (n : ℕ) → ltb d x.depth ≡ true → reach d n (x ∷ xs) ≡ onward 1 (reach d n xs)
  unfolding reach
  reach_deeper zero e = rw (e, reach)
  reach_deeper (suc n) e = rw (e, reach)

  reach_stop : (n : ℕ) → ltb d x.depth ≡ false → eqb d x.depth ≡ false → reach d n (x ∷ xs) ≡ ended n
  unfolding reach
  reach_stop zero e f = rw (e, f, reach)
  reach_stop (suc n) e f = rw (e, f, reach)

  pub reach_here : ltb d x.depth ≡ false → eqb d x.depth ≡ true → reach d zero (x ∷ xs) ≡ Member 0
  unfolding reach
  reach_here e f = rw (e, f, reach)

  pub reach_past : (n : ℕ) → ltb d x.depth ≡ false → eqb d x.depth ≡ true → reach d (suc n) (x ∷ xs) ≡ onward 1 (reach d n xs)
  unfolding reach
  reach_past n e f = rw (e, f, reach)

-- ---- the part of a group holds the same members as the particles from there on
part_same : (t : Particles) (d e q : ℕ) → d < e → q ≤ span_of d t → build (drop q (take (span_of d t) t)) e ≡ build (drop q t) e
unfolding span_of
part_same [] d e q l h = refl
part_same (x ∷ t) d e q l h = by (ltb d x.depth) refl q h (λ e' q' l' h'. part_same t d e' q' l' h')
  where
    by : (a : Bool) → ltb d x.depth ≡ a → (q : ℕ) → q ≤ elim a [ true ↦ suc (span_of d t) | false ↦ 0 ]
        → ((e' q' : ℕ) → d < e' → q' ≤ span_of d t → build (drop q' (take (span_of d t) t)) e' ≡ build (drop q' t) e')
        → build (drop q (take (elim a [ true ↦ suc (span_of d t) | false ↦ 0 ]) (x ∷ t))) e ≡ build (drop q (x ∷ t)) e
    by true c zero h f =
        ap₂ (λ (u v : Forest FlatParticle). elim (ltb e x.depth) [ true ↦ u | false ↦ elim (eqb e x.depth) [ true ↦ tree x.row v u | false ↦ bare ] ])
        (f e 0 l (omega arith))
        (f (suc e) 0 (omega arith) (omega arith))
    by true c (suc q) h f = f e q l (omega arith)
    by false c zero h f =
        let g : x.depth ≤ d = ltb-false d x.depth c in
        let n : e ≡ x.depth → ⊥ = λ z. omega arith in
        sym (build_step x t e ∙ rw (le-ltb e x.depth (omega arith), ne_eqb e x.depth n))
    by false c (suc q) h f = absurd (omega arith)

-- ---- what is told does not hang on the members passed
module _ (k : GroupKind) (b : Bool) where
  told_past : (q : Quantifier) (x : ℕ) (o : Option (Spot ℕ)) → told k b (within (past q x) o) ≡ told k b o
  unfolding kind_at spine
  told_past q x none = refl
  told_past q x (some f) = refl

  told_over : (q : Quantifier) (j : GroupKind) (ms : Members ℕ) (o : Option (Spot ℕ)) → told k b (within (over q j ms) o) ≡ told k b o
  unfolding kind_at spine
  told_over q j ms none = refl
  told_over q j ms (some f) = refl

told_into : (k : GroupKind) (b : Bool) (q : Quantifier) (j : GroupKind) (rest : Members ℕ) (o : Option (Spot ℕ)) → told k b (within (λ c. into q j c rest) o) ≡ told j (b && plain q j) o
unfolding kind_at spine
told_into k b q j rest none = refl
told_into k true q j rest (some f) = refl
told_into k false q j rest (some f) = refl

told_right : (k : GroupKind) (b : Bool) (ms : Members ℕ) → told k b (right ms) ≡ some (record { kind = k; spine = b; picked = ms })
unfolding kind_at spine
told_right k true ms = refl
told_right k false ms = refl

told_member : (k : GroupKind) (b : Bool) (go : Members ℕ → Option (Spot ℕ)) (n : ℕ) (x : FlatParticle) (sort : ℕ) (below rest : Members ℕ)
    → told k b (after_members go (suc n) (index_member x sort below rest)) ≡ told k b (after_members go n rest)
unfolding after_members
told_member k b go n x zero below rest = told_past k b (quantifier_of x.quantifier) x.index (after_members go n rest)
told_member k b go n x (suc j) below rest = told_over k b (quantifier_of x.quantifier) (group_of (suc j)) below (after_members go n rest)

-- ---- past n members
-- the member that particle p begins
abbrev member_at : ℕ → ℕ → Particles → Members ℕ
member_at d p xs = index_member (get_or xs p no_particle).row (get_or xs p no_particle).row.sort (members_in (suc d) (drop (suc p) xs)) (members_in d (drop (suc p) xs))

module _ (k : GroupKind) (b : Bool) (go : Members ℕ → Option (Spot ℕ)) (d : ℕ) where
  abbrev Passes : Particles → Option PlaceTold → Reached → Type 0
  Passes xs o (Member p) = (o ≡ told k b (go (members_in d (drop p xs)))) × (members_in d (drop p xs) ≡ member_at d p xs)
  Passes xs o (End p) = (o ≡ told k b (go done)) × (members_in d (drop p xs) ≡ done)
  Passes xs o Few = o ≡ none

  passes_on : (x : Deep FlatParticle) (xs : Particles) (o : Option PlaceTold) (r : Reached) → Passes xs o r → Passes (x ∷ xs) o (onward 1 r)
  passes_on x xs o (Member p) h = let e : 1 + p ≡ suc p = omega arith in rw e h
  passes_on x xs o (End p) h = let e : 1 + p ≡ suc p = omega arith in rw e h
  passes_on x xs o Few h = h

  passes_as : (xs : Particles) (o o' : Option PlaceTold) (r r' : Reached) → o ≡ o' → r ≡ r' → Passes xs o' r' → Passes xs o r
  passes_as xs o o' r r' e f h = rw (e, f) h

  passes : (n : ℕ) (xs : Particles) → Passes xs (told k b (after_members go n (members_in d xs))) (reach d n xs)
  unfolding reach after_members
  passes zero [] = (refl, refl)
  passes (suc n) [] = refl
  passes zero (x ∷ xs) = by (ltb d x.depth) refl (eqb d x.depth) refl (passes zero xs)
    where
      by : (deeper : Bool) → ltb d x.depth ≡ deeper → (same : Bool) → eqb d x.depth ≡ same → Passes xs (told k b (after_members go zero (members_in d xs))) (reach d zero xs)
          → Passes (x ∷ xs) (told k b (after_members go zero (members_in d (x ∷ xs)))) (reach d zero (x ∷ xs))
      by true e same f h = passes_as (x ∷ xs) _ _ _ _ (ap (λ (ms : Members ℕ). told k b (go ms)) (in_deeper x xs d e)) (reach_deeper x xs d zero e) (passes_on x xs _ (reach d zero xs) h)
      by false e true f h = passes_as (x ∷ xs) _ _ _ (Member 0) refl (reach_here x xs d e f) (refl, in_here x xs d e f)
      by false e false f h = passes_as (x ∷ xs) _ _ _ (End 0) (ap (λ (ms : Members ℕ). told k b (go ms)) (in_stop x xs d e f)) (reach_stop x xs d zero e f) (refl, in_stop x xs d e f)
  passes (suc n) (x ∷ xs) = by (ltb d x.depth) refl (eqb d x.depth) refl (passes (suc n) xs) (passes n xs)
    where
      by : (deeper : Bool) → ltb d x.depth ≡ deeper → (same : Bool) → eqb d x.depth ≡ same → Passes xs (told k b (after_members go (suc n) (members_in d xs))) (reach d (suc n) xs)
          → Passes xs (told k b (after_members go n (members_in d xs))) (reach d n xs) → Passes (x ∷ xs) (told k b (after_members go (suc n) (members_in d (x ∷ xs)))) (reach d (suc n) (x ∷ xs))
      by true e same f h g =
          passes_as (x ∷ xs) _ _ _ _ (ap (λ (ms : Members ℕ). told k b (after_members go (suc n) ms)) (in_deeper x xs d e)) (reach_deeper x xs d (suc n) e)
          (passes_on x xs _ (reach d (suc n) xs) h)
      by false e true f h g =
          passes_as (x ∷ xs) _ _ _ _
          (ap (λ (ms : Members ℕ). told k b (after_members go (suc n) ms)) (in_here x xs d e f) ∙ told_member k b go n x.row x.row.sort (members_in (suc d) xs) (members_in d xs))
          (reach_past x xs d n e f)
          (passes_on x xs _ (reach d n xs) g)
      by false e false f h g = passes_as (x ∷ xs) _ _ _ Few (ap (λ (ms : Members ℕ). told k b (after_members go (suc n) ms)) (in_stop x xs d e f)) (reach_stop x xs d (suc n) e f) refl

-- ---- the last number
present_member : (k : GroupKind) (b : Bool) (x : FlatParticle) (sort : ℕ) (below rest : Members ℕ)
    → told k b (present (index_member x sort below rest)) ≡ some (record { kind = k; spine = b; picked = index_member x sort below rest })
present_member k b x zero below rest = told_right k b (index_member x zero below rest)
present_member k b x (suc j) below rest = told_right k b (index_member x (suc j) below rest)

-- The whole of the particles, and those of a list h in them: from each of
-- its particles on they hold the same members, however deep.
pub record Seen (whole : Particles) (h : Holder) (xs : Particles) : Type 0 where
  pub same : (e p : ℕ) → h.depth ≤ e → p ≤ length xs → build (drop (h.start + p) whole) e ≡ build (drop p xs) e

module _ (whole : Particles) (h : Holder) (xs : Particles) (v : Seen whole h xs) where
  shown_at : (p : ℕ) (ms : Members ℕ) → p ≤ length xs → members_in h.depth (drop p xs) ≡ ms → shown whole (leads_to h (h.start + p)) ≡ some (record { kind = h.kind; spine = h.spine; picked = ms })
  shown_at p ms l e = ap (λ (z : Members ℕ). some (record { kind = h.kind; spine = h.spine; picked = z })) (ap index_members (v.same h.depth p (omega arith) l) ∙ e)

  gap_found : (n : ℕ) → shown whole (last_of true n h xs) ≡ told h.kind h.spine (gap n (members_in h.depth xs))
  gap_found n = by (reach h.depth n xs) (reach_bounded h.depth n xs) (passes h.kind h.spine right h.depth n xs)
    where
      by : (r : Reached) → Bounded r (length xs) → Passes h.kind h.spine right h.depth xs (told h.kind h.spine (gap n (members_in h.depth xs))) r
          → shown whole (at_gap h r) ≡ told h.kind h.spine (gap n (members_in h.depth xs))
      by (Member p) l (e, m) = shown_at p _ (omega arith) refl ∙ sym (e ∙ told_right h.kind h.spine (members_in h.depth (drop p xs)))
      by (End p) l (e, m) = shown_at p done l m ∙ sym (e ∙ told_right h.kind h.spine done)
      by Few l e = sym e

  nth_found : (n : ℕ) → shown whole (last_of false n h xs) ≡ told h.kind h.spine (nth n (members_in h.depth xs))
  nth_found zero = refl
  nth_found (suc n) = by (reach h.depth n xs) (reach_bounded h.depth n xs) (passes h.kind h.spine present h.depth n xs)
    where
      by : (r : Reached) → Bounded r (length xs) → Passes h.kind h.spine present h.depth xs (told h.kind h.spine (after_members present n (members_in h.depth xs))) r
          → shown whole (at_member h r) ≡ told h.kind h.spine (after_members present n (members_in h.depth xs))
      by (Member p) l (e, m) =
          shown_at p (member_at h.depth p xs) (omega arith) m
          ∙ sym
          (e
          ∙ ap (λ (z : Members ℕ). told h.kind h.spine (present z)) m
          ∙ present_member h.kind h.spine (get_or xs p no_particle).row (get_or xs p no_particle).row.sort (members_in (suc h.depth) (drop (suc p) xs)) (members_in h.depth (drop (suc p) xs)))
      by (End p) l (e, m) = sym e
      by Few l e = sym e

  last_found : (insert : Bool) (n : ℕ) → shown whole (last_of insert n h xs) ≡ told h.kind h.spine (last_by insert n (members_in h.depth xs))
  last_found true n = gap_found n
  last_found false n = nth_found n

-- ---- a number that picks a group
abbrev pub Finds : Bool → List ℕ → Type 0
Finds insert place =
    (whole : Particles) (h : Holder) (xs : Particles) → Seen whole h xs
    → shown whole (spot_of insert place h xs) ≡ told h.kind h.spine (find (last_by insert) place (members_in h.depth xs))

module _ (insert : Bool) (m : ℕ) (ns : List ℕ) (ih : Finds insert (m ∷ ns)) (whole : Particles) (h : Holder) (xs : Particles) (v : Seen whole h xs) where
  abbrev onward_in : Members ℕ → Option (Spot ℕ)
  onward_in ms = find (last_by insert) (m ∷ ns) ms

  -- the group at particle p
  abbrev group_at : ℕ → Quantifier → GroupKind → Holder
  group_at p q k = record { start = h.start + (p + 1); depth = h.depth + 1; kind = k; spine = h.spine && plain q k }

  abbrev part_at : ℕ → Particles
  part_at p = take (span_of h.depth (drop (p + 1) xs)) (drop (p + 1) xs)

  seen_in : (p : ℕ) (q : Quantifier) (k : GroupKind) → p < length xs → Seen whole (group_at p q k) (part_at p)
  seen_in p q k l =
      record {
        same = λ e i d j.
            let t : Particles = drop (p + 1) xs in
            let a : i ≤ span_of h.depth t = omega (arith, length-take (span_of h.depth t) t) in
            let c : p + 1 + i ≤ length xs = omega (arith, span_bounded h.depth t, length-drop (p + 1) xs) in
            let f : h.start + (p + 1) + i ≡ h.start + (p + 1 + i) = omega arith in
            ap (λ (z : ℕ). build (drop z whole) e) f
            ∙ v.same e (p + 1 + i) (omega arith) c
            ∙ ap (λ (z : Particles). build z e) (sym (drop-drop i (p + 1) xs))
            ∙ sym (part_same t h.depth e i (omega arith) a);
      }

  -- the members of the group
  members_in_lem : (p : ℕ) → members_in (h.depth + 1) (part_at p) ≡ members_in (suc h.depth) (drop (suc p) xs)
  members_in_lem p =
      let e : h.depth + 1 ≡ suc h.depth = omega arith in
      let f : p + 1 ≡ suc p = omega arith in
      ap index_members
      (ap (λ (z : ℕ). build (part_at p) z) e ∙ part_same (drop (p + 1) xs) h.depth (suc h.depth) 0 (omega arith) (omega arith)
      ∙ ap (λ (z : ℕ). build (drop z xs) (suc h.depth)) f)

  abbrev gone : ℕ → Quantifier → ℕ → ℕ → Maybe Found
  gone p q sort i = go_on (enter_group h p xs q (what_of sort i)) (λ g from size. spot_of insert (m ∷ ns) g (take size (drop from xs)))

  at_particle : (p : ℕ) (x : FlatParticle) (sort : ℕ) (rest : Members ℕ) → p < length xs
      → shown whole (gone p (quantifier_of x.quantifier) sort x.index) ≡ told h.kind h.spine (inside onward_in (index_member x sort (members_in (suc h.depth) (drop (suc p) xs)) rest))
  at_particle p x zero rest l = refl
  at_particle p x (suc k) rest l =
      ih whole (group_at p (quantifier_of x.quantifier) (group_of (suc k))) (part_at p) (seen_in p (quantifier_of x.quantifier) (group_of (suc k)) l)
      ∙ ap (λ (z : Members ℕ). told (group_of (suc k)) (h.spine && plain (quantifier_of x.quantifier) (group_of (suc k))) (onward_in z)) (members_in_lem p)
      ∙ sym (told_into h.kind h.spine (quantifier_of x.quantifier) (group_of (suc k)) rest (onward_in (members_in (suc h.depth) (drop (suc p) xs))))

  group_found : (n : ℕ)
      → shown whole (go_on (entered_of n h xs) (λ g from size. spot_of insert (m ∷ ns) g (take size (drop from xs))))
      ≡ told h.kind h.spine (find (last_by insert) (n ∷ m ∷ ns) (members_in h.depth xs))
  unfolding find particle_of
  group_found zero = refl
  group_found (suc n) = by (reach h.depth n xs) (reach_bounded h.depth n xs) (passes h.kind h.spine (inside onward_in) h.depth n xs)
    where
      by : (r : Reached) → Bounded r (length xs)
          → Passes h.kind h.spine (inside onward_in) h.depth xs
          (told h.kind h.spine (after_members (inside onward_in) n (members_in h.depth xs))) r
          → shown whole (go_on (entered_at h xs r) (λ g from size. spot_of insert (m ∷ ns) g (take size (drop from xs))))
          ≡ told h.kind h.spine (after_members (inside onward_in) n (members_in h.depth xs))
      by (Member p) l (e, f) =
          at_particle p (get_or xs p no_particle).row (get_or xs p no_particle).row.sort (members_in h.depth (drop (suc p) xs)) l
          ∙ sym (e ∙ ap (λ (z : Members ℕ). told h.kind h.spine (inside onward_in z)) f)
      by (End p) l (e, f) = sym e
      by Few l e = sym e

-- THE PLACE: in a list h of a model, the code finds what the rules find
pub place_found : (insert : Bool) (place : List ℕ) → Finds insert place
unfolding spot_of find
place_found insert [] whole h xs v = refl
place_found insert (n ∷ []) whole h xs v = last_found whole h xs v insert n
place_found insert (n ∷ m ∷ ns) whole h xs v = group_found insert m ns (λ w g ys u. place_found insert (m ∷ ns) w g ys u) whole h xs v n

-- .. and in a whole model; the right side is `place_in` of the rules, for insertion or not
pub found_placed : (insert : Bool) (place : List ℕ) (s : Bytes)
    → shown (particles_of s) (place_in insert place s) ≡ told Sequence true (elim (leb (length place) 5) [ true ↦ find (last_by insert) place (all_members s) | false ↦ none ])
unfolding place_in members_from
found_placed insert place s = by (leb (length place) 5)
  where
    all : Seen (particles_of s) top (particles_of s)
    all = record { same = λ e p d l. let z : 0 + p ≡ p = omega arith in ap (λ (i : ℕ). build (drop i (particles_of s)) e) z }

    by : (b : Bool)
        → shown (particles_of s) (elim b [ true ↦ spot_of insert place top (particles_of s) | false ↦ None ])
        ≡ told Sequence true (elim b [ true ↦ find (last_by insert) place (members_in 0 (particles_of s)) | false ↦ none ])
    by true = place_found insert place (particles_of s) top (particles_of s) all
    by false = refl
