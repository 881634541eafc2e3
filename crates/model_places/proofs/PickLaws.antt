-- What stands at a place that the code finds.
use Prim.Native.Nat.{ℕ, zero, suc, ◌+◌, ◌*◌, ◌<◌, ◌≤◌}
use native.Mathlib.Omega.{arith}
use mathlib.Core.Path.{◌≡◌, refl, sym, ap, ap₂, ◌∙◌, subst}
use mathlib.Core.Bool.{Bool, true, false, false≢true}
use mathlib.Core.Option.{Option, none, some}
use mathlib.Core.List.{List, [], ◌∷◌, ◌++◌}
use lib.Dec.{leb}
use lib.ListN.{length, take, drop, get_or, length-take, length-drop}
use lib.Seq.{drop-append-add, get_or-drop}
use Rattle.rules.specs.declared.Quantifier.{Quantifier}
use Rattle.rules.specs.declared.GroupKind.{GroupKind}
use Rattle.rules.specs.Bytes.{Bytes}
use Rattle.rules.specs.Model.{Members, done, el, group, rename, is_done}
use Rattle.rules.specs.Preorder.{Deep}
use Rattle.rules.specs.Layout.{header_size, definition_size, particle_size, FlatParticle, how_many}
use Rattle.rules.specs.Decode.{read_particle, definition_count, particle_count}
use Rattle.rules.specs.Passing.{passes}
use Rattle.rules.specs.Place.{Context, Found as Spot, nth, find, rename_around, within, after_members, in_group, present}
use Rattle.model.specs.declared.What.{What}
use Rattle.model.specs.declared.What.TheVariants.{Element, Group}
use Rattle.model.specs.declared.Particle.{Particle}
use Rattle.model.specs.declared.place.Holder.{Holder}
use Rattle.model.specs.declared.place.Found.{Found}
use Rattle.std.specs.Prelude.{Option as Maybe, Some, None}
use Rattle.model.specs.Particle.{particle_of}
use Rattle.model.specs.Members.{particles_of}
use Rattle.model.specs.Places.{Particles, no_particle, place_in}
use Rattle.model.specs.Positions.{element_particle, group_particle, spread, leading, trailing, level}
use Rattle.model.proofs.ParticleLaws.{length_particles, particle_at_lem}
use Rattle.model.proofs.PositionLaws.{code_group, spread_plug, length_leading, many_named}
use Rattle.form_index.specs.Reading.{definition_in, particles_before, model_part}
use Rattle.layout.specs.Bodies.{shape_of, particle_body, definitions_in, particles_in}
use Rattle.store_laws.proofs.Encoded.{encoded}
use Rattle.model_places.specs.declared.Picked.{Picked}
use Rattle.model_places.specs.Placing.{index_of_name, model_in, part_in, leads, found_by, Placed, ElementAt, GroupAt, MemberAt, Picks, Picking}
use Rattle.model_places.proofs.PlaceLaws.{absent, present_at}
use Rattle.rules.proofs.DecodeLaws.{quantifier_code_lem}

-- ---- a member is there
abbrev Held : {A : Type 0} → Option (Spot A) → Type 0
Held none = Unit {0}
Held (some x) = is_done x.picked ≡ false

module _ {A : Type 0} where
  within_held : (f : Context A → Context A) (o : Option (Spot A)) → Held o → Held (within f o)
  within_held f none h = tt
  within_held f (some x) h = h

  after_held : (go : Members A → Option (Spot A)) → ((t : Members A) → Held (go t)) → (n : ℕ) (ms : Members A) → Held (after_members go n ms)
  unfolding after_members
  after_held go h zero ms = h ms
  after_held go h (suc n) done = tt
  after_held go h (suc n) (el q x rest) = within_held _ (after_members go n rest) (after_held go h n rest)
  after_held go h (suc n) (group q k ms rest) = within_held _ (after_members go n rest) (after_held go h n rest)

  in_held : (go : Members A → Option (Spot A)) → ((t : Members A) → Held (go t)) → (ms : Members A) → Held (in_group go ms)
  in_held go h done = tt
  in_held go h (el q x rest) = tt
  in_held go h (group q k ms rest) = within_held _ (go ms) (h ms)

  present_held : (ms : Members A) → Held (present ms)
  present_held done = tt
  present_held (el q x rest) = refl
  present_held (group q k ms rest) = refl

  nth_held : (n : ℕ) (ms : Members A) → Held (nth n ms)
  nth_held zero ms = tt
  nth_held (suc n) ms = after_held present present_held n ms

  find_held : (place : List ℕ) (ms : Members A) → Held (find nth place ms)
  unfolding find
  find_held [] ms = tt
  find_held (n ∷ []) ms = nth_held n ms
  find_held (zero ∷ m ∷ ns) ms = tt
  find_held (suc n ∷ m ∷ ns) ms = after_held (in_group (λ x. find nth (m ∷ ns) x)) (in_held (λ x. find nth (m ∷ ns) x) (λ t. find_held (m ∷ ns) t)) n ms

  pub found_held : (place : List ℕ) (ms : Members A) (x : Spot A) → found_by false place ms ≡ some x → is_done x.picked ≡ false
  unfolding found_by
  found_held place ms x e = subst (λ (z : Option (Spot A)). Held z) e (by (leb (length place) 5))
    where
      by : (b : Bool) → Held {A = A} (elim b as (λ z. Option (Spot A)) [ true ↦ leads false place ms | false ↦ none ])
      by true = find_held place ms
      by false = tt

-- ---- the particle there
module _ {bs : Bytes} {o : ℕ} {i : Bool} {place : List ℕ} {h : Holder} {p : ℕ} (x : Placed bs o i place h p) where
  abbrev pub around : Context ℕ
  around = rename_around (index_of_name bs) x.found.context

  abbrev chosen : Members ℕ
  chosen = rename (index_of_name bs) x.found.picked

  -- the particles from there on
  pub from_there : drop p (particles_of (part_in bs o)) ≡ spread (level 0 around) chosen ++ trailing 0 around
  from_there =
      let z : p ≡ length (leading 0 around chosen) + 0 = omega (arith, x.stands, length_leading 0 around chosen) in
      ap₂ (λ (n : ℕ) (l : Particles). drop n l) z (x.particles ∙ spread_plug 0 around chosen)
      ∙ drop-append-add (leading 0 around chosen) (spread (level 0 around) chosen ++ trailing 0 around) 0

  module _ (y : Deep FlatParticle) (ys : Particles) (e : drop p (particles_of (part_in bs o)) ≡ y ∷ ys) where
    pub one_there : particle_size * p + particle_size ≤ length (part_in bs o)
    one_there = omega (arith, ap length e, length-drop p (particles_of (part_in bs o)), length_particles (part_in bs o))

    pub read_there : read_particle (drop (particle_size * p) (part_in bs o)) ≡ y
    read_there =
        let z : p + 0 ≡ p = omega arith in
        sym (particle_at_lem p (part_in bs o) one_there)
        ∙ (ap (λ (n : ℕ). get_or (particles_of (part_in bs o)) n no_particle) (sym z) ∙ sym (get_or-drop p (particles_of (part_in bs o)) 0 no_particle))
        ∙ ap (λ (l : Particles). get_or l 0 no_particle) e

-- what the code reads there
abbrev pub member_in : Bytes → ℕ → ℕ → Particle
member_in bs o p = particle_of (read_particle (drop (particle_size * p) (part_in bs o)))

abbrev particle_as : What → Quantifier → Particle
particle_as w q = record { what = w; quantifier = q }

pub picks_there : {bs : Bytes} {o : ℕ} {place : List ℕ} {f : Found} → Placed bs o false place f.holder f.particle
    → MemberAt bs o place f (member_in bs o f.particle).quantifier (member_in bs o f.particle).what
unfolding rename particle_of
picks_there {bs} {o} {place} {f} x = by x.found.picked refl
  where
    p : ℕ
    p = f.particle

    d : ℕ
    d = level 0 (around x)

    Goal : Particle → Type 0
    Goal y = MemberAt bs o place f y.quantifier y.what

    by : (t : Members Bytes) → x.found.picked ≡ t → Goal (member_in bs o p)
    by done e = absurd (false≢true (sym (found_held place (model_in bs o) x.found x.there) ∙ ap is_done e))
    by (el q n rest) e =
        let g : drop p (particles_of (part_in bs o)) ≡ element_particle d q (index_of_name bs n) ∷ (spread d (rename (index_of_name bs) rest) ++ trailing 0 (around x)) =
        from_there x ∙ ap (λ (t : Members Bytes). spread d (rename (index_of_name bs) t) ++ trailing 0 (around x)) e in
        let r : member_in bs o p ≡ particle_as (Element (index_of_name bs n)) q = ap particle_of (read_there x _ _ g) ∙ ap (particle_as (Element (index_of_name bs n))) (quantifier_code_lem q) in
        subst Goal (sym r) (record { placed = x; name = n; rest = rest; is = e })
    by (group q k ms rest) e =
        let g : drop p (particles_of (part_in bs o)) ≡ group_particle d q k
        (how_many (rename (index_of_name bs) ms)) ∷ ((spread (suc d) (rename (index_of_name bs) ms) ++ spread d (rename (index_of_name bs) rest)) ++ trailing 0 (around x)) =
        from_there x ∙ ap (λ (t : Members Bytes). spread d (rename (index_of_name bs) t) ++ trailing 0 (around x)) e in
        let r : member_in bs o p ≡ particle_as (Group k (how_many (rename (index_of_name bs) ms))) q =
        ap particle_of (read_there x _ _ g) ∙ ap₂ particle_as (code_group k (how_many (rename (index_of_name bs) ms))) (quantifier_code_lem q) in
        subst Goal (sym r) (record { placed = x; inner = ms; rest = rest; is = e; many = many_named (index_of_name bs) ms })

-- ---- how many particles a store that passes has
body_few : (bs : Bytes) → passes bs ≡ true → length (particles_in bs) ≤ particle_size * 256
unfolding particle_body shape_of
body_few bs q =
    let is : length (particles_in bs) ≡ length (take (particle_size * particle_count bs) (drop (header_size + definition_size * definition_count bs) bs)) = refl in
    omega (arith, is, length-take (particle_size * particle_count bs) (drop (header_size + definition_size * definition_count bs) bs), (encoded bs q).particles, (encoded bs q).few_particles)

pub part_few : (bs : Bytes) → passes bs ≡ true → (o : ℕ) → length (part_in bs o) ≤ particle_size * 256
unfolding model_part
part_few bs q o =
    let from : ℕ = particle_size * particles_before (definitions_in bs) o in
    omega (arith, length-take (particle_size * (definition_in (definitions_in bs) o).particles) (drop from (particles_in bs)), length-drop from (particles_in bs), body_few bs q)

pub own_model : (bs : Bytes) {defs parts r : Bytes} (o : ℕ) → defs ≡ definitions_in bs → parts ≡ particles_in bs → r ≡ model_part defs parts o → r ≡ part_in bs o
own_model bs o d p e = e ∙ ap₂ (λ (a b : Bytes). model_part a b o) d p

-- ---- the code
module _ (bs : Bytes) (pass : passes bs ≡ true) (o : ℕ) (l : o < definition_count bs) (place : List ℕ) {part : Bytes} (own : part ≡ part_in bs o) {r : Maybe Found} (e : r ≡ place_in false place part) where
  found_in_lem : place_in false place (part_in bs o) ≡ r
  found_in_lem = sym (e ∙ ap (place_in false place) own)

  pub picked_none : r ≡ None → Picking bs o place None
  picked_none w = record { is = absent bs pass o l false place (found_in_lem ∙ w) }

  module _ (f : Found) (w : r ≡ Some f) where
    placed : Placed bs o false place f.holder f.particle
    placed = present_at bs pass o l false place f.holder f.particle (found_in_lem ∙ w)

    pub picked_inside : f.particle ≤ 256
    picked_inside = omega (arith, placed.inside, part_few bs pass o)

    pub picked_there : {s : Bytes} {x : Particle} → s ≡ drop (particle_size * f.particle) part → x ≡ particle_of (read_particle s) → Picking bs o place (Some (record { place = f; member = x }))
    picked_there {s} {x} u q =
        let z : x ≡ member_in bs o f.particle = q ∙ ap (λ (t : Bytes). particle_of (read_particle t)) (u ∙ ap (drop (particle_size * f.particle)) own) in
        record { is = subst (λ (y : Particle). MemberAt bs o place f y.quantifier y.what) (sym z) (picks_there {f = f} placed) }

module _ {bs : Bytes} {o : ℕ} {place : List ℕ} {r : Maybe Picked} (x : Picking bs o place r) where
  -- what stands there
  pub as_member : {y : Picked} → r ≡ Some y → MemberAt bs o place y.place y.member.quantifier y.member.what
  as_member e = subst (Picks bs o place) e x.is

  pub as_element : {y : Picked} {i : ℕ} → r ≡ Some y → y.member.what ≡ Element i → ElementAt bs o place y.place.holder y.place.particle y.member.quantifier
  as_element {y} e w = subst (MemberAt bs o place y.place y.member.quantifier) w (as_member e)

  pub as_group : {y : Picked} {k : GroupKind} {n : ℕ} → r ≡ Some y → y.member.what ≡ Group k n → GroupAt bs o place y.place.holder y.place.particle y.member.quantifier k n
  as_group {y} e w = subst (MemberAt bs o place y.place y.member.quantifier) w (as_member e)

  pub as_none : r ≡ None → found_by false place (model_in bs o) ≡ none
  as_none e = subst (Picks bs o place) e x.is
