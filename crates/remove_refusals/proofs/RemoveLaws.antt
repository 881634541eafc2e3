-- The conditions of change 4, by what the code finds.
use Prim.Native.Nat.{ℕ, zero, suc, ◌+◌, ◌-◌, ◌*◌, ◌<◌, ◌≤◌}
use native.Mathlib.Omega.{arith}
use borrow.Author.Tests.{eq-eqb, ne_eqb, lt-ltb, le-ltb}
use mathlib.Core.Path.{◌≡◌, refl, sym, ap, ap₂, ◌∙◌, subst}
use mathlib.Core.Bool.{Bool, true, false, ◌&&◌, ◌||◌, not, false≢true, or_assoc}
use mathlib.Core.Option.{none, some}
use mathlib.Core.List.{List, [], ◌∷◌, ◌++◌, append_assoc}
use lib.Dec.{eqb, ltb}
use lib.ListN.{length, take, drop, get_or, length-append, length-drop}
use lib.Seq.{drop-append-add, drop-drop, get_or-drop, take_at}
use Rattle.rules.specs.declared.Quantifier.{Quantifier}
use Rattle.rules.specs.declared.Facts.{Facts}
use Rattle.rules.specs.declared.GroupKind.{GroupKind}
use Rattle.rules.specs.declared.GroupKind.TheVariants.{Sequence, Choice}
use Rattle.rules.specs.Bytes.{Bytes, numbers}
use Rattle.rules.specs.Model.{Members, done, el, group, rename, is_done, skips, nothing}
use Rattle.rules.specs.Preorder.{Deep, build}
use Rattle.rules.specs.Layout.{particle_size, FlatParticle, how_many}
use Rattle.rules.specs.Passing.{passes}
use Rattle.layout.specs.Bodies.{window_of, Product}
use Rattle.rules.specs.Decode.{read_particle}
use Rattle.rules.specs.Automaton.{facts}
use Rattle.rules.specs.Place.{Context, here, past, over, into, rename_around}
use Rattle.rules.specs.Edit.{◌⊕◌, same_kind, remove, remove_last, remove_unmatched}
use Rattle.rules.specs.Change.{remove_element}
use Rattle.rules.specs.Refusal.{◌if◌, first, conditions, found_at, no_element_at, at_place, on_element, tail_of}
use Rattle.rules.proofs.AroundLaws.{opens, leaves, unless_list, last_is, unmatched_is}
use Rattle.rules.proofs.Words.{or_left, or_right, and_held}
use Rattle.rules.proofs.RenamingPlaces.{leaves_rename}
use Rattle.model.specs.declared.place.Holder.{Holder}
use Rattle.model.specs.declared.Particle.{Particle}
use Rattle.model.specs.Particle.{particle_of}
use Rattle.model.specs.Members.{index_member, index_members, particles_of, members_from}
use Rattle.model.specs.Places.{Particles, no_particle, top}
use Rattle.model.specs.Positions.{element_particle, group_particle, spread, count, trailing, level}
use Rattle.model.proofs.ParticleLaws.{particle_at_lem, particles_take}
use Rattle.model.proofs.PositionLaws.{spread_plug, length_leading, length_spread}
use Rattle.model.proofs.SpreadLaws.{members_spread}
use Rattle.model.proofs.MembersLaws.{members_here, particles_past}
use Rattle.model.proofs.FactsLaws.{facts_nothing}
use Rattle.model_writer.proofs.HeadAfter.{depth_holder}
use Rattle.store_laws.specs.Stores.{store_in}
use Rattle.store_check.proofs.StoreFacts.{form_in, Whole}
use Rattle.change_laws.specs.FirstCondition.{Gives}
use Rattle.change_laws.proofs.FirstCondition.{gives_hit, gives_next, gives_none}
use Rattle.instance_search.specs.Instances.{has_instance}
use Rattle.model_places.specs.Placing.{index_of_name, model_in, part_in, found_by, ElementAt, GroupAt}
use Rattle.remove_refusals.specs.Removing.{choice_left, Removable, remove_tests}
use Rattle.std.specs.Prelude.{Option as Maybe, Some}
use Rattle.model.specs.declared.What.{What}
use Rattle.model.specs.declared.What.TheVariants.{Element, Group}
use Rattle.model_places.specs.declared.Picked.{Picked}
use Rattle.model_places.specs.Placing.{Picking}
use Rattle.model_places.proofs.PlaceLaws.{found_remove}
use Rattle.model_places.proofs.PickLaws.{as_group, around, from_there, one_there, read_there, part_few}
use Rattle.instance_search.proofs.InstanceLaws.{instance_is}
use Rattle.model_places.proofs.CountLaws.{done_many}
use Rattle.remove_refusals.proofs.ContextViews.{Lead, Inner, View, outer, inner, view}
use Rattle.rules.proofs.Words.{or_both, and_off}
use Rattle.rules.proofs.DecodeLaws.{quantifier_code_lem}

-- ---- words
opens_rename : {A B : Type 0} (f : A → B) (b : Bool) (c : Context A) → opens b (rename_around f c) ≡ opens b c
unfolding opens rename_around
opens_rename f b here = refl
opens_rename f b (past q n c) = opens_rename f false c
opens_rename f b (over q k ms c) = opens_rename f false c
opens_rename f b (into q k c rest) = opens_rename f true c

done_rename : {A B : Type 0} (f : A → B) (t : Members A) → is_done (rename f t) ≡ is_done t
unfolding rename
done_rename f done = refl
done_rename f (el q x t) = refl
done_rename f (group q k ms t) = refl

nothing_append : (f t : Members ℕ) → nothing Choice (f ⊕ t) ≡ (nothing Choice f || nothing Choice t)
unfolding nothing ◌⊕◌
nothing_append done t = refl
nothing_append (el q i f) t = ap (λ (b : Bool). skips q || b) (nothing_append f t) ∙ sym (or_assoc (skips q) (nothing Choice f) (nothing Choice t))
nothing_append (group q k ms f) t = ap (λ (b : Bool). (skips q || nothing k ms) || b) (nothing_append f t) ∙ sym (or_assoc (skips q || nothing k ms) (nothing Choice f) (nothing Choice t))

rest_of : Members ℕ → Members ℕ
rest_of done = done
rest_of (el q i rest) = rest
rest_of (group q k ms rest) = rest

rest_index : (x : FlatParticle) (sort : ℕ) (below rest : Members ℕ) → rest_of (index_member x sort below rest) ≡ rest
unfolding rest_of
rest_index x zero below rest = refl
rest_index x (suc k) below rest = refl

start_done : (f : Members ℕ) (n : ℕ) → eqb (n + suc (count f)) (suc n) ≡ is_done f
start_done done n = eq-eqb (n + 1) (suc n) (omega arith)
start_done (el q i f) n = ne_eqb (n + suc (suc (count f))) (suc n) (λ z. omega arith)
start_done (group q k ms f) n = ne_eqb (n + suc (suc (count ms + count f))) (suc n) (λ z. omega arith)

-- ---- an element at a place
module _ {bs : Bytes} {o : ℕ} {place : List ℕ} {h : Holder} {p : ℕ} {q : Quantifier} (x : ElementAt bs o place h p q) where
  abbrev part : Bytes
  part = part_in bs o

  abbrev c : Context ℕ
  c = around x.placed

  abbrev d : ℕ
  d = level 0 c

  abbrev left : Members ℕ
  left = rename (index_of_name bs) x.rest

  abbrev here_is : Deep FlatParticle
  here_is = element_particle d q (index_of_name bs x.name)

  chosen_is : rename (index_of_name bs) x.placed.found.picked ≡ el q (index_of_name bs x.name) left
  unfolding rename
  chosen_is = ap (λ (t : Members Bytes). rename (index_of_name bs) t) x.is

  from_here : drop p (particles_of part) ≡ here_is ∷ (spread d left ++ trailing 0 c)
  from_here = from_there x.placed ∙ ap (λ (t : Members ℕ). spread d t ++ trailing 0 c) chosen_is

  pub room_here : particle_size * p + particle_size ≤ length part
  room_here = one_there x.placed here_is (spread d left ++ trailing 0 c) from_here

  depth_read : (read_particle (drop (particle_size * p) part)).depth ≡ d
  depth_read = ap (λ (y : Deep FlatParticle). y.depth) (read_there x.placed here_is (spread d left ++ trailing 0 c) from_here)

  -- the depth of the list that holds it
  held_depth : h.depth ≡ d
  held_depth = ap (λ (g : Holder). g.depth) (sym x.placed.held) ∙ depth_holder top 0 c

  members_is : members_from d (drop (particle_size * p) part) ≡ el q (index_of_name bs x.name) left
  members_is = ap (λ (z : ℕ). members_from z (drop (particle_size * p) part)) (sym held_depth) ∙ x.placed.picked ∙ chosen_is

  rest_is : members_from d (drop (particle_size * (p + 1)) part) ≡ left
  unfolding rest_of
  rest_is =
      let next : particle_size * (p + 1) ≡ particle_size * p + particle_size = omega arith in
      ap (λ (k : ℕ). members_from d (drop k part)) next
      ∙ ap (members_from d) (sym (drop-drop particle_size (particle_size * p) part))
      ∙ sym (rest_index (read_particle (drop (particle_size * p) part)).row (read_particle (drop (particle_size * p) part)).row.sort
      (members_from (suc d) (drop particle_size (drop (particle_size * p) part))) (members_from d (drop particle_size (drop (particle_size * p) part))))
      ∙ ap rest_of (sym (members_here d (drop (particle_size * p) part) (omega (arith, room_here, length-drop (particle_size * p) part)) depth_read) ∙ members_is)

  alone_is : eqb (how_many (members_from d (drop (particle_size * p) part))) 1 ≡ is_done x.rest
  alone_is = ap (λ (t : Members ℕ). eqb (how_many t) 1) members_is ∙ sym (done_many left) ∙ done_rename (index_of_name bs) x.rest

  -- in an inner group
  module _ {r : Quantifier} {k : GroupKind} {f : Members ℕ} {n : ℕ} (v : Inner c r k f n) where
    abbrev lead : Lead c r k f n 0 (rename (index_of_name bs) x.placed.found.picked)
    lead = v.lead 0 (rename (index_of_name bs) x.placed.found.picked)

    abbrev around_is : Deep FlatParticle
    around_is = group_particle lead.depth r k lead.many

    abbrev onward : Particles
    onward = spread d (rename (index_of_name bs) x.placed.found.picked) ++ trailing 0 c

    start_is : h.start ≡ suc n
    start_is = omega (arith, ap (λ (g : Holder). g.start) x.placed.held, v.start top 0)

    stands_is : p ≡ n + suc (count f)
    stands_is =
        let l : length (lead.front ++ (around_is ∷ spread d f)) ≡ length lead.front + length (around_is ∷ spread d f) = length-append lead.front (around_is ∷ spread d f) in
        omega (arith, l, x.placed.stands, length_leading 0 c (rename (index_of_name bs) x.placed.found.picked), ap length lead.is, lead.long, length_spread d f)

    all_is : particles_of part ≡ lead.front ++ (around_is ∷ (spread d f ++ onward))
    all_is =
        x.placed.particles
        ∙ spread_plug 0 c (rename (index_of_name bs) x.placed.found.picked)
        ∙ ap (λ (l : Particles). l ++ onward) lead.is
        ∙ append_assoc lead.front (around_is ∷ spread d f) onward

    from_group : drop n (particles_of part) ≡ around_is ∷ (spread d f ++ onward)
    from_group =
        let z : n ≡ length lead.front + 0 = omega (arith, lead.long) in
        ap₂ (λ (i : ℕ) (l : Particles). drop i l) z all_is ∙ drop-append-add lead.front (around_is ∷ (spread d f ++ onward)) 0

    group_read : read_particle (drop (particle_size * n) part) ≡ around_is
    group_read =
        let z : n + 0 ≡ n = omega arith in
        sym (particle_at_lem n part (omega (arith, room_here, stands_is)))
        ∙ (ap (λ (i : ℕ). get_or (particles_of part) i no_particle) (sym z) ∙ sym (get_or-drop n (particles_of part) 0 no_particle))
        ∙ ap (λ (l : Particles). get_or l 0 no_particle) from_group

    quantifier_read : (particle_of (read_particle (drop (particle_size * (h.start - 1)) part))).quantifier ≡ r
    unfolding particle_of
    quantifier_read =
        let z : h.start - 1 ≡ n = omega (arith, start_is) in
        ap (λ (i : ℕ). (particle_of (read_particle (drop (particle_size * i) part))).quantifier) z ∙ ap (λ (y : Deep FlatParticle). (particle_of y).quantifier) group_read ∙ quantifier_code_lem r

    from_first : drop h.start (particles_of part) ≡ spread d f ++ onward
    from_first =
        let z : h.start ≡ n + 1 = omega (arith, start_is) in
        ap (λ (i : ℕ). drop i (particles_of part)) z ∙ sym (drop-drop 1 n (particles_of part)) ∙ ap (λ (l : Particles). drop 1 l) from_group

    before_is : members_from d (take (particle_size * (p - h.start)) (drop (particle_size * h.start) part)) ≡ f
    unfolding members_from
    before_is =
        let z : p - h.start ≡ count f = omega (arith, start_is, stands_is) in
        ap (λ (l : Particles). index_members (build l d))
        (particles_take (p - h.start) (drop (particle_size * h.start) part) (omega (arith, room_here, length-drop (particle_size * h.start) part))
        ∙ ap₂ (λ (i : ℕ) (l : Particles). take i l) z (particles_past h.start part ∙ from_first)
        ∙ take_at (spread d f) onward (count f) (length_spread d f))
        ∙ members_spread d f

    choice_is : choice_left part h.start p d ≡ (skips r || nothing Choice (f ⊕ left))
    choice_is =
        (λ i. (skips (quantifier_read i) || nothing Choice (before_is i)) || nothing Choice (rest_is i))
        ∙ or_assoc (skips r) (nothing Choice f) (nothing Choice left)
        ∙ ap (λ (b : Bool). skips r || b) (sym (nothing_append f left))

  -- 14
  opens_is : (ltb 0 d && eqb p h.start) ≡ opens false c
  opens_is = by (view c)
    where
      by : View c → (ltb 0 d && eqb p h.start) ≡ opens false c
      by (outer f v) = ap (λ (b : Bool). b && eqb p h.start) (le-ltb 0 d (omega (arith, v.level 0))) ∙ sym (v.opens false)
      by (inner r k f n v) =
          ap (λ (b : Bool). b && eqb p h.start) (lt-ltb 0 d (v.deeper 0)) ∙ ap₂ (λ (i j : ℕ). eqb i j) (stands_is v) (start_is v) ∙ start_done f n ∙ sym (v.opens false)

  -- 15
  leaves_is : (same_kind h.kind Sequence || choice_left part h.start p d) ≡ leaves true Sequence c left
  leaves_is = by (view c)
    where
      by : View c → (same_kind h.kind Sequence || choice_left part h.start p d) ≡ leaves true Sequence c left
      by (outer f v) =
          let e : h.kind ≡ Sequence = ap (λ (g : Holder). g.kind) (sym x.placed.held ∙ v.holder top 0) in
          ap (λ (z : GroupKind). same_kind z Sequence || choice_left part h.start p d) e ∙ sym (v.leaves true Sequence left)
      by (inner r k f n v) =
          ap (λ (z : GroupKind). same_kind z Sequence || choice_left part h.start p d) (ap (λ (g : Holder). g.kind) (sym x.placed.held) ∙ v.kind top 0)
          ∙ kinds k (choice_is v) ∙ sym (v.leaves true Sequence left)
        where
          kinds : (j : GroupKind) {a : Bool} → a ≡ (skips r || nothing Choice (f ⊕ left)) → (same_kind j Sequence || a) ≡ unless_list j (skips r || nothing j (f ⊕ left))
          kinds Sequence e = refl
          kinds Choice e = e

  start_inner : same_kind h.kind Sequence ≡ false → 1 ≤ h.start
  start_inner e = by (view c)
    where
      by : View c → 1 ≤ h.start
      by (outer f v) = absurd (false≢true (sym e ∙ ap (λ (g : Holder). same_kind g.kind Sequence) (sym x.placed.held ∙ v.holder top 0)))
      by (inner r k f n v) = omega (arith, start_is v)

  start_before : h.start ≤ p
  start_before = by (view c)
    where
      by : View c → h.start ≤ p
      by (outer f v) = omega (arith, ap (λ (g : Holder). g.start) (sym x.placed.held ∙ v.holder top 0))
      by (inner r k f n v) = omega (arith, start_is v, stands_is v)

  pub removable : passes bs ≡ true → {s : Bytes} → s ≡ part_in bs o → Removable s h p
  removable q {s} e = subst (λ (z : Bytes). Removable z h p) (sym e) (record { deep = start_inner; later = start_before; few = omega (arith, room_here, part_few bs q o) })

  last_test : ((ltb 0 d && eqb p h.start) && eqb (how_many (members_from d (drop (particle_size * p) part))) 1) ≡ remove_last x.placed.found.context x.rest
  last_test = ap₂ (λ (a b : Bool). a && b) (opens_is ∙ opens_rename (index_of_name bs) false x.placed.found.context) alone_is ∙ sym (last_is x.rest x.placed.found.context)

  left_test : not (same_kind h.kind Sequence || choice_left part h.start p d) ≡ remove_unmatched x.placed.found.context x.rest
  left_test = ap not (leaves_is ∙ leaves_rename (index_of_name bs) true Sequence x.placed.found.context x.rest) ∙ sym (unmatched_is x.rest x.placed.found.context)

-- ---- the conditions
module _ (bs : Bytes) (w : Whole bs) (o : ℕ) (place : List ℕ) where
  pub remove_6 : not (ltb o (length (form_in bs))) ≡ true → Gives 6 (conditions (remove_element o place) (store_in bs))
  unfolding conditions
  remove_6 h = gives_hit h

  module _ (l : o < length (form_in bs)) where
    within : not (ltb o (length (form_in bs))) ≡ false
    within = ap not (lt-ltb o (length (form_in bs)) l)

    pub remove_none : found_by false place (model_in bs o) ≡ none → Gives 8 (conditions (remove_element o place) (store_in bs))
    unfolding conditions
    remove_none e = gives_next within (gives_hit (ap no_element_at (found_remove o place bs ∙ e)))

    pub remove_group : {h : Holder} {p : ℕ} {q : Quantifier} {k : GroupKind} {n : ℕ} → GroupAt bs o place h p q k n → Gives 8 (conditions (remove_element o place) (store_in bs))
    unfolding conditions
    remove_group x = gives_next within (gives_hit (ap no_element_at (found_remove o place bs ∙ x.placed.there) ∙ ap (on_element true (λ q. false)) x.is))

    pub remove_other : {r : Maybe Picked} (x : Picking bs o place r) {y : Picked} → r ≡ Some y → ((i : ℕ) → y.member.what ≡ Element i → ⊥) → Gives 8 (conditions (remove_element o place) (store_in bs))
    remove_other x {y} e other = by y.member.what refl
      where
        by : (w : What) → y.member.what ≡ w → Gives 8 (conditions (remove_element o place) (store_in bs))
        by (Element i) w = absurd (other i w)
        by (Group k n) w = remove_group (as_group x e w)

    pub remove_there : {h : Holder} {p : ℕ} {q : Quantifier} (x : ElementAt bs o place h p q) {s : Bytes} → s ≡ part_in bs o → {r : ℕ}
        → Gives r (remove_tests (has_instance bs o) s h p) → Gives r (conditions (remove_element o place) (store_in bs))
    unfolding conditions
    remove_there {h} {p} {q} x {s} own {r} g =
        let e : found_at remove o place (store_in bs) ≡ some x.placed.found = found_remove o place bs ∙ x.placed.there in
        let tests : first (remove_tests (has_instance bs o) s h p) ≡ first (remove_tests (has_instance bs o) (part_in bs o) h p) = ap (λ (z : Bytes). first (remove_tests (has_instance bs o) z h p)) own in
        let deep : first (remove_tests (has_instance bs o) (part_in bs o) h p)
        ≡ first (14 if ((ltb 0 (d x) && eqb p h.start) && eqb (how_many (members_from (d x) (drop (particle_size * p) (part_in bs o)))) 1) ∷ 15 if
        (has_instance bs o && not (same_kind h.kind Sequence || choice_left (part_in bs o) h.start p (d x))) ∷ []) =
        ap (λ (z : ℕ). first (14 if ((ltb 0 z && eqb p h.start) && eqb (how_many (members_from z (drop (particle_size * p) (part_in bs o)))) 1) ∷ 15 if
        (has_instance bs o && not (same_kind h.kind Sequence || choice_left (part_in bs o) h.start p z)) ∷ [])) (depth_read x) in
        let last : at_place (λ c y. remove_last c (tail_of y)) (found_at remove o place (store_in bs)) ≡ remove_last x.placed.found.context x.rest =
        ap (at_place (λ c y. remove_last c (tail_of y))) e ∙ ap (λ (y : Members Bytes). remove_last x.placed.found.context (tail_of y)) x.is in
        let unmatched : at_place (λ c y. remove_unmatched c (tail_of y)) (found_at remove o place (store_in bs)) ≡ remove_unmatched x.placed.found.context x.rest =
        ap (at_place (λ c y. remove_unmatched c (tail_of y))) e ∙ ap (λ (y : Members Bytes). remove_unmatched x.placed.found.context (tail_of y)) x.is in
        gives_next within (gives_next (ap no_element_at e ∙ ap (on_element true (λ q. false)) x.is)
        (record { is = g.is ∙ tests ∙ deep ∙ (λ j. first (14 if (last_test x ∙ sym last) j ∷ 15 if (instance_is bs w o l j && (left_test x ∙ sym unmatched) j) ∷ [])) }))

-- ---- the tests of the code
pub nothing_read : (d : ℕ) (s : Bytes) {f : Facts} → f ≡ facts numbers Choice (members_from d s) 0 0 → f.nothing ≡ nothing Choice (members_from d s)
nothing_read d s e = ap (λ (z : Facts). z.nothing) e ∙ facts_nothing numbers Choice (members_from d s) 0 0

module _ (s : Bytes) (start p d : ℕ) {x : Particle} {i k : Bytes} {a b c : Bool} {w : Bytes} {size long : ℕ} where
  pub left_read : i ≡ drop (particle_size * (start - 1)) s → x ≡ particle_of (read_particle i) → a ≡ skips x.quantifier → size ≡ particle_size → Product size (p - start) long
      → w ≡ drop (particle_size * start) s → k ≡ window_of 0 long w → b ≡ nothing Choice (members_from d k)
      → {v : Bytes} → v ≡ drop (particle_size * (p + 1)) s → c ≡ nothing Choice (members_from d v) → ((a || b) || c) ≡ choice_left s start p d
  left_read f y e z x l u g v h =
      let first = e ∙ ap (λ (t : Particle). skips t.quantifier) (y ∙ ap (λ (t : Bytes). particle_of (read_particle t)) f) in
      let span : long ≡ particle_size * (p - start) = x.value ∙ ap (λ (m : ℕ). m * (p - start)) z in
      let between = g ∙ ap (λ (t : Bytes). nothing Choice (members_from d t)) (u ∙ ap₂ (λ (m : ℕ) (t : Bytes). take m t) span l) in
      λ j. (first j || between j) || (h ∙ ap (λ (t : Bytes). nothing Choice (members_from d t)) v) j

module _ (exists : Bool) (s : Bytes) (h : Holder) (p : ℕ) {r : Bytes} {d n : ℕ} (u : r ≡ drop (particle_size * p) s) (at : d ≡ (read_particle r).depth) (m : n ≡ how_many (members_from d r)) where
  abbrev depth : ℕ
  depth = (read_particle (drop (particle_size * p) s)).depth

  e : d ≡ depth
  e = at ∙ ap (λ (z : Bytes). (read_particle z).depth) u

  many_read : n ≡ how_many (members_from depth (drop (particle_size * p) s))
  many_read = m ∙ ap₂ (λ (i : ℕ) (z : Bytes). how_many (members_from i z)) e u

  last_read : {v : Bool} → ((ltb 0 d && eqb p h.start) && eqb n 1) ≡ v → ((ltb 0 depth && eqb p h.start) && eqb (how_many (members_from depth (drop (particle_size * p) s))) 1) ≡ v
  last_read k = ap₂ (λ (i j : ℕ). (ltb 0 i && eqb p h.start) && eqb j 1) (sym e) (sym many_read) ∙ k

  module _ (k : ((ltb 0 d && eqb p h.start) && eqb n 1) ≡ false) {a : Bool} (f : a ≡ same_kind h.kind Sequence) where
    fine : (same_kind h.kind Sequence || choice_left s h.start p depth) ≡ true → Gives 0 (remove_tests exists s h p)
    fine z = gives_next (last_read k) (gives_next (and_off exists (not (same_kind h.kind Sequence || choice_left s h.start p depth)) (ap not z)) gives_none)

    pub at_list : a ≡ true → Gives 0 (remove_tests exists s h p)
    at_list z = fine (or_left (choice_left s h.start p depth) (sym f ∙ z))

    module _ {b : Bool} (g : b ≡ choice_left s h.start p d) where
      left_at : b ≡ choice_left s h.start p depth
      left_at = g ∙ ap (choice_left s h.start p) e

      pub at_left : b ≡ true → Gives 0 (remove_tests exists s h p)
      at_left z = fine (or_right (same_kind h.kind Sequence) (sym left_at ∙ z))

      module _ (no : a ≡ false) (off : b ≡ false) where
        unmatched : not (same_kind h.kind Sequence || choice_left s h.start p depth) ≡ true
        unmatched = ap not (or_both (same_kind h.kind Sequence) (choice_left s h.start p depth) (sym f ∙ no) (sym left_at ∙ off))

        pub at_exists : {x : ℕ} → x ≡ first (15 if exists ∷ []) → Gives x (remove_tests exists s h p)
        at_exists z = gives_next (last_read k) (record { is = z ∙ ap (λ (v : Bool). first (15 if v ∷ [])) (sym (and_held exists _ unmatched)) })
