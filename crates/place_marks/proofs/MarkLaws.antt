-- The marks of a place that the code finds: 1 for the names before it, 2 for those at it.
use Prim.Native.Nat.{ℕ, suc, ◌+◌, ◌*◌, ◌<◌, ◌≤◌}
use native.Mathlib.Omega.{arith}
use mathlib.Core.Path.{◌≡◌, refl, sym, ap, ap₂, ◌∙◌, subst}
use mathlib.Core.Bool.{Bool, true, false, ◌||◌}
use mathlib.Core.List.Memᴰ
use mathlib.Core.List.{List, [], ◌∷◌, ◌++◌, map, append_assoc, append-nil, Memᴰ}
use lib.Dec.{eqb}
use lib.ListN.{length, take, drop, get_or, length-append}
use lib.Seq.{take_at, drop-drop}
use Rattle.rules.specs.declared.Quantifier.{Quantifier}
use Rattle.rules.specs.declared.GroupKind.{GroupKind}
use Rattle.rules.specs.Bytes.{Bytes, same, bytes}
use Rattle.rules.specs.Model.{Members, done, el, group, names, member, rename, Distinct}
use Rattle.rules.specs.Store.{Form}
use Rattle.rules.specs.Preorder.{Deep}
use Rattle.rules.specs.Layout.{particle_size, FlatParticle, index_of, how_many}
use Rattle.rules.specs.Decode.{definition_count}
use Rattle.rules.specs.Place.{Context, before_place, after_place}
use Rattle.rules.specs.Change.{definition_at, name_at_index}
use Rattle.rules.specs.Passing.{passes}
use Rattle.rules.proofs.Apart.{names_plug}
use Rattle.rules.proofs.WellFormedLaws.{definition_stands}
use Rattle.rules.proofs.Correct.{distinct_apart}
use Rattle.rules.proofs.TestLaws.{member_test}
use Rattle.rules.proofs.RenamingPlaces.{names_rename, before_rename}
use Rattle.circle_check.specs.Members.{elements_of}
use Rattle.model_check.specs.ModelTests.{elements_in}
use Rattle.model.specs.declared.place.Holder.{Holder}
use Rattle.model.specs.Members.{particles_of}
use Rattle.model.specs.Places.{Particles, top, span_of}
use Rattle.model.specs.Positions.{group_particle, spread, count, leading, trailing, level}
use Rattle.model.proofs.ParticleLaws.{length_particles, particles_take}
use Rattle.model.proofs.PositionLaws.{length_spread, spread_plug, length_leading}
use Rattle.model.proofs.MembersLaws.{particles_past}
use Rattle.store_check.proofs.IndexLaws.{names_of, index_same}
use Rattle.store_laws.specs.Stores.{store_in}
use Rattle.plans.specs.ModelCalls.{Marked}
use Rattle.store_check.proofs.StoreFacts.{form_in, Whole, whole}
use Rattle.model_places.specs.Placing.{index_of_name, model_in, part_in, Placed}
use Rattle.model_places.proofs.PlaceLaws.{found_right}
use Rattle.model_writer.proofs.HeadAfter.{depth_holder}
use Rattle.model_places.proofs.PickLaws.{around, from_there}
use Rattle.place_marks.specs.Marking.{marks_at}
use Rattle.place_marks.proofs.ReadLaws.{among, mark_by, marks_read, mark_one, mark_two}
use Rattle.place_marks.proofs.ElementLaws.{elements_read, elements_spread, elements_leading}
use Rattle.place_marks.proofs.SpanLaws.{span_group}

-- ---- names by their index
among_member : (form : Form) → Distinct (names_of form) → (i : ℕ) → i < length form → (ns : List Bytes)
    → among i (map (λ n. index_of n form) ns) ≡ member bytes (name_at_index i form) ns
unfolding member
among_member form once i h [] = refl
among_member form once i h (n ∷ ns) =
    ap₂ (λ (a b : Bool). a || b) (index_same form once i h n) (among_member form once i h ns)
    ∙ by (same (name_at_index i form) n)
  where
    by : (b : Bool) → (b || member bytes (name_at_index i form) ns) ≡ elim b [ true ↦ true | false ↦ member bytes (name_at_index i form) ns ]
    by true = refl
    by false = refl

-- ---- the place
module _ {bs : Bytes} {o : ℕ} {i : Bool} {place : List ℕ} {h : Holder} {p : ℕ} (good : passes bs ≡ true) (there : o < definition_count bs) (x : Placed bs o i place h p) where
  abbrev ns : List Bytes
  ns = before_place x.found.context

  model_names : names (model_in bs o) ≡ ns ++ (names x.found.picked ++ after_place x.found.context)
  model_names = sym (ap names (found_right i place (model_in bs o) x.found x.there)) ∙ names_plug x.found.context x.found.picked

  before_elements : elements_of (take (particle_size * p) (part_in bs o)) ≡ map (index_of_name bs) ns
  before_elements =
      let c : Context ℕ = around x in
      let t : Members ℕ = rename (index_of_name bs) x.found.picked in
      elements_read (take (particle_size * p) (part_in bs o))
      ∙ ap elements_in
      (particles_take p (part_in bs o) x.inside
      ∙ ap (λ (l : Particles). take p l) (x.particles ∙ spread_plug 0 c t)
      ∙ take_at (leading 0 c t) (spread (level 0 c) t ++ trailing 0 c) p (length_leading 0 c t ∙ x.stands))
      ∙ elements_leading 0 c t
      ∙ before_rename (index_of_name bs) x.found.context

  -- the members `one` come next, of depth d
  module _ (d : ℕ) (one : Members ℕ) (ys : Particles) (next : drop p (particles_of (part_in bs o)) ≡ spread d one ++ ys) where
    at_elements : elements_of (take (particle_size * count one) (drop (particle_size * p) (part_in bs o))) ≡ names one
    at_elements =
        let e : particles_of (drop (particle_size * p) (part_in bs o)) ≡ spread d one ++ ys = particles_past p (part_in bs o) ∙ next in
        let room : particle_size * count one ≤ length (drop (particle_size * p) (part_in bs o)) =
        omega (arith, ap length e, length_particles (drop (particle_size * p) (part_in bs o)), length-append (spread d one) ys, length_spread d one) in
        elements_read (take (particle_size * count one) (drop (particle_size * p) (part_in bs o)))
        ∙ ap elements_in (particles_take (count one) (drop (particle_size * p) (part_in bs o)) room
        ∙ ap (λ (l : Particles). take (count one) l) e ∙ take_at (spread d one) ys (count one) (length_spread d one))
        ∙ elements_spread d one

  -- ---- the names of the model: none twice
  held : Whole bs
  held = whole bs good

  owner : o < length (form_in bs)
  owner = omega (arith, held.agrees.size)

  apart : (n : Bytes) → Memᴰ n ns → Memᴰ n (names x.found.picked) → ⊥
  apart n a b =
      let once : Distinct (names (model_in bs o)) = (held.good.form.definitions (definition_at o (form_in bs)) (definition_stands (form_in bs) o owner)).once in
      distinct_apart ns (names x.found.picked ++ after_place x.found.context) (subst (λ (l : List Bytes). Distinct l) model_names once) n a (Memᴰ.append_left (after_place x.found.context) b)

  -- THE MARKS at a place whose members begin with `one`: the n particles of `one` come next, of depth d
  pub one_marked : {n : ℕ} {at : List Bytes} (one : Members Bytes) (more : List Bytes) (d : ℕ) (ys : Particles) → n ≡ count (rename (index_of_name bs) one) → at ≡ names one
      → names x.found.picked ≡ names one ++ more
      → drop p (particles_of (part_in bs o)) ≡ spread d (rename (index_of_name bs) one) ++ ys → Marked (store_in bs).form (before_place x.found.context) at (marks_at n p (part_in bs o))
  one_marked {n} {at} one more d ys size are names_are next =
      record {
        ones = λ i l. ap (λ (v : ℕ). eqb v 1) (read i l) ∙ mark_one (early i) (late i) (never i l) ∙ early_is i l;
        twos = λ i l. ap (λ (v : ℕ). eqb v 2) (read i l) ∙ mark_two (early i) (late i) ∙ late_is i l;
      }
    where
      early : ℕ → Bool
      early i = among i (elements_of (take (particle_size * p) (part_in bs o)))

      late : ℕ → Bool
      late i = among i (elements_of (take (particle_size * n) (drop (particle_size * p) (part_in bs o))))

      read : (i : ℕ) → i < length (form_in bs) → get_or (marks_at n p (part_in bs o)) i 0 ≡ mark_by (early i) (late i)
      read i l = marks_read n p (part_in bs o) i (omega (arith, held.agrees.size, held.few_definitions))

      inside : (m : Bytes) → Memᴰ m at → Memᴰ m (names x.found.picked)
      inside m j = subst (λ (l : List Bytes). Memᴰ m l) (sym names_are) (Memᴰ.append_left more (subst (λ (l : List Bytes). Memᴰ m l) are j))

      early_is : (i : ℕ) → i < length (form_in bs) → early i ≡ member bytes (name_at_index i (form_in bs)) ns
      early_is i l =
          ap (among i) before_elements ∙ among_member (form_in bs) held.good.form.names i l ns

      late_is : (i : ℕ) → i < length (form_in bs) → late i ≡ member bytes (name_at_index i (form_in bs)) at
      late_is i l =
          ap (λ (k : ℕ). among i (elements_of (take (particle_size * k) (drop (particle_size * p) (part_in bs o))))) size
          ∙ ap (among i) (at_elements d (rename (index_of_name bs) one) ys next ∙ names_rename (index_of_name bs) one ∙ ap (map (index_of_name bs)) (sym are))
          ∙ among_member (form_in bs) held.good.form.names i l at

      never : (i : ℕ) → i < length (form_in bs) → early i ≡ true → late i ≡ true → ⊥
      never i l a b =
          let m : Bytes = name_at_index i (form_in bs) in
          apart m ((member_test bytes m ns).0 (sym (early_is i l) ∙ a)) (inside m ((member_test bytes m at).0 (sym (late_is i l) ∙ b)))

  -- ---- a gap, an element, a group
  abbrev lev : ℕ
  lev = level 0 (around x)

  next_there : (t : Members Bytes) → x.found.picked ≡ t → drop p (particles_of (part_in bs o)) ≡ spread lev (rename (index_of_name bs) t) ++ trailing 0 (around x)
  next_there t e = from_there x ∙ ap (λ (z : Members Bytes). spread lev (rename (index_of_name bs) z) ++ trailing 0 (around x)) e

  pub gap_marked : Marked (store_in bs).form (before_place x.found.context) [] (marks_at 0 p (part_in bs o))
  unfolding rename names
  gap_marked = one_marked done (names x.found.picked) 0 (drop p (particles_of (part_in bs o))) refl refl refl refl

  pub element_marked : (q : Quantifier) (n : Bytes) (rest : Members Bytes) → x.found.picked ≡ el q n rest
      → Marked (store_in bs).form (before_place x.found.context) (n ∷ []) (marks_at 1 p (part_in bs o))
  unfolding rename names
  element_marked q n rest e = one_marked (el q n done) (names rest) lev (spread lev (rename (index_of_name bs) rest) ++ trailing 0 (around x)) refl refl (ap names e) (next_there (el q n rest) e)

  module _ (q : Quantifier) (k : GroupKind) (ms rest : Members Bytes) (e : x.found.picked ≡ group q k ms rest) where
    abbrev inner : Particles
    inner = spread (suc lev) (rename (index_of_name bs) ms)

    abbrev others : Particles
    others = spread lev (rename (index_of_name bs) rest) ++ trailing 0 (around x)

    abbrev front : Deep FlatParticle
    front = group_particle lev q k (how_many (rename (index_of_name bs) ms))

    group_next : drop p (particles_of (part_in bs o)) ≡ front ∷ (inner ++ others)
    unfolding rename
    group_next = next_there (group q k ms rest) e ∙ ap (λ (l : Particles). front ∷ l) (append_assoc inner (spread lev (rename (index_of_name bs) rest)) (trailing 0 (around x)))

    group_span_lem : span_of h.depth (particles_of (drop (particle_size * (p + 1)) (part_in bs o))) ≡ count (rename (index_of_name bs) ms)
    group_span_lem =
        let depth : h.depth ≡ lev = ap (λ (g : Holder). g.depth) (sym x.held) ∙ depth_holder top 0 (around x) in
        let after_front : particles_of (drop (particle_size * (p + 1)) (part_in bs o)) ≡ inner ++ others =
        particles_past (p + 1) (part_in bs o) ∙ sym (drop-drop 1 p (particles_of (part_in bs o))) ∙ ap (λ (l : Particles). drop 1 l) group_next in
        ap₂ (λ (d : ℕ) (l : Particles). span_of d l) depth after_front ∙ span_group (around x) (rename (index_of_name bs) ms) (rename (index_of_name bs) rest)

    pub group_marked : Marked (store_in bs).form (before_place x.found.context) (names ms)
        (marks_at (1 + span_of h.depth (particles_of (drop (particle_size * (p + 1)) (part_in bs o)))) p (part_in bs o))
    unfolding rename names
    group_marked =
        let size : 1 + span_of h.depth (particles_of (drop (particle_size * (p + 1)) (part_in bs o))) ≡ suc (count (rename (index_of_name bs) ms) + 0) = omega (arith, group_span_lem) in
        one_marked (group q k ms done) (names rest) lev others size (sym (append-nil (names ms))) (ap names e ∙ ap (λ (l : List Bytes). l ++ names rest) (sym (append-nil (names ms))))
        (group_next ∙ ap (λ (l : Particles). front ∷ (l ++ others)) (sym (append-nil inner)))
