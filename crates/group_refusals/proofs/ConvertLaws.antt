-- The conditions of change 6, by what the code finds.
use Prim.Native.Nat.{ℕ, zero, suc, ◌*◌, ◌<◌, ◌≤◌}
use native.Mathlib.Omega.{arith}
use borrow.Author.Tests.{ne_eqb, eqb-true, eqb-false, ltb-true, ltb-false}
use mathlib.Core.Path.{◌≡◌, refl, sym, ap, ap₂, ◌∙◌}
use mathlib.Core.Bool.{Bool, true, false, ◌||◌, not, false≢true}
use mathlib.Core.Logic.{◌⊎◌, inl, inr}
use mathlib.Core.Option.{Option, none, some}
use mathlib.Core.List.{List, [], ◌∷◌}
use lib.Dec.{eqb, ltb}
use lib.ListN.{length, drop}
use Rattle.rules.specs.declared.GroupKind.{GroupKind}
use Rattle.rules.specs.declared.GroupKind.TheVariants.{Sequence}
use Rattle.rules.specs.Bytes.{Bytes}
use Rattle.rules.specs.Model.{Members, done, el, group, rename, is_done}
use Rattle.rules.specs.Layout.{particle_size, how_many}
use Rattle.rules.specs.Decode.{group_of, definition_count}
use Rattle.rules.specs.Place.{Found as Spot, kind_at}
use Rattle.rules.specs.Edit.{lone, same_kind, first_members, has_members, group_unlike, convert}
use Rattle.rules.specs.Passing.{passes}
use Rattle.rules.specs.Change.{convert_to_group}
use Rattle.rules.specs.Refusal.{◌if◌, first, conditions, found_at, no_place, at_place}
use Rattle.rules.proofs.Words.{or_split}
use Rattle.model.specs.declared.place.Holder.{Holder}
use Rattle.model.specs.declared.place.Found.{Found}
use Rattle.std.specs.Prelude.{Option as Maybe, Some, None}
use Rattle.model.specs.Members.{members_from}
use Rattle.model.specs.Places.{place_in}
use Rattle.model_writer.proofs.PartAfter.{has_named}
use Rattle.store_laws.specs.Stores.{store_in}
use Rattle.store_check.proofs.StoreFacts.{form_in}
use Rattle.change_laws.specs.FirstCondition.{Gives}
use Rattle.change_laws.proofs.FirstCondition.{gives_hit, gives_next, gives_none}
use Rattle.model_places.specs.Placing.{index_of_name, part_in, Placed}
use Rattle.group_refusals.specs.Grouping.{unlike_kind, convert_tests}
use Rattle.model_places.proofs.PickLaws.{part_few}
use Rattle.model_places.proofs.PlaceLaws.{found_convert, absent, present_at}

-- ---- n members
has_few : {A : Type 0} (n : ℕ) (t : Members A) → how_many t < n → has_members n t ≡ false
has_few zero t l = absurd (omega arith)
has_few (suc n) done l = refl
has_few (suc zero) (el q x t) l = absurd (omega arith)
has_few (suc (suc n)) (el q x t) l = has_few (suc n) t (omega arith)
has_few (suc zero) (group q k ms t) l = absurd (omega arith)
has_few (suc (suc n)) (group q k ms t) l = has_few (suc n) t (omega arith)

has_many : {A : Type 0} (n : ℕ) (t : Members A) → 1 ≤ n → n ≤ how_many t → has_members n t ≡ true
has_many zero t h l = absurd (omega arith)
has_many (suc n) done h l = absurd (omega arith)
has_many (suc zero) (el q x t) h l = refl
has_many (suc (suc n)) (el q x t) h l = has_many (suc n) t (omega arith) (omega arith)
has_many (suc zero) (group q k ms t) h l = refl
has_many (suc (suc n)) (group q k ms t) h l = has_many (suc n) t (omega arith) (omega arith)

done_first : {A : Type 0} (n : ℕ) (t : Members A) → n ≤ how_many t → is_done (first_members n t) ≡ eqb (suc n) 1
done_first zero t l = refl
done_first (suc n) done l = absurd (omega arith)
done_first (suc n) (el q x t) l = sym (ne_eqb (suc (suc n)) 1 (λ z. omega arith))
done_first (suc n) (group q k ms t) l = sym (ne_eqb (suc (suc n)) 1 (λ z. omega arith))

lone_first : {A : Type 0} (n : ℕ) (t : Members A) → 1 ≤ n → n ≤ how_many t → lone (first_members n t) ≡ eqb n 1
lone_first zero t h l = absurd (omega arith)
lone_first (suc n) done h l = absurd (omega arith)
lone_first (suc n) (el q x t) h l = done_first n t (omega arith)
lone_first (suc n) (group q k ms t) h l = done_first n t (omega arith)

-- under other names
module _ {A B : Type 0} (f : A → B) where
  done_named : (n : ℕ) (t : Members A) → is_done (first_members n (rename f t)) ≡ is_done (first_members n t)
  unfolding rename
  done_named zero t = refl
  done_named (suc n) done = refl
  done_named (suc n) (el q x t) = refl
  done_named (suc n) (group q k ms t) = refl

  lone_named : (n : ℕ) (t : Members A) → lone (first_members n (rename f t)) ≡ lone (first_members n t)
  unfolding rename
  lone_named zero t = refl
  lone_named (suc n) done = refl
  lone_named (suc n) (el q x t) = done_named n t
  lone_named (suc n) (group q k ms t) = done_named n t

  pub tests_named : (list k : GroupKind) (n : ℕ) (t : Members A) → convert_tests list k n (rename f t) ≡ convert_tests list k n t
  tests_named list k n t = ap₂ (λ (a b : Bool). 8 if not a ∷ 14 if not (same_kind k list || b) ∷ []) (has_named f n t) (lone_named n t)

-- ---- the tests of the code
or-true : (a b : Bool) → (a || b) ≡ true → (a ≡ false → b ≡ true)
or-true true b h e = absurd (false≢true (sym e))
or-true false b h e = h

module _ (list k : GroupKind) (n depth : ℕ) (at : Bytes) {r : Bytes} {m : ℕ} (u : r ≡ at) (e : m ≡ how_many (members_from depth r)) where
  abbrev t : Members ℕ
  t = members_from depth at

  many_is : m ≡ how_many t
  many_is = e ∙ ap (λ (z : Bytes). how_many (members_from depth z)) u

  few_is : (eqb n 0 || ltb m n) ≡ true → has_members n t ≡ false
  few_is h = by (eqb n 0) refl
    where
      by : (b : Bool) → eqb n 0 ≡ b → has_members n t ≡ false
      by true q = ap (λ (z : ℕ). has_members z t) (eqb-true n 0 q)
      by false q = has_few n t (let l : m < n = ltb-true m n (or-true (eqb n 0) (ltb m n) h q) in omega (arith, many_is))

  pub convert_few : (eqb n 0 || ltb m n) ≡ true → Gives 8 (convert_tests list k n (members_from depth at))
  convert_few h = gives_hit (ap not (few_is h))

  module _ (h : (eqb n 0 || ltb m n) ≡ false) where
    low : 1 ≤ n
    low = let f : n ≡ 0 → ⊥ = eqb-false n 0 (or_split (eqb n 0) (ltb m n) h).0 in omega arith

    high : n ≤ how_many t
    high = let l : n ≤ m = ltb-false m n (or_split (eqb n 0) (ltb m n) h).1 in omega (arith, many_is)

    unlike_first : {b v : Bool} → b ≡ unlike_kind list k n → b ≡ v → not (same_kind k list || lone (first_members n t)) ≡ v
    unlike_first q w = ap (λ (b : Bool). not (same_kind k list || b)) (lone_first n t low high) ∙ sym q ∙ w

    pub convert_unlike : {b : Bool} → b ≡ unlike_kind list k n → b ≡ true → Gives 14 (convert_tests list k n (members_from depth at))
    convert_unlike q w = gives_next (ap not (has_many n t low high)) (gives_hit (unlike_first q w))

    pub convert_fine : {b : Bool} → b ≡ unlike_kind list k n → b ≡ false → Gives 0 (convert_tests list k n (members_from depth at))
    convert_fine q w = gives_next (ap not (has_many n t low high)) (gives_next (unlike_first q w) gives_none)

-- ---- the code of the kind
pub no_group : (k : ℕ) → (k ≡ 1 → ⊥) → (k ≡ 2 → ⊥) → not (eqb k 1 || eqb k 2) ≡ true
no_group k a b = ap₂ (λ (x y : Bool). not (x || y)) (ne_eqb k 1 a) (ne_eqb k 2 b)

pub some_group : (k : ℕ) → (k ≡ 1) ⊎ (k ≡ 2) → not (eqb k 1 || eqb k 2) ≡ false
some_group k (inl e) = ap (λ (z : ℕ). not (eqb z 1 || eqb z 2)) e
some_group k (inr e) = ap (λ (z : ℕ). not (eqb z 1 || eqb z 2)) e

-- ---- the conditions
module _ (bs : Bytes) (pass : passes bs ≡ true) (o : ℕ) (p : List ℕ) (n k : ℕ) where
  pub convert_4 : not (eqb k 1 || eqb k 2) ≡ true → Gives 4 (conditions (convert_to_group o p n k) (store_in bs))
  unfolding conditions
  convert_4 h = gives_hit h

  module _ (h₄ : not (eqb k 1 || eqb k 2) ≡ false) where
    pub convert_6 : not (ltb o (length (form_in bs))) ≡ true → Gives 6 (conditions (convert_to_group o p n k) (store_in bs))
    unfolding conditions
    convert_6 h = gives_next h₄ (gives_hit h)

    module _ (h₆ : not (ltb o (length (form_in bs))) ≡ false) (l : o < definition_count bs) {part : Bytes} (own : part ≡ part_in bs o) {f : Maybe Found} (e : f ≡ place_in false p part) where
      found_in_lem : place_in false p (part_in bs o) ≡ f
      found_in_lem = sym (e ∙ ap (place_in false p) own)

      pub convert_none : f ≡ None → Gives 8 (conditions (convert_to_group o p n k) (store_in bs))
      unfolding conditions
      convert_none w =
          let z : found_at (convert (group_of k) n) o p (store_in bs) ≡ none = found_convert (group_of k) n o p bs ∙ absent bs pass o l false p (found_in_lem ∙ w) in
          gives_next h₄ (gives_next h₆ (gives_hit (ap (λ (y : Option (Spot Bytes)). no_place y || at_place (λ c x. not (has_members n x)) y) z)))

      module _ (g : Found) (w : f ≡ Some g) where
        abbrev h : Holder
        h = g.holder

        abbrev i : ℕ
        i = g.particle

        pub convert_placed : Placed bs o false p h i
        convert_placed = present_at bs pass o l false p h i (found_in_lem ∙ w)

        pub convert_inside : i ≤ 256
        convert_inside = omega (arith, convert_placed.inside, part_few bs pass o)

        pub convert_there : {r : ℕ} {kind : GroupKind} → kind ≡ group_of k → Gives r (convert_tests h.kind kind n (members_from h.depth (drop (particle_size * i) part)))
            → Gives r (conditions (convert_to_group o p n k) (store_in bs))
        unfolding conditions
        convert_there {r} {kind} k_is q =
            let x : Spot Bytes = convert_placed.found in
            let z : found_at (convert (group_of k) n) o p (store_in bs) ≡ some x = found_convert (group_of k) n o p bs ∙ convert_placed.there in
            let members_are : members_from h.depth (drop (particle_size * i) part) ≡ rename (index_of_name bs) x.picked =
            ap (λ (s : Bytes). members_from h.depth (drop (particle_size * i) s)) own ∙ convert_placed.picked in
            let tests : convert_tests h.kind kind n (members_from h.depth (drop (particle_size * i) part)) ≡ convert_tests (kind_at Sequence x.context) (group_of k) n x.picked =
            ap (convert_tests h.kind kind n) members_are
            ∙ tests_named (index_of_name bs) h.kind kind n x.picked
            ∙ ap₂ (λ (a b : GroupKind). convert_tests a b n x.picked) convert_placed.kind k_is in
            gives_next h₄ (gives_next h₆ (record {
              is = q.is ∙ ap first tests
                  ∙ sym (ap (λ (y : Option (Spot Bytes)). first (8 if (no_place y || at_place (λ c x. not (has_members n x)) y) ∷ 14 if at_place
                  (λ c x. group_unlike c (group_of k) (first_members n x)) y ∷ [])) z);
            }))
